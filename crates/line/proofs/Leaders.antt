-- The zone of the leader, on a field that an order stands for: that of the one just ahead in the line. Assumes nothing.
use mathlib.Core.Path.{◌≡◌, sym, ap, ◌∙◌, subst}
use mathlib.Core.Bool.{Bool, cond, not}
use mathlib.Core.List.{List, [], ◌∷◌, ◌++◌, map, append_assoc}
use Prim.Native.Nat.{ℕ}
use lib.Dec.{T, eqb}
use lib.Ieee.Fits.{and_l, and_r}
use Rattle.request.specs.Input.{within}
use Rattle.field.specs.declared.Aircraft.{Aircraft}
use Rattle.field.specs.declared.Legs.{Legs}
use Rattle.questions.specs.declared.Place.{Place}
use Rattle.questions.specs.Find.{place_of, leader_of, leader_zone}
use Rattle.field.specs.Lists.{every, all_different}
use Rattle.order.specs.Model.{Side, last_or}
use Rattle.field.proofs.TestLaws.{if_false, failed}
use Rattle.line.proofs.AheadInLists.{map_append, Ends, nothing, with_last, ends, last_is}
use Rattle.line.proofs.Line.{Placed, zones_in, numbers_of, field_of}
use Rattle.questions.proofs.FindLaws.{numbers}
use Rattle.line.proofs.Located.{located, leader_there}

abbrev pub nonzero : ℕ → Bool
nonzero n = not (eqb n 0)

-- what holds of every number of a line holds of the one at a place
pub every_at : (p : ℕ → Bool) (g : Placed → ℕ) (a : List Placed) (e : Placed) (b : List Placed) → T (every p (map g (a ++ e ∷ b))) → T (p (g e))
every_at p g [] e b t = and_l (p (g e)) (every p (map g b)) t
every_at p g (x ∷ a) e b t = every_at p g a e b (and_r (p (g x)) (every p (map g (a ++ e ∷ b))) t)

pub all_at : (p : ℕ → Bool) (g : Placed → ℕ) (a : List Placed) (e : Placed) (b : List Placed) → T (every p (map g (a ++ e ∷ b))) → T (p (g e))
all_at p g [] e b t = and_l (p (g e)) (every p (map g b)) t
all_at p g (x ∷ a) e b t = all_at p g a e b (and_r (p (g x)) (every p (map g (a ++ e ∷ b))) t)

module _ (f : Side) (e : Placed) (b : List Placed) (runway : List Aircraft) (legs : Legs) where
  -- the leader's zone by the leader's number
  by_number : (a : List Placed) (m z : ℕ) → leader_of (field_of f (a ++ e ∷ b) runway legs).sequence e.aircraft.number ≡ m → T (nonzero m) → (place_of (field_of f (a ++ e ∷ b) runway legs) m).zone ≡ z
      → leader_zone (field_of f (a ++ e ∷ b) runway legs) e.aircraft.number ≡ z
  unfolding leader_zone
  by_number a m z l t p =
      ap (λ (k : ℕ). cond (eqb k 0) 0 (place_of (field_of f (a ++ e ∷ b) runway legs) k).zone) l
      ∙ if_false 0 (place_of (field_of f (a ++ e ∷ b) runway legs) m).zone (failed {b = eqb m 0} t)
      ∙ p

  go : {a : List Placed} → Ends a → T (all_different (numbers_of (a ++ e ∷ b) ++ numbers runway)) → T (every nonzero (numbers_of (a ++ e ∷ b))) → T (every (within 1 12) (zones_in (a ++ e ∷ b)))
      → leader_zone (field_of f (a ++ e ∷ b) runway legs) e.aircraft.number ≡ last_or 0 (zones_in a)
  unfolding leader_zone
  go nothing d n t = ap (λ (k : ℕ). cond (eqb k 0) 0 (place_of (field_of f (e ∷ b) runway legs) k).zone) (leader_there f [] e b runway legs d)
  go (with_last a x) d n t =
      let s : (a ++ (x ∷ [])) ++ e ∷ b ≡ a ++ x ∷ e ∷ b = append_assoc a (x ∷ []) (e ∷ b) in
      let m = x.aircraft.number in
      let u = subst (λ (l : List Placed). T (every (within 1 12) (zones_in l))) s t in
      by_number (a ++ (x ∷ [])) m (last_or 0 (zones_in (a ++ (x ∷ []))))
      (leader_there f (a ++ (x ∷ [])) e b runway legs d ∙ ap (last_or 0) (map_append (λ (p : Placed). p.aircraft.number) a (x ∷ [])) ∙ last_is 0 (numbers_of a) m)
      (every_at nonzero (λ (p : Placed). p.aircraft.number) a x (e ∷ b) (subst (λ (l : List Placed). T (every nonzero (numbers_of l))) s n))
      (ap (λ (l : List Placed). (place_of (field_of f l runway legs) m).zone) s
      ∙ ap (λ (p : Place). p.zone) (located f a x (e ∷ b) runway legs
      (subst (λ (l : List Placed). T (all_different (numbers_of l ++ numbers runway))) s d) (all_at (within 1 12) (λ (p : Placed). p.zone) a x (e ∷ b) u))
      ∙ sym (ap (last_or 0) (map_append (λ (p : Placed). p.zone) a (x ∷ [])) ∙ last_is 0 (zones_in a) x.zone))

  pub leader_zone_lem : (a : List Placed) → T (all_different (numbers_of (a ++ e ∷ b) ++ numbers runway)) → T (every nonzero (numbers_of (a ++ e ∷ b))) → T (every (within 1 12) (zones_in (a ++ e ∷ b)))
      → leader_zone (field_of f (a ++ e ∷ b) runway legs) e.aircraft.number ≡ last_or 0 (zones_in a)
  leader_zone_lem a = go (ends a)
