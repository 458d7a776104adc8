-- What the transitions ask of the state of a field within the bounds is what the rules ask of the field: first in sequence, and the leader's zone. Assumes nothing.
use mathlib.Core.Path.{◌≡◌, refl, sym, ap, ◌∙◌, subst}
use mathlib.Core.Logic.{◌≢◌, ◌⊎◌, inl, inr}
use mathlib.Core.Bool.{Bool, true, false, cond, not, ◌&&◌, ◌||◌, true≢false, or-true}
use mathlib.Core.List.{List, [], ◌∷◌, map}
use Prim.Native.Nat.{ℕ, zero, suc, ◌-◌, ◌≤◌}
use native.Mathlib.Omega.{arith}
use borrow.Author.Tests.{eq-eqb, ne_eqb, eqb-true, eqb-false}
use lib.Dec.{T, eqb}
use lib.Ieee.Fits.{and_l, and_r}
use lib.ListN.{length, get_or}
use Rattle.leg.specs.Ticks.{Between}
use Rattle.request.specs.Input.{within}
use Rattle.field.specs.declared.Aircraft as field
use Rattle.field.specs.declared.Field.{Field}
use Rattle.questions.specs.declared.Place.{Place}
use Rattle.field.specs.Airspace.{in_zone, order_of, operation, everywhere, nobody}
use Rattle.field.specs.Lists.{is_in, every, all_different}
use Rattle.edits.specs.Edits.{before}
use Rattle.questions.specs.Counts.{how_many}
use Rattle.questions.specs.Find.{place_of, aircraft_at, numbers_in, is_first, leader_of, leader_zone}
use Rattle.numbers.specs.Numbers.{numbers_differ, sequence_exact}
use Rattle.bounds.specs.Bounds.{within_bounds}
use Rattle.order.specs.Model.{right_side, left_side}
use Rattle.field.proofs.TestLaws.{decided, passed, failed, if_true, if_false, same, each_from, each_operation}
use Rattle.field.proofs.NumberLists.{every_listed, zone_listed}
use Rattle.questions.proofs.NumbersListed.{numbers_at}
use Rattle.questions.proofs.FindLaws.{numbers, place_there, in_zones, found_exactly, found_there, place_within, own_place}
use Rattle.laws.proofs.BoundLaws.{within_e, numbers_different}
use Rattle.line.proofs.CountedOnLine.{not_13}
use Rattle.nasa.specs.Definitions.{ScaZone, base, intermediate, final, on_zone, sca_on_approach}
use Rattle.nasa.specs.Rules.{zone_number}
use Rattle.nasa.specs.Stands.{seen, state_of}
use Rattle.nasa.proofs.States.{zone_number_lem}
use Rattle.nasa.proofs.LeadersBySeq.{first_place, leader_place}

-- ---- a sequence number in a queue, and a number in it
on_zone_is : (f : Field) (w l k : ℕ) (xs : List field.Aircraft) → ((m : ℕ) → is_in m (numbers xs) ≡ true → eqb (cond (eqb w 13) 1 (suc (before m (order_of f.sequence)))) k ≡ eqb m l)
    → on_zone (map (seen f w) xs) k ≡ is_in l (numbers xs)
on_zone_is f w l k [] h = refl
on_zone_is f w l k (x ∷ xs) h =
    let n = x.number in
    let later = on_zone_is f w l k xs (λ m i. h m (ap (λ (b : Bool). eqb n m || b) i ∙ or-true (eqb n m))) in
    ap (λ (b : Bool). b || on_zone (map (seen f w) xs) k) (h n (ap (λ (b : Bool). b || is_in n (numbers xs)) (same n)))
    ∙ ap (λ (b : Bool). eqb n l || b) later

-- whoever stands at a place of a queue is in it
at_place : (xs : List field.Aircraft) (place : ℕ) → 1 ≤ place → place ≤ length xs → is_in (get_or (nobody ∷ xs) place nobody).number (numbers xs) ≡ true
at_place xs zero l h = absurd (omega arith)
at_place [] (suc i) l h = absurd (omega arith)
at_place (x ∷ xs) (suc zero) l h = ap (λ (b : Bool). b || is_in x.number (numbers xs)) (same x.number)
at_place (x ∷ xs) (suc (suc i)) l h =
    ap (λ (b : Bool). eqb x.number (get_or xs i nobody).number || b) (at_place xs (suc i) (omega arith) (omega arith)) ∙ or-true (eqb x.number (get_or xs i nobody).number)

-- ---- zones by number
four_zones : (z : ℕ) → z ≤ 13 → (eqb z 9 || eqb z 10 || eqb z 11 || eqb z 12) ≡ within 9 12 z
four_zones z h =
    each_from 0 14 (λ z. (eqb z 9 || eqb z 10 || eqb z 11 || eqb z 12) ≡ within 9 12 z)
    (refl, (refl, (refl, (refl, (refl, (refl, (refl, (refl, (refl, (refl, (refl, (refl, (refl, (refl, tt))))))))))))))
    z (omega arith) (omega arith)

two_zones : (z : ℕ) → z ≤ 13 → (eqb z 11 || eqb z 12) ≡ within 11 12 z
two_zones z h =
    each_from 0 14 (λ z. (eqb z 11 || eqb z 12) ≡ within 11 12 z)
    (refl, (refl, (refl, (refl, (refl, (refl, (refl, (refl, (refl, (refl, (refl, (refl, (refl, (refl, tt))))))))))))))
    z (omega arith) (omega arith)

module _ (f : Field) (t : T (within_bounds f)) where
  abbrev ns : List ℕ
  ns = order_of f.sequence

  pub sequence_different : T (all_different ns)
  unfolding sequence_exact
  sequence_different =
      let named = every (λ n. is_in n (numbers_in f operation)) ns in
      and_l (all_different ns) named (and_l (all_different ns && named) (every (λ n. is_in n ns) (numbers_in f operation)) (within_e f t).exact)

  -- who is in the operation area is in the sequence
  pub in_sequence : (w : ℕ) → T (within 1 12 w) → (m : ℕ) → is_in m (numbers_at f w) ≡ true → is_in m ns ≡ true
  unfolding sequence_exact
  in_sequence w u m i =
      let named = every (λ n. is_in n (numbers_in f operation)) ns in
      let all = and_r (all_different ns && named) (every (λ n. is_in n ns) (numbers_in f operation)) (within_e f t).exact in
      passed (every_listed (λ n. is_in n ns) (numbers_in f operation) m all (in_zones f m w operation (listed w u) i))
    where
      listed : (z : ℕ) → T (within 1 12 z) → is_in z operation ≡ true
      listed = each_operation (λ z. is_in z operation ≡ true) (refl, refl, refl, refl, refl, refl, refl, refl, refl, refl, refl, refl)

  -- nobody has the number 0
  pub not_zero : (m : ℕ) → is_in m (numbers_in f everywhere) ≡ true → m ≢ 0
  unfolding numbers_differ
  not_zero m i =
      let ms = numbers_in f everywhere in
      eqb-false m 0 (failed (every_listed (λ n. not (eqb n 0)) ms m (and_l (every (λ n. not (eqb n 0)) ms) (all_different ms) (within_e f t).differ) i))

  pub zero_nowhere : (place_of f 0).zone ≡ 0
  zero_nowhere = eqb-true (place_of f 0).zone 0 (found_exactly f 0 ∙ ap not (absent (decided (is_in 0 (numbers_in f everywhere)))))
    where
      absent : (is_in 0 (numbers_in f everywhere) ≡ true) ⊎ (is_in 0 (numbers_in f everywhere) ≡ false) → is_in 0 (numbers_in f everywhere) ≡ false
      absent (inl i) = absurd (not_zero 0 i refl)
      absent (inr i) = i

  -- a number is in a zone exactly where it is found there
  pub in_its_zone : (l w : ℕ) → Between 1 13 w → is_in l (numbers_at f w) ≡ eqb (place_of f l).zone w
  unfolding how_many aircraft_at
  in_its_zone l w b = go (decided (is_in l (numbers_at f w)))
    where
      there : is_in l (numbers_at f w) ≡ true → (place_of f l).zone ≡ w
      there i =
          let s = place_there 1 l (in_zone f w) i in
          let own = own_place f w (suc s.index) (numbers_different f t) b (omega arith) s.below in
          ap (λ (n : ℕ). (place_of f n).zone) (sym s.has) ∙ ap (λ (p : Place). p.zone) own

      back : (place_of f l).zone ≡ w → is_in l (numbers_at f w) ≡ true
      back e =
          let here : eqb (place_of f l).zone 0 ≡ false = ne_eqb (place_of f l).zone 0 (λ z. let m = b.least in omega arith) in
          let p = found_there f l (present (is_in l (numbers_in f everywhere)) (sym here ∙ found_exactly f l)) in
          subst (λ (y : ℕ). is_in l (numbers_at f y) ≡ true) e
          (subst (λ (n : ℕ). is_in n (numbers_at f (place_of f l).zone) ≡ true) p.has (at_place (in_zone f (place_of f l).zone) (place_of f l).place p.first p.last))
        where
          present : (c : Bool) → false ≡ not c → c ≡ true
          present true q = refl
          present false q = absurd (true≢false (sym q))

      go : (is_in l (numbers_at f w) ≡ true) ⊎ (is_in l (numbers_at f w) ≡ false) → is_in l (numbers_at f w) ≡ eqb (place_of f l).zone w
      go (inl i) = i ∙ sym (eq-eqb (place_of f l).zone w (there i))
      go (inr i) = i ∙ sym (ne_eqb (place_of f l).zone w (λ e. true≢false (sym (back e) ∙ i)))

  -- ---- one that is in the sequence
  module _ (n : ℕ) (i : is_in n ns ≡ true) where
    abbrev l : ℕ
    l = leader_of f.sequence n

    pub first_seen : eqb (suc (before n ns)) 1 ≡ is_first f.sequence n
    unfolding is_first
    first_seen = first_place n ns i

    leader_zone_lem : leader_zone f n ≡ (place_of f l).zone
    unfolding leader_zone
    leader_zone_lem = elim (decided (eqb l 0)) [
      | inl e ↦ if_true 0 (place_of f l).zone e ∙ sym (ap (λ (m : ℕ). (place_of f m).zone) (eqb-true l 0 e) ∙ zero_nowhere)
      | inr e ↦ if_false 0 (place_of f l).zone e
    ]

    on_zone_lem : (w : ScaZone) → T (within 1 12 (zone_number w)) → on_zone ((state_of f).queue w) (suc (before n ns) - 1) ≡ eqb (leader_zone f n) (zone_number w)
    unfolding state_of leader_of
    on_zone_lem w u =
        on_zone_is f (zone_number w) l (suc (before n ns) - 1) (in_zone f (zone_number w))
        (λ m j.
        ap (λ (b : Bool). eqb (cond b 1 (suc (before m ns))) (suc (before n ns) - 1)) (not_13 (zone_number w) u)
        ∙ leader_place n m ns sequence_different i (not_zero m (in_zones f m (zone_number w) everywhere (zone_listed (zone_number w) (zone_number_lem w)) j)))
        ∙ in_its_zone l (zone_number w) (zone_number_lem w)
        ∙ ap (λ (z : ℕ). eqb z (zone_number w)) (sym leader_zone_lem)

    zone_low : leader_zone f n ≤ 13
    zone_low = let h = place_within f l in let e = leader_zone_lem in omega arith

    pub approach_seen : sca_on_approach (state_of f) (suc (before n ns) - 1) ≡ within 9 12 (leader_zone f n)
    approach_seen =
        let a = on_zone_lem (base right_side) tt in
        let b = on_zone_lem (base left_side) tt in
        let c = on_zone_lem intermediate tt in
        let d = on_zone_lem final tt in
        rw (a, b, c, d) (four_zones (leader_zone f n) zone_low)

    pub merge_seen : (on_zone ((state_of f).queue intermediate) (suc (before n ns) - 1) || on_zone ((state_of f).queue final) (suc (before n ns) - 1)) ≡ within 11 12 (leader_zone f n)
    merge_seen =
        let c = on_zone_lem intermediate tt in
        let d = on_zone_lem final tt in
        rw (c, d) (two_zones (leader_zone f n) zone_low)
