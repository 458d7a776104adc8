-- Kind 11, of any field with its places: an accepted one is its transition. Assumes nothing.
use mathlib.Core.Path.{◌≡◌, refl, sym, ap, ◌∙◌, subst}
use mathlib.Core.Logic.{◌⊎◌, inl, inr}
use mathlib.Core.Bool.{true, false}
use mathlib.Core.List.{List, [], ◌∷◌, map}
use Prim.Native.Nat.{ℕ, ◌<◌}
use native.Mathlib.Omega.{arith}
use borrow.Author.Tests.{eqb-false}
use lib.Dec.{T, eqb}
use lib.ListN.{length}
use Rattle.request.specs.declared.Request.{Request}
use Rattle.field.specs.declared.Aircraft as field
use Rattle.field.specs.declared.Field.{Field}
use Rattle.field.specs.Airspace.{side_of, at3000, at2000, in_zone, arrived}
use Rattle.edits.specs.Edits.{with_zone}
use Rattle.questions.specs.Counts.{how_many, is_empty}
use Rattle.questions.specs.Find.{aircraft_at}
use Rattle.rules.specs.Kinds.{zone_before, starts_from, head_gone, tail_put, moved, descended, held}
use Rattle.rules.specs.Step.{effect_of, number_of}
use Rattle.rules.specs.Reason.{has_places}
use Rattle.order.specs.Model.{Side, num}
use Rattle.rules.proofs.Checks.{effect_at}
use Rattle.field.proofs.TestLaws.{decided, if_true, if_false}
use Rattle.nasa.specs.Definitions.{ScaZone, holding3, holding2, maz, SCA}
use Rattle.nasa.specs.Rules.{zone_number, with_queue, add, lowest_available_altitude}
use Rattle.nasa.specs.Stands.{side_named, seen, state_of, side_before, Is}
use Rattle.nasa.proofs.States.{First, there, Move, moved_shaped, put_here, put_elsewhere, moved_state}
use Rattle.nasa.proofs.AcceptedHead.{differing, unlike, has_room, move, of_side, first_of, nobody_in_lem, AcceptedOfKind, Heads, heading, heads}
use Rattle.nasa.proofs.DescendFinalTaxi.{leads, each_side, goes}

-- a zone that is not empty has a first
begins : (f : Field) (z : ScaZone) → is_empty f (zone_number z) ≡ false → First f z
unfolding how_many
begins f z = go (in_zone f (zone_number z)) refl
  where
    go : (l : List field.Aircraft) → in_zone f (zone_number z) ≡ l → eqb (length l) 0 ≡ false → First f z
    go [] i e = absurd (eqb-false 0 0 e refl)
    go (x ∷ l) i e = record { x = x; rest = l; here = i }

side_of_missed : (s : Side) → side_of (zone_number (maz s)) ≡ num s
unfolding side_of
side_of_missed = each_side (λ s. side_of (zone_number (maz s)) ≡ num s) refl refl

module _ (f : Field) (h : T (has_places f)) (r : Request) (k : r.kind ≡ 11) (e : number_of f r ≡ 0) (s : Side) (at : zone_before f r ≡ zone_number (maz s)) where
  abbrev z₀ : ℕ
  z₀ = zone_before f r

  abbrev zn : ℕ
  zn = zone_number (maz s)

  abbrev up : ℕ
  up = zone_number (holding3 s)

  abbrev down : ℕ
  down = zone_number (holding2 s)

  accepted : AcceptedOfKind f r 11
  accepted = record { places = h; kind = k; accepted = e }

  a : Heads f r (maz s)
  a = heads accepted refl (maz s) at

  own : side_of z₀ ≡ num s
  own = ap side_of at ∙ side_of_missed s

  upper : at3000 (side_of z₀) ≡ up
  upper = own ∙ each_side (λ s. num s ≡ zone_number (holding3 s)) refl refl s

  lower : at2000 (side_of z₀) ≡ down
  lower = ap at2000 own ∙ each_side (λ s. at2000 (num s) ≡ zone_number (holding2 s)) refl refl s

  to_upper : T (differing (maz s) (holding3 s))
  to_upper = each_side (λ s. T (differing (maz s) (holding3 s))) tt tt s

  to_lower : T (differing (maz s) (holding2 s))
  to_lower = each_side (λ s. T (differing (maz s) (holding2 s))) tt tt s

  -- to 2000 or to 3000, where nobody is at 3000
  to : (w : ScaZone) → T (differing (maz s) w) → effect_of f r ≡ moved f z₀ (zone_number w) → lowest_available_altitude s (state_of f) ≡ there a.first w ∷ [] → Is f r (lowest_available_altitude s)
  to w d p i = leads f r (lowest_available_altitude s) e (goes a w d) (p ∙ ap (λ (y : ℕ). moved f y (zone_number w)) at) i

  -- ---- both move, where somebody is at 3000
  module _ (F : First f (holding3 s)) where
    abbrev g : Field
    g = moved f up down

    -- the one at 3000 descends, ..
    abbrev below : Move f (holding3 s) (holding2 s)
    below = move a.bounds F (holding2 s) (each_side (λ s. T (differing (holding3 s) (holding2 s))) tt tt s) a.shaped

    abbrev b : field.Aircraft
    b = arrived f.legs down (aircraft_at f up 1)

    g_missed : in_zone g zn ≡ a.first.x ∷ a.first.rest
    unfolding moved
    g_missed = put_elsewhere below b zn (unlike (maz s) (holding3 s) to_upper) (unlike (maz s) (holding2 s) to_lower) ∙ a.first.here

    g_room : how_many g up < 4
    unfolding moved how_many
    g_room =
        let n = ap length (put_here below b) in
        let m = ap length F.here in
        let l = has_room a.bounds a.first (holding3 s) to_upper in
        omega arith

    -- .. and then the request's aircraft goes to 3000
    abbrev above : Move g (maz s) (holding3 s)
    above =
        let first : First g (maz s) = record { x = a.first.x; rest = a.first.rest; here = g_missed } in
        record { shaped = moved_shaped below; first = first; apart = λ q. unlike (maz s) (holding3 s) to_upper (sym q); room = g_room }

    both : state_of (moved g zn up) ≡ add (with_queue (there F (holding2 s)) (maz s) (map (seen f zn) a.first.rest)) (holding3 s) (seen f zn a.first.x)
    unfolding moved tail_put head_gone with_zone
    both =
        moved_state above (each_side (λ s. eqb (zone_number (maz s)) 13 ≡ eqb (zone_number (holding3 s)) 13) refl refl s)
        ∙ ap (λ (t : SCA). add (with_queue t (maz s) (map (seen f zn) a.first.rest)) (holding3 s) (seen f zn a.first.x))
        (moved_state below (each_side (λ s. eqb (zone_number (holding3 s)) 13 ≡ eqb (zone_number (holding2 s)) 13) refl refl s))

  hold_from : Is f r (lowest_available_altitude s)
  unfolding lowest_available_altitude held how_many
  hold_from = go (decided (is_empty f up)) (decided (is_empty f down))
    where
      effect : effect_of f r ≡ held f z₀
      effect = effect_at f r k

      go : (is_empty f up ≡ true) ⊎ (is_empty f up ≡ false) → (is_empty f down ≡ true) ⊎ (is_empty f down ≡ false) → Is f r (lowest_available_altitude s)
      go (inl p) (inl q) =
          to (holding2 s) to_lower
          (effect ∙ if_true _ _ (ap (is_empty f) upper ∙ p) ∙ if_true _ _ (ap (is_empty f) lower ∙ q) ∙ ap (moved f z₀) lower)
          (first_of a.first _ ∙ if_true _ _ (nobody_in_lem f (holding3 s) ∙ p) ∙ ap (λ (t : SCA). t ∷ []) (if_true _ _ (nobody_in_lem f (holding2 s) ∙ q)))
      go (inl p) (inr q) =
          to (holding3 s) to_upper
          (effect ∙ if_true _ _ (ap (is_empty f) upper ∙ p) ∙ if_false _ _ (ap (is_empty f) lower ∙ q) ∙ ap (moved f z₀) upper)
          (first_of a.first _ ∙ if_true _ _ (nobody_in_lem f (holding3 s) ∙ p) ∙ ap (λ (t : SCA). t ∷ []) (if_false _ _ (nobody_in_lem f (holding2 s) ∙ q)))
      go (inr p) q =
          let F = begins f (holding3 s) p in
          let below : at2000 up ≡ down = each_side (λ s. at2000 (zone_number (holding3 s)) ≡ zone_number (holding2 s)) refl refl s in
          leads f r (lowest_available_altitude s) e (both F)
          (effect ∙ if_false _ _ (ap (is_empty f) upper ∙ p) ∙ ap (λ (y : ℕ). moved (descended f y) z₀ y) upper
          ∙ ap (λ (y : ℕ). moved (moved f up y) z₀ up) below ∙ ap (λ (y : ℕ). moved (moved f up down) y up) at)
          (first_of a.first _ ∙ if_false _ _ (nobody_in_lem f (holding3 s) ∙ p) ∙ first_of F _)

-- ---- kind 11
pub hold_is : (f : Field) → T (has_places f) → (r : Request) → r.kind ≡ 11 → number_of f r ≡ 0 → Is f r (lowest_available_altitude (side_before f r))
unfolding starts_from side_of
hold_is f h r k e =
    let s = of_side maz 7 refl refl (zone_before f r) (heading (record { places = h; kind = k; accepted = e }) refl).starts in
    let own : side_before f r ≡ s.0 = ap (λ (z : ℕ). side_named (side_of z)) s.1 ∙ each_side (λ s. side_named (side_of (zone_number (maz s))) ≡ s) refl refl s.0 in
    subst (λ (t : Side). Is f r (lowest_available_altitude t)) (sym own) (hold_from f h r k e s.0 s.1)
