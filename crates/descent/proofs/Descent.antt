-- On any field within the bounds whose arrays have their places, whoever is at 3000 of a side may descend where nobody is at 2000. Assumes nothing.
use mathlib.Core.Path.{◌≡◌, refl, ap, ◌∙◌, subst}
use mathlib.Core.Bool.{Bool, true, false, not, ◌&&◌, ◌||◌, true≢false}
use mathlib.Core.List.{List, [], ◌∷◌, ◌++◌}
use Prim.Native.Nat.{ℕ, ◌≤◌}
use native.Mathlib.Omega.{arith}
use borrow.Author.Tests.{eqb-true, eqb-false}
use lib.Dec.{T, eqb, leb, leb→le}
use lib.Ieee.Fits.{and_l}
use lib.ListN.{length, get_or}
use Rattle.leg.specs.Ticks.{Between}
use Rattle.request.specs.Input.{first_refused}
use Rattle.request.specs.declared.Request.{Request}
use Rattle.request.proofs.InputTests as input
use Rattle.request.proofs.ByKind.{DeskKnown, move_allowed}
use Rattle.field.specs.declared.Aircraft.{Aircraft}
use Rattle.field.specs.declared.Field.{Field}
use Rattle.questions.specs.declared.Place.{Place}
use Rattle.field.specs.Airspace.{right, left, at3000, at2000, zones_from, everywhere, nobody, in_zone}
use Rattle.field.specs.Lists.{is_in, every, all_different}
use Rattle.questions.specs.Counts.{how_many, is_empty}
use Rattle.questions.specs.Find.{aircraft_at, numbers_in}
use Rattle.numbers.specs.Numbers.{numbers_differ}
use Rattle.bounds.specs.Bounds.{lateral_rule, bound_c, within_bounds}
use Rattle.fits.specs.Fits.{fits_zone}
use Rattle.rules.specs.Kinds.{place_before, starts_from, belongs_to, head_checks, descend_needs, moved}
use Rattle.rules.specs.Step.{effect_of, number_of}
use Rattle.rules.specs.Reason.{has_places}
use Rattle.rules.proofs.Checks.{checks_at, effect_at}
use Rattle.rules.proofs.StepLaws.{number_is, field_accepted}
use Rattle.rules.proofs.Refusals.{accepts}
use Rattle.request.proofs.InputTests.{within_yes}
use Rattle.field.proofs.TestLaws.{pass, passed, every_from, same}
use Rattle.field.proofs.NumberLists.{every_listed, zone_listed}
use Rattle.field.proofs.Shapes.{one_of_two}
use Rattle.questions.proofs.FindLaws.{numbers, at, in_zones, own_place}
use Rattle.laws.proofs.EditLaws.{Shaped}
use Rattle.laws.proofs.Fits.{all_fit, fits_parts}
use Rattle.laws.proofs.BoundLaws.{within_each, within_e, numbers_different, shaped_within}
use Rattle.line.proofs.CountedOnLine.{none}
use Rattle.reason.proofs.Invariant.{places_parts}
use Rattle.descent.specs.Descent.{descend_from, Descends}
use Rattle.descent.proofs.Down.{AloneAbove, moved_down}
use Rattle.descent.proofs.DownWithin.{within_down}

-- A field within the bounds whose arrays have their places has its shape.
pub shaped : (f : Field) → T (has_places f) → T (within_bounds f) → Shaped f
shaped f h t = let p = places_parts f h in shaped_within f t p.thirteen (λ z r. p.four z (pass (within_yes 1 13 z r.least r.most))) p.numbers

-- ---- who is at 3000
module _ (f : Field) (t : T (within_bounds f)) (side : ℕ) (b : Between 1 2 side) where
  -- at most one is in a holding
  at_most_one : (z : ℕ) → 1 ≤ z → z ≤ 4 → how_many f z ≤ 1
  unfolding bound_c
  at_most_one z l h =
      let ones = every (λ z. leb (how_many f z) 1) (zones_from 1 6) in
      let c = and_l ones (lateral_rule f right) (and_l (ones && lateral_rule f right) (lateral_rule f left) (within_each f t).bound_c_is) in
      leb→le (how_many f z) 1 (every_from (λ z. leb (how_many f z) 1) 1 6 c z l (omega arith))

  -- so whoever is at 3000 is there alone
  pub alone_above : is_empty f (at3000 side) ≡ false → in_zone f (at3000 side) ≡ aircraft_at f (at3000 side) 1 ∷ []
  unfolding how_many aircraft_at
  alone_above e = go (in_zone f side) (at_most_one side b.least (let m = b.most in omega arith)) e
    where
      go : (l : List Aircraft) → length l ≤ 1 → eqb (length l) 0 ≡ false → l ≡ get_or (nobody ∷ l) 1 nobody ∷ []
      go [] h e = absurd (true≢false e)
      go (x ∷ []) h e = refl
      go (x ∷ y ∷ l) h e = absurd (omega arith)

  pub none_below : is_empty f (at2000 side) ≡ true → in_zone f (at2000 side) ≡ []
  unfolding how_many
  none_below e = none (in_zone f (at2000 side)) (eqb-true (length (in_zone f (at2000 side))) 0 e)

  -- where nobody is at 2000 it can descend
  abbrev pub above : Shaped f → is_empty f (at3000 side) ≡ false → is_empty f (at2000 side) ≡ true → AloneAbove f side
  above k occupied free = record { shaped = k; between = b; x = aircraft_at f side 1; here = alone_above occupied; below = none_below free }

  zone_is : Between 1 13 side
  zone_is = record { least = b.least; most = let m = b.most in omega arith }

  module _ (occupied : is_empty f (at3000 side) ≡ false) where
    someone : 1 ≤ how_many f side
    someone = let n = eqb-false (how_many f side) 0 occupied in omega arith

    -- it is found there, at the head
    pub found_above : place_before f (descend_from f side) ≡ at (at3000 side) 1
    found_above = own_place f side 1 (numbers_different f t) zone_is (omega arith) someone

    -- its number is not 0
    pub numbered : 1 ≤ (aircraft_at f (at3000 side) 1).number
    unfolding numbers_differ
    numbered =
        let n = (aircraft_at f side 1).number in
        let ns = numbers_in f everywhere in
        let d = and_l (every (λ m. not (eqb m 0)) ns) (all_different ns) (within_e f t).differ in
        let here = ap (λ (l : List Aircraft). is_in n (numbers l)) (alone_above occupied) ∙ ap (λ (c : Bool). c || false) (same n) in
        input.nonzero_known n (passed (every_listed (λ m. not (eqb m 0)) ns n d (in_zones f n side everywhere (zone_listed side zone_is) here)))

    -- it has a desk
    pub desked : DeskKnown (aircraft_at f (at3000 side) 1).desk
    desked =
        let x = aircraft_at f side 1 in
        let u = subst (λ (l : List Aircraft). T (every (fits_zone f.legs side) l)) (alone_above occupied) (all_fit f (within_each f t).bound_g_is side b.least (let m = b.most in omega arith)) in
        let d = (fits_parts f.legs side x (and_l (fits_zone f.legs side x) true u)).desk in
        record { low = d.least; high = d.most }

-- ---- the descend
module _ (f : Field) (h : T (has_places f)) (t : T (within_bounds f)) (side : ℕ) (b : Between 1 2 side) (occupied : is_empty f (at3000 side) ≡ false) (free : is_empty f (at2000 side) ≡ true) where
  abbrev r : Request
  r = descend_from f side

  moves_down : effect_of f r ≡ moved f (at3000 side) (at2000 side)
  moves_down = effect_at f r {k = 3} refl ∙ ap (λ (p : Place). moved f p.zone (at2000 p.zone)) (found_above f t side b occupied)

  -- none of 12, 26, 13, 14 and 21 refuses
  unrefused : first_refused (head_checks 3 (at side 1) (belongs_to f (at side 1) r.desk) ++ descend_needs f side) ≡ 0
  unfolding starts_from belongs_to
  unrefused =
      input.none_refused (head_checks 3 (at side 1) (belongs_to f (at side 1) r.desk) ++ descend_needs f side) (
        input.nonzero_yes side b.least,
        (same r.desk, (one_of_two (λ (s : ℕ). starts_from 3 s ≡ true) 1 side b.least (let m = b.most in omega arith) refl refl, (refl, (free, tt)))),
      )

  abbrev alone : AloneAbove f side
  alone = above f t side b (shaped f h t) occupied free

  number_0 : number_of f r ≡ 0
  number_0 =
      accepts f r
      (record {
        input = move_allowed r (omega arith) (omega arith) (record { side = refl; number = numbered f t side b occupied; amount = refl }) (desked f t side b occupied);
        before = passed t;
        checks =
            ap first_refused (checks_at f r {k = 3} refl) ∙ ap (λ (p : Place). first_refused
            (head_checks 3 p (belongs_to f p r.desk) ++ descend_needs f p.zone)) (found_above f t side b occupied) ∙ unrefused;
        after = ap within_bounds (moves_down ∙ moved_down alone) ∙ passed (within_down t alone);
      })

  pub descends : Descends f side
  descends = record { accepted = number_is f r ∙ number_0; lower = field_accepted f r number_0 ∙ moves_down }
