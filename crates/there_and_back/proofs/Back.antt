-- Back and there: the field that a list builds, where it is within the bounds, has that list. Assumes nothing.
use mathlib.Core.Path.{◌≡◌, refl, sym, ap, ◌∙◌, subst}
use mathlib.Core.Bool.{Bool, true, ◌&&◌}
use mathlib.Core.List.{List, [], ◌∷◌, ◌++◌, map, append_assoc, append-nil}
use Prim.Native.Nat.{ℕ, suc, ◌+◌, ◌≤◌, ◌<◌}
use native.Mathlib.Omega.{arith}
use lib.Dec.{T, eqb, leb, leb→le, le→leb}
use lib.ListN.{length, get_or, take, length-take, length-map}
use lib.Ieee.Fits.{and_i, and_l}
use Rattle.request.specs.Input.{within}
use Rattle.practice.specs.declared.FileLegs.{FileLegs}
use Rattle.leg.specs.Ticks.{Between}
use Rattle.field.specs.declared.Aircraft.{Aircraft}
use Rattle.field.specs.declared.Legs.{Legs}
use Rattle.field.specs.declared.Field.{Field}
use Rattle.field.specs.Airspace.{right, is_side, everywhere, zones_from, nobody, zone_of, queue_of, in_zone, order_of, entering, runway}
use Rattle.field.specs.Lists.{every}
use Rattle.field.proofs.TestLaws.{passed, if_true, same, every_from}
use Rattle.field.proofs.NumberLists.{every_listed, zone_listed}
use Rattle.questions.specs.declared.Place.{Place}
use Rattle.questions.specs.Counts.{how_many, is_empty}
use Rattle.questions.specs.Find.{place_of, aircraft_at, fix_of}
use Rattle.questions.proofs.FindLaws.{at, find_own}
use Rattle.bounds.specs.Bounds.{lateral_rule, bound_c, within_bounds}
use Rattle.fits.specs.Fits.{fits_zone}
use Rattle.laws.proofs.BoundLaws.{within_each, numbers_different}
use Rattle.laws.proofs.Fits.{fits_parts}
use Rattle.indexed.specs.Indexed.{with_index}
use Rattle.indexed.proofs.Own.{within_own}
use Rattle.line.proofs.Line.{zone_for, queue_for, sequence_for, order_for, zone_by}
use Rattle.line.proofs.CountedOnLine.{in_everywhere}
use Rattle.reason.proofs.Invariant.{parts}
use Rattle.playing.specs.Playing.{legs_in_miles}
use Rattle.dialect.specs.declared.ListEntry.{ListEntry}
use Rattle.dialect.specs.Going.{list_entry, list_entries, on_runway, entries_of, in_dialect, entries_listed, list_of}
use Rattle.dialect_field.specs.Coming.{entries_in, is_placed, placed_from, fix_in, built, field_of_list}
use Rattle.there_and_back.proofs.Shape.{uncut, waiting, at_zone, numbers_in, next_from, field_for, built_for}
use Rattle.there_and_back.proofs.ByLocation.{own_place, from_1, to_4, in_a_zone, first_placed, rest_placed, located, none_at, in_all, at_split, only, fix_kept}
use Rattle.there_and_back.proofs.AcceptedList.{accepted}

module _ (legs : Legs) (speed : ℕ) (es : List ListEntry) (p : T (placed_from 1 es)) (w : T (within_bounds (built legs speed es))) where
  -- the field
  abbrev g : Field
  g = built legs speed es

  abbrev those : ℕ → List Aircraft
  those z = map (waiting speed) (at_zone z es)

  is_for : g ≡ field_for legs speed (λ z. take 4 (those z)) (take 4 (numbers_in es)) (next_from right es)
  is_for = built_for legs speed es (located 1 es p)

  pub zone_is : (z : ℕ) → T (within 1 13 z) → zone_of g z ≡ zone_for (take 4 (those z))
  zone_is z t = ap (λ (f : Field). zone_of f z) is_for ∙ zone_by (λ z. zone_for (take 4 (those z))) (sequence_for (take 4 (numbers_in es))) (next_from right es) legs z t

  queue_cut : (z : ℕ) → T (within 1 13 z) → in_zone g z ≡ take 4 (those z)
  unfolding in_zone
  queue_cut z t = ap queue_of (zone_is z t) ∙ queue_for (take 4 (those z))

  -- at most one at each location, by bound c
  pub one_at : (z : ℕ) → 1 ≤ z → z ≤ 4 → length (at_zone z es) ≤ 1
  unfolding bound_c how_many
  one_at z low high =
      let all = every (λ y. leb (how_many g y) 1) (zones_from 1 6) in
      let c = and_l all (lateral_rule g 1) (and_l (all && lateral_rule g 1) (lateral_rule g 2) (within_each g w).bound_c_is) in
      let one = leb→le (how_many g z) 1 (every_from (λ y. leb (how_many g y) 1) 1 6 c z low (omega arith)) in
      let t : T (within 1 13 z) = and_i (leb 1 z) (leb z 13) (le→leb 1 z low) (le→leb z 13 (omega arith)) in
      let cut = ap length (queue_cut z t) in
      let short = length-take 4 (those z) in
      let same = length-map (at_zone z es) (waiting speed) in
      omega arith

  -- so at most four in all
  pub four_in_all : length es ≤ 4
  four_in_all =
      let a = in_all 1 es p in
      let b = one_at 1 (omega arith) (omega arith) in
      let c = one_at 2 (omega arith) (omega arith) in
      let d = one_at 3 (omega arith) (omega arith) in
      let e = one_at 4 (omega arith) (omega arith) in
      omega arith

  pub order_is : order_of g.sequence ≡ numbers_in es
  order_is =
      ap (λ (f : Field). order_of f.sequence) is_for ∙ order_for (take 4 (numbers_in es))
      ∙ uncut 4 (numbers_in es) (let l = length-map es (λ (e : ListEntry). e.number) in let h = four_in_all in omega arith)

  -- nobody but in the holdings
  pub nobody_at : (z : ℕ) → T (within 1 13 z) → 4 < z → is_empty g z ≡ true
  unfolding how_many
  nobody_at z t h = ap (λ (l : List Aircraft). eqb (length l) 0) (queue_cut z t ∙ ap (λ (l : List ListEntry). take 4 (map (waiting speed) l)) (none_at z 1 es p h))

  -- one of the list
  module _ (xs : List ListEntry) (e : ListEntry) (ys : List ListEntry) (q : es ≡ xs ++ e ∷ ys) (place : ℕ) (here : T (is_placed e place)) where
    abbrev l : ℕ
    l = e.location

    alone : in_zone g l ≡ waiting speed e ∷ []
    alone =
        let split = ap (at_zone l) q ∙ at_split l xs e ys (same l) in
        let one = one_at l (from_1 e place here) (to_4 e place here) in
        let long = ap length split in
        queue_cut l (in_a_zone e place here)
        ∙ ap (λ (r : List ListEntry). take 4 (map (waiting speed) r)) (split ∙ only (at_zone l xs) e (at_zone l ys) (omega arith))

    found : place_of g e.number ≡ at l 1
    unfolding place_of entering
    found =
        let r : Between 1 13 l = record { least = from_1 e place here; most = let h = to_4 e place here in omega arith } in
        find_own g l [] (waiting speed e) [] alone everywhere (numbers_different g w) (zone_listed l r)

    is_side_lem : T (is_side (fix_in e.fix))
    unfolding entering
    is_side_lem =
        let fits = every_listed (λ z. every (fits_zone g.legs z) (in_zone g z)) everywhere l (parts g (within_each g w)).fit (in_everywhere l (in_a_zone e place here)) in
        let first = subst (λ (r : List Aircraft). T (every (fits_zone g.legs l) r)) alone fits in
        (fits_parts g.legs l (waiting speed e) (and_l (fits_zone g.legs l (waiting speed e)) true first)).side

    has_fix_lem : fix_of g e.number ≡ e.fix
    unfolding fix_of aircraft_at entering
    has_fix_lem =
        ap (λ (a : Place). (aircraft_at g a.zone a.place).fix) found
        ∙ ap (λ (r : List Aircraft). (get_or (nobody ∷ r) 1 nobody).fix) alone
        ∙ fix_kept e.fix is_side_lem

    same_entry_lem : list_entry g e.number place ≡ e
    unfolding list_entry
    same_entry_lem = λ i. record { number = e.number; location = (found i).zone; place = sym (own_place e place here) i; fix = has_fix_lem i }

  again : (xs ys : List ListEntry) (place : ℕ) → es ≡ xs ++ ys → T (placed_from place ys) → list_entries g place (numbers_in ys) ≡ ys
  again xs [] place q t = refl
  again xs (e ∷ ys) place q t =
      ap (λ (x : ListEntry). x ∷ list_entries g (suc place) (numbers_in ys)) (same_entry_lem xs e ys q place (first_placed place e ys t))
      ∙ ap (λ (r : List ListEntry). e ∷ r) (again (xs ++ (e ∷ [])) ys (suc place) (q ∙ sym (append_assoc xs (e ∷ []) ys)) (rest_placed place e ys t))

  -- The field has that list, ..
  pub entries_again : entries_of g ≡ es
  unfolding entries_of on_runway
  entries_again =
      ap (λ (r : List ListEntry). list_entries g 1 (order_of g.sequence) ++ r) (if_true _ _ (nobody_at runway tt (omega arith)))
      ∙ append-nil (list_entries g 1 (order_of g.sequence))
      ∙ ap (list_entries g 1) order_is
      ∙ again [] es 1 refl p

  -- .. and it is of the dialect.
  pub in_dialect_lem : in_dialect g ≡ true
  unfolding in_dialect
  in_dialect_lem =
      ap (λ (b : Bool). b && (is_empty g 6 && (is_empty g 11 && true))) (nobody_at 5 tt (omega arith))
      ∙ ap (λ (b : Bool). b && (is_empty g 11 && true)) (nobody_at 6 tt (omega arith))
      ∙ ap (λ (b : Bool). b && true) (nobody_at 11 tt (omega arith))

-- Back and there gives the list again, whatever the legs and the speed.
pub back_and_there : (legs : FileLegs) (speed : ℕ) (bytes : List ℕ) → (field_of_list legs speed bytes).number ≡ 0 → list_of (field_of_list legs speed bytes).after ≡ entries_listed (entries_in bytes)
unfolding list_of with_index
back_and_there legs speed bytes e =
    let a = accepted legs speed bytes e in
    let es = entries_in bytes in
    let miles = legs_in_miles legs in
    ap list_of a.after
    ∙ if_true _ _ (within_own (built miles speed es) ∙ passed a.bounds)
    ∙ if_true _ _ (in_dialect_lem miles speed es a.placed a.bounds)
    ∙ ap entries_listed (entries_again miles speed es a.placed a.bounds)
