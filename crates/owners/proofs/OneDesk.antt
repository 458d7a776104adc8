-- Where desk 1 asks alone, from an empty field, everyone is its own, so that neither 26 nor 31 is answered. Assumes nothing.
use mathlib.Core.Path.{◌≡◌, sym, ap, ◌∙◌, subst}
use mathlib.Core.Logic.{inl, inr}
use mathlib.Core.Bool.{Bool, true, cond, not, true≢false}
use mathlib.Core.List.{List, [], ◌∷◌, ◌++◌}
use Prim.Native.Nat.{ℕ, zero, suc, ◌≤◌}
use native.Mathlib.Omega.{arith}
use lib.Dec.{T, eqb}
use lib.Ieee.Fits.{and_l, and_r}
use lib.ListN.{length, get_or}
use borrow.Author.Tests.{eq-eqb}
use Rattle.limits.specs.Limits.{desks}
use Rattle.request.specs.Input.{within, is_entry, is_tick, first_refused, desk_allowed, kind_allowed, side_allowed, number_allowed, amount_allowed, input_number}
use Rattle.request.specs.declared.Request.{Request}
use Rattle.field.specs.declared.Aircraft.{Aircraft}
use Rattle.field.specs.declared.Legs.{Legs}
use Rattle.field.specs.declared.Field.{Field}
use Rattle.field.specs.Airspace.{nobody, empty_zone, empty_field, everywhere, in_zone}
use Rattle.field.specs.Lists.{is_in, every, Each}
use Rattle.questions.specs.Counts.{how_many}
use Rattle.questions.specs.Find.{aircraft_at, numbers_in}
use Rattle.bounds.specs.Bounds.{within_bounds}
use Rattle.fits.specs.Fits.{fits_zone}
use Rattle.field.proofs.TestLaws.{pass, decided, if_true, if_false, either_way}
use Rattle.questions.proofs.FindLaws.{found_exactly, found_there, place_within}
use Rattle.laws.proofs.BoundLaws.{within_each}
use Rattle.laws.proofs.Fits.{fits_parts, all_fit}
use Rattle.rules.specs.Kinds.{place_before, starts_from, belongs_to, absent_checks, head_checks, presence_checks}
use Rattle.rules.specs.Step.{checks_of, effect_of, number_of, step_of}
use Rattle.rules.specs.Play.{played}
use Rattle.rules.proofs.Checks.{Never, never_without, never_append, owned, besides, input_numbers}
use Rattle.rules.proofs.Checks.{by_kind_lem, presence_refuses, checks_refuse, input_numbered, need_numbers, refused_by, checks_numbered}
use Rattle.rules.proofs.StepLaws.{number_is}
use Rattle.owners.specs.Owners.{AllAskedBy, NoDeskRefuses, OneDesk}
use Rattle.owners.proofs.Everyone.{HoldsIn, Everyone, at_stays, step_stays}

-- ---- everyone is desk 1's, or a place that is nobody's
abbrev AtMost1 : ℕ → ℕ → Type 0
AtMost1 number desk = desk ≤ 1

-- whoever is found has a desk
at_place : (legs : Legs) (z place : ℕ) (l : List Aircraft) → T (every (fits_zone legs z) l) → 1 ≤ place → place ≤ length l → 1 ≤ (get_or (nobody ∷ l) place nobody).desk
at_place legs z zero l t low high = absurd (omega arith)
at_place legs z (suc place) [] t low high = absurd (omega arith)
at_place legs z (suc zero) (a ∷ l) t low high = (fits_parts legs z a (and_l (fits_zone legs z a) (every (fits_zone legs z) l) t)).desk.least
at_place legs z (suc (suc place)) (a ∷ l) t low high = at_place legs z (suc place) l (and_r (fits_zone legs z a) (every (fits_zone legs z) l) t) (omega arith) (omega arith)

module _ (f : Field) (r : Request) (one : r.desk ≡ 1) (all : Everyone AtMost1 f) where
  -- so 26 is not answered, where the field is within the bounds
  own : T (within_bounds f) → not (eqb (place_before f r).zone 0) ≡ true → owned f r ≡ true
  unfolding belongs_to aircraft_at how_many
  own w here =
      let z = (place_before f r).zone in
      let present : is_in r.number (numbers_in f everywhere) ≡ true =
      elim (decided (is_in r.number (numbers_in f everywhere))) [
        | inl y ↦ y
        | inr y ↦ absurd (true≢false (sym here ∙ ap not (found_exactly f r.number ∙ ap not y)))
      ] in
      let found = found_there f r.number present in
      let least = at_place f.legs z (place_before f r).place (in_zone f z) (all_fit f (within_each f w).bound_g_is z (zone_low z here) (place_within f r.number)) found.first found.last in
      let most = at_stays AtMost1 (omega arith) f z (place_before f r).place all in
      eq-eqb (aircraft_at f z (place_before f r).place).desk r.desk (omega arith)
    where
      zone_low : (z : ℕ) → not (eqb z 0) ≡ true → 1 ≤ z
      zone_low zero e = absurd (true≢false (sym e))
      zone_low (suc z) e = omega arith

  head_26 : T (within_bounds f) → Never 26 (head_checks r.kind (place_before f r) (owned f r))
  head_26 w e =
      elim (decided (not (eqb (place_before f r).zone 0))) [
        | inl here ↦
            let rest : List (ℕ × Bool) = (13, starts_from r.kind (place_before f r).zone) ∷ (14, eqb (place_before f r).place 1) ∷ [] in
            never_without 26 (omega arith) rest tt (sym (if_true (cond (owned f r) (first_refused rest) 26) 12 here ∙ if_true (first_refused rest) 26 (own w here)) ∙ e)
        | inr away ↦ (let n : ◌≡◌ {A = ℕ} 12 26 = sym (if_false _ 12 away) ∙ e in omega arith)
      ]

  checks_26 : T (within_bounds f) → Never 26 (checks_of f r)
  unfolding checks_of
  checks_26 w =
      let at = place_before f r in
      let all = head_checks r.kind at (owned f r) in
      never_append 26 (presence_checks r.kind at (owned f r)) (besides f r r.kind) (presence_refuses r.kind at (owned f r))
      (either_way (Never 26) (is_entry r.kind) (absent_checks at) (cond (is_tick r.kind) [] all) (λ e. never_without 26 (omega arith) (absent_checks at) tt)
      (λ e. either_way (Never 26) (is_tick r.kind) [] all (λ u. never_without 26 (omega arith) [] tt) (λ u. head_26 w)))
      (never_without 26 (omega arith) (besides f r r.kind)
      (by_kind_lem (λ (cs : List (ℕ × Bool)). T (every (λ c. not (eqb c.0 26)) cs)) r.kind
      ((λ e. tt), (λ e. tt), (λ e. tt), (λ e. tt), (λ e. tt), (λ e. tt), (λ e. tt), (λ e. tt), (λ e. tt), (λ e. tt), (λ e. tt), tt)))

  -- the number of the request is neither
  number_26 : number_of f r ≡ 26 → ⊥
  unfolding number_of
  number_26 =
      let P : ℕ → Type 0 = λ n. n ≡ 26 → ⊥ in
      let last : List (ℕ × Bool) = (25, within_bounds (effect_of f r)) ∷ [] in
      either_way P (eqb (input_number r) 0) (first_refused ((10, within_bounds f) ∷ checks_of f r ++ last)) (input_number r)
      (λ i. either_way P (within_bounds f) (first_refused (checks_of f r ++ last)) 10
      (λ w. never_append 26 (checks_of f r) last (checks_refuse f r) (checks_26 (pass w)) (never_without 26 (omega arith) last tt)) (λ w e. omega arith))
      (λ i e. elim (input_numbered r) [ inl z ↦ (let n = sym z ∙ e in omega arith) | inr t ↦ subst (λ (n : ℕ). T (input_numbers n)) e t ])

  input_31 : input_number r ≡ 31 → ⊥
  unfolding input_number desk_allowed
  input_31 e =
      let rest : List (ℕ × Bool) = (1, kind_allowed r) ∷ (2, side_allowed r) ∷ (3, number_allowed r) ∷ (4, amount_allowed r) ∷ [] in
      never_without 31 (omega arith) rest tt (sym (if_true (first_refused rest) 31 (ap (within 1 desks) one)) ∙ e)

  number_31 : number_of f r ≡ 31 → ⊥
  unfolding number_of
  number_31 =
      let P : ℕ → Type 0 = λ n. n ≡ 31 → ⊥ in
      let last : List (ℕ × Bool) = (25, within_bounds (effect_of f r)) ∷ [] in
      either_way P (eqb (input_number r) 0) (first_refused ((10, within_bounds f) ∷ checks_of f r ++ last)) (input_number r)
      (λ i. either_way P (within_bounds f) (first_refused (checks_of f r ++ last)) 10
      (λ w. never_append 31 (checks_of f r) last (checks_refuse f r) checks_31 (never_without 31 (omega arith) last tt)) (λ w e. omega arith))
      (λ i. input_31)
    where
      checks_31 : Never 31 (checks_of f r)
      checks_31 e = elim (refused_by need_numbers (checks_of f r) (checks_numbered f r)) [ inl z ↦ (let n = sym z ∙ e in omega arith) | inr t ↦ subst (λ (n : ℕ). T (need_numbers n)) e t ]

-- ---- every list
empty_everyone : (legs : Legs) → Everyone AtMost1 (empty_field legs)
unfolding empty_field
empty_everyone legs =
    let z : 0 ≤ 1 = omega arith in
    let q : HoldsIn AtMost1 empty_zone = (z, (z, (z, (z, tt)))) in
    (q, (q, (q, (q, (q, (q, (q, (q, (q, (q, (q, (q, (q, tt)))))))))))))

one_desk_from : (f : Field) (rs : List Request) → Everyone AtMost1 f → AllAskedBy 1 rs → Each NoDeskRefuses (played f rs)
one_desk_from f [] all h = tt
one_desk_from f (r ∷ rs) all h = (
  record { not_26 = λ e. number_26 f r h.0 all (sym (number_is f r) ∙ e); not_31 = λ e. number_31 f r h.0 all (sym (number_is f r) ∙ e) },
  one_desk_from (step_of f r).field rs (step_stays AtMost1 (omega arith) f r (let q = h.0 in omega arith) all) h.1,
)

-- A practice file is asked by desk 1 (02, 2.10), so that its answers are none of 26 and 31.
pub one_desk : (legs : Legs) (rs : List Request) → OneDesk legs rs
one_desk legs rs h = one_desk_from (empty_field legs) rs (empty_everyone legs) h
