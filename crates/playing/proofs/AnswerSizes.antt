-- How large the parts of an answer are: its number, zone and fix. Assumes nothing.
use mathlib.Core.Path.{◌≡◌, refl, sym, ap, ◌∙◌, subst}
use mathlib.Core.Logic.{inl, inr}
use mathlib.Core.Bool.{Bool, true, false, cond, ◌&&◌, ◌||◌}
use mathlib.Core.List.{List, [], ◌∷◌, ◌++◌}
use Prim.Native.Nat.{ℕ, zero, suc, ◌≤◌}
use native.Mathlib.Omega.{arith}
use lib.Dec.{T, leb, eqb, leb→le}
use lib.ListN.{get_or}
use lib.Ieee.Fits.{and_l, and_r}
use borrow.Author.Tests.{eqb-true}
use Rattle.request.specs.Input.{within, first_refused, input_number}
use Rattle.request.specs.declared.Request.{Request}
use Rattle.field.specs.declared.Aircraft.{Aircraft}
use Rattle.field.specs.declared.Legs.{Legs}
use Rattle.field.specs.declared.Field.{Field}
use Rattle.questions.specs.declared.Place.{Place}
use Rattle.field.specs.Airspace.{is_side, in_zone, everywhere, nobody}
use Rattle.questions.specs.Find.{place_from, find_in, place_of, aircraft_at, fix_of}
use Rattle.field.specs.Lists.{every}
use Rattle.bounds.specs.Bounds.{within_bounds}
use Rattle.fits.specs.Fits.{fits_zone, legal_legs, bound_g}
use Rattle.rules.specs.declared.Answer.{Answer}
use Rattle.rules.specs.declared.Stepped.{Stepped}
use Rattle.rules.specs.Kinds.{zone_before}
use Rattle.rules.specs.Step.{checks_of, effect_of, number_of, number_and_zeros, acceptance, acceptance_on, along_for, answer_of, step_of}
use Rattle.field.proofs.TestLaws.{pass, passed, decided}
use Rattle.laws.proofs.BoundLaws.{within_each}
use Rattle.laws.proofs.Fits.{fits_parts}
use Rattle.questions.proofs.FindLaws.{place_within}
use Rattle.rules.proofs.StepLaws.{number_is, field_accepted}
use Rattle.rules.proofs.Refusals.{accepted_within}
use Rattle.rules.proofs.Checks.{input_numbers, need_numbers, numbered_by, checks_numbered, input_numbered}

-- ---- the number

-- none of a need's numbers is over 26
need_low : (n : ℕ) → T (need_numbers n) → n ≤ 26
need_low n t =
    elim (decided (within 11 24 n)) [
      | inl e ↦ (let h = leb→le n 24 (and_r (leb 11 n) (leb n 24) (pass e)) in omega arith)
      | inr e ↦ (let h = eqb-true n 26 (passed (subst (λ (b : Bool). T (b || eqb n 26)) e t)) in omega arith)
    ]

-- nor of an input rule's over 31
input_low : (n : ℕ) → T (input_numbers n) → n ≤ 31
input_low n t =
    elim (decided (within 1 4 n)) [
      | inl e ↦ (let h = leb→le n 4 (and_r (leb 1 n) (leb n 4) (pass e)) in omega arith)
      | inr e ↦ (let h = eqb-true n 31 (passed (subst (λ (b : Bool). T (b || eqb n 31)) e t)) in omega arith)
    ]

-- the checks of a kind and refusal 25 after them
last_number : (cs : List (ℕ × Bool)) (b : Bool) → T (numbered_by need_numbers cs) → first_refused (cs ++ ((25, b) ∷ [])) ≤ 31
last_number [] true t = omega arith
last_number [] false t = omega arith
last_number ((n, true) ∷ cs) b t = last_number cs b (and_r (need_numbers n) (numbered_by need_numbers cs) t)
last_number ((n, false) ∷ cs) b t = let h = need_low n (and_l (need_numbers n) (numbered_by need_numbers cs) t) in omega arith

module _ (f : Field) (r : Request) where
  abbrev field_number : ℕ
  field_number = cond (within_bounds f) (first_refused (checks_of f r ++ ((25, within_bounds (effect_of f r)) ∷ []))) 10

  number_by : {b : Bool} → eqb (input_number r) 0 ≡ b → number_of f r ≡ cond b field_number (input_number r)
  unfolding number_of
  number_by e = ap (λ (b : Bool). cond b field_number (input_number r)) e

  number_low : number_of f r ≤ 31
  number_low =
      elim (decided (eqb (input_number r) 0)) [
        | inl e ↦ subst (λ (n : ℕ). n ≤ 31) (sym (number_by e)) (low (within_bounds f))
        | inr e ↦ subst (λ (n : ℕ). n ≤ 31) (sym (number_by e)) (elim (input_numbered r) [ inl z ↦ omega arith | inr t ↦ input_low (input_number r) t ])
      ]
    where
      low : (b : Bool) → cond b (first_refused (checks_of f r ++ ((25, within_bounds (effect_of f r)) ∷ []))) 10 ≤ 31
      low true = last_number (checks_of f r) (within_bounds (effect_of f r)) (checks_numbered f r)
      low false = omega arith

-- ---- the zone and the fix

side_low : (s : ℕ) → T (is_side s) → s ≤ 2
unfolding is_side
side_low s t = elim (decided (eqb s 1)) [ inl e ↦ (let h = eqb-true s 1 e in omega arith) | inr e ↦ (let h = eqb-true s 2 (passed (subst (λ (b : Bool). T (b || eqb s 2)) e t)) in omega arith) ]

module _ (legs : Legs) (z : ℕ) where
  fits_fix : (a : Aircraft) → T (fits_zone legs z a) → a.fix ≤ 2
  fits_fix a t = side_low a.fix (fits_parts legs z a t).side

  fix_at : (qs : List Aircraft) (i : ℕ) → T (every (fits_zone legs z) qs) → (get_or qs i nobody).fix ≤ 2
  fix_at [] i t = omega arith
  fix_at (a ∷ qs) zero t = fits_fix a (and_l (fits_zone legs z a) (every (fits_zone legs z) qs) t)
  fix_at (a ∷ qs) (suc i) t = fix_at qs i (and_r (fits_zone legs z a) (every (fits_zone legs z) qs) t)

  fix_of_lem : (qs : List Aircraft) (i : ℕ) → T (every (fits_zone legs z) qs) → (get_or (nobody ∷ qs) i nobody).fix ≤ 2
  fix_of_lem qs zero t = omega arith
  fix_of_lem qs (suc i) t = fix_at qs i t

module _ (f : Field) (n : ℕ) where
  abbrev all_fit : List ℕ → Bool
  all_fit zs = every (λ z. every (fits_zone f.legs z) (in_zone f z)) zs

  fix_in_lem : (zs : List ℕ) → T (all_fit zs) → (aircraft_at f (find_in f n zs).zone (find_in f n zs).place).fix ≤ 2
  unfolding find_in aircraft_at
  fix_in_lem [] t = omega arith
  fix_in_lem (z ∷ zs) t = go (eqb (place_from 1 n (in_zone f z)) 0) (fix_in_lem zs (and_r (every (fits_zone f.legs z) (in_zone f z)) (all_fit zs) t))
    where
      there : Place
      there = record { zone = z; place = place_from 1 n (in_zone f z) }

      go : (b : Bool) → (aircraft_at f (find_in f n zs).zone (find_in f n zs).place).fix ≤ 2 → (aircraft_at f (cond b (find_in f n zs) there).zone (cond b (find_in f n zs) there).place).fix ≤ 2
      go true h = h
      go false h = fix_of_lem f.legs z (in_zone f z) (place_from 1 n (in_zone f z)) (and_l (every (fits_zone f.legs z) (in_zone f z)) (all_fit zs) t)

  fix_low : T (within_bounds f) → fix_of f n ≤ 2
  unfolding fix_of place_of bound_g
  fix_low t =
      let g = (within_each f t).bound_g_is in
      fix_in_lem everywhere (and_l (all_fit everywhere) (is_side f.next) (and_l (all_fit everywhere && is_side f.next) (legal_legs f.legs) g))

-- ---- the answer
pub record Short (a : Answer) : Type 0 where
  pub number : a.number ≤ 31
  pub zone : a.zone ≤ 13
  pub fix : a.fix ≤ 2

short_zeros : (n : ℕ) → n ≤ 31 → Short (number_and_zeros n)
unfolding number_and_zeros
short_zeros n h = record { number = h; zone = omega arith; fix = omega arith }

short_acceptance : (f : Field) (r : Request) (along : ℕ) → T (within_bounds f) → Short (acceptance_on f r along)
unfolding acceptance fix_of
short_acceptance f r along t = record { number = omega arith; zone = place_within f r.number; fix = fix_low f r.number t }

module _ (f : Field) (r : Request) where
  -- the step, by whether the request is accepted
  abbrev step_by : Bool → Stepped
  step_by b = cond b (record { answer = answer_of f r; field = effect_of f r }) (record { answer = number_and_zeros (number_of f r); field = f })

  short_accepted : T (within_bounds (effect_of f r)) → Short (answer_of f r)
  unfolding answer_of
  short_accepted t = told (eqb r.kind 12)
    where
      told : (b : Bool) → Short (cond b (number_and_zeros 0) (acceptance_on (effect_of f r) r (along_for r.kind f r (zone_before f r))))
      told true = short_zeros 0 (omega arith)
      told false = short_acceptance (effect_of f r) r (along_for r.kind f r (zone_before f r)) t

  pub short_step : Short (step_of f r).answer
  unfolding step_of
  short_step = go (eqb (number_of f r) 0) refl
    where
      go : (b : Bool) → eqb (number_of f r) 0 ≡ b → Short (step_by b).answer
      go true e =
          let z = eqb-true (number_of f r) 0 e in
          short_accepted (subst (λ (g : Field). T (within_bounds g)) (field_accepted f r z) (accepted_within f r (number_is f r ∙ z)))
      go false e = short_zeros (number_of f r) (number_low f r)
