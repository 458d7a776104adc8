-- What an accepted request tells of the field, and, where it is no entry and no tick, where its aircraft is and the queue there. Assumes nothing.
use mathlib.Core.Path.{◌≡◌, refl, sym, ap, ◌∙◌, subst}
use mathlib.Core.Bool.{Bool, true, false, not, true≢false}
use mathlib.Core.List.{List, [], ◌∷◌, ◌++◌}
use Prim.Native.Nat.{ℕ, ◌≤◌}
use native.Mathlib.Omega.{arith}
use borrow.Author.Tests.{eqb-true, ne_eqb}
use lib.Dec.{T, eqb}
use lib.ListN.{length, get_or}
use Rattle.request.specs.Input.{within, first_refused}
use Rattle.request.specs.declared.Request.{Request}
use Rattle.request.proofs.InputTests.{within_low, within_high, within_above, Passed, passed}
use Rattle.field.specs.declared.Aircraft.{Aircraft}
use Rattle.field.specs.declared.Field.{Field}
use Rattle.field.specs.Airspace.{nobody, everywhere, in_zone}
use Rattle.field.specs.Lists.{is_in}
use Rattle.field.proofs.TestLaws.{pass}
use Rattle.questions.specs.declared.Place.{Place}
use Rattle.questions.specs.Counts.{how_many}
use Rattle.questions.specs.Find.{aircraft_at, numbers_in}
use Rattle.questions.proofs.FindLaws.{at, found_exactly, found_there}
use Rattle.bounds.specs.Bounds.{within_bounds}
use Rattle.rules.specs.Kinds.{place_before, zone_before, head_checks, presence_checks, starts_from}
use Rattle.rules.specs.Step.{checks_of}
use Rattle.rules.proofs.Checks.{HeadPassed, besides, owned, checks_at, head_passed, checks_refuse}
use Rattle.rules.proofs.Refusals.{Passes}

-- the head of a zone's queue, with a number
pub record HeadOfQueue (f : Field) (n z : ℕ) : Type 0 where
  pub head : Aircraft
  pub behind : List Aircraft
  pub here : in_zone f z ≡ head ∷ behind
  pub named : head.number ≡ n

-- it is the aircraft at the first place
pub head_alike : {f : Field} {n z : ℕ} → HeadOfQueue f n z → (aircraft_at f z 1).number ≡ n
unfolding aircraft_at
head_alike heads = ap (λ (l : List Aircraft). (get_or (nobody ∷ l) 1 nobody).number) heads.here ∙ heads.named

-- the one zone that a kind starts from
pub only_zone : (n z : ℕ) → within n n z ≡ true → z ≡ n
only_zone n z t = let l = within_low n n z t in let h = within_high n n z t in omega (arith, l, h)

module _ {f : Field} {r : Request} (a : Passes f r) where
  abbrev from : ℕ
  from = zone_before f r

  abbrev n : ℕ
  n = r.number

  -- the field is within the bounds
  pub bounded : T (within_bounds f)
  bounded = pass a.before

  -- every check of its kind passes
  pub all_pass : {k : ℕ} → r.kind ≡ k → Passed (presence_checks k (place_before f r) (owned f r) ++ besides f r k)
  all_pass q = subst Passed (checks_at f r q) (passed (checks_of f r) (checks_refuse f r) a.checks)

  -- of a kind that is no entry and no tick
  module _ {k : ℕ} (q : r.kind ≡ k) (m : within 3 11 k ≡ true) where
    pub heading : HeadPassed k (place_before f r) (owned f r) (besides f r k)
    heading =
        let low = within_low 3 11 k m in
        let high = within_high 3 11 k m in
        let all : presence_checks k (place_before f r) (owned f r) ≡ head_checks k (place_before f r) (owned f r) = simp (within_above 1 2 k (omega arith), ne_eqb k 12 (λ t. omega arith)) in
        head_passed k (place_before f r) (owned f r) (besides f r k)
        (ap (λ (l : List (ℕ × Bool)). first_refused (l ++ besides f r k)) (sym all) ∙ sym (ap first_refused (checks_at f r q)) ∙ a.checks)

    pub found : place_before f r ≡ at from 1
    found = ap (at from) (eqb-true (place_before f r).place 1 heading.first)

    pub heads : HeadOfQueue f n from
    unfolding how_many aircraft_at
    heads =
        let present : is_in n (numbers_in f everywhere) ≡ true = is_in_lem (is_in n (numbers_in f everywhere)) (found_exactly f n) heading.known in
        let p = found_there f n present in
        go (in_zone f from) refl (subst (λ (y : Place). y.place ≤ how_many f from) found p.last) (subst (λ (y : Place). (aircraft_at f from y.place).number ≡ n) found p.has)
      where
        is_in_lem : (b : Bool) → eqb from 0 ≡ not b → not (eqb from 0) ≡ true → b ≡ true
        is_in_lem true a c = refl
        is_in_lem false a c = absurd (true≢false (sym c ∙ ap not a))

        go : (l : List Aircraft) → in_zone f from ≡ l → 1 ≤ length l → (get_or (nobody ∷ l) 1 nobody).number ≡ n → HeadOfQueue f n from
        go [] i a b = absurd (omega arith)
        go (x ∷ l) i a b = record { head = x; behind = l; here = i; named = b }

    pub some : 1 ≤ how_many f from
    unfolding how_many
    some = let h = ap length heads.here in omega (arith, h)

  -- a miss finds somebody on final
  pub on_final : r.kind ≡ 10 → 1 ≤ how_many f 12
  unfolding starts_from
  on_final q = subst (λ (z : ℕ). 1 ≤ how_many f z) (only_zone 12 from (heading q refl).starts) (some q refl)
