-- The checks of each kind: what is known where none of them refuses, and which numbers they can answer. Assumes nothing.
use mathlib.Core.Path.{◌≡◌, refl, sym, ap, ◌∙◌}
use mathlib.Core.Logic.{◌⊎◌, inl, inr}
use mathlib.Core.Bool.{Bool, true, false, cond, not, ◌||◌, true≢false}
use mathlib.Core.List.{List, [], ◌∷◌, ◌++◌}
use Prim.Native.Nat.{ℕ, ◌≤◌}
use native.Mathlib.Nat.{ne_of_gt}
use native.Mathlib.Omega.{arith}
use lib.Dec.{T, leb, eqb, leb→le, le→leb}
use lib.Ieee.Fits.{and_i, and_l, and_r}
use borrow.Author.Tests.{ne_eqb, eq-eqb, eqb-true}
use Rattle.request.specs.Input.{within, is_entry, is_tick, first_refused, desk_allowed, kind_allowed, side_allowed, number_allowed, amount_allowed, input_number}
use Rattle.request.specs.declared.Request.{Request}
use Rattle.request.proofs.InputTests.{Numbered}
use Rattle.field.specs.declared.Field.{Field}
use Rattle.questions.specs.declared.Place.{Place}
use Rattle.field.specs.Lists.{every}
use Rattle.field.proofs.TestLaws.{pass, passed, failed, decided, if_false, either_way}
use Rattle.field.proofs.TestParts.{or_else}
use Rattle.rules.specs.Kinds.{place_before, zone_before, zone_ahead, starts_from, belongs_to, absent_checks, head_checks, presence_checks}
use Rattle.rules.specs.Step.{by_kind, needs_for, checks_for, effect_for, checks_of, effect_of}

-- whether a request's aircraft is its desk's, where it is
abbrev pub owned : Field → Request → Bool
owned f r = belongs_to f (place_before f r) r.desk

-- what a kind needs besides, of a request on a field
abbrev pub besides : Field → Request → ℕ → List (ℕ × Bool)
besides f r k = needs_for k f r (place_before f r) (zone_ahead f r)

-- ---- the kind by its number
pub checks_at : (f : Field) (r : Request) {k : ℕ} → r.kind ≡ k → checks_of f r ≡ presence_checks k (place_before f r) (owned f r) ++ besides f r k
unfolding checks_of
checks_at f r h = ap (λ (k : ℕ). checks_for k f r (place_before f r) (zone_ahead f r)) h

pub effect_at : (f : Field) (r : Request) {k : ℕ} → r.kind ≡ k → effect_of f r ≡ effect_for k f r (zone_before f r) (zone_ahead f r)
unfolding effect_of
effect_at f r h = ap (λ (k : ℕ). effect_for k f r (zone_before f r) (zone_ahead f r)) h

-- ---- 12, 26, 13 and 14, and what a kind needs besides
pub record HeadPassed (kind : ℕ) (at : Place) (own : Bool) (rest : List (ℕ × Bool)) : Type 0 where
  pub known : not (eqb at.zone 0) ≡ true
  pub owned_by : own ≡ true
  pub starts : starts_from kind at.zone ≡ true
  pub first : eqb at.place 1 ≡ true
  pub others : first_refused rest ≡ 0

-- the first check passes, and the rest answers 0
pub first_passes : (n : ℕ) (t : Bool) (rest : List (ℕ × Bool)) → 1 ≤ n → first_refused ((n, t) ∷ rest) ≡ 0 → (t ≡ true) × (first_refused rest ≡ 0)
first_passes n true rest h e = (refl, e)
first_passes n false rest h e = absurd (omega arith)

pub head_passed : (kind : ℕ) (at : Place) (own : Bool) (rest : List (ℕ × Bool)) → first_refused (head_checks kind at own ++ rest) ≡ 0 → HeadPassed kind at own rest
head_passed kind at own rest e =
    let t12 = not (eqb at.zone 0) in
    let t13 = starts_from kind at.zone in
    let t14 = eqb at.place 1 in
    let p12 = first_passes 12 t12 ((26, own) ∷ (13, t13) ∷ (14, t14) ∷ rest) (omega arith) e in
    let p26 = first_passes 26 own ((13, t13) ∷ (14, t14) ∷ rest) (omega arith) p12.1 in
    let p13 = first_passes 13 t13 ((14, t14) ∷ rest) (omega arith) p26.1 in
    let p14 = first_passes 14 t14 rest (omega arith) p13.1 in
    record { known = p12.0; owned_by = p26.0; starts = p13.0; first = p14.0; others = p14.1 }

-- ---- the numbers that can be answered

-- the numbers of the input rules, and those of what a kind needs
abbrev pub input_numbers : ℕ → Bool
input_numbers n = within 1 4 n || eqb n 31

abbrev pub need_numbers : ℕ → Bool
need_numbers n = within 11 24 n || eqb n 26

-- none of them is 0, 10 or 25
pub record NeverOthers (n : ℕ) : Type 0 where
  pub not_0 : 1 ≤ n
  pub not_10 : n ≡ 10 → ⊥
  pub not_25 : n ≡ 25 → ⊥

-- a number from low to high, or one more
between_or : (low high more n : ℕ) → T (within low high n || eqb n more) → (T (within low high n)) ⊎ (n ≡ more)
between_or low high more n t =
    elim (decided (within low high n)) [ inl e ↦ inl (pass e) | inr e ↦ inr (eqb-true n more (sym (or_else e refl) ∙ passed {b = within low high n || eqb n more} t)) ]

pub input_never : (n : ℕ) → T (input_numbers n) → NeverOthers n
input_never n t =
    elim (between_or 1 4 31 n t) [
      | inl u ↦
          let l = leb→le 1 n (and_l (leb 1 n) (leb n 4) u) in
          let h = leb→le n 4 (and_r (leb 1 n) (leb n 4) u) in
          record { not_0 = l; not_10 = λ q. omega arith; not_25 = λ q. omega arith }
      | inr e ↦ record { not_0 = omega arith; not_10 = λ q. omega arith; not_25 = λ q. omega arith }
    ]

pub need_never : (n : ℕ) → T (need_numbers n) → NeverOthers n
need_never n t =
    elim (between_or 11 24 26 n t) [
      | inl u ↦
          let l = leb→le 11 n (and_l (leb 11 n) (leb n 24) u) in
          let h = leb→le n 24 (and_r (leb 11 n) (leb n 24) u) in
          record { not_0 = omega arith; not_10 = λ q. omega arith; not_25 = λ q. omega arith }
      | inr e ↦ record { not_0 = omega arith; not_10 = λ q. omega arith; not_25 = λ q. omega arith }
    ]

-- every number of the list passes the test
abbrev pub numbered_by : (ℕ → Bool) → List (ℕ × Bool) → Bool
numbered_by p cs = every (λ (c : ℕ × Bool). p c.0) cs

-- the number of the first check that fails is one of theirs, or 0
pub refused_by : (p : ℕ → Bool) (cs : List (ℕ × Bool)) → T (numbered_by p cs) → (first_refused cs ≡ 0) ⊎ T (p (first_refused cs))
refused_by p [] t = inl refl
refused_by p ((n, true) ∷ cs) t = refused_by p cs (and_r (p n) (numbered_by p cs) t)
refused_by p ((n, false) ∷ cs) t = inr (and_l (p n) (numbered_by p cs) t)

-- of two lists, the second where no check of the first fails
pub refused_append : (cs ds : List (ℕ × Bool)) → Numbered cs → first_refused (cs ++ ds) ≡ cond (eqb (first_refused cs) 0) (first_refused ds) (first_refused cs)
refused_append [] ds k = refl
refused_append ((n, true) ∷ cs) ds k = refused_append cs ds k.1
refused_append ((n, false) ∷ cs) ds k = sym (if_false (first_refused ds) n (ne_eqb n 0 (ne_of_gt (leb→le 1 n k.0))))

-- neither of two lists refuses
pub both_pass : (cs ds : List (ℕ × Bool)) → Numbered cs → first_refused (cs ++ ds) ≡ 0 → (first_refused cs ≡ 0) × (first_refused ds ≡ 0)
both_pass [] ds k e = (refl, e)
both_pass ((n, true) ∷ cs) ds k e = both_pass cs ds k.1 e
both_pass ((n, false) ∷ cs) ds k e = absurd (ne_of_gt (leb→le 1 n k.0) e)

-- ---- a number that a list of checks does not answer
abbrev pub Never : ℕ → List (ℕ × Bool) → Type 0
Never n cs = first_refused cs ≡ n → ⊥

-- one that has no such number
pub never_without : (n : ℕ) → 1 ≤ n → (cs : List (ℕ × Bool)) → T (every (λ c. not (eqb c.0 n)) cs) → Never n cs
never_without n l [] t e = omega arith
never_without n l ((m, true) ∷ cs) t e = never_without n l cs (and_r (not (eqb m n)) (every (λ c. not (eqb c.0 n)) cs) t) e
never_without n l ((m, false) ∷ cs) t e = true≢false (sym (eq-eqb m n e) ∙ failed (and_l (not (eqb m n)) (every (λ c. not (eqb c.0 n)) cs) t))

-- nor do two lists one after the other
pub never_append : (n : ℕ) (cs ds : List (ℕ × Bool)) → Numbered cs → Never n cs → Never n ds → Never n (cs ++ ds)
never_append n cs ds k p q e = either_way (λ (m : ℕ). m ≡ n → ⊥) (eqb (first_refused cs) 0) (first_refused ds) (first_refused cs) (λ u. q) (λ u. p) (sym (refused_append cs ds k) ∙ e)

-- ---- the tables by kind

-- what holds of each entry of a table by kind, where that is the kind, holds of the kind's own
pub by_kind_lem {ℓ} : {A : Type ℓ} (P : A → Type 0) (kind : ℕ) {k1 k2 k3 k4 k5 k6 k7 k8 k9 k10 k11 k12 : A}
    → (kind ≡ 1 → P k1) × (kind ≡ 2 → P k2) × (kind ≡ 3 → P k3) × (kind ≡ 4 → P k4) × (kind ≡ 5 → P k5) × (kind ≡ 6 → P k6) × (kind ≡ 7 → P k7) × (kind ≡ 8 → P k8)
    × (kind ≡ 9 → P k9) × (kind ≡ 10 → P k10) × (kind ≡ 11 → P k11) × P k12 → P (by_kind kind k1 k2 k3 k4 k5 k6 k7 k8 k9 k10 k11 k12)
by_kind_lem {A = A} P kind (p1, p2, p3, p4, p5, p6, p7, p8, p9, p10, p11, p12) =
    pick 1 p1 (pick 2 p2 (pick 3 p3 (pick 4 p4 (pick 5 p5 (pick 6 p6 (pick 7 p7 (pick 8 p8 (pick 9 p9 (pick 10 p10 (pick 11 p11 p12))))))))))
  where
    pick : (n : ℕ) {x y : A} → (kind ≡ n → P x) → P y → P (cond (eqb kind n) x y)
    pick n {x} {y} p q = either_way P (eqb kind n) x y (λ e. p (eqb-true kind n e)) (λ e. q)

numbered_append : (p : ℕ → Bool) (cs ds : List (ℕ × Bool)) → T (numbered_by p cs) → T (numbered_by p ds) → T (numbered_by p (cs ++ ds))
numbered_append p [] ds t u = u
numbered_append p ((n, b) ∷ cs) ds t u = and_i (p n) (numbered_by p (cs ++ ds)) (and_l (p n) (numbered_by p cs) t) (numbered_append p cs ds (and_r (p n) (numbered_by p cs) t) u)

-- each kind's checks answer these numbers: those of where its aircraft is, ..
presence_numbered : (kind : ℕ) (at : Place) (own : Bool) → T (numbered_by need_numbers (presence_checks kind at own))
presence_numbered kind at own =
    let P : List (ℕ × Bool) → Type 0 = λ cs. T (numbered_by need_numbers cs) in
    either_way P (is_entry kind) (absent_checks at) (cond (is_tick kind) [] (head_checks kind at own)) (λ e. tt) (λ e. either_way P (is_tick kind) [] (head_checks kind at own) (λ e. tt) (λ e. tt))

-- .. and what it needs besides
pub checks_numbered : (f : Field) (r : Request) → T (numbered_by need_numbers (checks_of f r))
unfolding checks_of
checks_numbered f r =
    numbered_append need_numbers (presence_checks r.kind (place_before f r) (owned f r)) (besides f r r.kind) (presence_numbered r.kind (place_before f r) (owned f r))
    (by_kind_lem (λ (cs : List (ℕ × Bool)). T (numbered_by need_numbers cs)) r.kind
    ((λ e. tt), (λ e. tt), (λ e. tt), (λ e. tt), (λ e. tt), (λ e. tt), (λ e. tt), (λ e. tt), (λ e. tt), (λ e. tt), (λ e. tt), tt))

-- so each of them refuses
numbered_refuses : (cs : List (ℕ × Bool)) → T (numbered_by need_numbers cs) → Numbered cs
numbered_refuses [] t = tt
numbered_refuses ((n, b) ∷ cs) t = (le→leb 1 n (need_never n (and_l (need_numbers n) (numbered_by need_numbers cs) t)).not_0, numbered_refuses cs (and_r (need_numbers n) (numbered_by need_numbers cs) t))

pub presence_refuses : (kind : ℕ) (at : Place) (own : Bool) → Numbered (presence_checks kind at own)
presence_refuses kind at own = numbered_refuses (presence_checks kind at own) (presence_numbered kind at own)

pub checks_refuse : (f : Field) (r : Request) → Numbered (checks_of f r)
checks_refuse f r = numbered_refuses (checks_of f r) (checks_numbered f r)

pub input_numbered : (r : Request) → (input_number r ≡ 0) ⊎ T (input_numbers (input_number r))
unfolding input_number
input_numbered r = refused_by input_numbers ((31, desk_allowed r) ∷ (1, kind_allowed r) ∷ (2, side_allowed r) ∷ (3, number_allowed r) ∷ (4, amount_allowed r) ∷ []) tt

-- ---- the zone of the leader

-- Where a kind is neither 4 nor 5, its table has the same entry whatever stands for these two.
neither : {A : Type 0} (k : ℕ) → within 4 5 k ≡ false → (k1 k2 k3 k4 k5 k6 k7 k8 k9 k10 k11 k12 j4 j5 : A)
    → by_kind k k1 k2 k3 k4 k5 k6 k7 k8 k9 k10 k11 k12 ≡ by_kind k k1 k2 k3 j4 j5 k6 k7 k8 k9 k10 k11 k12
neither k h k1 k2 k3 k4 k5 k6 k7 k8 k9 k10 k11 k12 j4 j5 =
    simp (ne_eqb k 4 (λ e. true≢false (sym (ap (within 4 5) e) ∙ h)), ne_eqb k 5 (λ e. true≢false (sym (ap (within 4 5) e) ∙ h)))

-- Only kinds 4 and 5 ask for it: for every other kind any number may stand in its place.
module _ (k : ℕ) (f : Field) (r : Request) (ahead : ℕ) where
  pub checks_ahead : (at : Place) → checks_for k f r at (cond (within 4 5 k) ahead 0) ≡ checks_for k f r at ahead
  checks_ahead at = go (within 4 5 k) refl
    where
      go : (b : Bool) → within 4 5 k ≡ b → checks_for k f r at (cond b ahead 0) ≡ checks_for k f r at ahead
      go true h = refl
      go false h = ap (λ (l : List (ℕ × Bool)). presence_checks k at (belongs_to f at r.desk) ++ l) (neither k h _ _ _ _ _ _ _ _ _ _ _ _ _ _)

  pub effect_ahead : (z : ℕ) → effect_for k f r z (cond (within 4 5 k) ahead 0) ≡ effect_for k f r z ahead
  effect_ahead z = go (within 4 5 k) refl
    where
      go : (b : Bool) → within 4 5 k ≡ b → effect_for k f r z (cond b ahead 0) ≡ effect_for k f r z ahead
      go true h = refl
      go false h = neither k h _ _ _ _ _ _ _ _ _ _ _ _ _ _
