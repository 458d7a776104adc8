-- A call with numbers that are handed on in 8 or 16 bits is replied to, and leaves, as the call with the numbers as C handed them over. Assumes nothing.
use mathlib.Core.Path.{◌≡◌, refl, sym, ap, ◌∙◌}
use mathlib.Core.Logic.{◌⊎◌, inl, inr}
use mathlib.Core.Bool.{Bool, true, false, cond}
use mathlib.Core.List.{List, [], ◌∷◌}
use Prim.Native.Nat.{ℕ, ◌≤◌}
use native.Mathlib.Omega.{arith}
use lib.Dec.{leb, eqb, ltb, lit<, lit≤, leb→le}
use lib.Ieee.Fits.{and_r}
use Rattle.limits.specs.Limits.{desks, fastest}
use Rattle.field.proofs.TestLaws.{decided, pass, if_true, if_false}
use Rattle.request.specs.Input.{within, first_refused}
use Rattle.practice.specs.declared.FileLegs.{FileLegs}
use Rattle.practice.specs.File.{legs_allowed}
use Rattle.rules.specs.Step.{number_and_zeros}
use Rattle.history.specs.declared.History.{History}
use Rattle.history.specs.History.{within_bounds_history, number_back, field_given_back, step_back}
use Rattle.dialect_field.specs.Coming.{coming_number, not_built, field_of_list}
use Rattle.spaced.specs.Spaced.{spaced_of}
use Rattle.writer.specs.Writer.{writing_number}
use Rattle.host.specs.Calls.{start, start_number, spacings_of, bytes_left}
use Rattle.host.proofs.CallsOnState.{start_refused}
use Rattle.baguymo.specs.Widths.{in8, in16}
use Rattle.baguymo.proofs.Narrowed.{within_min, narrow_legs, legs_as_allowed, legs_same}

-- a number that its rule allows is handed on as it is
pub part_same : (high n : ℕ) → high ≤ 65535 → within 1 high n ≡ true → in16 n ≡ n
part_same high n h e = let k = leb→le n high (and_r (leb 1 n) (leb n high) (pass e)) in omega arith

-- ---- the start

pub start_number_lem : (legs : FileLegs) → start_number (narrow_legs legs) ≡ start_number legs
start_number_lem legs = ap (λ (t : Bool). cond t 0 7) (legs_as_allowed legs)

pub start_left : (state : List ℕ) (legs : FileLegs) → bytes_left state (start (narrow_legs legs)) ≡ bytes_left state (start legs)
start_left state legs = go (decided (legs_allowed legs))
  where
    go : (legs_allowed legs ≡ true) ⊎ (legs_allowed legs ≡ false) → bytes_left state (start (narrow_legs legs)) ≡ bytes_left state (start legs)
    go (inl e) = ap (λ (l : FileLegs). bytes_left state (start l)) (legs_same legs e)
    go (inr e) = sym (start_refused state (narrow_legs legs) (legs_as_allowed legs ∙ e)).1 ∙ (start_refused state legs e).1

-- ---- a step back

pub back_same : (h : History) (desk : ℕ) → step_back h (in8 desk) ≡ step_back h desk
unfolding step_back number_back
back_same h desk =
    let number : Bool → ℕ = λ t. first_refused ((31, t) ∷ (10, within_bounds_history h) ∷ (27, ltb 0 h.count) ∷ []) in
    ap
    (λ (t : Bool). cond (eqb (number t) 0) (record { answer = number_and_zeros 0; after = field_given_back h }) (record { answer = number_and_zeros (number t); after = h }))
    (within_min 1 desks 255 desk (lit< tt))

-- ---- the spacing

pub spacings_same : (h : History) (spacing : ℕ) → spacings_of h (in16 spacing) ≡ spacings_of h spacing
unfolding spacings_of
spacings_same h spacing = go (decided (within 1 512 spacing))
  where
    go : (within 1 512 spacing ≡ true) ⊎ (within 1 512 spacing ≡ false) → spacings_of h (in16 spacing) ≡ spacings_of h spacing
    go (inl e) = ap (spacings_of h) (part_same 512 spacing (lit≤ tt) e)
    go (inr e) = if_false _ _ (within_min 1 512 65535 spacing (lit< tt) ∙ e) ∙ sym (if_false _ _ e)

pub spaced_same : (file : List ℕ) (spacing : ℕ) → spaced_of file (in16 spacing) ≡ spaced_of file spacing
unfolding spaced_of
spaced_same file spacing = go (decided (within 1 512 spacing))
  where
    go : (within 1 512 spacing ≡ true) ⊎ (within 1 512 spacing ≡ false) → spaced_of file (in16 spacing) ≡ spaced_of file spacing
    go (inl e) = ap (spaced_of file) (part_same 512 spacing (lit≤ tt) e)
    go (inr e) = if_false _ _ (within_min 1 512 65535 spacing (lit< tt) ∙ e) ∙ sym (if_false _ _ e)

-- ---- the field of a list

-- a list that is refused by its legs or its speed
refused_built : (legs : FileLegs) (speed : ℕ) (bytes : List ℕ) (n : ℕ) → coming_number legs speed bytes ≡ n → eqb n 0 ≡ false → field_of_list legs speed bytes ≡ not_built n
unfolding field_of_list
refused_built legs speed bytes n e z = if_false _ _ (ap (λ (k : ℕ). eqb k 0) e ∙ z) ∙ ap not_built e

by_legs : (legs : FileLegs) (speed : ℕ) (bytes : List ℕ) → legs_allowed legs ≡ false → coming_number legs speed bytes ≡ 7
unfolding coming_number
by_legs legs speed bytes e = if_false _ _ e

by_speed : (legs : FileLegs) (speed : ℕ) (bytes : List ℕ) → legs_allowed legs ≡ true → within 1 fastest speed ≡ false → coming_number legs speed bytes ≡ 4
unfolding coming_number
by_speed legs speed bytes e f = if_true _ _ e ∙ if_false _ _ f

pub list_same : (legs : FileLegs) (speed : ℕ) (bytes : List ℕ) → field_of_list (narrow_legs legs) (in16 speed) bytes ≡ field_of_list legs speed bytes
list_same legs speed bytes = go (decided (legs_allowed legs)) (decided (within 1 fastest speed))
  where
    go : (legs_allowed legs ≡ true) ⊎ (legs_allowed legs ≡ false) → (within 1 fastest speed ≡ true) ⊎ (within 1 fastest speed ≡ false)
        → field_of_list (narrow_legs legs) (in16 speed) bytes ≡ field_of_list legs speed bytes
    go (inl e) (inl f) =
        ap (λ (l : FileLegs). field_of_list l (in16 speed) bytes) (legs_same legs e) ∙ ap (λ (s : ℕ). field_of_list legs s bytes) (part_same fastest speed (lit≤ tt) f)
    go (inl e) (inr f) =
        refused_built (narrow_legs legs) (in16 speed) bytes 4 (by_speed _ _ bytes (legs_as_allowed legs ∙ e) (within_min 1 fastest 65535 speed (lit< tt) ∙ f)) refl
        ∙ sym (refused_built legs speed bytes 4 (by_speed legs speed bytes e f) refl)
    go (inr e) f =
        refused_built (narrow_legs legs) (in16 speed) bytes 7 (by_legs _ _ bytes (legs_as_allowed legs ∙ e)) refl
        ∙ sym (refused_built legs speed bytes 7 (by_legs legs speed bytes e) refl)

-- ---- a file that is written

refused_by_legs : (legs : FileLegs) (bytes : List ℕ) (room : ℕ) → legs_allowed legs ≡ false → writing_number legs bytes room ≡ 7
unfolding writing_number
refused_by_legs legs bytes room e = if_false _ _ e

-- what is said of a writing, of its number and of the file: the same of both legs
pub written_same {ℓ} : {A : Type ℓ} (said : ℕ → FileLegs → A) (alike : (l m : FileLegs) → said 7 l ≡ said 7 m) (legs : FileLegs) (bytes : List ℕ) (room : ℕ)
    → said (writing_number (narrow_legs legs) bytes room) (narrow_legs legs) ≡ said (writing_number legs bytes room) legs
written_same {A = A} said alike legs bytes room = go (decided (legs_allowed legs))
  where
    go : (legs_allowed legs ≡ true) ⊎ (legs_allowed legs ≡ false) → said (writing_number (narrow_legs legs) bytes room) (narrow_legs legs) ≡ said (writing_number legs bytes room) legs
    go (inl e) = ap (λ (l : FileLegs). said (writing_number l bytes room) l) (legs_same legs e)
    go (inr e) =
        ap (λ (n : ℕ). said n (narrow_legs legs)) (refused_by_legs (narrow_legs legs) bytes room (legs_as_allowed legs ∙ e))
        ∙ alike (narrow_legs legs) legs
        ∙ sym (ap (λ (n : ℕ). said n legs) (refused_by_legs legs bytes room e))
