-- The files of a binder back to back: a turn of the loop that tests them, and what is known of those that pass. Assumes nothing.
use mathlib.Core.Path.{◌≡◌, sym, ap, subst, ◌∙◌}
use mathlib.Core.List.{List}
use mathlib.Core.Bool.{Bool, true, ◌&&◌}
use Prim.Native.Nat.{ℕ, zero, suc, ◌+◌, ◌-◌, ◌≤◌, ◌<◌}
use native.Mathlib.Numerals.{add-one}
use native.Mathlib.Omega.{arith}
use lib.Dec.{eqb}
use lib.ListN.{length}
use borrow.Author.Tests.{eq-eqb, eqb-true}
use Rattle.request.proofs.InputTests.{both_left, both_right}
use Rattle.contents.specs.Contents.{entry_count, entry_place, offset_at, length_at, back_to_back, files_placed}

module _ (bytes : List ℕ) where
  -- the test of the files from the i-th on is that of the i-th and that of the rest
  next : (end i count : ℕ) → i < count
      → back_to_back bytes end i (count - i) ≡ (eqb (offset_at bytes i) end && back_to_back bytes (end + length_at bytes i) (i + 1) (count - (i + 1)))
  next end i count h =
      let e : count - i ≡ suc (count - (i + 1)) = omega arith in
      ap (back_to_back bytes end i) e
      ∙ ap (λ (j : ℕ). eqb (offset_at bytes i) end && back_to_back bytes (end + length_at bytes i) j (count - (i + 1))) (sym (add-one i))

  -- the loop that has passed the files before the i-th, the last of which ends at `end`
  pub record FilesPassed (count end i : ℕ) : Type 0 where
    pub below : i ≤ count
    pub rest : back_to_back bytes end i (count - i) ≡ files_placed bytes

  pub passed_none : (count : ℕ) → count ≡ entry_count bytes → FilesPassed count (entry_place count) 0
  unfolding files_placed
  passed_none count e =
      let z : count - 0 ≡ count = omega arith in
      record { below = omega arith; rest = ap (back_to_back bytes (entry_place count) 0) z ∙ ap (λ (n : ℕ). back_to_back bytes (entry_place n) 0 n) e }

  module _ {count end i : ℕ} (p : FilesPassed count end i) where
    -- a file that begins there
    pub passed_more : (size : ℕ) → i < count → offset_at bytes i ≡ end → size ≡ length_at bytes i → FilesPassed count (end + size) (i + 1)
    passed_more size h o z =
        let after : ℕ → Bool = λ n. back_to_back bytes (end + n) (i + 1) (count - (i + 1)) in
        let here = next end i count h ∙ ap (λ (t : Bool). t && after (length_at bytes i)) (eq-eqb (offset_at bytes i) end o) in
        record { below = omega arith; rest = ap after z ∙ sym here ∙ p.rest }

  -- files back to back end within the binder
  pub start_within : (n at i : ℕ) → back_to_back bytes at i n ≡ true → at ≤ length bytes
  start_within zero at i e = let h = eqb-true at (length bytes) e in omega arith
  start_within (suc n) at i e =
      let h = start_within n (at + length_at bytes i) (suc i) (both_right (eqb (offset_at bytes i) at) _ e) in
      omega arith

  pub file_within : (n at i k : ℕ) → back_to_back bytes at i n ≡ true → k < n → offset_at bytes (k + i) + length_at bytes (k + i) ≤ length bytes
  file_within zero at i k e h = absurd (omega arith)
  file_within (suc n) at i zero e h =
      let s = eqb-true (offset_at bytes i) at (both_left (eqb (offset_at bytes i) at) _ e) in
      let w = start_within n (at + length_at bytes i) (suc i) (both_right (eqb (offset_at bytes i) at) _ e) in
      let z : 0 + i ≡ i = omega arith in
      rw z (omega arith)
  file_within (suc n) at i (suc k) e h =
      let w = file_within n (at + length_at bytes i) (suc i) k (both_right (eqb (offset_at bytes i) at) _ e) (omega arith) in
      let z : k + suc i ≡ suc k + i = omega arith in
      subst (λ (j : ℕ). offset_at bytes j + length_at bytes j ≤ length bytes) z w
