-- The i-th file is the stretch that its offset and its length say, by whether the binder holds it. Assumes nothing.
use mathlib.Core.Path.{◌≡◌, sym, ap, ◌∙◌}
use mathlib.Core.List.{List, []}
use mathlib.Core.Bool.{Bool, cond}
use Prim.Native.Nat.{ℕ, ◌+◌, ◌-◌, ◌≤◌, ◌<◌}
use native.Mathlib.Omega.{arith}
use lib.ListN.{length, take, drop, length-drop}
use lib.Seq.{length-take-le}
use denote.Ref.{Bor}
use borrow.Author.Tests.{lt-ltb, le-ltb}
use Rattle.practice.specs.Sections.{place_at, stretch}
use Rattle.contents.specs.Contents.{offset_at, length_at, file_count, file_offset, file_length, file_at}
use Rattle.contents.proofs.AcceptedBinder.{held}

-- a place in memory and the bytes there are the i-th file
abbrev pub IsFile : Bor (List ℕ) → ℕ → ℕ × ℕ → List ℕ → Type 0
IsFile binder i place bytes =
    (place ≡ place_at binder (file_offset binder.now i)) × ((length bytes ≡ file_length binder.now i) × (bytes ≡ file_at binder.now i))

-- a number for a file that is held, by what the test for it gave
picked : {r t : Bool} → r ≡ t → (n : ℕ) → cond t n 0 ≡ cond r n 0
picked e n = sym (ap (λ (b : Bool). cond b n 0) e)

module _ (binder : Bor (List ℕ)) (i : ℕ) where
  -- a stretch with the file's offset and length
  is_file : (offset size : ℕ) → offset ≡ file_offset binder.now i → size ≡ file_length binder.now i → offset + size ≤ length binder.now
      → IsFile binder i (place_at binder offset) (stretch binder.now offset size)
  is_file offset size o z h = (
    ap (place_at binder) o,
    (
      length-take-le size (drop offset binder.now) (simp length-drop (omega arith)) ∙ z,
      ap (λ (n : ℕ). stretch binder.now n size) o ∙ ap (stretch binder.now (file_offset binder.now i)) z,
    ),
  )

  -- the file of an entry, from where it begins to where it ends
  pub is_held : (start size : ℕ) → start ≡ offset_at binder.now i → size ≡ length_at binder.now i → i < file_count binder.now
      → IsFile binder i (place_at binder start) (take ((start + size) - start) (drop start binder.now))
  is_held start size o z h =
      let k = held binder.now i h in
      let t = lt-ltb i (file_count binder.now) h in
      let e : (start + size) - start ≡ size = omega arith in
      rw e (is_file start size (o ∙ picked t (offset_at binder.now i)) (z ∙ picked t (length_at binder.now i)) (omega arith))

  -- past the last file, the empty stretch at the first byte
  pub is_none : file_count binder.now ≤ i → IsFile binder i binder.ref_ptr []
  is_none h =
      let t = le-ltb i (file_count binder.now) h in
      let e : binder.ref_ptr.1 ≡ 0 + binder.ref_ptr.1 = omega arith in
      let s = is_file 0 0 (picked t (offset_at binder.now i)) (picked t (length_at binder.now i)) (omega arith) in
      (ap (λ (n : ℕ). (binder.ref_ptr.0, n)) e ∙ s.0, s.1)
