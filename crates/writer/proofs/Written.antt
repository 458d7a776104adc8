-- What is written, and how it is read (02, 2.11). Assumes nothing.
use mathlib.Core.Path.{◌≡◌, ap, ◌∙◌}
use mathlib.Core.List.{List, ◌++◌}
use mathlib.Core.Bool.{Bool, cond}
use Prim.Native.Nat.{ℕ}
use lib.ListN.{length, take, drop}
use lib.Seq.{take-append_seam}
use borrow.Author.Tests.{eq-eqb, ne_eqb}
use Rattle.practice.specs.declared.FileLegs.{FileLegs}
use Rattle.practice.specs.Requests.{requests_of}
use Rattle.practice.specs.Practice.{holds, practice_of}
use Rattle.practice.proofs.FileReadBack.{file_read_back, from_bytes}
use Rattle.writer.specs.Writer.{file_of, writing_number, buffer_after}
use Rattle.writer.proofs.WritingNumbers.{allowed}

module _ (legs : FileLegs) (bytes buffer : List ℕ) where
  -- where the number is 0, the buffer starts with the file, and goes on as lent
  pub written : writing_number legs bytes (length buffer) ≡ 0 → buffer_after legs bytes buffer ≡ file_of legs bytes ++ drop (length (file_of legs bytes)) buffer
  written e = ap (λ (t : Bool). cond t (file_of legs bytes ++ drop (length (file_of legs bytes)) buffer) buffer) (eq-eqb (writing_number legs bytes (length buffer)) 0 e)

  -- any other number leaves every byte as lent
  pub as_lent : (writing_number legs bytes (length buffer) ≡ 0 → ⊥) → buffer_after legs bytes buffer ≡ buffer
  as_lent z = ap (λ (t : Bool). cond t (file_of legs bytes ++ drop (length (file_of legs bytes)) buffer) buffer) (ne_eqb (writing_number legs bytes (length buffer)) 0 z)

  -- the reader takes what is written as exactly those legs and requests
  pub written_read : writing_number legs bytes (length buffer) ≡ 0 → practice_of (take (length (file_of legs bytes)) (buffer_after legs bytes buffer)) ≡ holds legs (requests_of bytes)
  written_read e =
      let a = allowed legs bytes (length buffer) e in
      ap practice_of (ap (take (length (file_of legs bytes))) (written e) ∙ take-append_seam (file_of legs bytes) (drop (length (file_of legs bytes)) buffer))
      ∙ file_read_back legs (requests_of bytes) a.few a.legal
      ∙ ap (holds legs) (from_bytes bytes)
