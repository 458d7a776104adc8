-- The reader takes one file alone as given legs and requests: a file that holds them is the encoded one. Assumes nothing.
use mathlib.Core.Path.{◌≡◌, sym, ap, ◌∙◌}
use mathlib.Core.List.{List, ◌∷◌, ◌++◌}
use mathlib.Core.Bool.{Bool, true, cond, ◌&&◌}
use Prim.Native.Nat.{ℕ, ◌+◌, ◌*◌, ◌/◌, ◌%◌, ◌≤◌, ◌<◌}
use native.Mathlib.Omega.{arith}
use lib.Dec.{eqb, leb}
use lib.ListN.{length, get_or, take, drop, take-append-drop, length-drop}
use lib.Seq.{get_or-drop, get_or-take}
use borrow.Author.Tests.{eqb-true, eq-eqb}
use Rattle.limits.specs.Limits.{longest_body, longest_file}
use Rattle.request.specs.declared.Request.{Request}
use Rattle.request.specs.Input.{word, within}
use Rattle.request.proofs.InputTests.{both_left, both_right}
use Rattle.practice.specs.declared.FileLegs.{FileLegs}
use Rattle.practice.specs.File.{number16, number32, letters, are_the_same_bytes, opens, entry_is, body_length, contents_allowed, legs_of, legs_body, requests_body, file_number}
use Rattle.practice.specs.Requests.{requests_of}
use Rattle.practice.specs.Practice.{refused, holds, practice_of, bytes16, bytes32, entry_bytes, leg_bytes, request_bytes, encoded}
use Rattle.practice.proofs.SameBytes.{same_true}
use Rattle.practice.proofs.AcceptedFile.{accepted, whole_of, long_enough}
use Rattle.practice.proofs.Requests.{count}
use Rattle.practice.proofs.Meaning.{held}
use Rattle.text.proofs.Texts.{from_here}
use Rattle.writer.proofs.RequestBytes.{AreBytes, low_back, high_back, requests_bytes}

module _ (file : List ℕ) (known : AreBytes file) where
  -- ---- numbers and entries, from a place of the file on
  two_at : (at : ℕ) → at + 2 ≤ length file → drop at file ≡ bytes16 (number16 file at) ++ drop (at + 2) file
  two_at at h =
      let a = get_or file at 0 in
      let b = get_or file (at + 1) 0 in
      let past : at + 1 + 1 ≡ at + 2 = omega arith in
      from_here file at (omega arith)
      ∙ ap (λ (l : List ℕ). a ∷ l) (from_here file (at + 1) (omega arith))
      ∙ (λ i. sym (low_back a b (known at)) i ∷ sym (high_back a b (known at)) i ∷ drop (past i) file)

  word_small : (at : ℕ) → number16 file at < 65536
  word_small at = let a = known at in let b = known (at + 1) in omega arith

  four_at : (at : ℕ) → at + 4 ≤ length file → drop at file ≡ bytes32 (number32 file at) ++ drop (at + 4) file
  four_at at h =
      let low = number16 file at in
      let high = number16 file (at + 2) in
      let small = word_small at in
      let l : low ≡ number32 file at % 65536 = omega arith in
      let u : high ≡ number32 file at / 65536 = omega arith in
      let past : at + 2 + 2 ≡ at + 4 = omega arith in
      two_at at (omega arith)
      ∙ ap (λ (r : List ℕ). bytes16 low ++ r) (two_at (at + 2) (omega arith))
      ∙ (λ i. bytes16 (l i) ++ bytes16 (u i) ++ drop (past i) file)

  entry_at : (at kind offset size : ℕ) → at + 10 ≤ length file → entry_is file at kind offset size ≡ true → drop at file ≡ entry_bytes kind offset size ++ drop (at + 10) file
  entry_at at kind offset size h t =
      let k = eqb (number16 file at) kind in
      let o = eqb (number32 file (at + 2)) offset in
      let s = eqb (number32 file (at + 6)) size in
      let ko = both_left (k && o) s t in
      let ke = eqb-true (number16 file at) kind (both_left k o ko) in
      let oe = eqb-true (number32 file (at + 2)) offset (both_right k o ko) in
      let se = eqb-true (number32 file (at + 6)) size (both_right (k && o) s t) in
      let six : at + 2 + 4 ≡ at + 6 = omega arith in
      let ten : at + 6 + 4 ≡ at + 10 = omega arith in
      let last : drop (at + 6) file ≡ bytes32 size ++ drop (at + 10) file = four_at (at + 6) (omega arith) ∙ (λ i. bytes32 (se i) ++ drop (ten i) file) in
      let middle : drop (at + 2) file ≡ bytes32 offset ++ drop (at + 6) file = four_at (at + 2) (omega arith) ∙ (λ i. bytes32 (oe i) ++ drop (six i) file) in
      two_at at (omega arith) ∙ (λ i. bytes16 (ke i) ++ middle i) ∙ ap (λ (r : List ℕ). bytes16 kind ++ bytes32 offset ++ r) last

  -- ---- the bodies
  in_body : (j : ℕ) → j < 8 → get_or (legs_body file) j 0 ≡ get_or file (26 + j) 0
  in_body j h = get_or-take 8 (drop 26 file) j 0 h ∙ get_or-drop 26 file j 0

  leg_at : (j : ℕ) → j + 2 ≤ 8 → number16 file (26 + j) ≡ number16 (legs_body file) j
  leg_at j h =
      let next : 26 + j + 1 ≡ 26 + (j + 1) = omega arith in
      λ i. word (sym (in_body j (omega arith)) i) ((ap (λ (k : ℕ). get_or file k 0) next ∙ sym (in_body (j + 1) (omega arith))) i)

  legs_at : 34 ≤ length file → drop 26 file ≡ leg_bytes (legs_of (legs_body file)) ++ drop 34 file
  legs_at h =
      two_at 26 (omega arith)
      ∙ (λ i. bytes16 (leg_at 0 (omega arith) i) ++ two_at 28 (omega arith) i)
      ∙ (λ i. bytes16 (number16 (legs_body file) 0) ++ bytes16 (leg_at 2 (omega arith) i) ++ two_at 30 (omega arith) i)
      ∙ (λ i. bytes16 (number16 (legs_body file) 0) ++ bytes16 (number16 (legs_body file) 2) ++ bytes16 (leg_at 4 (omega arith) i) ++ two_at 32 (omega arith) i)
      ∙ (λ i. bytes16 (number16 (legs_body file) 0) ++ bytes16 (number16 (legs_body file) 2) ++ bytes16 (number16 (legs_body file) 4) ++ bytes16 (leg_at 6 (omega arith) i) ++ drop 34 file)

  body_known : AreBytes (requests_body file)
  body_known j = let e = get_or-drop 34 file j 0 in let k = known (34 + j) in omega arith

  -- ---- the whole file, where it is accepted
  abbrev legs : FileLegs
  legs = legs_of (legs_body file)

  abbrev requests : List Request
  requests = requests_of (requests_body file)

  whole_file : file_number file ≡ 0 → file ≡ encoded legs requests
  unfolding encoded opens contents_allowed
  whole_file z =
      let a = accepted file z in
      let w = whole_of file a.contents in
      let long = long_enough file a.contents in
      let d = length-drop 34 file in
      let n = count (requests_body file) in
      let sixes : length (requests_body file) % 6 ≡ 0 = omega arith in
      let size : body_length file ≡ 6 * length requests = omega arith in
      let two = eqb (number16 file 4) 2 in
      let first = entry_is file 6 1 26 8 in
      let second = entry_is file 16 2 34 (body_length file) in
      let s = eqb (body_length file % 6) 0 in
      let b = leb (body_length file) longest_body in
      let l = eqb (34 + body_length file) (length file) in
      let entries = both_left (two && first && second) s (both_left (two && first && second && s) b (both_left (two && first && second && s && b) l a.contents)) in
      let counted = both_left (two && first) second entries in
      let bodies : drop 26 file ≡ leg_bytes legs ++ request_bytes requests = legs_at long ∙ ap (λ (r : List ℕ). leg_bytes legs ++ r) (sym (requests_bytes (requests_body file) body_known sixes)) in
      let from16 : drop 16 file ≡ entry_bytes 2 34 (6 * length requests) ++ leg_bytes legs ++ request_bytes requests =
      entry_at 16 2 34 (body_length file) (omega arith) (both_right (two && first) second entries) ∙ (λ i. entry_bytes 2 34 (size i) ++ bodies i) in
      let from6 : drop 6 file ≡ entry_bytes 1 26 8 ++ entry_bytes 2 34 (6 * length requests) ++ leg_bytes legs ++ request_bytes requests =
      entry_at 6 1 26 8 (omega arith) (both_right two first counted) ∙ ap (λ (r : List ℕ). entry_bytes 1 26 8 ++ r) from16 in
      let from4 : drop 4 file ≡ bytes16 2 ++ entry_bytes 1 26 8 ++ entry_bytes 2 34 (6 * length requests) ++ leg_bytes legs ++ request_bytes requests =
      two_at 4 (omega arith) ∙ (λ i. bytes16 (eqb-true (number16 file 4) 2 (both_left two first counted) i) ++ from6 i) in
      sym (take-append-drop 4 file)
      ∙ (λ i. same_true (take 4 file) letters (both_right (within 26 longest_file (length file)) (are_the_same_bytes (take 4 file) letters) a.opening) i ++ from4 i)

  -- what it is read as
  pub read_as : file_number file ≡ 0 → practice_of file ≡ holds legs requests
  unfolding practice_of
  read_as z = ap (λ (t : Bool). cond t (holds legs requests) (refused (file_number file))) (eq-eqb (file_number file) 0 z)

-- a file that the reader takes as legs and requests is the encoded file of those
pub only_file : (file : List ℕ) → AreBytes file → (legs : FileLegs) (rs : List Request) → practice_of file ≡ holds legs rs → file ≡ encoded legs rs
only_file file known legs rs e =
    let z = (held file legs rs e).number in
    let m : holds (legs_of (legs_body file)) (requests_of (requests_body file)) ≡ holds legs rs = sym (read_as file known z) ∙ e in
    let l : legs_of (legs_body file) ≡ legs = cc in
    let r : requests_of (requests_body file) ≡ rs = cc in
    whole_file file known z ∙ (λ i. encoded (l i) (r i))

-- two files that are read as the same legs and requests are the same bytes
pub same_bytes : (a b : List ℕ) → AreBytes a → AreBytes b → (legs : FileLegs) (rs : List Request) → practice_of a ≡ holds legs rs → practice_of a ≡ practice_of b → a ≡ b
same_bytes a b ka kb legs rs e are_the_same_bytes = only_file a ka legs rs e ∙ sym (only_file b kb legs rs (sym are_the_same_bytes ∙ e))
