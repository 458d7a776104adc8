-- What the functions yield of a file agrees with what the file means as a whole. Assumes nothing.
use mathlib.Core.Path.{◌≡◌, refl, sym, ap, subst, ◌∙◌}
use mathlib.Core.List.{List, []}
use mathlib.Core.Bool.{Bool, true, false, cond}
use Prim.Native.Nat.{ℕ, ◌-◌, ◌≤◌}
use native.Mathlib.Nat.{pos_of_ne-zero}
use native.Mathlib.Omega.{arith}
use lib.Dec.{eqb}
use lib.ListN.{length, length-drop}
use borrow.Author.Tests.{eqb-true, eqb-false}
use Rattle.limits.specs.Limits.{most_requests}
use Rattle.request.specs.declared.Request.{Request}
use Rattle.practice.specs.declared.FileLegs.{FileLegs}
use Rattle.practice.specs.File.{legs_of, legs_body, requests_body, legs_allowed, file_number}
use Rattle.practice.specs.Sections.{stretch, section_bytes, legs_of_the_file}
use Rattle.practice.specs.Requests.{requests_of, reading_at, request_at}
use Rattle.practice.specs.Practice.{refused, holds, practice_of}
use Rattle.practice.proofs.AcceptedFile.{accepted, whole_of, long_enough}
use Rattle.practice.proofs.Requests.{count}

-- ---- a file that holds legs and requests
pub record Held (file : List ℕ) (legs : FileLegs) (requests : List Request) : Type 0 where
  pub number : file_number file ≡ 0
  pub long : 34 ≤ length file
  pub legs_read : legs_of_the_file file ≡ legs
  pub legs_legal : legs_allowed legs ≡ true
  pub few : length requests ≤ most_requests
  pub how_many_lem : length (requests_of (requests_body file)) ≡ length requests
  pub reading : (i : ℕ) → request_at (requests_body file) i ≡ reading_at requests i

-- ---- a file that is refused
pub record Refused (file : List ℕ) (n : ℕ) : Type 0 where
  pub number : file_number file ≡ n
  pub not_zero : 1 ≤ n
  pub empty : (kind : ℕ) → section_bytes file kind ≡ []
  pub legs_read : legs_of_the_file file ≡ legs_of []

-- what a file means, by the test of its number
meaning : (file : List ℕ) {t : Bool} → eqb (file_number file) 0 ≡ t → practice_of file ≡ cond t (holds (legs_of (legs_body file)) (requests_of (requests_body file))) (refused (file_number file))
unfolding practice_of
meaning file e = ap (λ (t : Bool). cond t (holds (legs_of (legs_body file)) (requests_of (requests_body file))) (refused (file_number file))) e

-- the sections, by the same test
section_by : (file : List ℕ) (kind : ℕ) {t : Bool} → eqb (file_number file) 0 ≡ t
    → section_bytes file kind ≡ stretch file (cond t (cond (eqb kind 1) 26 (cond (eqb kind 2) 34 0)) 0) (cond t (cond (eqb kind 1) 8 (cond (eqb kind 2) (length file - 34) 0)) 0)
section_by file kind e = ap (λ (t : Bool). stretch file (cond t (cond (eqb kind 1) 26 (cond (eqb kind 2) 34 0)) 0) (cond t (cond (eqb kind 1) 8 (cond (eqb kind 2) (length file - 34) 0)) 0)) e

module _ (file : List ℕ) where
  is_held : (legs : FileLegs) (rs : List Request) → eqb (file_number file) 0 ≡ true → legs_of (legs_body file) ≡ legs → requests_of (requests_body file) ≡ rs → Held file legs rs
  is_held legs rs t l r =
      let a = accepted file (eqb-true (file_number file) 0 t) in
      let w = whole_of file a.contents in
      let n = sym (ap length r) ∙ count (requests_body file) in
      let d = length-drop 34 file in
      record {
        number = eqb-true (file_number file) 0 t;
        long = long_enough file a.contents;
        legs_read = ap legs_of (section_by file 1 t) ∙ l;
        legs_legal = sym (ap legs_allowed l) ∙ a.legs;
        few = omega arith;
        how_many_lem = ap length r;
        reading = λ i. ap (λ (qs : List Request). reading_at qs i) r;
      }

  is_refused : eqb (file_number file) 0 ≡ false → Refused file (file_number file)
  is_refused f =
      record {
        number = refl;
        not_zero = pos_of_ne-zero (eqb-false (file_number file) 0 f);
        empty = λ kind. section_by file kind f;
        legs_read = ap legs_of (section_by file 1 f);
      }

  pub held : (legs : FileLegs) (rs : List Request) → practice_of file ≡ holds legs rs → Held file legs rs
  held legs rs e = go (eqb (file_number file) 0) refl
    where
      go : (t : Bool) → eqb (file_number file) 0 ≡ t → Held file legs rs
      go true t =
          let m : holds (legs_of (legs_body file)) (requests_of (requests_body file)) ≡ holds legs rs = sym (meaning file t) ∙ e in
          is_held legs rs t (cc) (cc)
      go false f =
          let m : refused (file_number file) ≡ holds legs rs = sym (meaning file f) ∙ e in
          let z : ◌≡◌ {A = ℕ} 0 1 = cc in
          absurd (omega arith)

  pub refusal : (n : ℕ) → practice_of file ≡ refused n → Refused file n
  refusal n e = go (eqb (file_number file) 0) refl
    where
      go : (t : Bool) → eqb (file_number file) 0 ≡ t → Refused file n
      go true t =
          let m : holds (legs_of (legs_body file)) (requests_of (requests_body file)) ≡ refused n = sym (meaning file t) ∙ e in
          let z : ◌≡◌ {A = ℕ} 0 1 = cc in
          absurd (omega arith)
      go false f =
          let m : refused (file_number file) ≡ refused n = sym (meaning file f) ∙ e in
          subst (Refused file) (cc) (is_refused f)
