-- Every answer of the files that play is counted exactly once, and so is every file. Assumes nothing.
use mathlib.Core.Path.{◌≡◌, refl, sym, ap, ◌∙◌, subst}
use mathlib.Core.Logic.{inl, inr}
use mathlib.Core.Bool.{Bool, true, false, cond, ◌&&◌, ◌||◌}
use mathlib.Core.List.{List, [], ◌∷◌, ◌++◌, map}
use Prim.Native.Nat.{ℕ, ◌+◌}
use native.Mathlib.Omega.{arith}
use lib.Dec.{T, leb, eqb, leb→le}
use lib.ListN.{length, length-append}
use lib.Ieee.Fits.{and_l, and_r}
use borrow.Author.Tests.{eqb-true}
use Rattle.request.specs.Input.{from_desk, within, first_refused, input_number}
use Rattle.request.specs.declared.Request.{Request}
use Rattle.request.proofs.InputTests.{both_left, both_right}
use Rattle.practice.specs.File.{opens, contents_allowed, legs_of, legs_body, requests_body, legs_allowed, file_number}
use Rattle.practice.specs.Practice.{Practice, refused, holds, practice_of}
use Rattle.practice.specs.Requests.{requests_of}
use Rattle.field.specs.declared.Field.{Field}
use Rattle.field.specs.Airspace.{empty_field}
use Rattle.field.specs.Lists.{Each}
use Rattle.field.proofs.TestLaws.{pass, passed, decided, either_way, every_from, same}
use Rattle.questions.specs.Counts.{total}
use Rattle.bounds.specs.Bounds.{within_bounds}
use Rattle.rules.specs.declared.Answer.{Answer}
use Rattle.rules.specs.Step.{checks_of, effect_of, number_of, step_of}
use Rattle.rules.specs.Play.{played}
use Rattle.rules.proofs.Checks.{need_numbers, numbered_by, checks_numbered, input_numbered}
use Rattle.owners.specs.Owners.{AllAskedBy, NoDeskRefuses}
use Rattle.owners.proofs.OneDesk.{one_desk}
use Rattle.practice.proofs.FileReadBack.{from_bytes}
use Rattle.rules.proofs.StepLaws.{number_is}
use Rattle.line.proofs.CountedOnLine.{total_add, total_none}
use Rattle.playing.specs.Playing.{legs_in_miles, answers_from, requests_of_practice, answers_of_practice, requests_of_file, answers_of}
use Rattle.playing.proofs.Playing.{length_answers}
use Rattle.binder.specs.Counting.{requests_in, answers_in, row_of, rows, columns, is_answered, answered, table_sum, files_numbered, listed, InOnePlace, CountedOnce}

-- ---- sums over the table

-- equal numbers add up to equal sums
total_each : (g h : ℕ → ℕ) (ns : List ℕ) → ((n : ℕ) → g n ≡ h n) → total g ns ≡ total h ns
total_each g h [] e = refl
total_each g h (n ∷ ns) e = let here = e n in let rest = total_each g h ns e in omega arith

-- a number for each row and column, added up
abbrev table_of : (ℕ → ℕ → ℕ) → ℕ
table_of g = total (λ row. total (g row) columns) rows

table_add : (g h : ℕ → ℕ → ℕ) → table_of (λ row number. g row number + h row number) ≡ table_of g + table_of h
table_add g h =
    total_each (λ row. total (λ number. g row number + h row number) columns) (λ row. total (g row) columns + total (h row) columns) rows (λ row. total_add (g row) (h row) columns)
    ∙ total_add (λ row. total (g row) columns) (λ row. total (h row) columns) rows

-- in a row that is the one or not
in_row : (b : Bool) (m : ℕ) (ns : List ℕ) → total (λ n. cond (b && eqb m n) 1 0) ns ≡ cond b (listed ns m) 0
in_row true m ns = refl
in_row false m ns = total_none ns

-- a row and a column that are listed once have one entry
one_entry : (w m : ℕ) → listed rows w ≡ 1 → listed columns m ≡ 1 → table_of (λ row number. cond (eqb w row && eqb m number) 1 0) ≡ 1
one_entry w m r c =
    total_each (λ row. total (λ number. cond (eqb w row && eqb m number) 1 0) columns) (λ row. cond (eqb w row) 1 0) rows
    (λ row. in_row (eqb w row) m columns ∙ ap (λ (k : ℕ). cond (eqb w row) k 0) c)
    ∙ r

-- ---- each kind has one row, and each answer one column
row_once : (kind : ℕ) → listed rows (row_of kind) ≡ 1
unfolding rows
row_once kind =
    either_way (λ (w : ℕ). listed rows w ≡ 1) (within 1 12 kind) kind 0
    (λ e. let t = pass e in
    eqb-true (listed rows kind) 1 (passed (every_from (λ w. eqb (listed rows w) 1) 1 12 tt kind
    (leb→le 1 kind (and_l (leb 1 kind) (leb kind 12) t)) (let h = leb→le kind 12 (and_r (leb 1 kind) (leb kind 12) t) in omega arith))))
    (λ e. refl)

abbrev is_column : ℕ → Bool
is_column m = eqb (listed columns m) 1

-- one of the numbers from low to high, and not one more that the test lets through
not_more : (low high more n : ℕ) → T (within low high n || eqb n more) → (n ≡ more → ⊥) → T (within low high n)
not_more low high more n t h =
    elim (decided (within low high n)) [ inl e ↦ pass e | inr e ↦ absurd (h (eqb-true n more (passed (subst (λ (b : Bool). T (b || eqb n more)) e t)))) ]

-- the checks of a kind and refusal 25 after them, where 26 is not the number
check_column : (cs : List (ℕ × Bool)) (b : Bool) → T (numbered_by need_numbers cs) → (first_refused (cs ++ ((25, b) ∷ [])) ≡ 26 → ⊥) → T (is_column (first_refused (cs ++ ((25, b) ∷ []))))
unfolding columns
check_column [] true t h = tt
check_column [] false t h = tt
check_column ((n, true) ∷ cs) b t h = check_column cs b (and_r (need_numbers n) (numbered_by need_numbers cs) t) h
check_column ((n, false) ∷ cs) b t h =
    let u = not_more 11 24 26 n (and_l (need_numbers n) (numbered_by need_numbers cs) t) h in
    every_from is_column 11 14 tt n (leb→le 11 n (and_l (leb 11 n) (leb n 24) u)) (let k = leb→le n 24 (and_r (leb 11 n) (leb n 24) u) in omega arith)

-- the input rules, where 31 is not the number
input_column : (r : Request) → (input_number r ≡ 31 → ⊥) → T (is_column (input_number r))
unfolding columns
input_column r h =
    elim (input_numbered r) [
      | inl z ↦ subst (λ (n : ℕ). T (is_column n)) (sym z) tt
      | inr t ↦
          let n = input_number r in
          let u = not_more 1 4 31 n t h in
          every_from is_column 1 4 tt n (leb→le 1 n (and_l (leb 1 n) (leb n 4) u)) (let k = leb→le n 4 (and_r (leb 1 n) (leb n 4) u) in omega arith)
    ]

number_column : (f : Field) (r : Request) → (number_of f r ≡ 26 → ⊥) → (number_of f r ≡ 31 → ⊥) → T (is_column (number_of f r))
unfolding number_of columns
number_column f r =
    let P : ℕ → Type 0 = λ n. (n ≡ 26 → ⊥) → (n ≡ 31 → ⊥) → T (is_column n) in
    let later = first_refused (checks_of f r ++ ((25, within_bounds (effect_of f r)) ∷ [])) in
    either_way P (eqb (input_number r) 0) (cond (within_bounds f) later 10) (input_number r)
    (λ e. either_way P (within_bounds f) later 10 (λ e h k. check_column (checks_of f r) (within_bounds (effect_of f r)) (checks_numbered f r) h) (λ e h k. tt))
    (λ e h k. input_column r k)

-- ---- lists of answers

-- each answer's number heads a column
abbrev pub Headed : List (Request × Answer) → Type 0
Headed [] = Unit
Headed (p ∷ ps) = (listed columns p.1.number ≡ 1) × Headed ps

headed_append : (ps qs : List (Request × Answer)) → Headed ps → Headed qs → Headed (ps ++ qs)
headed_append [] qs h k = k
headed_append (p ∷ ps) qs h k = (h.0, headed_append ps qs h.1 k)

-- where no answer refuses by a desk (02, 2.10)
headed_played : (f : Field) (rs : List Request) → Each NoDeskRefuses (played f rs) → Headed (played f rs)
headed_played f [] h = tt
headed_played f (r ∷ rs) h =
    let column = number_column f r (λ e. h.0.not_26 (number_is f r ∙ e)) (λ e. h.0.not_31 (number_is f r ∙ e)) in
    (ap (listed columns) (number_is f r) ∙ eqb-true (listed columns (number_of f r)) 1 (passed column), headed_played (step_of f r).field rs h.1)

-- so each answer adds 1 to the table
sum_more : (p : Request × Answer) (ps : List (Request × Answer)) → listed columns p.1.number ≡ 1 → table_sum (p ∷ ps) ≡ 1 + table_sum ps
unfolding table_sum
sum_more p ps h =
    table_add (λ row number. cond (is_answered row number p) 1 0) (λ row number. answered row number ps)
    ∙ ap (λ (n : ℕ). n + table_of (λ row number. answered row number ps)) (one_entry (row_of p.0.kind) p.1.number (row_once p.0.kind) h)

sum_none : table_sum [] ≡ 0
unfolding table_sum rows columns
sum_none = refl

table_sum_lem : (ps : List (Request × Answer)) → Headed ps → table_sum ps ≡ length ps
table_sum_lem [] h = sum_none
table_sum_lem (p ∷ ps) h = let more = sum_more p ps h.0 in let rest = table_sum_lem ps h.1 in omega arith

-- ---- files
all_of_1 : (rs : List Request) → AllAskedBy 1 (map (from_desk 1) rs)
all_of_1 [] = tt
all_of_1 (r ∷ rs) = (refl, all_of_1 rs)

pub headed_file : (file : List ℕ) → Headed (answers_of file)
unfolding answers_of answers_from practice_of
headed_file file =
    let legs = legs_of (legs_body file) in
    let bytes = requests_body file in
    let asked = subst (AllAskedBy 1) (from_bytes bytes) (all_of_1 (requests_of bytes)) in
    either_way (λ (p : Practice). Headed (answers_of_practice p)) (eqb (file_number file) 0) (holds legs (requests_of bytes)) (refused (file_number file))
    (λ e. headed_played (empty_field (legs_in_miles legs)) (requests_of bytes) (one_desk (legs_in_miles legs) (requests_of bytes) asked))
    (λ e. tt)

headed_in : (files : List (List ℕ)) → Headed (answers_in files)
headed_in [] = tt
headed_in (file ∷ files) = headed_append (answers_of file) (answers_in files) (headed_file file) (headed_in files)

-- one answer for each request
length_file : (file : List ℕ) → length (answers_of file) ≡ length (requests_of_file file)
unfolding answers_of requests_of_file
length_file file = by (practice_of file)
  where
    by : (p : Practice) → length (answers_of_practice p) ≡ length (requests_of_practice p)
    by (refused number) = refl
    by (holds legs requests) = length_answers (legs_in_miles legs) requests

length_in : (files : List (List ℕ)) → length (answers_in files) ≡ length (requests_in files)
length_in [] = refl
length_in (file ∷ files) =
    let a = length-append (answers_of file) (answers_in files) in
    let r = length-append (requests_of_file file) (requests_in files) in
    let here = length_file file in
    let rest = length_in files in
    omega arith

-- a file's number is one of 0, 5, 6 and 7
one_number : (file : List ℕ) → listed (0 ∷ 5 ∷ 6 ∷ 7 ∷ []) (file_number file) ≡ 1
unfolding file_number
one_number file = go (opens file) (contents_allowed file) (legs_allowed (legs_of (legs_body file)))
  where
    go : (a b c : Bool) → listed (0 ∷ 5 ∷ 6 ∷ 7 ∷ []) (first_refused ((5, a) ∷ (6, b) ∷ (7, c) ∷ [])) ≡ 1
    go true true true = refl
    go true true false = refl
    go true false c = refl
    go false b c = refl

files_whole : (files : List (List ℕ)) → files_numbered 0 files + files_numbered 5 files + files_numbered 6 files + files_numbered 7 files ≡ length files
files_whole [] = refl
files_whole (file ∷ files) = let here = one_number file in let rest = files_whole files in omega arith

-- ---- each answer has one place
one_place : (p : Request × Answer) → listed columns p.1.number ≡ 1 → InOnePlace p
one_place p column =
    let kind = row_of p.0.kind in
    let answer = p.1.number in
    record {
      one_row = row_once p.0.kind;
      one_column = column;
      there = ap (λ (b : Bool). b && eqb answer answer) (same kind) ∙ same answer;
      no_other_row = λ row number e. sym (eqb-true kind row (both_left (eqb kind row) (eqb answer number) e));
      no_other_column = λ row number e. sym (eqb-true answer number (both_right (eqb kind row) (eqb answer number) e));
    }

all_placed : (ps : List (Request × Answer)) → Headed ps → Each InOnePlace ps
all_placed [] h = tt
all_placed (p ∷ ps) h = (one_place p h.0, all_placed ps h.1)

pub counted_once_lem : CountedOnce
counted_once_lem files =
    record {
      one_place = all_placed (answers_in files) (headed_in files);
      answers = table_sum_lem (answers_in files) (headed_in files);
      requests = length_in files;
      whole = files_whole files;
    }
