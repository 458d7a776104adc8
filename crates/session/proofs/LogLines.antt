-- The lines and the closing counts of a log are those of the answers that it holds, and how long the lines are. Assumes nothing.
use mathlib.Core.Path.{◌≡◌, refl, ap, ◌∙◌}
use mathlib.Core.List.{List, [], ◌∷◌, ◌++◌}
use Prim.Native.Nat.{ℕ, suc, ◌+◌, ◌*◌, ◌^◌, ◌≤◌, ◌<◌}
use native.Mathlib.Omega.{arith}
use lib.ListN.{length, set, drop, get_or, length-append, drop_of_length-le}
use lib.Seq.{drop-cons}
use native.Mathlib.Numerals.{add-one}
use Rattle.std.proofs.Common.{map}
use Rattle.request.specs.declared.Request.{Request}
use Rattle.field.specs.declared.Field.{Field}
use Rattle.rules.specs.declared.Answer.{Answer}
use Rattle.rules.specs.Step.{step_of}
use Rattle.rules.specs.Play.{played}
use Rattle.text.specs.Text.{line_of}
use Rattle.text.proofs.Texts.{line_length}
use Rattle.playing.specs.Log.{log_entry, log_of, HasWords}
use Rattle.playing.proofs.AnswerSizes.{Short, short_step}
use Rattle.session.specs.declared.tally.Tally.{Tally}
use Rattle.session.specs.Report.{answer_line, answer_lines, end_line, refused_report}
use Rattle.session.specs.Entries.{entry_line, entry_lines}

-- ---- the lines of the entries of a log are those of the answers
pub lines_all : (index : ℕ) (ps : List (Request × Answer)) → entry_lines index (map log_entry ps) ≡ answer_lines index ps
unfolding answer_line
lines_all index [] = refl
lines_all index (p ∷ ps) = ap (λ (l : List ℕ). answer_line index p.1 ++ l) (lines_all (suc index) ps)

-- the line of the i-th entry, and those behind it
pub line_here : (entries : List (List ℕ)) (i : ℕ) (d : List ℕ) → i < length entries
    → entry_lines (suc i) (drop i entries) ≡ entry_line (suc i) (get_or entries i d) ++ entry_lines (suc (i + 1)) (drop (i + 1) entries)
line_here entries i d h = rw (add-one) (ap (entry_lines (suc i)) (drop-cons entries i d h))

pub no_line : (index : ℕ) (entries : List (List ℕ)) (i : ℕ) → length entries ≤ i → entry_lines index (drop i entries) ≡ []
no_line index entries i h = ap (entry_lines index) (drop_of_length-le entries h)

-- an entry's line, by numbers that are those of the entry
same_numbers : (xs ys : List ℕ) → length xs ≡ length ys → ((k : ℕ) → k < length ys → get_or xs k 0 ≡ get_or ys k 0) → xs ≡ ys
same_numbers [] [] n same = refl
same_numbers [] (y ∷ ys) n same = absurd (omega arith)
same_numbers (x ∷ xs) [] n same = absurd (omega arith)
same_numbers (x ∷ xs) (y ∷ ys) n same =
    let first : x ≡ y = same 0 (omega arith) in
    let rest : xs ≡ ys = same_numbers xs ys (omega arith) (λ k h. same (suc k) (omega arith)) in
    cc

indexed : (index : ℕ) (entry : List ℕ) → 0 < length entry → set entry 0 index ≡ index ∷ drop 1 entry
indexed index [] h = absurd (omega arith)
indexed index (n ∷ ns) h = refl

pub numbers_line : (numbers entry : List ℕ) (i : ℕ) → length numbers ≡ 7 → length entry ≡ 7 → ((k : ℕ) → k < 7 → get_or numbers k 0 ≡ get_or entry k 0)
    → line_of (set numbers 0 (i + 1)) ≡ entry_line (suc i) entry
numbers_line numbers entry i m n same =
    let all = same_numbers numbers entry (omega arith) (λ k h. same k (omega arith)) in
    let index : i + 1 ≡ suc i = omega arith in
    ap (λ (ns : List ℕ). line_of (set ns 0 (i + 1))) all ∙ ap (λ (k : ℕ). line_of (set entry 0 k)) index ∙ ap line_of (indexed (suc i) entry (omega arith))

-- ---- how long a line is

-- the longest line: 4 + 2 + 5 + 2 + 1 + 5 + 5 digits, 6 spaces and a newline
pub answer_length : (index : ℕ) (a : Answer) → index < 10000 → Short a → a.aircraft < 65536 → a.leader < 65536 → a.along < 65536 → length (answer_line index a) ≤ 31
unfolding answer_line
answer_length index a hi s ha hl hm =
    let l7 = line_length a.along [] 4 (omega arith) in
    let l6 = line_length a.leader (a.along ∷ []) 4 (omega arith) in
    let l5 = line_length a.fix (a.leader ∷ a.along ∷ []) 0 (omega (arith, s.fix)) in
    let l4 = line_length a.zone (a.fix ∷ a.leader ∷ a.along ∷ []) 1 (omega (arith, s.zone)) in
    let l3 = line_length a.aircraft (a.zone ∷ a.fix ∷ a.leader ∷ a.along ∷ []) 4 (omega arith) in
    let l2 = line_length a.number (a.aircraft ∷ a.zone ∷ a.fix ∷ a.leader ∷ a.along ∷ []) 1 (omega (arith, s.number)) in
    let l1 = line_length index (a.number ∷ a.aircraft ∷ a.zone ∷ a.fix ∷ a.leader ∷ a.along ∷ []) 3 (omega arith) in
    omega arith

-- the last line, with counts of 64 bits
pub end_length : (t : Tally) (present : ℕ) → t.entries < 2 ^ 64 → t.taxis < 2 ^ 64 → t.exits < 2 ^ 64 → t.misses < 2 ^ 64 → present < 2 ^ 64 → length (end_line t present) ≤ 109
unfolding end_line
end_length t present h1 h2 h3 h4 h5 =
    let l5 = line_length present [] 19 (omega arith) in
    let l4 = line_length t.misses (present ∷ []) 19 (omega arith) in
    let l3 = line_length t.exits (t.misses ∷ present ∷ []) 19 (omega arith) in
    let l2 = line_length t.taxis (t.exits ∷ t.misses ∷ present ∷ []) 19 (omega arith) in
    let l1 = line_length t.entries (t.taxis ∷ t.exits ∷ t.misses ∷ present ∷ []) 19 (omega arith) in
    omega arith

-- the line of a refused file, with a number of 64 bits
pub refused_length : (number : ℕ) → number < 2 ^ 64 → length (refused_report number) ≤ 26
unfolding refused_report
refused_length number h = let l = line_length number [] 19 (omega arith) in omega arith

-- ---- how long all lines are

-- every answer of a list is short
abbrev pub AllShort : List (Request × Answer) → Type 0
AllShort [] = Unit {0}
AllShort (p ∷ ps) = Short p.1 × AllShort ps

pub played_short : (f : Field) (rs : List Request) → AllShort (played f rs)
played_short f [] = tt
played_short f (r ∷ rs) = (short_step f r, played_short (step_of f r).field rs)

pub lines_short : (ps : List (Request × Answer)) (rest : List ℕ) (index : ℕ) → AllShort ps → HasWords (log_of ps ++ rest) → index + length ps ≤ 10000
    → length (answer_lines index ps) ≤ 31 * length ps
lines_short [] rest index s w h = omega arith
lines_short (p ∷ ps) rest index s w h =
    let one = answer_length index p.1 (omega arith) s.0 (w 2) (w 5) (w 6) in
    let others = lines_short ps rest (suc index) s.1 (λ i. w (suc (suc (suc (suc (suc (suc (suc i)))))))) (omega arith) in
    let both = length-append (answer_line index p.1) (answer_lines (suc index) ps) in
    omega arith
