-- The lines and the closing counts of the entries of a log, one request after the other. Definitions only.
use Rattle.std.specs.Prelude.{ℕ, suc, ◌*◌, ◌/◌, cond, List, [], ◌∷◌, ◌++◌, eqb, length, get_or, take, drop}
use Rattle.std.specs.Simd.{first_chunks}
use Rattle.text.specs.Text.{line_of}
use Rattle.playing.specs.declared.Played.{Played}
use Rattle.session.specs.declared.tally.Tally.{Tally}
use Rattle.session.specs.Tally.{empty_tally, tallied}
use Rattle.session.specs.Report.{end_line, refused_report}

-- the entries of the first n requests in a log
abbrev pub entries_in : List ℕ → ℕ → List (List ℕ)
entries_in log n = first_chunks 7 (length (take (7 * n) log) / 7) (take (7 * n) log)

-- the line of an entry: its index, and what stands behind the kind, the six numbers of the answer
abbrev pub entry_line : ℕ → List ℕ → List ℕ
entry_line index entry = line_of (index ∷ drop 1 entry)

-- the lines of entries, the first with this index
abbrev pub entry_lines : ℕ → List (List ℕ) → List ℕ
entry_lines index [] = []
entry_lines index (entry ∷ entries) = entry_line index entry ++ entry_lines (suc index) entries

-- the counts with each entry counted, by its kind and its answer's number
abbrev pub all_tallied : Tally → List (List ℕ) → Tally
all_tallied t [] = t
all_tallied t (entry ∷ entries) = all_tallied (tallied t (get_or entry 0 0) (get_or entry 1 0)) entries

-- the report of what was played, with its log: the lines of the entries and the last line, or that of a refused file
unfoldable pub played_report : Played → List ℕ → List ℕ
played_report p log =
    cond (eqb p.number 0) (entry_lines 1 (entries_in log p.requests) ++ end_line (all_tallied empty_tally (entries_in log p.requests)) p.present) (refused_report p.number)
