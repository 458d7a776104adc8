-- The report of a refused file and of one that holds a session, of what was played. Assumes nothing.
use mathlib.Core.Path.{◌≡◌, refl, sym, ap, ◌∙◌, subst, subst⁻¹}
use mathlib.Core.Bool.{Bool, true, false}
use mathlib.Core.List.{List, [], ◌∷◌, ◌++◌}
use Prim.Native.Nat.{ℕ, suc, ◌+◌, ◌^◌, ◌≤◌, ◌<◌}
use native.Mathlib.Omega.{arith}
use lib.Dec.{eqb}
use lib.ListN.{length, get_or, drop, length-append}
use Rattle.std.proofs.Common.{map}
use Rattle.std.proofs.lemmas.List.{length-map}
use Rattle.limits.specs.Limits.{most_requests}
use borrow.Author.Tests.{eq-eqb, ne_eqb, eqb-true, eqb-false}
use Rattle.request.specs.declared.Request.{Request}
use Rattle.field.proofs.TestLaws.{if_true, if_false}
use Rattle.practice.specs.File.{file_number}
use Rattle.rules.specs.declared.Answer.{Answer}
use Rattle.playing.specs.declared.Played.{Played}
use Rattle.playing.specs.Log.{log_entry, log_of, HasWords}
use Rattle.playing.specs.Playing.{answers_from, present_from, answers_of, played_of}
use Rattle.playing.proofs.LogEntries.{log_entries}
use Rattle.playing.proofs.PlayedFiles.{legs_held, requests_inside, practice_holds, practice_refused, answers_held, answers_count, requests_few, played_held}
use Rattle.text.specs.Buffer.{Put, room}
use Rattle.text.proofs.Texts.{written, stated}
use Rattle.session.specs.declared.tally.Tally.{Tally}
use Rattle.session.specs.Tally.{Under, tally_of, empty_tally, tallied}
use Rattle.session.specs.Report.{answer_lines, end_line, session_report, refused_report, practice_report, report_of}
use Rattle.session.specs.Entries.{entries_in, entry_lines, all_tallied, played_report}
use Rattle.session.proofs.Tallies.{adds_none, all_counted, few_tallied}
use Rattle.session.proofs.LogLines.{AllShort, played_short, lines_all, lines_short, end_length, refused_length}

module _ (file : List ℕ) where
  pub report_refused : (file_number file ≡ 0 → ⊥) → report_of file ≡ refused_report (file_number file)
  unfolding report_of
  report_refused n = ap practice_report (practice_refused file n)

  module _ (e : file_number file ≡ 0) where
    pub report_holds : report_of file ≡ session_report (legs_held file) (requests_inside file)
    unfolding report_of
    report_holds = ap practice_report (practice_holds file e)

    -- by the answers that were played
    pub report_played : report_of file ≡ answer_lines 1 (answers_of file) ++ end_line (tally_of (answers_of file)) (played_of file).present
    unfolding session_report
    report_played =
        report_holds
        ∙ sym (ap (λ (ps : List (Request × Answer)). answer_lines 1 ps ++ end_line (tally_of ps) (present_from (legs_held file) (requests_inside file))) (answers_held file e))
        ∙ sym (ap (λ (p : Played). answer_lines 1 (answers_of file) ++ end_line (tally_of (answers_of file)) p.present) (played_held file e))

    pub answers_short : AllShort (answers_of file)
    unfolding answers_from
    answers_short = rw (answers_held file e) (played_short _ (requests_inside file))

-- ---- the report of what was played is that of the file

-- the counts of all entries are no more than their number
few_of : (t : Tally) (entries : List (List ℕ)) {n m : ℕ} → n + length entries ≡ m → Under n t → Under m (all_tallied t entries)
few_of t [] {n} {m} e u = let same : n ≡ m = omega arith in subst (λ (k : ℕ). Under k t) same u
few_of t (entry ∷ entries) {n} {m} e u =
    let more : suc n + length entries ≡ m = omega arith in
    few_of (tallied t (get_or entry 0 0) (get_or entry 1 0)) entries more (few_tallied t (get_or entry 0 0) (get_or entry 1 0) u)

module _ (file rest : List ℕ) where
  abbrev log : List ℕ
  log = log_of (answers_of file) ++ rest

  abbrev ps : List (Request × Answer)
  ps = answers_of file

  told_entries : entries_in log (played_of file).requests ≡ map log_entry ps
  told_entries = log_entries ps rest log (played_of file).requests refl (answers_count file)

  told_refused : (file_number file ≡ 0 → ⊥) → played_report (played_of file) log ≡ refused_report (file_number file)
  unfolding played_report played_of
  told_refused n = if_false _ _ (ne_eqb (file_number file) 0 n)

  told_held : file_number file ≡ 0
      → played_report (played_of file) log ≡ answer_lines 1 ps ++ end_line (all_tallied empty_tally (map log_entry ps)) (played_of file).present
  unfolding played_report played_of
  told_held e =
      if_true _ _ (eq-eqb (file_number file) 0 e)
      ∙ ap (λ (es : List (List ℕ)). entry_lines 1 es ++ end_line (all_tallied empty_tally es) (played_of file).present) told_entries
      ∙ ap (λ (l : List ℕ). l ++ end_line (all_tallied empty_tally (map log_entry ps)) (played_of file).present) (lines_all 1 ps)

  -- either way
  report_told : played_report (played_of file) log ≡ report_of file
  report_told = go (eqb (file_number file) 0) refl
    where
      go : (b : Bool) → eqb (file_number file) 0 ≡ b → played_report (played_of file) log ≡ report_of file
      go true e =
          let accepted = eqb-true (file_number file) 0 e in
          told_held accepted
          ∙ ap (λ (t : Tally). answer_lines 1 ps ++ end_line t (played_of file).present) (all_counted ps (adds_none ps))
          ∙ sym (report_played file accepted)
      go false e = let refused = eqb-false (file_number file) 0 e in told_refused refused ∙ sym (report_refused file refused)

  -- it fits the buffer
  report_fits : HasWords log → file_number file < 2 ^ 64 → (played_of file).present < 2 ^ 64 → length (report_of file) ≤ room
  report_fits words number present = go (eqb (file_number file) 0) refl
    where
      go : (b : Bool) → eqb (file_number file) 0 ≡ b → length (report_of file) ≤ room
      go true e =
          let accepted = eqb-true (file_number file) 0 e in
          let few = requests_few file in
          let count = answers_count file in
          let lines = lines_short ps rest 1 (answers_short file accepted) words (omega arith) in
          let size : length (map log_entry ps) ≡ length ps = length-map ps log_entry in
          let none : Under 1 empty_tally = record { entries = omega arith; taxis = omega arith; exits = omega arith; misses = omega arith } in
          let bound : 1 + length (map log_entry ps) ≡ 1 + length ps = omega arith in
          let u = subst (Under (1 + length ps)) (all_counted ps (adds_none ps)) (few_of empty_tally (map log_entry ps) bound none) in
          let last =
          end_length (tally_of ps) (played_of file).present (omega (arith, u.entries)) (omega (arith, u.taxis)) (omega (arith, u.exits)) (omega (arith, u.misses)) present in
          let both = length-append (answer_lines 1 ps) (end_line (tally_of ps) (played_of file).present) in
          let same = ap length (report_played file accepted) in
          omega arith
      go false e =
          let same = ap length (report_refused file (eqb-false (file_number file) 0 e)) in
          let short = refused_length (file_number file) number in
          omega arith

-- so what is put of what was played is the report, as the contracts say it
pub report_put : (file rest : List ℕ) {p : Played} {log before after : List ℕ} {n : ℕ} → p ≡ played_of file → log ≡ log_of (answers_of file) ++ rest → HasWords log
    → p.number < 2 ^ 64 → p.present < 2 ^ 64 → length before ≡ room → Put before 0 (played_report p log) after n
    → (n ≡ length (report_of file)) × ((after ≡ report_of file ++ drop n before) × (n ≤ room))
unfolding played_of
report_put file rest {p} {log} {before} {after} {n} e l words number present size put =
    let told : played_report p log ≡ report_of file = ap (λ (q : Played). played_report q log) e ∙ ap (played_report (played_of file)) l ∙ report_told file rest in
    let fits =
    report_fits file rest (subst HasWords l words) (subst (λ (q : Played). q.number < 2 ^ 64) e number) (subst (λ (q : Played). q.present < 2 ^ 64) e present) in
    stated (written (subst (λ (b : List ℕ). Put before 0 b after n) told put) size fits)

-- no more requests are played than a file has
pub played_few : (file : List ℕ) {p : Played} → p ≡ played_of file → p.requests ≤ most_requests
played_few file e = subst⁻¹ (λ (p : Played). p.requests ≤ most_requests) e (requests_few file)
