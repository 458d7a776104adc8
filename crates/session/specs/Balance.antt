-- What demand 3 says of the report of every file that is accepted. Definitions only.
use Rattle.std.specs.Prelude.{ℕ, ◌+◌, ◌≡◌, List, ◌++◌, T}
use Rattle.request.specs.declared.Request.{Request}
use Rattle.rules.specs.declared.Answer.{Answer}
use Rattle.demand.specs.Demand.{never_answers}
use Rattle.session.specs.declared.tally.Tally.{Tally}
use Rattle.session.specs.Report.{answer_lines, end_line, report_of}

-- the report is the lines of some answers, and a last line
pub record Balanced (file : List ℕ) : Type 0 where
  pub answers : List (Request × Answer)
  pub counts : Tally
  pub present : ℕ
  pub report : report_of file ≡ answer_lines 1 answers ++ end_line counts present
  -- no request is refused by 10 or by 25
  pub no_10 : T (never_answers 10 answers)
  pub no_25 : T (never_answers 25 answers)
  -- everyone who was let in has taxied off, has exited, or is present
  pub balance : counts.entries ≡ counts.taxis + counts.exits + present
