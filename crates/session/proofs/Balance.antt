-- No report of a file that is accepted has a line with number 10 or 25, and its closing counts balance: demand 3, of the legs and
-- requests that the file holds. Assumes nothing.
use mathlib.Core.Path.{◌≡◌}
use mathlib.Core.List.{List}
use Prim.Native.Nat.{ℕ}
use Rattle.practice.specs.File.{legs_of, legs_body, file_number}
use Rattle.practice.proofs.Meaning.{held}
use Rattle.field.specs.Airspace.{empty_field}
use Rattle.rules.proofs.Starts.{empty_starts}
use Rattle.demand.proofs.Demand.{demand_3}
use Rattle.playing.specs.Playing.{answers_from, present_from}
use Rattle.playing.proofs.PlayedFiles.{legs_held, requests_inside, practice_holds, file_legs_legal}
use Rattle.session.specs.Tally.{tally_of}
use Rattle.session.specs.Report.{session_report}
use Rattle.session.specs.Balance.{Balanced}
use Rattle.session.proofs.Reports.{report_holds}

pub report_balanced : (file : List ℕ) → file_number file ≡ 0 → Balanced file
unfolding session_report tally_of answers_from present_from
report_balanced file e =
    let legs = legs_held file in
    let rs = requests_inside file in
    let h = held file (legs_of (legs_body file)) rs (practice_holds file e) in
    let d = demand_3 (empty_field legs) (empty_starts legs (file_legs_legal (legs_of (legs_body file)) h.legs_legal)) rs in
    let answers = answers_from legs rs in
    record {
      answers = answers;
      counts = tally_of answers;
      present = present_from legs rs;
      report = report_holds file e;
      no_10 = d.no_10;
      no_25 = d.no_25;
      balance = d.balance;
    }
