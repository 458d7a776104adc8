-- `history::step_back` meets its contract: a refusal, or the last kept field. Assumes nothing.
use mathlib.Core.Path.{◌≡◌, sym, ◌∙◌}
use native.Mathlib.Omega.{arith}
use Prim.Native.Nat.{◌-◌}
use lib.ListN.{get_or}
use Rattle.refusals.proofs.Outcomes.{number_some}
use Rattle.rules.specs.declared.Answer.{Answer}
use Rattle.rules.specs.Step.{number_and_zeros}
use Rattle.leg.specs.Ticks.{Between}
use Rattle.finder.specs.declared.Indexed.{Indexed}
use Rattle.history.specs.declared.History.{History}
use Rattle.history.specs.declared.SteppedHistory.{SteppedHistory}
use Rattle.history.specs.History.{number_back, field_given_back}
use Rattle.history.proofs.HistoryKnown.{history_known}
use Rattle.history.proofs.KeptTested.{read_any}
use Rattle.history.proofs.StepNumbers.{not_refused, back_turned_away, back_let_through, some_kept}
use Rattle.history.proofs.step_back.Goals.{In_default}
use Rattle.history.proofs.step_back.Goals as goal

-- what is given back, by the answer and the last kept field
given : (h : History) {a : Answer} {x : Indexed} → a ≡ number_and_zeros 0 → x ≡ get_or h.kept (h.count - 1) h.now
    → ◌≡◌ {A = SteppedHistory} (record { answer = a; after = record { now = x; kept = h.kept; count = h.count - 1 } }) (record { answer = number_and_zeros 0; after = field_given_back h })
unfolding field_given_back
given h p q i = record { answer = p i; after = record { now = q i; kept = h.kept; count = h.count - 1 } }

zero : (c : In_default) → number_back c.args.h c.args.desk ≡ 0
zero c = sym c.check_back.ensures ∙ not_refused _ c.in_default.not-Err

some : (c : In_default) → Between 1 8 c.args.h.count
some c = some_kept c.args.h c.args.desk (zero c)

pub returns-in-Err : goal.returns-in-Err
returns-in-Err c =
    let a = c.args in
    c.turned_away.ensures ∙ back_turned_away a.h a.desk (sym (c.number.ensures ∙ c.in-Err.ensures)) (λ z. number_some _ (sym c.number.ensures ∙ z))

pub overflow_sub-last : goal.overflow_sub-last
overflow_sub-last c = let b = some (goal.at.overflow_sub-last c).In_default in omega (arith, b)

pub offset_bounds-h-last : goal.offset_bounds-h-last
offset_bounds-h-last c = let b = some (goal.at.offset_bounds-h-last c).In_default in omega (arith, b)

pub bounds-h-last : goal.bounds-h-last
bounds-h-last c = let b = some (goal.at.bounds-h-last c).In_default in omega (arith, b)

pub returns : goal.returns
returns c =
    let h = c.args.h in
    let b = some (goal.at.returns c).In_default in
    let long = (history_known h c.well_formed.0).places in
    given h c.number_and_zeros.ensures (read_any h.kept (h.count - 1) _ h.now (omega (arith, b, long))) ∙ back_let_through h c.args.desk (zero (goal.at.returns c).In_default)
