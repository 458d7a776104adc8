-- `step::acceptance` meets its contract, part by part. Assumes nothing.
use mathlib.Core.Path.{◌≡◌, ap, ◌∙◌}
use Prim.Native.Nat.{ℕ}
use Rattle.field.specs.declared.Aircraft.{Aircraft}
use Rattle.field.specs.declared.Field.{Field}
use Rattle.questions.specs.declared.Place.{Place}
use Rattle.questions.specs.Find.{aircraft_at}
use Rattle.request.specs.declared.Request.{Request}
use Rattle.rules.specs.Kinds.{shown_to}
use Rattle.rules.specs.declared.Answer.{Answer}
use Rattle.rules.specs.Step.{acceptance}
use Rattle.step.proofs.acceptance.Goals as goal

-- an answer whose aircraft and leader are those of the places
made : (f : Field) (at ahead : Place) (r : Request) (along : ℕ) {a b : Aircraft} {leader : ℕ} → a ≡ aircraft_at f at.zone at.place
    → b ≡ aircraft_at f ahead.zone ahead.place → leader ≡ shown_to r.desk b
    → record { number = 0; aircraft = r.number; zone = at.zone; fix = a.fix; leader = leader; along = along } ≡ acceptance f at ahead r along
unfolding acceptance
made f at ahead r along {a} {b} {leader} ea eb el = ap (λ (x : Aircraft). answered x.fix leader) ea ∙ ap (answered (aircraft_at f at.zone at.place).fix) (el ∙ ap (shown_to r.desk) eb)
  where
    answered : ℕ → ℕ → Answer
    answered fix leader = record { number = 0; aircraft = r.number; zone = at.zone; fix = fix; leader = leader; along = along }

pub returns : goal.returns
returns c =
    let a = c.args in
    made a.f a.at a.ahead a.r a.along c.aircraft_at-a.ensures c.aircraft_at-b.ensures c.shown_to.ensures
