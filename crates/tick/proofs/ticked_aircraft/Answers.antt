-- `tick::ticked_aircraft` meets its contract: in each arm the definition computes at the progress that the arm was told of. Assumes nothing.
use mathlib.Core.Path.{◌≡◌, sym, ap, ◌∙◌}
use Prim.Native.Nat.{ℕ}
use lib.Ieee.{Float}
use Rattle.leg.specs.declared.Progress.{Progress}
use Rattle.leg.specs.declared.Progress.TheVariants.{Waiting, Flying}
use Rattle.leg.specs.declared.Advanced.{Advanced}
use Rattle.leg.specs.Progress.{advancing, waited_after, progress_after, waited_with}
use Rattle.field.specs.declared.Aircraft.{Aircraft}
use Rattle.tick.specs.Tick.{ticked_aircraft}
use Rattle.tick.proofs.ticked_aircraft.Goals as goal

module _ (amount : ℕ) (a : Aircraft) where
  -- one that waits stays as it is
  waits : a.progress ≡ Waiting → a ≡ ticked_aircraft amount a
  unfolding ticked_aircraft
  waits e =
      let p = e ∙ sym (ap (λ (q : Progress). progress_after q a.speed amount a.leg) e) in
      let w = sym (ap (λ (q : Progress). waited_with q a.waited a.speed amount a.leg) e) in
      λ i. record { number = a.number; fix = a.fix; speed = a.speed; progress = p i; waited = w i; leg = a.leg; desk = a.desk }

  -- one that flies, by what its advance yields
  flies : (miles : Float) {after : Advanced} {waited : Float} → a.progress ≡ Flying miles → after ≡ advancing miles a.speed amount a.leg → waited ≡ waited_after a.waited after.past
      → ◌≡◌ {A = Aircraft} (record { number = a.number; fix = a.fix; speed = a.speed; progress = Flying after.miles; waited = waited; leg = a.leg; desk = a.desk }) (ticked_aircraft amount a)
  unfolding ticked_aircraft advancing
  flies miles e f g =
      let p = ap (λ (r : Advanced). Flying r.miles) f ∙ sym (ap (λ (q : Progress). progress_after q a.speed amount a.leg) e) in
      let w = g ∙ ap (λ (r : Advanced). waited_after a.waited r.past) f ∙ sym (ap (λ (q : Progress). waited_with q a.waited a.speed amount a.leg) e) in
      λ i. record { number = a.number; fix = a.fix; speed = a.speed; progress = p i; waited = w i; leg = a.leg; desk = a.desk }

pub returns-in-Waiting : goal.returns-in-Waiting
returns-in-Waiting c =
    waits c.args.amount c.args.a c.in-Waiting.is

pub returns-in-Flying : goal.returns-in-Flying
returns-in-Flying c =
    flies c.args.amount c.args.a c.in-Flying.miles c.in-Flying.is c.advance-after.ensures c.waited_after.ensures
