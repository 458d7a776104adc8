-- `binder::counts::Counts::add_number` meets its contract: one of four counts grows. Assumes nothing.
use mathlib.Core.Path.{◌≡◌, refl, ◌∙◌}
use mathlib.Core.Bool.{Bool, true, false, cond}
use Prim.Native.Nat.{◌+◌}
use lib.Dec.{eqb}
use Rattle.std.specs.Int.{from_bool}
use Rattle.binder.specs.Counts.{with_number}
use Rattle.binder.proofs.counts.Counts.add_number.Goals as goal

unit : (b : Bool) → from_bool b ≡ cond b 1 0
unit true = refl
unit false = refl

pub returns : goal.returns
unfolding with_number
returns c i =
    let s = c.args.self.now in
    let number = c.args.number in
    record {
      played = s.played + (c.from.ensures ∙ unit (eqb number 0)) i;
      refused5 = s.refused5 + (c.from-2.ensures ∙ unit (eqb number 5)) i;
      refused6 = s.refused6 + (c.from-3.ensures ∙ unit (eqb number 6)) i;
      refused7 = s.refused7 + (c.from-4.ensures ∙ unit (eqb number 7)) i;
      moves = s.moves;
      landings = s.landings;
      cells = s.cells;
    }
