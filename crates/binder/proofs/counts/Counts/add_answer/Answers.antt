-- `binder::counts::Counts::add_answer` meets its contract: the answer's place is one of the table's. Assumes nothing.
use Prim.Native.Nat.{◌+◌}
use native.Mathlib.Omega.{arith}
use lib.ListN.{get_or, set}
use Rattle.binder.specs.Counts.{with_answer}
use Rattle.binder.proofs.Cells.{cell_low}
use Rattle.binder.proofs.counts.Counts.add_answer.Goals as goal

pub offset_bounds-self-cell_of : goal.offset_bounds-self-cell_of
offset_bounds-self-cell_of c = let h = cell_low c.args.kind c.args.number c.requires.columned in omega (arith, c.cell_of.ensures)

pub bounds-self-cell_of : goal.bounds-self-cell_of
bounds-self-cell_of c = let h = cell_low c.args.kind c.args.number c.requires.columned in omega (arith, c.cell_of.ensures)

pub bounds-self-cell_of-2 : goal.bounds-self-cell_of-2
bounds-self-cell_of-2 c = let h = cell_low c.args.kind c.args.number c.requires.columned in omega (arith, c.cell_of.ensures)

pub returns : goal.returns
unfolding with_answer
returns c i =
    let s = c.args.self.now in
    record {
      played = s.played;
      refused5 = s.refused5;
      refused6 = s.refused6;
      refused7 = s.refused7;
      moves = s.moves + c.moved.ensures i;
      landings = s.landings + c.landed.ensures i;
      cells = set s.cells (c.cell_of.ensures i) (get_or s.cells (c.cell_of.ensures i) 0 + 1);
    }
