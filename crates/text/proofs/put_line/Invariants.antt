-- `text::put_line` meets its contract. The loop's invariant: what is left to put is the line from this number on. Assumes nothing.
use mathlib.Core.List.{[], ◌∷◌, ◌++◌}
use lib.ListN.{drop}
use Rattle.text.specs.Text.{line_of}
use Rattle.text.proofs.Texts.{Left}
use Rattle.text.proofs.put_line.Given as goal

abbrev pub invariant-loop-n : goal.invariant-loop-n
invariant-loop-n l = Left l.initial.out l.at (line_of (l.others ++ (l.last ∷ []))) l.out l.end (line_of (drop l.n-index l.others ++ (l.last ∷ [])))
