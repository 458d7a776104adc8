-- `bounds::bound_f` meets its contract. The loop's invariant: those fixes alternate that are left, behind the one before them. Assumes nothing.
use mathlib.Core.Path.{◌≡◌}
use mathlib.Core.List.{[], ◌∷◌, ◌++◌, map}
use lib.ListN.{drop}
use Rattle.questions.specs.Find.{fix_of}
use Rattle.bounds.specs.Bounds.{alternate, bound_f}
use Rattle.bounds.proofs.bound_f.Given as goal

abbrev pub invariant-loop-number : goal.invariant-loop-number
invariant-loop-number l = bound_f l.fn.f ≡ alternate (l.fix ∷ (map (fix_of l.fn.f) (drop l.number-index l.rest) ++ (l.fn.f.next ∷ [])))
