-- Document 01, "The bounds", e: what it asks of the numbers on a field and in its landing sequence.
use Rattle.std.specs.Prelude.{Bool, true, not, ◌&&◌, List, [], ◌∷◌, ◌++◌, map, ℕ, eqb}
use Rattle.field.specs.declared.Zone.{Zone}
use Rattle.field.specs.declared.Field.{Field}
use Rattle.field.specs.Lists.{every, is_in, all_different}
use Rattle.field.specs.Airspace.{operation, everywhere, queue_of, order_of}
use Rattle.questions.specs.Find.{numbers_in}

-- the numbers of all in some zones, zone by zone
abbrev pub numbers_of : List Zone → List ℕ
numbers_of [] = []
numbers_of (q ∷ qs) = map (λ a. a.number) (queue_of q) ++ numbers_of qs

-- whether numbers are nonzero, and different from one another and from those that stand behind them
abbrev pub apart : List ℕ → List ℕ → Bool
apart [] behind = true
apart (n ∷ ns) behind = not (eqb n 0) && not (is_in n (ns ++ behind)) && apart ns behind

-- nobody has the number 0, and no two have the same
unfoldable pub numbers_differ : Field → Bool
numbers_differ f = every (λ n. not (eqb n 0)) (numbers_in f everywhere) && all_different (numbers_in f everywhere)

-- the sequence and the operation area have the same numbers, and the sequence has each once
unfoldable pub sequence_exact : Field → Bool
sequence_exact f =
    all_different (order_of f.sequence)
    && every (λ n. is_in n (numbers_in f operation)) (order_of f.sequence)
    && every (λ n. is_in n (order_of f.sequence)) (numbers_in f operation)
