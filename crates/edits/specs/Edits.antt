-- Document 01, "The requests": the few changes of a queue, of the sequence and of the field that requests are made of.
use Rattle.std.specs.Prelude.{cond, List, [], ◌∷◌, ◌++◌, ℕ, suc, ◌+◌, ◌-◌, eqb, ltb, length, drop, take, set}
use Rattle.field.specs.declared.Aircraft.{Aircraft}
use Rattle.field.specs.declared.Zone.{Zone}
use Rattle.field.specs.declared.Sequence.{Sequence}
use Rattle.field.specs.declared.Field.{Field}
use Rattle.field.specs.Airspace.{nobody, order_of}
use Rattle.field.specs.Lists.{set_from_one}

-- ---- a row

-- the one at index k taken out: those behind it move up by one place, and `last` stands at the end; past its end the row stays as it is
unfoldable pub closed_up : {A : Type 0} → List A → ℕ → A → List A
closed_up row k last = cond (ltb k (length row)) (take k row ++ drop (suc k) row ++ (last ∷ [])) row

-- ---- a queue

-- the head taken off: those behind it move up by one place; an empty queue stays as it is
unfoldable pub without_head : Zone → Zone
without_head q =
    cond (eqb q.length 0) q
    (record { aircraft = drop 1 q.aircraft ++ (nobody ∷ []); length = q.length - 1 })

-- an aircraft put at the tail; a full queue stays as it is
unfoldable pub with_tail : Zone → Aircraft → Zone
with_tail q a =
    cond (ltb q.length 4)
    (record { aircraft = set q.aircraft q.length a; length = q.length + 1 })
    q

-- ---- the sequence

-- a number appended; a full sequence stays as it is
unfoldable pub appended : Sequence → ℕ → Sequence
appended s number =
    cond (ltb s.length 4)
    (record { numbers = set s.numbers s.length number; length = s.length + 1 })
    s

-- how many stand before a number in a list; the list's length where it is absent
abbrev pub before : ℕ → List ℕ → ℕ
before number [] = 0
before number (n ∷ ns) = cond (eqb n number) 0 (suc (before number ns))

-- a number removed, the first where it stands twice: those behind it move up by one place; where it is absent the sequence stays
-- as it is
unfoldable pub removed : Sequence → ℕ → Sequence
removed s number =
    let k = before number (order_of s) in
    cond (ltb k (length (order_of s)))
    (record { numbers = take k s.numbers ++ drop (suc k) s.numbers ++ (0 ∷ []); length = s.length - 1 })
    s

-- ---- the field

-- the field with another zone z; what is no zone leaves it as it is
unfoldable pub with_zone : Field → ℕ → Zone → Field
with_zone f z q = record { zones = set_from_one f.zones z q; sequence = f.sequence; next = f.next; legs = f.legs }

-- the field with another sequence and next fix
unfoldable pub with_sequence : Field → Sequence → ℕ → Field
with_sequence f s next = record { zones = f.zones; sequence = s; next = next; legs = f.legs }
