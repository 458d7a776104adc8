-- `dialect_field::coming::built` meets its contract. The loop's invariant is `Building`. Assumes nothing.
use Rattle.dialect_field.proofs.Walks.{Building}
use Rattle.dialect_field.proofs.coming.built.Given as goal

abbrev pub invariant-loop-bytes : goal.invariant-loop-bytes
invariant-loop-bytes l = Building l.initial.f l.speed l.entries l.f l.bytes-index
