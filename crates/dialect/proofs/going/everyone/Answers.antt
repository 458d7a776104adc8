-- `dialect::going::everyone` meets its contract. The loop's invariant: those of the sequence that are passed are in the array, and the rest of the
-- sequence gives the rest of the list. Assumes nothing.
use Rattle.std.proofs.Common.{arith, sym, ap, ◌∙◌, ℕ, List, [], ◌∷◌, ◌++◌, length}
use Rattle.std.proofs.Math.ListN.{replicate}
use mathlib.Core.List.{append-nil}
use Rattle.field.specs.declared.Aircraft.{Aircraft}
use Rattle.field.specs.Airspace.{runway, order_of}
use Rattle.field.proofs.FieldKnown.{field_known}
use Rattle.field.proofs.Shapes.{order_fits}
use Rattle.field.proofs.TestLaws.{if_true, if_false}
use Rattle.questions.specs.Find.{aircraft_at}
use Rattle.dialect.specs.declared.ListEntry.{ListEntry}
use Rattle.dialect.specs.Going.{list_entry, list_entries, on_runway, entries_of, entries_listed}
use Rattle.dialect.proofs.Taken.{taken_none, taken_more, taken_all, taken-last}
use Rattle.dialect.proofs.going.everyone.Goals as goal

pub loop-i-init : goal.loop-i-init
loop-i-init c =
    let f = c.args.f in
    let fits = order_fits f.sequence (field_known f c.well_formed.0).numbers in
    let same = ap length c.order-order.ensures in
    (omega arith, taken_none f c.order-order.result.now (ap (replicate 5) c.no_entry-entries.ensures))

pub loop-i-preserved : goal.loop-i-preserved
loop-i-preserved c =
    let l = c.loop-i in
    (l.invariant.0, taken_more c.args.f c.order-order.result.now l.i c.loop-i-test.true (omega arith) l.invariant.1 c.entry_of.ensures)

pub returns-then-not-is_empty : goal.returns-then-not-is_empty
unfolding entries_of on_runway
returns-then-not-is_empty c =
    let f = c.args.f in
    let number = ap (λ (a : Aircraft). list_entry f a.number 0) c.aircraft_at-a.ensures in
    let listed : List ℕ → List ListEntry = list_entries f 1 in
    let one = list_entry f (aircraft_at f runway 1).number 0 in
    taken-last f c.order-order.result.now {i = c.loop-i.i} (omega arith) c.loop-i.invariant.1 (omega arith) (c.entry_of-then-not-is_empty.ensures ∙ number) (omega arith)
    ∙ ap (λ (order : List ℕ). entries_listed (listed order ++ (one ∷ []))) c.order-order.ensures
    ∙ ap (λ (r : List ListEntry). entries_listed (listed (order_of f.sequence) ++ r)) (sym (if_false _ _ (sym c.is_empty.ensures ∙ c.if-not-is_empty.true)))

pub returns-else-not-is_empty : goal.returns-else-not-is_empty
unfolding entries_of on_runway
returns-else-not-is_empty c =
    let f = c.args.f in
    let es = list_entries f 1 (order_of f.sequence) in
    let none = ap (λ (r : List ListEntry). es ++ r) (if_true _ _ (sym c.is_empty.ensures ∙ c.if-not-is_empty.false)) ∙ append-nil es in
    taken_all f c.order-order.result.now {i = c.loop-i.i} (omega arith) c.loop-i.invariant.1 (omega arith)
    ∙ ap (λ (order : List ℕ). entries_listed (list_entries f 1 order)) c.order-order.ensures ∙ ap entries_listed (sym none)
