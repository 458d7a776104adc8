-- `numbers::sequence_exact` meets its contract, part by part: the first twelve zones of the array are the operation area. Assumes nothing.
use mathlib.Core.Path.{◌≡◌, sym, ap, ◌∙◌}
use mathlib.Core.Bool.{true≢false}
use mathlib.Core.List.{List}
use Prim.Native.Nat.{ℕ}
use native.Mathlib.Omega.{arith}
use lib.ListN.{length, take}
use Rattle.field.specs.declared.Field.{Field}
use Rattle.field.specs.Airspace.{operation}
use Rattle.field.specs.Lists.{is_in, every, all_different}
use Rattle.field.proofs.FieldKnown.{field_known}
use Rattle.field.proofs.TestParts.{and_then, and_cut}
use Rattle.questions.specs.Find.{numbers_in}
use Rattle.numbers.specs.Numbers.{numbers_of, sequence_exact}
use Rattle.numbers.proofs.NumbersOf.{along}
use Rattle.numbers.proofs.sequence_exact.Goals.{then-all_different, else-all_different}
use Rattle.numbers.proofs.sequence_exact.Goals as goal

-- whether each of a list is in another, of equal lists
each : {l m r s : List ℕ} → l ≡ m → r ≡ s → every (λ n. is_in n r) l ≡ every (λ n. is_in n s) m
each p q i = every (λ n. is_in n (q i)) (p i)

there : (f : Field) → length f.zones ≡ 13 → numbers_of (take 12 f.zones) ≡ numbers_in f operation
there f thirteen = along f 0 12 (omega arith)

pub returns-then-each_present : goal.returns-then-each_present
unfolding sequence_exact
returns-then-each_present c =
    let f = c.args.f in
    let area = there f (field_known f c.well_formed.0).zones in
    let order = c.order-order.ensures in
    elim c.if-all_different.branch [
      | then-all_different w ↦
          let different = sym (ap all_different order) ∙ sym c.all_different.ensures ∙ w.if-all_different.true in
          let present = sym (each order area) ∙ sym w.each_present.ensures ∙ sym w.value-is ∙ c.if-each_present.true in
          sym (and_then (and_then different present) (sym (c.each_listed.ensures ∙ each area order)))
      | else-all_different w ↦ absurd (true≢false (sym c.if-each_present.true ∙ w.value-is ∙ w.if-all_different.false))
    ]

pub returns-else-each_present : goal.returns-else-each_present
unfolding sequence_exact
returns-else-each_present c =
    let f = c.args.f in
    let area = there f (field_known f c.well_formed.0).zones in
    let order = c.order-order.ensures in
    let different = sym (ap all_different order) ∙ sym c.all_different.ensures in
    c.if-each_present.false
    ∙ sym
    (elim c.if-all_different.branch [
      | then-all_different w ↦
          let present = sym (each order area) ∙ sym w.each_present.ensures ∙ sym w.value-is ∙ c.if-each_present.false in
          and_cut _ (and_then (different ∙ w.if-all_different.true) present)
      | else-all_different w ↦ and_cut _ (and_cut _ (different ∙ w.if-all_different.false))
    ])
