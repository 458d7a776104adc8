-- `dialect_field::coming::list_allowed` meets its contract: each test that refuses is the definition's. Assumes nothing.
use Rattle.std.proofs.Common.{arith, refl, sym, ap, ◌∙◌, ◌≤◌, ◌<◌, length, map}
use borrow.Author.Tests.{eq-eqb, ne_eqb, le-leb, lt-leb}
use Rattle.field.proofs.TestParts.{and_then, and_cut}
use Rattle.dialect_field.specs.Coming.{entry_in, entries_in, placed_from, list_allowed}
use Rattle.dialect_field.proofs.EntryBytes.{count, by_chunks}
use Rattle.dialect_field.proofs.coming.list_allowed.Goals as goal

pub returns-then-part-ne0 : goal.returns-then-part-ne0
unfolding list_allowed
returns-then-part-ne0 c = sym (and_cut _ (and_cut _ (ne_eqb _ _ (λ z. c.if-part-ne0.true (c.as_chunks.ensures.back_len ∙ z)))))

pub returns-then-entries-le-MOST : goal.returns-then-entries-le-MOST
unfolding list_allowed
returns-then-entries-le-MOST c =
    let list = c.args.list.now in
    let few : length (entries_in list) ≤ 5 = omega (arith, count list, c.as_chunks.ensures.front_len) in
    c.all_placed.ensures ∙ ap (placed_from 1) (ap (map entry_in) c.as_chunks.ensures.front ∙ by_chunks list)
    ∙ sym (and_then (and_then (eq-eqb _ _ (sym c.as_chunks.ensures.back_len ∙ c.if-part-ne0.false)) (le-leb _ _ few)) refl)

pub returns-else-entries-le-MOST : goal.returns-else-entries-le-MOST
unfolding list_allowed
returns-else-entries-le-MOST c =
    let list = c.args.list.now in
    let many : 5 < length (entries_in list) = omega (arith, count list, c.as_chunks.ensures.front_len) in
    lt-leb _ _ c.if-entries-le-MOST.false
    ∙ sym (and_cut _ (and_then (eq-eqb _ _ (sym c.as_chunks.ensures.back_len ∙ c.if-part-ne0.false)) (lt-leb _ _ many)))
