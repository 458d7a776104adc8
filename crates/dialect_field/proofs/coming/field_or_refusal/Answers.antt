-- `dialect_field::coming::field_or_refusal` meets its contract: each test that refuses is the definition's. Assumes nothing.
use Rattle.std.proofs.Common.{◌≡◌, sym, ap, ◌∙◌, map}
use Rattle.field.specs.declared.Legs.{Legs}
use Rattle.refusals.specs.Refusals.{number_of}
use Rattle.indexed.specs.Indexed.{with_index}
use Rattle.dialect_field.specs.Coming.{entry_in, built}
use Rattle.dialect_field.proofs.EntryBytes.{by_chunks}
use Rattle.dialect_field.proofs.FirstFailing.{on_list, refused_25, accepted}
use Rattle.dialect_field.proofs.coming.field_or_refusal.Goals.{After-with_index-x}
use Rattle.dialect_field.proofs.coming.field_or_refusal.Goals as goal

field-made : (c : After-with_index-x) → c.with_index-x.result ≡ on_list c.args.legs c.args.speed c.args.list.now
field-made c =
    let a = c.args in
    let entries = ap (map entry_in) c.as_chunks.ensures.front ∙ by_chunks a.list.now in
    let miles = ap (λ (l : Legs). built l a.speed (map entry_in (c.as_chunks.result.0).now)) c.legs_in_miles.ensures in
    c.with_index-x.ensures ∙ ap with_index (c.built.ensures ∙ miles ∙ ap (built _ a.speed) entries)

pub returns-then-not-within_bounds_indexed : goal.returns-then-not-within_bounds_indexed
unfolding number_of
returns-then-not-within_bounds_indexed c =
    let a = c.args in
    sym (refused_25 a.legs a.speed a.list.now (sym c.legs_allowed.ensures ∙ c.if-not-legs_allowed.false) (sym c.speed_allowed.ensures ∙ c.if-not-speed_allowed.false)
    (sym c.list_allowed.ensures ∙ c.if-not-list_allowed.false) (field-made (goal.at.returns-then-not-within_bounds_indexed c).After-with_index-x)
    (sym c.within_bounds_indexed.ensures ∙ c.if-not-within_bounds_indexed.true))

pub returns : goal.returns
returns c =
    let a = c.args in
    sym (accepted a.legs a.speed a.list.now (sym c.legs_allowed.ensures ∙ c.if-not-legs_allowed.false) (sym c.speed_allowed.ensures ∙ c.if-not-speed_allowed.false)
    (sym c.list_allowed.ensures ∙ c.if-not-list_allowed.false) (field-made (goal.at.returns c).After-with_index-x)
    (sym c.within_bounds_indexed.ensures ∙ c.if-not-within_bounds_indexed.false))
