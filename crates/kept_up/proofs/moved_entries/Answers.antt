-- `kept_up::moved_entries` meets its contract: each entry becomes what `moved_entry` makes of it. Assumes nothing.
use Rattle.std.proofs.Common.{rules, ap, List}
use Rattle.finder.specs.declared.Entry.{Entry}
use Rattle.finder.specs.Finder.{unused}
use Rattle.finder.proofs.IndexKnown.{index_known}
use Rattle.kept_up.specs.KeptUp.{moved_entry}
use Rattle.kept_up.proofs.ArrayMapped.{mapped}
use Rattle.kept_up.proofs.moved_entries.Goals as goal

pub returns : goal.returns
returns c =
    let a = c.args in
    ap (λ (es : List Entry). record { entries = es })
    (mapped _ (moved_entry a.from a.to) (λ x y q k. search rules) _ _ 5 unused (index_known a.index c.well_formed.0).places c.map.ensures.items)
