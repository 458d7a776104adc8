-- `kept_up::descended_entries` meets its contract: each entry becomes what `descended_entry` makes of it. Assumes nothing.
use Rattle.std.proofs.Common.{rules, ap, List}
use Rattle.finder.specs.declared.Entry.{Entry}
use Rattle.finder.specs.Finder.{unused}
use Rattle.finder.proofs.IndexKnown.{index_known}
use Rattle.kept_up.specs.KeptUp.{descended_entry}
use Rattle.kept_up.proofs.ArrayMapped.{mapped}
use Rattle.kept_up.proofs.descended_entries.Goals as goal

pub returns : goal.returns
returns c =
    let a = c.args in
    ap (λ (es : List Entry). record { entries = es })
    (mapped _ (descended_entry a.side) (λ x y q k. search rules) _ _ 5 unused (index_known a.index c.well_formed.0).places c.map.ensures.items)
