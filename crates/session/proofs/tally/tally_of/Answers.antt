-- `session::tally::tally_of` meets its contract. The loop's invariant: with the entries from this one on counted, the counts are those of all. Assumes nothing.
use mathlib.Core.Path.{ap, ◌∙◌, subst⁻¹}
use mathlib.Core.List.{[]}
use Prim.Native.Nat.{suc, ◌+◌}
use native.Mathlib.Omega.{arith}
use native.Mathlib.Numerals.{add-one}
use lib.ListN.{drop}
use Rattle.session.specs.declared.tally.Tally.{Tally}
use Rattle.session.specs.Tally.{Under}
use Rattle.session.specs.Entries.{all_tallied}
use Rattle.session.proofs.Tallies.{few_tallied, counted_here, none_counted}
use Rattle.session.proofs.tally.tally_of.Goals as goal

pub loop-entry-init : goal.loop-entry-init
loop-entry-init c =
    record {
      few = subst⁻¹ (Under 1) c.empty_tally-t.ensures (record { entries = omega arith; taxis = omega arith; exits = omega arith; misses = omega arith });
      same = ap (λ (t : Tally). all_tallied t c.args.entries.now) c.empty_tally-t.ensures;
    }

pub tallied-t-requires : goal.tallied-t-requires
tallied-t-requires c =
    let u = c.loop-entry.invariant.few in
    let few = c.requires in
    record { entries = omega (arith, u.entries); taxis = omega (arith, u.taxis); exits = omega (arith, u.exits); misses = omega (arith, u.misses) }

pub loop-entry-preserved : goal.loop-entry-preserved
loop-entry-preserved c =
    let l = c.loop-entry in
    let rest = drop (l.entry-index + 1) c.args.entries.now in
    record {
      few = rw (add-one) (subst⁻¹ (Under (suc (suc l.entry-index))) c.tallied-t.ensures (few_tallied l.t _ _ l.invariant.few));
      same = ap (λ (t : Tally). all_tallied t rest) c.tallied-t.ensures ∙ counted_here l.t c.args.entries.now l.entry-index [] c.loop-entry-test.true ∙ l.invariant.same;
    }

pub returns : goal.returns
returns c =
    let l = c.loop-entry in
    none_counted l.t c.args.entries.now l.entry-index c.loop-entry-test.false l.invariant.same
