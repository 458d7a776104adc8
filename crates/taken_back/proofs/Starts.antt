-- What a history has that calls may start from, and that the start with legal legs is one. Assumes nothing.
use mathlib.Core.Path.{◌≡◌, ap, ◌∙◌}
use mathlib.Core.Bool.{true, ◌&&◌}
use lib.Dec.{T, eqb}
use lib.ListN.{length}
use lib.Ieee.Fits.{and_i, and_l, and_r}
use borrow.Author.Tests.{eqb-true}
use Rattle.limits.specs.Limits.{most_kept}
use Rattle.field.specs.declared.Legs.{Legs}
use Rattle.field.specs.Airspace.{empty_field}
use Rattle.field.proofs.TestLaws.{passed, pass}
use Rattle.bounds.specs.Bounds.{within_bounds}
use Rattle.fits.specs.Fits.{legal_legs}
use Rattle.finder.specs.declared.Index.{Index}
use Rattle.finder.specs.Finder.{index_of, same_index, within_bounds_indexed}
use Rattle.finder.proofs.IndexLaws.{same_equal}
use Rattle.rules.specs.Start.{empty_start}
use Rattle.rules.proofs.Starts.{empty_starts}
use Rattle.reason.proofs.Reason.{empty_sound}
use Rattle.indexed.specs.Indexed.{with_index}
use Rattle.indexed.proofs.Own.{within_own}
use Rattle.history.specs.declared.History.{History}
use Rattle.history.specs.History.{start_with, start_of, history_at_start}

pub record Starts (h : History) : Type 0 where
  pub empty : T (empty_start h.now.field)
  pub own : h.now ≡ with_index h.now.field
  pub places : length h.kept ≡ most_kept
  pub none : h.count ≡ 0

pub starts : (h : History) → T (history_at_start h) → Starts h
unfolding history_at_start with_index
starts h t =
    let f = h.now.field in
    let a = empty_start f in
    let b = same_index h.now.index (index_of f) in
    let c = eqb (length h.kept) most_kept in
    let d = eqb h.count 0 in
    let three = and_l (a && b && c) d t in
    let two = and_l (a && b) c three in
    record {
      empty = and_l a b two;
      own = ap (λ (i : Index). record { field = f; index = i }) (same_equal h.now.index (index_of f) (and_r a b two));
      places = eqb-true (length h.kept) most_kept (passed (and_r (a && b) c three));
      none = eqb-true h.count 0 (passed (and_r (a && b && c) d t));
    }

-- the start with legal legs
pub start_at_start : (legs : Legs) → T (legal_legs legs) → T (history_at_start (start_of legs))
unfolding history_at_start start_of start_with within_bounds_indexed with_index
start_at_start legs l =
    let f = empty_field legs in
    let own = same_index (index_of f) (index_of f) in
    let within : T (within_bounds f && own) = pass (within_own f ∙ passed (empty_sound legs l).bounds) in
    let ab = empty_start f && own in
    and_i (ab && true) true (and_i ab true (and_i (empty_start f) own (empty_starts legs l) (and_r (within_bounds f) own within)) tt) tt
