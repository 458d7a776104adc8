-- `finder::with_queue` meets its contract: what the rest of the queue leads to from here is what the whole queue leads to. Assumes nothing.
use Rattle.std.proofs.Common.{◌≡◌, ℕ, suc, ◌+◌, ◌≤◌, ◌<◌, List, [], length, get_or, drop, refl, sym, ap, ◌∙◌, add-one, arith, rules}
use Rattle.std.proofs.Math.ListN.{drop_of_length-le, length-take}
use Rattle.field.specs.declared.Aircraft.{Aircraft}
use Rattle.field.specs.Airspace.{queue_of}
use Rattle.field.proofs.Arrays.{next_of}
use Rattle.finder.specs.declared.Entry.{Entry}
use Rattle.finder.specs.Finder.{put_among, put_each, entries_from}
use Rattle.finder.proofs.with_queue.Invariants.{Gathered}
use Rattle.finder.proofs.with_queue.Goals as goal

more : (zone : ℕ) (queue : List Aircraft) (xs es : List Entry) {rs : List Entry} (i : ℕ) (d : Aircraft) → Gathered zone queue xs es i → i < length queue
    → rs ≡ put_among (record { number = (get_or queue i d).number; zone = zone; place = i + 1 }) es → Gathered zone queue xs rs (i + 1)
more zone queue xs es {rs} i d g h made =
    record {
      rest =
          g.rest
          ∙ ap (λ (l : List Aircraft). put_each (entries_from zone (i + 1) l) es) (next_of queue i d h)
          ∙ ap (put_each (entries_from zone (suc (i + 1)) (drop (i + 1) queue))) (sym made)
          ∙ ap (λ (k : ℕ). put_each (entries_from zone k (drop (i + 1) queue)) rs) (sym (add-one (i + 1)));
    }

pub loop-i-init : goal.loop-i-init
loop-i-init c = record { rest = refl }

pub overflow_cast-e : goal.overflow_cast-e
unfolding queue_of
overflow_cast-e c =
    let q = c.args.q in
    let known = c.well_formed in
    let four : length q.aircraft ≡ 4 = search rules in
    let _few : length c.queue-a-items.result.now ≤ 4 = omega (arith, ap length c.queue-a-items.ensures, length-take q.length q.aircraft) in
    omega (arith, c.loop-i-test.true)

pub loop-i-preserved : goal.loop-i-preserved
loop-i-preserved c =
    more c.args.zone c.queue-a-items.result.now c.args.index.entries c.loop-i.made.entries c.loop-i.i _ c.loop-i.invariant c.loop-i-test.true c.with_entry-made.ensures

pub returns : goal.returns
returns c =
    let l = c.loop-i in
    let queue = c.queue-a-items.result.now in
    let none : drop l.i queue ≡ [] = drop_of_length-le queue {i = l.i} c.loop-i-test.false in
    sym (ap (λ (r : List Aircraft). put_each (entries_from c.args.zone 1 r) c.args.index.entries) (sym c.queue-a-items.ensures)
    ∙ l.invariant.rest
    ∙ ap (λ (r : List Aircraft). put_each (entries_from c.args.zone (l.i + 1) r) l.made.entries) none)
