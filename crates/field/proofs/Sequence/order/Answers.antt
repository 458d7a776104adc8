-- `field::Sequence::order` meets its contract: as many as the length says, and no more than there are places. Assumes nothing.
use Rattle.std.proofs.Common.{rules, ◌≡◌, ℕ, min, length, sym, ap, ◌∙◌}
use Rattle.std.proofs.Math.ListN.{take}
use Rattle.std.proofs.lemmas.List.{take_min}
use Rattle.field.specs.Airspace.{order_of}
use Rattle.field.proofs.Sequence.order.Goals as goal

pub returns : goal.returns
unfolding order_of
returns c =
    let row = c.args.self.now.numbers in
    let four : length row ≡ 4 = search rules in
    ap (λ (n : ℕ). take n row) (c.min.ensures ∙ ap (min c.args.self.now.length) (sym four)) ∙ take_min c.args.self.now.length row
