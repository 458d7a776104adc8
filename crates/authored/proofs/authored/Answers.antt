-- `authored::authored` meets its contract: the legs are not all there, the writing is refused, or the file is written. Assumes nothing.
use mathlib.Core.Path.{◌≡◌, refl, sym, ap, ◌∙◌}
use mathlib.Core.List.{List}
use Prim.Native.Nat.{ℕ, ◌-◌, ◌≤◌}
use native.Mathlib.Omega.{arith}
use lib.ListN.{length, take, drop, length-drop}
use lib.Seq.{take_all}
use Rattle.writer.specs.Writer.{writing_of, buffer_after}
use Rattle.authored.specs.Authored.{file_room, legs_given, requests_given, refused_line}
use Rattle.authored.proofs.Outputs.{number_short, refused_printed, refusal_put, file_put, number_told, still_lent}
use Rattle.authored.proofs.authored.Goals.{After-bytes-1, After-write-w}
use Rattle.authored.proofs.authored.Goals as goal

-- the part that is lent on is all that is left
all_left : (xs : List ℕ) → take (length xs - 8) (drop 8 xs) ≡ drop 8 xs
all_left xs = let l = length-drop 8 xs in take_all (length xs - 8) (drop 8 xs) (omega arith)

room-known : (c : After-bytes-1) → length c.args.out.now ≡ file_room
room-known c = c.bytes-1.given.0.1

long : (c : After-write-w) → 8 ≤ length (c.args.input.now)
long c = c.if-input-lt8.false

answered : (c : After-write-w) → c.write-w.result ≡ writing_of (legs_given (c.args.input.now)) (requests_given (c.args.input.now)) (length (c.args.out.now))
answered c = c.write-w.ensures.value ∙ (λ i. writing_of (c.legs_of-legs.ensures i) (all_left (c.args.input.now) i) (length (c.args.out.now)))

left_so : (c : After-write-w) → c.write-w.new.out ≡ buffer_after (legs_given (c.args.input.now)) (requests_given (c.args.input.now)) (c.args.out.now)
left_so c = c.write-w.ensures.out_after ∙ (λ i. buffer_after (c.legs_of-legs.ensures i) (all_left (c.args.input.now) i) (c.args.out.now))

pub returns-then-input-lt8 : goal.returns-then-input-lt8
returns-then-input-lt8 c =
    let a = c.args in
    let seven = number_short a.input.now c.if-input-lt8.true in let told = refusal_put a.out.now c.put_refused.ensures refl (room-known (goal.at.returns-then-input-lt8 c).After-bytes-1) (omega arith)
    (ap refused_line (sym seven) ∙ sym (refused_printed a.input.now (λ z. let q = sym seven ∙ z in omega arith))) in
    record { value = told.0; out_after = told.1.0; upper_bound = told.1.1 }

pub returns-then-number-ne0 : goal.returns-then-number-ne0
returns-then-number-ne0 c =
    let n = number_told (c.args.input.now) (c.args.out.now) (long (goal.at.returns-then-number-ne0 c).After-write-w) (room-known (goal.at.returns-then-number-ne0 c).After-bytes-1) (answered (goal.at.returns-then-number-ne0 c).After-write-w) in
    let refused = c.if-number-ne0.true in let told = refusal_put (c.args.out.now) c.put_refused-then-number-ne0.ensures (still_lent (c.args.input.now) (c.args.out.now) (answered (goal.at.returns-then-number-ne0 c).After-write-w) (left_so (goal.at.returns-then-number-ne0 c).After-write-w) refused) (room-known (goal.at.returns-then-number-ne0 c).After-bytes-1) (omega (arith, c.write-w.type_inv))
    (ap refused_line n ∙ sym (refused_printed (c.args.input.now) (λ z. refused (n ∙ z)))) in
    record { value = told.0; out_after = told.1.0; upper_bound = told.1.1 }

pub returns : goal.returns
returns c = let told = file_put (c.args.input.now) (c.args.out.now) (long (goal.at.returns c).After-write-w) (room-known (goal.at.returns c).After-bytes-1) (answered (goal.at.returns c).After-write-w) (left_so (goal.at.returns c).After-write-w) c.if-number-ne0.false in
    record { value = told.0; out_after = told.1.0; upper_bound = told.1.1 }
