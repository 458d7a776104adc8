-- `listing::rebuilt` meets its contract: bytes too few for the legs, or for the speed, or the field that the list builds. Assumes nothing.
use mathlib.Core.Path.{◌≡◌, sym, ap, ◌∙◌}
use mathlib.Core.List.{List, []}
use Prim.Native.Nat.{ℕ, ◌-◌, ◌<◌, ◌≤◌}
use native.Mathlib.Omega.{arith}
use lib.ListN.{length, take, drop, length-drop}
use lib.Seq.{take_all}
use borrow.Author.Tests.{le-leb, lt-leb}
use Rattle.practice.specs.declared.FileLegs.{FileLegs}
use Rattle.practice.specs.File.{number16, legs_of}
use Rattle.field.proofs.TestLaws.{if_true, if_false}
use Rattle.text.proofs.Texts.{past_all}
use Rattle.dialect_field.specs.Coming.{field_of_list}
use Rattle.listing.specs.Report.{built_report, speed_in, built_of}
use Rattle.listing.proofs.ListReportSizes.{ends, refusal_fits}
use Rattle.listing.proofs.rebuilt.Goals as goal

-- with both bytes of the speed there, what the callees yield is the field of the list behind the legs and the speed
made : (input : List ℕ) {legs : FileLegs} {speed : ℕ} → 10 ≤ length input → legs ≡ legs_of input → speed ≡ number16 input 8
    → field_of_list legs speed (take (length input - 10) (drop 10 input)) ≡ field_of_list (legs_of input) (speed_in input) (drop 10 input)
unfolding speed_in
made input h l s =
    let rest : take (length input - 10) (drop 10 input) ≡ drop 10 input = take_all (length input - 10) (drop 10 input) (omega (arith, length-drop 10 input)) in
    let speed = s ∙ sym (if_true _ _ (le-leb 10 _ h)) in
    λ i. field_of_list (l i) (speed i) (rest i)

-- without them it is that of the speed 0 and no list
made_none : (input : List ℕ) {legs : FileLegs} → length input < 10 → legs ≡ legs_of input → field_of_list legs 0 [] ≡ field_of_list (legs_of input) (speed_in input) (drop 10 input)
unfolding speed_in
made_none input h l =
    let rest : [] ≡ drop 10 input = sym (past_all input 10 (omega arith)) in
    let speed : 0 ≡ speed_in input = sym (if_false _ _ (lt-leb 10 _ h)) in
    λ i. field_of_list (l i) (speed i) (rest i)

pub returns-then-input-lt8 : goal.returns-then-input-lt8
unfolding built_of
returns-then-input-lt8 c = let told = ends c.put_refusal.ensures c.bytes-1.given.0.1 (refusal_fits _ (omega arith))
    (sym (if_false _ _ (lt-leb 8 _ c.if-input-lt8.true))) in
    record { value = told.0; out_after = told.1.0; upper_bound = told.1.1 }

pub returns-then-input-lt10 : goal.returns-then-input-lt10
unfolding built_of
returns-then-input-lt10 c =
    let input = c.args.input.now in let told = ends c.put_built.ensures.put c.bytes-1.given.0.1 c.put_built.ensures.b_len_bound
    (ap built_report (c.field_of_list.ensures ∙ made_none input c.if-input-lt10.true c.legs_of-legs.ensures) ∙ sym (if_true _ _ (le-leb 8 _ c.if-input-lt8.false))) in
    record { value = told.0; out_after = told.1.0; upper_bound = told.1.1 }

pub returns : goal.returns
unfolding built_of
returns c =
    let input = c.args.input.now in let told = ends c.put_built-2.ensures.put c.bytes-1.given.0.1 c.put_built-2.ensures.b_len_bound
    (ap built_report (c.field_of_list-b.ensures ∙ made input c.if-input-lt10.false c.legs_of-legs.ensures c.number16-speed.ensures) ∙ sym (if_true _ _ (le-leb 8 _ c.if-input-lt8.false))) in
    record { value = told.0; out_after = told.1.0; upper_bound = told.1.1 }
