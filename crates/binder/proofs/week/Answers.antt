-- `binder::week` meets its contract: the report of a refused binder, or of the counts of its files. Assumes nothing.
use mathlib.Core.Path.{◌≡◌, sym, ap, ◌∙◌, subst}
use mathlib.Core.List.{List}
use Prim.Native.Nat.{ℕ}
use native.Mathlib.Omega.{arith}
use Rattle.refusals.proofs.Outcomes.{number_some}
use Rattle.text.specs.Buffer.{Written}
use Rattle.text.proofs.Texts.{written, stated}
use Rattle.contents.specs.Contents.{binder_number}
use Rattle.binder.specs.Week.{refused_binder}
use Rattle.binder.specs.Counts.{week_lines}
use Rattle.binder.proofs.Rows.{binder_short}
use Rattle.binder.proofs.Reported.{week_accepted, week_refused}
use Rattle.binder.proofs.week.Goals as goal

pub returns-in-Err : goal.returns-in-Err
returns-in-Err c =
    let binder = c.args.binder.now in
    let n = c.number.ensures ∙ c.in-Err.ensures in
    let refused : binder_number binder ≡ 0 → ⊥ = λ e. number_some _ (c.in-Err.ensures ∙ e) in
    let bytes = ap refused_binder n ∙ sym (week_refused binder refused) in
    let short = binder_short c.number.result (omega (arith, c.number.type_inv)) in
    let whole = written c.put_refused.ensures c.told-out (omega arith) in
    let told = stated (subst (λ (b : List ℕ). Written b c.args.out.now c.put_refused.result c.put_refused.new.out) bytes whole) in
    record { value = told.0; out_after = told.1.0; upper_bound = told.1.1 }

pub returns : goal.returns
returns c =
    let binder = c.args.binder.now in
    let bytes = ap week_lines c.counts_of.ensures ∙ sym (week_accepted binder (sym c.in_default.ensures)) in
    let whole = written c.put_week.ensures.put c.told-out c.put_week.ensures.c_len_bound in
    let told = stated (subst (λ (b : List ℕ). Written b c.args.out.now c.put_week.result c.put_week.new.out) bytes whole) in
    record { value = told.0; out_after = told.1.0; upper_bound = told.1.1 }
