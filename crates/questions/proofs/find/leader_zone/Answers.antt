-- `questions::find::leader_zone` meets its contract, by those of `leader_of` and `place_of`. Assumes nothing.
use mathlib.Core.Path.{◌≡◌, sym, ap, ◌∙◌}
use mathlib.Core.Bool.{Bool, cond}
use Prim.Native.Nat.{ℕ}
use borrow.Author.Tests.{eq-eqb, ne_eqb}
use lib.Dec.{eqb}
use Rattle.field.specs.declared.Field.{Field}
use Rattle.questions.specs.declared.Place.{Place}
use Rattle.questions.specs.Find.{place_of, leader_of, leader_zone}
use Rattle.questions.proofs.find.leader_zone.Goals as goal

-- the leader's zone, by its number n and whether that is 0
ahead : (f : Field) (number : ℕ) {n : ℕ} {t : Bool} → n ≡ leader_of f.sequence number → eqb n 0 ≡ t → leader_zone f number ≡ cond t 0 (place_of f n).zone
unfolding leader_zone
ahead f number {n} e h =
    ap (λ (k : ℕ). cond (eqb k 0) 0 (place_of f k).zone) (sym e) ∙ ap (λ (b : Bool). cond b 0 (place_of f n).zone) h

pub returns-then-ahead-eq0 : goal.returns-then-ahead-eq0
returns-then-ahead-eq0 c =
    let a = c.args in
    let zero = eq-eqb _ _ c.if-ahead-eq0.true in
    sym (ahead a.f a.number c.leader_of-ahead.ensures zero)

pub returns : goal.returns
returns c =
    let a = c.args in
    let some = ne_eqb _ _ c.if-ahead-eq0.false in
    ap (λ (p : Place). p.zone) c.place_of-at.ensures
    ∙ sym (ahead a.f a.number c.leader_of-ahead.ensures some)
