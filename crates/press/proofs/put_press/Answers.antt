-- `press::put_press` meets its contract: no line of a tick, else the line of seven numbers. Assumes nothing.
use mathlib.Core.Path.{◌≡◌, ap, subst⁻¹}
use mathlib.Core.List.{List, [], ◌∷◌}
use Prim.Native.Nat.{ℕ, zero, suc, ◌^◌, ◌≤◌, ◌<◌}
use native.Mathlib.Omega.{arith}
use lib.ListN.{length, get_or}
use borrow.Author.Tests.{eq-eqb, ne_eqb}
use Rattle.field.proofs.TestLaws.{if_true, if_false}
use Rattle.request.specs.declared.Request.{Request}
use Rattle.rules.specs.declared.Answer.{Answer}
use Rattle.text.specs.Text.{line_of}
use Rattle.text.specs.Buffer.{Put}
use Rattle.text.proofs.Texts.{put_none, put_same, line_short}
use Rattle.press.specs.HeldDown.{press_line}
use Rattle.press.proofs.put_press.Goals as goal

-- a line of seven numbers of 64 bits
seven : (a b c d e f g : ℕ) → a < 2 ^ 64 → b < 2 ^ 64 → c < 2 ^ 64 → d < 2 ^ 64 → e < 2 ^ 64 → f < 2 ^ 64 → g < 2 ^ 64
    → length (line_of (a ∷ b ∷ c ∷ d ∷ e ∷ f ∷ g ∷ [])) ≤ 147
seven a b c d e f g ha hb hc hd he hf hg = line_short (a ∷ b ∷ c ∷ d ∷ e ∷ f ∷ g ∷ []) each
  where
    each : (i : ℕ) → get_or (a ∷ b ∷ c ∷ d ∷ e ∷ f ∷ g ∷ []) i 0 < 2 ^ 64
    each zero = ha
    each (suc zero) = hb
    each (suc (suc zero)) = hc
    each (suc (suc (suc zero))) = hd
    each (suc (suc (suc (suc zero)))) = he
    each (suc (suc (suc (suc (suc zero))))) = hf
    each (suc (suc (suc (suc (suc (suc zero)))))) = hg
    each (suc (suc (suc (suc (suc (suc (suc i))))))) = omega arith

-- a tick has no line
no_line : (press : ℕ) (r : Request) (a : Answer) → r.kind ≡ 12 → press_line press (r, a) ≡ []
no_line press r a e = if_true [] _ (eq-eqb r.kind 12 e)

-- any other request has the line of seven numbers
its-line : (press : ℕ) (r : Request) (a : Answer) → (r.kind ≡ 12 → ⊥)
    → press_line press (r, a) ≡ line_of (press ∷ r.kind ∷ a.aircraft ∷ a.zone ∷ a.fix ∷ a.leader ∷ a.along ∷ [])
its-line press r a h = if_false [] _ (ne_eqb r.kind 12 h)

pub returns-then-r-eq12 : goal.returns-then-r-eq12
returns-then-r-eq12 c =
    let a = c.args in
    let e = no_line a.press a.r a.a c.if-r-eq12.true in
    let l = ap length e in record { put = subst⁻¹ (λ (bytes : List ℕ). Put a.out.now a.at bytes a.out.now a.at) e (put_none a.out.now a.at); a_len_bound = omega arith }

pub shape_of-out : goal.shape_of-out
shape_of-out c = put_same c.put_line.ensures

pub returns : goal.returns
returns c =
    let a = c.args in
    let e = its-line a.press a.r a.a c.if-r-eq12.false in
    let l = ap length e in
    let n =
    seven a.press a.r.kind a.a.aircraft a.a.zone a.a.fix a.a.leader a.a.along
    (omega (arith, c.well_formed)) (omega (arith, c.well_formed)) (omega (arith, c.well_formed)) (omega (arith, c.well_formed)) (omega (arith, c.well_formed)) (omega (arith, c.well_formed)) (omega (arith, c.well_formed)) in record { put = subst⁻¹ (λ (bytes : List ℕ). Put a.out.now a.at bytes c.put_line.new.out c.put_line.result) e c.put_line.ensures; a_len_bound = omega arith }
