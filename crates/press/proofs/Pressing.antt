-- The button between two presses: what is put, what is left to play, and that the field is within the bounds. Assumes nothing.
use mathlib.Core.Path.{◌≡◌, refl, sym, ap, ◌∙◌, subst, subst⁻¹}
use mathlib.Core.Logic.{inl, inr}
use mathlib.Core.Bool.{Bool, true, false, cond, ◌&&◌}
use mathlib.Core.List.{List, [], ◌∷◌, ◌++◌}
use Prim.Native.Nat.{ℕ, zero, suc, ◌+◌, ◌*◌, ◌≤◌, ◌<◌}
use native.Mathlib.Omega.{arith}
use lib.Dec.{T, eqb}
use lib.ListN.{length, length-append}
use borrow.Author.Tests.{eq-eqb}
use Rattle.limits.specs.Limits.{most_presses}
use Rattle.request.specs.Input.{within, first_refused}
use Rattle.request.specs.declared.Request.{Request}
use Rattle.field.specs.declared.Field.{Field}
use Rattle.field.proofs.TestLaws.{passed, if_true, if_false}
use Rattle.questions.specs.Counts.{present_on}
use Rattle.bounds.specs.Bounds.{within_bounds}
use Rattle.rules.specs.declared.Answer.{Answer}
use Rattle.rules.specs.declared.Stepped.{Stepped}
use Rattle.rules.specs.Step.{step_of}
use Rattle.rules.specs.Play.{field_after, played, is_accepted, counted_once, moves}
use Rattle.rules.proofs.StepLaws.{number_is}
use Rattle.rules.proofs.Refusals.{accepted_within}
use Rattle.text.specs.Buffer.{Put}
use Rattle.text.proofs.Texts.{Left, left_all, left_more, left_none}
use Rattle.press.specs.declared.Proposal.{Proposal}
use Rattle.press.specs.declared.Proposal.TheVariants.{Refused, None, Play}
use Rattle.press.specs.declared.Ending.TheVariants as ending
use Rattle.press.specs.declared.Ending.{Ending}
use Rattle.press.specs.declared.Held.{Held}
use Rattle.press.specs.Press.{candidates, first_accepted, proposal_of}
use Rattle.press.specs.HeldDown.{then_pressed, presses, held_requests, ending_number, number_held, ending_on, held_of, press_line, press_lines, held_lines}
use Rattle.press.proofs.Proposals.{Proposed, proposed, proposal_is, proposal_refused, button_kind_moves}

-- ---- the requests of the presses, one by one
pub presses_more : (n : ℕ) (f : Field) → presses (suc n) f ≡ then_pressed (proposal_of f) (λ r. presses n (step_of f r).field)
unfolding presses
presses_more n f = refl

pub presses_none : (f : Field) → presses 0 f ≡ []
unfolding presses
presses_none f = refl

-- a press that proposes a request plays it, ..
pub presses_play : (n : ℕ) (f : Field) (r : Request) → proposal_of f ≡ Play r → presses (suc n) f ≡ r ∷ presses n (step_of f r).field
presses_play n f r e = presses_more n f ∙ ap (λ (p : Proposal). then_pressed p (λ r. presses n (step_of f r).field)) e

-- .. and one that says none, or refuses the field, is the last
pub presses_end : (n : ℕ) (f : Field) → proposal_of f ≡ None → presses n f ≡ []
presses_end zero f e = presses_none f
presses_end (suc n) f e = presses_more n f ∙ ap (λ (p : Proposal). then_pressed p (λ r. presses n (step_of f r).field)) e

pub presses_refused : (n : ℕ) (f : Field) → proposal_of f ≡ Refused → presses n f ≡ []
presses_refused zero f e = presses_none f
presses_refused (suc n) f e = presses_more n f ∙ ap (λ (p : Proposal). then_pressed p (λ r. presses n (step_of f r).field)) e

-- ---- between two presses, of N
module _ (N : ℕ) (f₀ : Field) (out₀ : List ℕ) where
  abbrev all : List Request
  all = presses N f₀

  pub record Pressing (out : List ℕ) (f : Field) (at i : ℕ) : Type 0 where
    pub left : ℕ
    pub total : i + left ≡ N
    pub bounds : T (within_bounds f)
    pub fields : field_after f (presses left f) ≡ field_after f₀ all
    pub count : i + length (presses left f) ≡ length all
    pub lines : Left out₀ 0 (press_lines 1 (played f₀ all)) out at (press_lines (suc i) (played f (presses left f)))
    pub short : length (press_lines 1 (played f₀ all)) + 147 * moves (played f (presses left f)) ≤ 147 * moves (played f₀ all) + length (press_lines (suc i) (played f (presses left f)))

  pub pressing_none : T (within_bounds f₀) → Pressing out₀ f₀ 0 0
  pressing_none t =
      record {
        left = N;
        total = omega arith;
        bounds = t;
        fields = refl;
        count = omega arith;
        lines = left_all out₀ 0 (press_lines 1 (played f₀ all));
        short = omega arith;
      }

  -- none is left to play
  module _ {out : List ℕ} {f : Field} {at i : ℕ} (p : Pressing out f at i) (z : presses p.left f ≡ []) where
    pub last_field : f ≡ field_after f₀ all
    last_field = sym (ap (field_after f) z) ∙ p.fields

    pub all_played : i ≡ length all
    all_played = let n = ap length z in omega (arith, p.count)

    pub all_put : Put out₀ 0 (press_lines 1 (played f₀ all)) out at
    all_put = left_none p.lines (ap (λ (rs : List Request). press_lines (suc i) (played f rs)) z)

    pub all_short : length (press_lines 1 (played f₀ all)) ≤ 147 * moves (played f₀ all)
    all_short =
        let a = ap (λ (rs : List Request). moves (played f rs)) z in
        let b = ap (λ (rs : List Request). length (press_lines (suc i) (played f rs))) z in
        omega (arith, p.short)

  -- one press more
  module _ {out : List ℕ} {f : Field} {at i : ℕ} (p : Pressing out f at i) (room : i < N) (r : Request) (e : first_accepted f candidates ≡ Play r) where
    played_here : Proposed f (Play r)
    played_here = subst (Proposed f) e (proposed f p.bounds)

    accepted_here : (step_of f r).answer.number ≡ 0
    accepted_here = number_is f r ∙ played_here.0

    -- what is left is this request, and then the others
    rest_here : (left : ℕ) → i + left ≡ N → (m : ℕ) × (left ≡ suc m) × (presses left f ≡ r ∷ presses m (step_of f r).field)
    rest_here zero t = absurd (omega arith)
    rest_here (suc m) t = (m, refl, presses_play m f r (proposal_is f p.bounds ∙ e))

    -- its line is that of a move, which counts, or a tick has none
    line_counts : (a : Answer) → length (press_line (suc i) (r, a)) ≤ 147 → length (press_line (suc i) (r, a)) ≤ 147 * counted_once (within 3 11) (r, (step_of f r).answer)
    line_counts a h =
        elim played_here.1 [
          | inl t ↦ (let z : length (press_line (suc i) (r, a)) ≡ 0 = ap (λ (q : Request). length (press_line (suc i) (q, a))) t in omega arith)
          | inr t ↦
              let move : is_accepted (within 3 11) (r, (step_of f r).answer) ≡ true =
              ap (λ (b : Bool). b && within 3 11 r.kind) (eq-eqb (step_of f r).answer.number 0 accepted_here) ∙ button_kind_moves r.kind t in
              let one : counted_once (within 3 11) (r, (step_of f r).answer) ≡ 1 = ap (λ (b : Bool). cond b 1 0) move in
              omega arith
        ]

    pub pressing_more : (s : Stepped) {out' : List ℕ} {at' : ℕ} → s ≡ step_of f r → Put out at (press_line (i + 1) (r, s.answer)) out' at' → length (press_line (i + 1) (r, s.answer)) ≤ 147
        → Pressing out' s.field at' (i + 1)
    pressing_more s {out'} {at'} q w h =
        let d = rest_here p.left p.total in
        let m = d.0 in
        let a = (step_of f r).answer in
        let g = (step_of f r).field in
        let rest = presses m g in
        let ps : played f (presses p.left f) ≡ (r, a) ∷ played g rest = ap (played f) d.2 in
        let here : press_lines (suc i) (played f (presses p.left f)) ≡ press_line (suc i) (r, a) ++ press_lines (suc (suc i)) (played g rest) = ap (press_lines (suc i)) ps in
        let answer : s.answer ≡ a = ap (λ (x : Stepped). x.answer) q in
        let field : s.field ≡ g = ap (λ (x : Stepped). x.field) q in
        let n : i + 1 ≡ suc i = omega arith in
        let printed : press_line (i + 1) (r, s.answer) ≡ press_line (suc i) (r, a) = ap (λ (b : Answer). press_line (i + 1) (r, b)) answer ∙ ap (λ (j : ℕ). press_line j (r, a)) n in
        let w' : Put out at (press_line (suc i) (r, a)) out' at' = subst (λ (l : List ℕ). Put out at l out' at') printed w in
        let h' : length (press_line (suc i) (r, a)) ≤ 147 = subst (λ (l : List ℕ). length l ≤ 147) printed h in
        let counts = line_counts a h' in
        subst⁻¹ (λ (j : ℕ). Pressing out' s.field at' j) n
        (subst⁻¹ (λ (k : Field). Pressing out' k at' (suc i)) field
        (record {
          left = m;
          total = omega (arith, d.1, p.total);
          bounds = accepted_within f r accepted_here;
          fields = sym (ap (field_after f) d.2) ∙ p.fields;
          count = (let l = ap length d.2 in omega (arith, p.count));
          lines = left_more (press_line (suc i) (r, a)) (press_lines (suc (suc i)) (played g rest)) p.lines here w';
          short =
              let l = ap length here in
              let k = length-append (press_line (suc i) (r, a)) (press_lines (suc (suc i)) (played g rest)) in
              let v = ap moves ps in
              omega (arith, p.short, counts);
        }))

-- ---- the button held down

-- its number is 10 where the field breaks a bound, else 0
pub held_number : (f : Field) → ending_number (held_of f).ending ≡ number_held f
unfolding held_of
held_number f = go (within_bounds f) (eqb (present_on (field_after f (held_requests f))) 0)
  where
    go : (b c : Bool) → ending_number (cond b (cond c ending.None ending.Spent) ending.Refused) ≡ first_refused ((10, b) ∷ [])
    go true true = refl
    go true false = refl
    go false c = refl

-- on a field within the bounds: how it ends on the last field, how many were played, and the last field
pub held_is : (f : Field) {e : Ending} {n : ℕ} {g : Field} → T (within_bounds f) → e ≡ ending_on g → n ≡ length (held_requests f) → g ≡ field_after f (held_requests f)
    → ◌≡◌ {A = Held} (record { ending = e; played = n; field = g }) (held_of f)
unfolding held_of
held_is f {e} {n} {g} t a b c =
    let within : within_bounds f ≡ true = passed t in
    let ends : e ≡ cond (within_bounds f) (ending_on (field_after f (held_requests f))) ending.Refused =
    a ∙ ap ending_on c ∙ sym (if_true (ending_on (field_after f (held_requests f))) ending.Refused within) in
    λ i. record { ending = ends i; played = b i; field = c i }

-- any other field is refused, and nothing is played
module _ (f : Field) (e : within_bounds f ≡ false) where
  pub none_held : held_requests f ≡ []
  unfolding held_requests
  none_held = presses_refused most_presses f (proposal_refused f e)

  pub held_refused : ◌≡◌ {A = Held} (record { ending = ending.Refused; played = 0; field = f }) (held_of f)
  unfolding held_of
  held_refused =
      let ends = sym (if_false (ending_on (field_after f (held_requests f))) ending.Refused e) in
      λ i. record { ending = ends i; played = ap length (sym none_held) i; field = ap (field_after f) (sym none_held) i }

  pub no_lines : held_lines f ≡ []
  unfolding held_lines
  no_lines = ap (λ (rs : List Request). press_lines 1 (played f rs)) none_held
