-- A file between two requests: what the log holds, and what is left to play. Assumes nothing.
use mathlib.Core.Path.{◌≡◌, refl, sym, ap, ◌∙◌, subst⁻¹}
use mathlib.Core.List.{List, [], ◌∷◌, ◌++◌}
use Prim.Native.Nat.{ℕ, zero, suc, ◌+◌, ◌*◌, ◌%◌, ◌≤◌, ◌<◌}
use native.Mathlib.Numerals.{add-one}
use native.Mathlib.Omega.{arith}
use lib.ListN.{length, drop, get_or, set}
use lib.Seq.{sets, length-sets, drop-nil, get_or-set_same}
use Rattle.request.specs.declared.Request.{Request}
use Rattle.std.specs.Prelude.{None, Some}
use Rattle.practice.specs.Requests.{reading_at}
use Rattle.field.specs.declared.Field.{Field}
use Rattle.field.specs.declared.Legs.{Legs}
use Rattle.field.specs.Airspace.{empty_field}
use Rattle.finder.specs.declared.Indexed.{Indexed}
use Rattle.indexed.specs.declared.SteppedIndexed.{SteppedIndexed}
use Rattle.indexed.specs.Indexed.{with_index, number_indexed, step_indexed}
use Rattle.indexed.proofs.Own.{number_own, step_own}
use Rattle.rules.specs.Step.{number_of, step_of}
use Rattle.rules.specs.Play.{field_after, played}
use Rattle.rules.specs.Reason.{Sound}
use Rattle.reason.proofs.Reason.{reason_kept, neither_10_nor_25}
use Rattle.playing.specs.Playing.{answers_from}
use Rattle.playing.specs.Log.{log_entry, log_of}
use Rattle.playing.proofs.Logs.{sets_append}

-- ---- the i-th request of a list
module _ where
  pub here : (rs : List Request) (i : ℕ) (r : Request) → reading_at rs i ≡ Some r → i < length rs
  here [] i r e = absurd (let z : ◌≡◌ {A = ℕ} 0 1 = cc in omega arith)
  here (q ∷ rs) zero r e = omega arith
  here (q ∷ rs) (suc i) r e = let h = here rs i r e in omega arith

  pub rest_here : (rs : List Request) (i : ℕ) (r : Request) → reading_at rs i ≡ Some r → drop i rs ≡ r ∷ drop (suc i) rs
  rest_here [] i r e = absurd (let z : ◌≡◌ {A = ℕ} 0 1 = cc in omega arith)
  rest_here (q ∷ rs) zero r e = let h : q ≡ r = cc in ap (λ (x : Request). x ∷ rs) h
  rest_here (q ∷ rs) (suc i) r e = rest_here rs i r e

  pub rest_none : (rs : List Request) (i : ℕ) → reading_at rs i ≡ None → drop i rs ≡ []
  rest_none [] i e = drop-nil i
  rest_none (q ∷ rs) zero e = absurd (let z : ◌≡◌ {A = ℕ} 0 1 = cc in omega arith)
  rest_none (q ∷ rs) (suc i) e = rest_none rs i e

-- a field that was made with its index beside it has its own
pub made_own : (f : Field) {x : Indexed} → x ≡ with_index f → x ≡ with_index x.field
unfolding with_index
made_own f e = e ∙ sym (ap (λ (y : Indexed). with_index y.field) e)

-- ---- the file
none_left : (rs : List Request) (i : ℕ) → reading_at rs i ≡ None → length rs ≤ i
none_left [] i e = omega arith
none_left (q ∷ rs) zero e = absurd (let z : ◌≡◌ {A = ℕ} 0 1 = cc in omega arith)
none_left (q ∷ rs) (suc i) e = let h = none_left rs i e in omega arith

-- x is the field that is reached, with its index
pub record Playing (rs : List Request) (x₀ : Indexed) (log₀ : List ℕ) (log : List ℕ) (x : Indexed) (i : ℕ) : Type 0 where
  pub within : i ≤ length rs
  pub same : length log ≡ length log₀
  pub logged : sets log (7 * i) (log_of (played x.field (drop i rs))) ≡ sets log₀ 0 (log_of (played x₀.field rs))
  pub fields : field_after x.field (drop i rs) ≡ field_after x₀.field rs
  pub sound : Sound x.field
  pub own : x ≡ with_index x.field

pub playing_none : (rs : List Request) (x : Indexed) (log : List ℕ) → Sound x.field → x ≡ with_index x.field → Playing rs x log log x 0
playing_none rs x log s o = record { within = omega arith; same = refl; logged = refl; fields = refl; sound = s; own = o }

module _ (rs : List Request) {x₀ : Indexed} {log₀ log : List ℕ} {x : Indexed} {i : ℕ} (p : Playing rs x₀ log₀ log x i) where
  abbrev f₀ : Field
  f₀ = x₀.field

  abbrev f : Field
  f = x.field

  -- the step of the field that is reached
  pub stepped_own : (r : Request) → step_indexed x r ≡ record { answer = (step_of f r).answer; after = with_index (step_of f r).field }
  stepped_own r = ap (λ (y : Indexed). step_indexed y r) p.own ∙ step_own f r

  -- neither 10 nor 25 is answered
  pub neither : (r : Request) → (number_indexed x r ≡ 10 → ⊥) × (number_indexed x r ≡ 25 → ⊥)
  neither r =
      let e : number_indexed x r ≡ number_of f r = ap (λ (y : Indexed). number_indexed y r) p.own ∙ number_own f r in
      let n = neither_10_nor_25 f p.sound r in
      ((λ h. n.0 (sym e ∙ h)), (λ h. n.1 (sym e ∙ h)))

  -- one request more
  pub playing_more : (r : Request) (s : SteppedIndexed) {log' : List ℕ} → reading_at rs i ≡ Some r → s ≡ step_indexed x r → log' ≡ sets log (7 * i) (log_entry (r, s.answer))
      → Playing rs x₀ log₀ log' s.after (i + 1)
  unfolding with_index
  playing_more r s {log'} e q' w =
      let q : s ≡ record { answer = (step_of f r).answer; after = with_index (step_of f r).field } = q' ∙ stepped_own r in
      let d : drop i rs ≡ r ∷ drop (i + 1) rs = rw (add-one) (rest_here rs i r e) in
      let rest = log_of (played s.after.field (drop (i + 1) rs)) in
      let ps : log_of (played f (drop i rs)) ≡ log_entry (r, s.answer) ++ rest =
      ap (λ (l : List Request). log_of (played f l)) d ∙ ap (λ (t : SteppedIndexed). log_entry (r, t.answer) ++ log_of (played t.after.field (drop (i + 1) rs))) (sym q) in
      let n : 7 * (i + 1) ≡ 7 * i + 7 = omega arith in
      let h = here rs i r e in
      record {
        within = omega arith;
        same = ap length w ∙ length-sets log (7 * i) (log_entry (r, s.answer)) ∙ p.same;
        logged = ap (λ (l : List ℕ). sets l (7 * (i + 1)) rest) w ∙ ap (λ (k : ℕ). sets (sets log (7 * i) (log_entry (r, s.answer))) k rest) n
            ∙ sym (sets_append log (7 * i) (log_entry (r, s.answer)) rest) ∙ sym (ap (sets log (7 * i)) ps) ∙ p.logged;
        fields = ap (λ (t : SteppedIndexed). field_after t.after.field (drop (i + 1) rs)) q ∙ sym (ap (field_after f) d) ∙ p.fields;
        sound = subst⁻¹ (λ (t : SteppedIndexed). Sound t.after.field) q (reason_kept f p.sound r).sound;
        own = subst⁻¹ (λ (t : SteppedIndexed). t.after ≡ with_index t.after.field) q refl;
      }

  -- where the field reached is put into one of two, at i % 2, it is read there
  pub playing_turn : (fields : List Indexed) → length fields ≡ 2 → (d : Indexed) → Playing rs x₀ log₀ log (get_or (set fields (i % 2) x) (i % 2) d) i
  playing_turn fields e d =
      subst⁻¹ (λ (y : Indexed). Playing rs x₀ log₀ log y i) (get_or-set_same fields (i % 2) x d (let h : i % 2 < 2 = omega arith in omega arith)) p

  -- none is left: all is in the log, and the field is the last
  module _ (z : reading_at rs i ≡ None) where
    pub all_logged : log ≡ sets log₀ 0 (log_of (played f₀ rs))
    all_logged = sym (ap (λ (l : List Request). sets log (7 * i) (log_of (played f l))) (rest_none rs i z)) ∙ p.logged

    pub last_field : f ≡ field_after f₀ rs
    last_field = sym (ap (field_after f) (rest_none rs i z)) ∙ p.fields

    pub all_played : i ≡ length rs
    all_played = let n = none_left rs i z in omega (arith, p.within)

-- one answer for each request
pub length_played : (f : Field) (rs : List Request) → length (played f rs) ≡ length rs
length_played f [] = refl
length_played f (r ∷ rs) = ap suc (length_played (step_of f r).field rs)

pub length_answers : (legs : Legs) (rs : List Request) → length (answers_from legs rs) ≡ length rs
unfolding answers_from
length_answers legs rs = length_played (empty_field legs) rs
