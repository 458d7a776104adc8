-- A file between two requests: the lines that are put, and those that are left; and that no place past the buffer is told. Assumes nothing.
use mathlib.Core.Path.{◌≡◌, sym, ap, ◌∙◌}
use mathlib.Core.Bool.{cond}
use mathlib.Core.List.{List, [], ◌∷◌, ◌++◌}
use Prim.Native.Nat.{ℕ, suc, ◌+◌, ◌≤◌}
use native.Mathlib.Numerals.{add-one}
use native.Mathlib.Omega.{arith}
use lib.Dec.{ltb}
use lib.ListN.{length, drop, set, length-set}
use borrow.Author.Tests.{ltb-true}
use Rattle.request.specs.declared.Request.{Request}
use Rattle.std.specs.Prelude.{None, Some}
use Rattle.practice.specs.Requests.{reading_at}
use Rattle.field.specs.declared.Field.{Field}
use Rattle.field.proofs.TestLaws.{either_way}
use Rattle.rules.specs.declared.Stepped.{Stepped}
use Rattle.rules.specs.Step.{step_of}
use Rattle.text.specs.Buffer.{put, Put}
use Rattle.text.proofs.Texts.{Left, left_all, left_more, left_none, put_same}
use Rattle.playing.proofs.Playing.{rest_here, rest_none}
use Rattle.positions.specs.Positions.{field_line, lines_from}

-- what holds before request i, counted from 0, on the field f that is reached
pub record Fields (rs : List Request) (f₀ : Field) (before : List ℕ) (out : List ℕ) (f : Field) (at i : ℕ) : Type 0 where
  pub left : Left before 0 (lines_from 1 f₀ rs) out at (lines_from (i + 1) f (drop i rs))

pub fields_none : (rs : List Request) (f : Field) (before : List ℕ) → Fields rs f before before f 0 0
fields_none rs f before = record { left = left_all before 0 (lines_from 1 f rs) }

pub fields_more : (rs : List Request) {f₀ f : Field} {before m n : List ℕ} {at e i : ℕ} (r : Request) (s : Stepped) → Fields rs f₀ before m f at i → reading_at rs i ≡ Some r → s ≡ step_of f r
    → Put m at (field_line (i + 1) s.field) n e → Fields rs f₀ before n s.field e (i + 1)
fields_more rs {f = f} {i = i} r s w read q p = record { left = left_more (field_line (i + 1) s.field) (lines_from (i + 1 + 1) s.field (drop (i + 1) rs)) w.left here p }
  where
    here : lines_from (i + 1) f (drop i rs) ≡ field_line (i + 1) s.field ++ lines_from (i + 1 + 1) s.field (drop (i + 1) rs)
    here =
        let d : drop i rs ≡ r ∷ drop (i + 1) rs = rw (add-one) (rest_here rs i r read) in
        ap (lines_from (i + 1) f) d ∙ ap (λ (t : Stepped). field_line (i + 1) t.field ++ lines_from (suc (i + 1)) t.field (drop (i + 1) rs)) (sym q)
        ∙ ap (λ (k : ℕ). field_line (i + 1) s.field ++ lines_from k s.field (drop (i + 1) rs)) (sym (add-one (i + 1)))

pub fields_all : (rs : List Request) {f₀ f : Field} {before m : List ℕ} {at i : ℕ} → Fields rs f₀ before m f at i → reading_at rs i ≡ None → Put before 0 (lines_from 1 f₀ rs) m at
fields_all rs {f = f} {i = i} w z = left_none w.left (ap (lines_from (i + 1) f) (rest_none rs i z))

-- ---- the place after what was put is within the buffer
one_more : (at n : ℕ) → at ≤ n → cond (ltb at n) (suc at) at ≤ n
one_more at n h = either_way (λ (k : ℕ). k ≤ n) (ltb at n) (suc at) at (λ e. let l = ltb-true at n e in omega arith) (λ e. h)

put_within : (b : List ℕ) (at : ℕ) (xs : List ℕ) → at ≤ length b → (put b at xs).1 ≤ length b
put_within b at [] h = h
put_within b at (x ∷ xs) h =
    let l = length-set b at x in
    let more = put_within (set b at x) (cond (ltb at (length b)) (suc at) at) xs (let n = one_more at (length b) h in omega arith) in
    omega arith

pub ends_within : {b a xs : List ℕ} {e : ℕ} → Put b 0 xs a e → e ≤ length a
ends_within {b} {xs = xs} p = let h = put_within b 0 xs (omega arith) in omega (arith, put_same p, p.next)
