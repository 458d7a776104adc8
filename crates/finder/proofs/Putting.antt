-- Entries while one is put among them, place by place, and entries one after the other. Assumes nothing.
use mathlib.Core.Path.{◌≡◌, refl, sym, ap, ◌∙◌}
use mathlib.Core.List.{List, [], ◌∷◌, ◌++◌}
use Prim.Native.Nat.{ℕ, suc, ◌+◌, ◌≤◌, ◌<◌}
use native.Mathlib.Omega.{arith}
use lib.ListN.{length, get_or, take, drop, set, take-append-drop}
use Rattle.field.proofs.Arrays.{next_of, filled_at, filled_more, filled_all}
use Rattle.finder.specs.declared.Entry.{Entry}
use Rattle.finder.specs.Finder.{unused, first_of, second_of, put_among, put_each}
use Rattle.finder.proofs.Found.{put_zero}

pub put_length : (e : Entry) (xs : List Entry) → length (put_among e xs) ≡ length xs
put_length e [] = refl
put_length e (x ∷ xs) = ap suc (put_length (second_of e x) xs)

-- the places before i are written, and `moved` goes on from there
pub record Putting (e : Entry) (xs zs : List Entry) (moved : Entry) (i : ℕ) : Type 0 where
  pub within : i ≤ 5
  pub long : length xs ≡ 5
  pub made : zs ≡ take i (put_among e xs) ++ drop i xs
  pub rest : drop i (put_among e xs) ≡ put_among moved (drop i xs)

-- none is written, ..
pub putting_none : (e : Entry) (xs : List Entry) → length xs ≡ 5 → Putting e xs xs e 0
putting_none e xs h = record { within = omega arith; long = h; made = refl; rest = refl }

module _ {e : Entry} {xs zs : List Entry} {moved : Entry} {i : ℕ} (p : Putting e xs zs moved i) where
  -- .. one more, ..
  pub putting_more : (d : Entry) {y m : Entry} → i < 5 → y ≡ first_of moved (get_or zs i d) → m ≡ second_of moved (get_or zs i d) → Putting e xs (set zs i y) m (i + 1)
  putting_more d {y} {m} h first second =
      let ys : List Entry = put_among e xs in
      let x : Entry = get_or xs i unused in
      let long = p.long in
      let below : i < length xs = omega (arith, long) in
      let wide = put_length e xs in
      let there : i < length ys = omega (arith, long, wide) in
      let here : get_or zs i d ≡ x = filled_at zs ys xs i unused d below wide p.made in
      let left = sym (next_of ys i unused there) ∙ p.rest ∙ ap (put_among moved) (next_of xs i unused below) in
      let head : first_of moved x ≡ get_or ys i unused = sym (ap (λ (l : List Entry). get_or l 0 unused) left) in
      let tail : drop (i + 1) ys ≡ put_among (second_of moved x) (drop (i + 1) xs) = ap (λ (l : List Entry). drop 1 l) left in
      record {
        within = omega arith;
        long = long;
        made = filled_more zs ys xs i unused y below wide p.made (first ∙ ap (first_of moved) here ∙ head);
        rest = tail ∙ ap (λ (k : Entry). put_among k (drop (i + 1) xs)) (sym (second ∙ ap (second_of moved) here));
      }

  -- .. or all
  pub putting_all : 5 ≤ i → zs ≡ put_among e xs
  putting_all h = let long = p.long in filled_all zs (put_among e xs) xs i (omega (arith, long, h)) (put_length e xs) p.made

  -- an unused one that goes on leaves the rest
  pub putting_stop : moved.number ≡ 0 → zs ≡ put_among e xs
  putting_stop z = p.made ∙ ap (λ (l : List Entry). take i (put_among e xs) ++ l) (sym (p.rest ∙ put_zero moved z (drop i xs))) ∙ take-append-drop i (put_among e xs)

-- entries put after others
pub put_after : (xs ys es : List Entry) → put_each (xs ++ ys) es ≡ put_each ys (put_each xs es)
put_after [] ys es = refl
put_after (x ∷ xs) ys es = put_after xs ys (put_among x es)
