-- One walk through the zones, each aircraft with the zone and place where it stands, gives the index of any field. Assumes nothing.
use mathlib.Core.Path.{◌≡◌, refl, sym, ap, ◌∙◌}
use mathlib.Core.Logic.{◌≢◌, ◌⊎◌, inl, inr}
use mathlib.Core.Bool.{Bool, true, false, cond}
use mathlib.Core.List.{List, [], ◌∷◌, ◌++◌, map, map-append}
use Prim.Native.Nat.{ℕ, suc, ◌+◌, ◌-◌, ◌≤◌}
use native.Mathlib.Numerals.{add-one}
use native.Mathlib.Omega.{arith}
use borrow.Author.Tests.{eqb-true, eqb-false, ne_eqb}
use lib.Dec.{eqb}
use lib.ListN.{replicate}
use Rattle.field.specs.declared.Aircraft.{Aircraft}
use Rattle.field.specs.declared.Field.{Field}
use Rattle.field.specs.Airspace.{zones_from, everywhere, in_zone}
use Rattle.field.proofs.TestLaws.{if_true, if_false, same}
use Rattle.questions.specs.declared.Place.{Place}
use Rattle.questions.specs.Find.{numbers_in, place_from, find_in, place_of}
use Rattle.questions.proofs.NumbersListed.{number_of}
use Rattle.finder.specs.declared.Entry.{Entry}
use Rattle.finder.specs.Finder.{unused, entry_of, put_among, put_each, entries_from, index_of, found_among}
use Rattle.finder.proofs.Putting.{put_after}
use Rattle.finder.proofs.Found.{put_zero}
use Rattle.finder.proofs.Settled.{Settled, settled_alike, settled_put, settled_stays}

-- those in the listed zones, each with its own zone and place, zone by zone
abbrev pub standing_in : Field → List ℕ → List Entry
standing_in f [] = []
standing_in f (z ∷ zs) = entries_from z 1 (in_zone f z) ++ standing_in f zs

-- ---- what stands in the zones, and what a look through the queues says of it
abbrev number_in : Entry → ℕ
number_in e = e.number

queue_numbers : (z k : ℕ) (xs : List Aircraft) → map number_in (entries_from z k xs) ≡ map number_of xs
queue_numbers z k [] = refl
queue_numbers z k (x ∷ xs) = ap (λ (l : List ℕ). x.number ∷ l) (queue_numbers z (suc k) xs)

-- they have the numbers of the zones, ..
standing_numbers : (f : Field) (zs : List ℕ) → map number_in (standing_in f zs) ≡ numbers_in f zs
standing_numbers f [] = refl
standing_numbers f (z ∷ zs) =
    map-append number_in (entries_from z 1 (in_zone f z)) (standing_in f zs)
    ∙ ap (λ (l : List ℕ). l ++ map number_in (standing_in f zs)) (queue_numbers z 1 (in_zone f z))
    ∙ ap (λ (l : List ℕ). map number_of (in_zone f z) ++ l) (standing_numbers f zs)

-- .. and the first of them with a number is where look-up finds it
module _ (n : ℕ) where
  found_or_behind : (z k : ℕ) (xs : List Aircraft) (es : List Entry)
      → found_among n (entries_from z (suc k) xs ++ es)
      ≡ cond (eqb (place_from (suc k) n xs) 0) (found_among n es) (record { zone = z; place = place_from (suc k) n xs })
  found_or_behind z k [] es = refl
  found_or_behind z k (x ∷ xs) es = go (eqb x.number n) (found_or_behind z (suc k) xs es)
    where
      go : (b : Bool)
          → found_among n (entries_from z (suc (suc k)) xs ++ es)
          ≡ cond (eqb (place_from (suc (suc k)) n xs) 0) (found_among n es) (record { zone = z; place = place_from (suc (suc k)) n xs })
          → cond b (record { zone = z; place = suc k }) (found_among n (entries_from z (suc (suc k)) xs ++ es))
          ≡ (let place = cond b (suc k) (place_from (suc (suc k)) n xs) in cond (eqb place 0) (found_among n es) (record { zone = z; place = place }))
      go true later = sym (if_false _ _ (ne_eqb (suc k) 0 (λ h. omega (arith, h))))
      go false later = later

  standing_found : (f : Field) (zs : List ℕ) → found_among n (standing_in f zs) ≡ find_in f n zs
  unfolding find_in
  standing_found f [] = refl
  standing_found f (z ∷ zs) =
      let place = place_from 1 n (in_zone f z) in
      found_or_behind z 0 (in_zone f z) (standing_in f zs)
      ∙ ap (λ (p : Place). cond (eqb place 0) p (record { zone = z; place = place })) (standing_found f zs)

-- ---- entries put as they stand, or each with what the first of its number says
abbrev entry_at : ℕ → Place → Entry
entry_at n p = record { number = n; zone = p.zone; place = p.place }

-- where each number is settled, or g says of it what the first of the rest says
module _ (g : ℕ → Entry) (own : (n : ℕ) → (g n).number ≡ n) where
  put_first : (e : Entry) (ws es : List Entry) → (e.number ≢ 0 → Settled e.number es ⊎ (g e.number ≡ entry_at e.number (found_among e.number (e ∷ ws))))
      → put_among e es ≡ put_among (g e.number) es
  put_first e ws es h = go (eqb e.number 0) refl
    where
      used : Settled e.number es ⊎ (g e.number ≡ entry_at e.number (found_among e.number (e ∷ ws))) → e.number ≢ 0 → put_among e es ≡ put_among (g e.number) es
      used (inl s) u = settled_alike e.number u e (g e.number) refl (own e.number) es s
      used (inr s) u = ap (λ (x : Entry). put_among x es) (sym (s ∙ ap (entry_at e.number) (if_true _ _ (same e.number))))

      go : (b : Bool) → eqb e.number 0 ≡ b → put_among e es ≡ put_among (g e.number) es
      go true t =
          let z = eqb-true e.number 0 t in
          put_zero e z es ∙ sym (put_zero (g e.number) (own e.number ∙ z) es)
      go false t = let u = eqb-false e.number 0 t in used (h u) u

  put_standing : (ws es : List Entry) → ((n : ℕ) → n ≢ 0 → Settled n es ⊎ (g n ≡ entry_at n (found_among n ws))) → put_each ws es ≡ put_each (map g (map number_in ws)) es
  put_standing [] es h = refl
  put_standing (e ∷ ws) es h =
      put_standing ws (put_among e es) (λ n u. later n u (h n u) (eqb e.number n) refl)
      ∙ ap (put_each (map g (map number_in ws))) (put_first e ws es (h e.number))
    where
      later : (n : ℕ) → n ≢ 0 → Settled n es ⊎ (g n ≡ entry_at n (found_among n (e ∷ ws))) → (b : Bool) → eqb e.number n ≡ b
          → Settled n (put_among e es) ⊎ (g n ≡ entry_at n (found_among n ws))
      later n u (inl s) b t = inl (settled_stays n u e es s)
      later n u (inr s) true t = inl (settled_put n u e (eqb-true e.number n t) es)
      later n u (inr s) false t = inr (s ∙ ap (entry_at n) (if_false _ _ t))

-- All that stand in the thirteen zones, put one after the other among five unused places, give the field's index.
pub index_walked : (f : Field) → put_each (standing_in f everywhere) (replicate 5 unused) ≡ (index_of f).entries
unfolding index_of entry_of place_of
index_walked f =
    put_standing (entry_of f) (λ n. refl) (standing_in f everywhere) (replicate 5 unused) (λ n u. inr (ap (entry_at n) (sym (standing_found n f everywhere))))
    ∙ ap (λ (ns : List ℕ). put_each (map (entry_of f) ns) (replicate 5 unused)) (standing_numbers f everywhere)

-- ---- zone by zone

-- those before zone z have been put among unused places, which gave es
pub record Walked (f : Field) (z : ℕ) (es : List Entry) : Type 0 where
  pub low : 1 ≤ z
  pub high : z ≤ 14
  pub rest : (index_of f).entries ≡ put_each (standing_in f (zones_from z (14 - z))) es

pub walked_none : (f : Field) → Walked f 1 (replicate 5 unused)
walked_none f = record { low = omega arith; high = omega arith; rest = sym (index_walked f) }

pub walked_more : (f : Field) (z : ℕ) (es : List Entry) {rs : List Entry} → z ≤ 13 → Walked f z es → rs ≡ put_each (entries_from z 1 (in_zone f z)) es → Walked f (z + 1) rs
walked_more f z es {rs} h w made =
    let left : 14 - z ≡ suc (14 - (z + 1)) = omega arith in
    let later : ℕ → List Entry = λ k. standing_in f (zones_from k (14 - (z + 1))) in
    record {
      low = omega arith;
      high = omega arith;
      rest =
          w.rest
          ∙ ap (λ (k : ℕ). put_each (standing_in f (zones_from z k)) es) left
          ∙ put_after (entries_from z 1 (in_zone f z)) (later (suc z)) es
          ∙ ap (put_each (later (suc z))) (sym made)
          ∙ ap (λ (k : ℕ). put_each (later k) rs) (sym (add-one z));
    }

pub walked_all : (f : Field) (z : ℕ) (es : List Entry) → Walked f z es → 14 ≤ z → es ≡ (index_of f).entries
walked_all f z es w h =
    let none : 14 - z ≡ 0 = omega arith in
    sym (w.rest ∙ ap (λ (k : ℕ). put_each (standing_in f (zones_from z k)) es) none)
