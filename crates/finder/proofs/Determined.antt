-- An index in order that says of every number what a look through the queues says is the field's own. Assumes nothing.
use mathlib.Core.Path.{◌≡◌, refl, sym, ap, ◌∙◌, subst}
use mathlib.Core.Logic.{◌≢◌, inl, inr}
use mathlib.Core.Bool.{Bool, true, false}
use mathlib.Core.List.{List, [], ◌∷◌, ◌++◌}
use Prim.Native.Nat.{ℕ, zero, suc, ◌≤◌}
use native.Mathlib.Omega.{arith}
use borrow.Author.Tests.{ne_eqb, eqb-true, ltb-true, ltb-false}
use lib.Dec.{T, eqb, ltb}
use lib.ListN.{length, replicate}
use Rattle.field.specs.declared.Aircraft.{Aircraft}
use Rattle.field.specs.declared.Field.{Field}
use Rattle.field.specs.Airspace.{zones_from, everywhere, in_zone}
use Rattle.field.proofs.TestLaws.{if_true, if_false, either_way, same}
use Rattle.questions.specs.declared.Place.{Place}
use Rattle.questions.specs.Find.{nowhere, place_of}
use Rattle.bounds.specs.Bounds.{within_bounds}
use Rattle.finder.specs.declared.Entry.{Entry}
use Rattle.finder.specs.declared.Index.{Index}
use Rattle.finder.specs.Finder.{unused, is_before, first_of, second_of, put_among, put_each, entries_from, index_of, Unused, InOrder, found_among, found_in}
use Rattle.finder.proofs.Putting.{put_length}
use Rattle.finder.proofs.Ordered.{unused_ordered, index_in_order}
use Rattle.finder.proofs.Walk.{standing_in, index_walked}
use Rattle.finder.proofs.IndexLaws.{found_as_looked}

-- ---- entries that have a zone

-- a used entry has a zone
abbrev pub HasZone : Entry → Type 0
HasZone e = e.number ≢ 0 → e.zone ≢ 0

-- each used entry has a zone
abbrev pub HaveZones : List Entry → Type 0
HaveZones [] = Unit {0}
HaveZones (e ∷ es) = HasZone e × HaveZones es

-- with one more put among them each used one has a zone
pub put_zoned : (e : Entry) → HasZone e → (es : List Entry) → HaveZones es → HaveZones (put_among e es)
unfolding first_of second_of
put_zoned e h [] hs = tt
put_zoned e h (x ∷ xs) hs = (
  either_way HasZone (is_before e x) e x (λ t. h) (λ t. hs.0),
  put_zoned (second_of e x)
      (either_way HasZone (is_before e x) x _ (λ t. hs.0) (λ t. either_way HasZone (eqb e.number x.number) unused e (λ s u. absurd (u refl)) (λ s. h))) xs hs.1,
)

each_zoned : (xs es : List Entry) → HaveZones xs → HaveZones es → HaveZones (put_each xs es)
each_zoned [] es hs gs = gs
each_zoned (x ∷ xs) es hs gs = each_zoned xs (put_among x es) hs.1 (put_zoned x hs.0 es gs)

both_zoned : (xs ys : List Entry) → HaveZones xs → HaveZones ys → HaveZones (xs ++ ys)
both_zoned [] ys hs gs = gs
both_zoned (x ∷ xs) ys hs gs = (hs.0, both_zoned xs ys hs.1 gs)

queue_zoned : (z k : ℕ) → z ≢ 0 → (xs : List Aircraft) → HaveZones (entries_from z k xs)
queue_zoned z k h [] = tt
queue_zoned z k h (x ∷ xs) = (λ u. h, queue_zoned z (suc k) h xs)

standing_zoned : (f : Field) (z n : ℕ) → 1 ≤ z → HaveZones (standing_in f (zones_from z n))
standing_zoned f z zero h = tt
standing_zoned f z (suc n) h =
    both_zoned (entries_from z 1 (in_zone f z)) (standing_in f (zones_from (suc z) n)) (queue_zoned z 1 (λ e. omega (arith, e, h)) (in_zone f z))
    (standing_zoned f (suc z) n (omega arith))

-- Each used entry of the index of any field has a zone.
pub index_zoned : (f : Field) → HaveZones (index_of f).entries
index_zoned f =
    let none : HasZone unused = λ u. absurd (u refl) in
    subst HaveZones (index_walked f)
    (each_zoned (standing_in f everywhere) (replicate 5 unused) (standing_zoned f 1 13 (omega arith)) (none, (none, (none, (none, (none, tt))))))

-- ---- entries in order that say the same

-- what is not above k is not among entries above it
pub absent : (k n : ℕ) → n ≢ 0 → n ≤ k → (es : List Entry) → InOrder k es → found_among n es ≡ nowhere
absent k n h l [] o = refl
absent k n h l (e ∷ es) (inl u) =
    if_false _ _ (ne_eqb e.number n (λ t. h (sym t ∙ ap (λ (x : Entry). x.number) u.0))) ∙ absent k n h l es (unused_ordered k es u.1)
absent k n h l (e ∷ es) (inr p) =
    let above = p.0 in
    if_false _ _ (ne_eqb e.number n (λ t. omega (arith, t, above, l))) ∙ absent e.number n h (omega (arith, above, l)) es p.1

all_unused : (es gs : List Entry) → length es ≡ length gs → Unused es → Unused gs → es ≡ gs
all_unused [] [] l u v = refl
all_unused [] (g ∷ gs) l u v = absurd (omega (arith, l))
all_unused (e ∷ es) [] l u v = absurd (omega (arith, l))
all_unused (e ∷ es) (g ∷ gs) l u v =
    ap (λ (x : Entry). x ∷ es) (u.0 ∙ sym v.0) ∙ ap (λ (l : List Entry). g ∷ l) (all_unused es gs (omega (arith, l)) u.1 v.1)

-- the first of a list says where its number is, so the other has the number
module _ (e : Entry) (es gs : List Entry) (u : e.number ≢ 0) (z : HasZone e) (s : found_among e.number (e ∷ es) ≡ found_among e.number gs) where
  found_first : found_among e.number gs ≡ record { zone = e.zone; place = e.place }
  found_first = sym s ∙ if_true _ _ (same e.number)

  not_absent : InOrder e.number gs → ⊥
  not_absent o = z u (ap (λ (p : Place). p.zone) (sym found_first ∙ absent e.number e.number u (omega arith) gs o))

-- Entries of one length in order, the used ones with a zone, that say the same of every number are equal.
pub order_determines : (k : ℕ) (es gs : List Entry) → length es ≡ length gs → InOrder k es → InOrder k gs → HaveZones es → HaveZones gs
    → ((n : ℕ) → n ≢ 0 → found_among n es ≡ found_among n gs) → es ≡ gs
order_determines k [] [] l o p y z h = refl
order_determines k [] (g ∷ gs) l o p y z h = absurd (omega (arith, l))
order_determines k (e ∷ es) [] l o p y z h = absurd (omega (arith, l))
order_determines k (e ∷ es) (g ∷ gs) l (inl o) (inl p) y z h = all_unused (e ∷ es) (g ∷ gs) l o p
order_determines k (e ∷ es) (g ∷ gs) l (inl o) (inr p) y z h =
    let above = p.0 in
    let used : g.number ≢ 0 = λ t. omega (arith, t, above) in
    absurd (not_absent g gs (e ∷ es) used z.0 (sym (h g.number used)) (inl o))
order_determines k (e ∷ es) (g ∷ gs) l (inr o) (inl p) y z h =
    let above = o.0 in
    let used : e.number ≢ 0 = λ t. omega (arith, t, above) in
    absurd (not_absent e es (g ∷ gs) used y.0 (h e.number used) (inl p))
order_determines k (e ∷ es) (g ∷ gs) l (inr o) (inr p) y z h =
    go (order_determines e.number es gs (omega (arith, l)) o.1) (ltb e.number g.number) (ltb g.number e.number) refl refl
  where
    e_used : e.number ≢ 0
    e_used t = let above = o.0 in omega (arith, t, above)

    g_used : g.number ≢ 0
    g_used t = let above = p.0 in omega (arith, t, above)

    -- the first ones are the same, ..
    first : e.number ≡ g.number → e ≡ g
    first t =
        let says = sym (found_first e es (g ∷ gs) e_used y.0 (h e.number e_used)) ∙ if_true _ _ (ap (λ (n : ℕ). eqb n e.number) (sym t) ∙ same e.number) in
        λ i. record { number = t i; zone = (says i).zone; place = (says i).place }

    -- .. and so do the others say
    later : e.number ≡ g.number → (n : ℕ) → n ≢ 0 → found_among n es ≡ found_among n gs
    later t n u = by (eqb e.number n) refl
      where
        by : (b : Bool) → eqb e.number n ≡ b → found_among n es ≡ found_among n gs
        by true s =
            let m = eqb-true e.number n s in
            absent e.number n u (omega (arith, m)) es o.1 ∙ sym (absent g.number n u (omega (arith, m, t)) gs p.1)
        by false s = sym (if_false _ _ s) ∙ h n u ∙ if_false _ _ (ap (λ (k : ℕ). eqb k n) (sym t) ∙ s)

    go : (InOrder e.number gs → HaveZones es → HaveZones gs → ((n : ℕ) → n ≢ 0 → found_among n es ≡ found_among n gs) → es ≡ gs)
        → (b c : Bool) → ltb e.number g.number ≡ b → ltb g.number e.number ≡ c → ◌≡◌ {A = List Entry} (e ∷ es) (g ∷ gs)
    go rest true c s t =
        let less = ltb-true e.number g.number s in
        absurd (not_absent e es (g ∷ gs) e_used y.0 (h e.number e_used) (inr (less, p.1)))
    go rest false true s t =
        let less = ltb-true g.number e.number t in
        absurd (not_absent g gs (e ∷ es) g_used z.0 (sym (h g.number g_used)) (inr (less, o.1)))
    go rest false false s t =
        let most = ltb-false e.number g.number s in
        let least = ltb-false g.number e.number t in
        let alike : e.number ≡ g.number = omega (arith, most, least) in
        ap (λ (x : Entry). x ∷ es) (first alike)
        ∙ ap (λ (l : List Entry). g ∷ l) (rest (subst (λ (k : ℕ). InOrder k gs) (sym alike) p.1) y.1 z.1 (later alike))

-- ---- the index

each_length : (xs es : List Entry) → length (put_each xs es) ≡ length es
each_length [] es = refl
each_length (x ∷ xs) es = each_length xs (put_among x es) ∙ put_length x es

-- The index of any field has five places.
pub index_length : (f : Field) → length (index_of f).entries ≡ 5
index_length f = ap length (sym (index_walked f)) ∙ each_length (standing_in f everywhere) (replicate 5 unused)

-- Within the bounds an index of five places in order, each used one with a zone, that says of every number what a look through the queues says, is the
-- field's own.
pub index_determined : (f : Field) → T (within_bounds f) → (i : Index) → length i.entries ≡ 5 → InOrder 0 i.entries → HaveZones i.entries
    → ((n : ℕ) → found_in i n ≡ place_of f n) → i ≡ index_of f
unfolding found_in
index_determined f w i five o z h =
    ap (λ (es : List Entry). record { entries = es })
    (order_determines 0 i.entries (index_of f).entries (five ∙ sym (index_length f)) o (index_in_order f) z (index_zoned f) alike)
  where
    alike : (n : ℕ) → n ≢ 0 → found_among n i.entries ≡ found_among n (index_of f).entries
    alike n u =
        let used = ne_eqb n 0 u in
        sym (if_false _ _ used) ∙ h n ∙ sym (found_as_looked f w n) ∙ if_false _ _ used
