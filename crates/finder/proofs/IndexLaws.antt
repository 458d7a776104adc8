-- To look a number up in the index is to look for it in the queues, and after a tick the index is the same. Assumes nothing.
use mathlib.Core.Path.{◌≡◌, refl, sym, ap, ◌∙◌}
use mathlib.Core.Logic.{◌≢◌, inl, inr}
use mathlib.Core.Bool.{Bool, true, false, cond, not, ◌&&◌, true≢false}
use mathlib.Core.List.{List, [], ◌∷◌, map}
use Prim.Native.Nat.{ℕ, ◌+◌, ◌≤◌}
use native.Mathlib.Omega.{arith}
use borrow.Author.Tests.{eq-eqb, eqb-true, eqb-false}
use lib.Dec.{T, eqb, eqb→eq}
use lib.Ieee.Fits.{and_l, and_r}
use lib.ListN.{length, length-append, length-map, replicate}
use Rattle.field.specs.declared.Legs.{Legs}
use Rattle.field.specs.declared.Field.{Field}
use Rattle.field.specs.Airspace.{everywhere, zone_of, queue_of, in_zone, empty_field}
use Rattle.field.specs.Lists.{is_in, every, all_different}
use Rattle.field.proofs.TestLaws.{decided, failed}
use Rattle.field.proofs.NumberLists.{every_listed}
use Rattle.questions.specs.declared.Place.{Place}
use Rattle.questions.specs.Counts.{total, how_many, present_on}
use Rattle.questions.specs.Find.{numbers_in, nowhere, place_of}
use Rattle.questions.proofs.NumbersListed.{number_of, numbers_at}
use Rattle.questions.proofs.FindLaws.{absent_nowhere, look_up_same, numbers_same}
use Rattle.numbers.specs.Numbers.{numbers_differ}
use Rattle.bounds.specs.Bounds.{within_bounds}
use Rattle.tick.specs.Tick.{ticked}
use Rattle.laws.proofs.BoundLaws.{five_present, within_e}
use Rattle.laws.proofs.TickLaws.{alike_ticked}
use Rattle.finder.specs.declared.Entry.{Entry}
use Rattle.finder.specs.declared.Index.{Index}
use Rattle.finder.specs.declared.Indexed.{Indexed}
use Rattle.finder.specs.Finder.{unused, entry_of, put_each, index_of, found_among, found_in, same_entry, are_the_same_entries, same_index, within_bounds_indexed}
use Rattle.finder.proofs.Found.{NonZero, free, all_found, all_room}

-- ---- the numbers of a field within the bounds
as_many : (f : Field) (zs : List ℕ) → length (numbers_in f zs) ≡ total (how_many f) zs
unfolding how_many
as_many f [] = refl
as_many f (z ∷ zs) =
    length-append (numbers_at f z) (numbers_in f zs)
    ∙ ap (λ (n : ℕ). n + length (numbers_in f zs)) (length-map (in_zone f z) number_of)
    ∙ ap (λ (n : ℕ). how_many f z + n) (as_many f zs)

non_zero : (f : Field) (ns : List ℕ) → T (every (λ n. not (eqb n 0)) ns) → NonZero f ns
non_zero f [] t = tt
non_zero f (n ∷ ns) t =
    (eqb-false n 0 (failed (and_l (not (eqb n 0)) (every (λ n. not (eqb n 0)) ns) t)), non_zero f ns (and_r (not (eqb n 0)) (every (λ n. not (eqb n 0)) ns) t))

nonzero_all : (f : Field) → T (within_bounds f) → T (every (λ n. not (eqb n 0)) (numbers_in f everywhere))
unfolding numbers_differ
nonzero_all f w = and_l (every (λ n. not (eqb n 0)) (numbers_in f everywhere)) (all_different (numbers_in f everywhere)) (within_e f w).differ

-- who is absent is found nowhere
present_or_not : (f : Field) (n : ℕ) → cond (is_in n (numbers_in f everywhere)) (place_of f n) nowhere ≡ place_of f n
present_or_not f n = go (is_in n (numbers_in f everywhere)) refl
  where
    go : (b : Bool) → is_in n (numbers_in f everywhere) ≡ b → cond b (place_of f n) nowhere ≡ place_of f n
    go true e = refl
    go false e = sym (absent_nowhere f n e)

none_unused : (n : ℕ) → n ≢ 0 → found_among n (replicate 5 unused) ≡ nowhere
none_unused n h = go (eqb 0 n)
  where
    go : (b : Bool) → cond b nowhere (cond b nowhere (cond b nowhere (cond b nowhere (cond b nowhere nowhere)))) ≡ nowhere
    go true = refl
    go false = refl

-- On every field within the bounds the index says of every number, present or not, what a look through the queues says.
pub found_as_looked : (f : Field) → T (within_bounds f) → (number : ℕ) → found_in (index_of f) number ≡ place_of f number
unfolding found_in index_of present_on
found_as_looked f w number = go (eqb number 0) refl
  where
    five : length (numbers_in f everywhere) ≤ 5
    five = let few = five_present f w in let many = as_many f everywhere in omega (arith, few, many)

    all : number ≢ 0 → found_among number (put_each (map (entry_of f) (numbers_in f everywhere)) (replicate 5 unused)) ≡ place_of f number
    all h =
        all_found f (numbers_in f everywhere) (non_zero f (numbers_in f everywhere) (nonzero_all f w)) (replicate 5 unused)
        (inl refl, (inl refl, (inl refl, (inl refl, (inl refl, tt))))) five number h
        ∙ ap (cond (is_in number (numbers_in f everywhere)) (place_of f number)) (none_unused number h)
        ∙ present_or_not f number

    zero_absent : number ≡ 0 → is_in number (numbers_in f everywhere) ≡ false
    zero_absent e =
        elim (decided (is_in number (numbers_in f everywhere))) [
          | inl t ↦ absurd (true≢false (sym (eq-eqb number 0 e) ∙ failed (every_listed (λ n. not (eqb n 0)) (numbers_in f everywhere) number (nonzero_all f w) t)))
          | inr t ↦ t
        ]

    go : (b : Bool) → eqb number 0 ≡ b → cond b nowhere (found_among number (put_each (map (entry_of f) (numbers_in f everywhere)) (replicate 5 unused))) ≡ place_of f number
    go true e = sym (absent_nowhere f number (zero_absent (eqb-true number 0 e)))
    go false e = all (eqb-false number 0 e)

-- On every field within the bounds the index has an unused place for each one less than five present.
pub index_free : (f : Field) → T (within_bounds f) → 5 ≤ free (index_of f).entries + present_on f
unfolding index_of present_on
index_free f w =
    let few = five_present f w in
    let many = as_many f everywhere in
    let room =
    all_room f (numbers_in f everywhere) (non_zero f (numbers_in f everywhere) (nonzero_all f w)) (replicate 5 unused)
    (inl refl, (inl refl, (inl refl, (inl refl, (inl refl, tt))))) (omega (arith, few, many)) in
    omega (arith, room, many)

-- ---- a tick
entry_same : (f g : Field) (n : ℕ) → place_of f n ≡ place_of g n → entry_of f n ≡ entry_of g n
unfolding entry_of
entry_same f g n e = ap (λ (p : Place). record { number = n; zone = p.zone; place = p.place }) e

all_same : (f g : Field) → ((n : ℕ) → place_of f n ≡ place_of g n) → (ns : List ℕ) → map (entry_of f) ns ≡ map (entry_of g) ns
all_same f g h [] = refl
all_same f g h (n ∷ ns) = ap (λ (e : Entry). e ∷ map (entry_of f) ns) (entry_same f g n (h n)) ∙ ap (λ (es : List Entry). entry_of g n ∷ es) (all_same f g h ns)

-- Fields with the same numbers in every queue have the same index.
pub index_same : (f g : Field) → ((z : ℕ) → numbers_at f z ≡ numbers_at g z) → index_of f ≡ index_of g
unfolding index_of
index_same f g h =
    let put : List Entry → Index = λ es. record { entries = put_each es (replicate 5 unused) } in
    ap (λ (ns : List ℕ). put (map (entry_of f) ns)) (numbers_same f g h everywhere)
    ∙ ap put (all_same f g (λ n. look_up_same f g n h) (numbers_in g everywhere))

-- A tick leaves the index as it is.
pub index_ticked : (f : Field) (amount : ℕ) → index_of (ticked f amount) ≡ index_of f
index_ticked f amount = index_same (ticked f amount) f (alike_ticked f amount).numbers

-- ---- the empty field

-- The index of an empty field is five unused places.
pub index_empty : (legs : Legs) → index_of (empty_field legs) ≡ record { entries = replicate 5 unused }
unfolding index_of empty_field in_zone zone_of queue_of
index_empty legs = refl

-- ---- the bounds
entries_equal : (a b : Entry) → T (same_entry a b) → a ≡ b
unfolding same_entry
entries_equal a b t =
    let first = eqb a.number b.number in
    let second = eqb a.zone b.zone in
    let two = and_l (first && second) (eqb a.place b.place) t in
    made (eqb→eq a.number b.number (and_l first second two)) (eqb→eq a.zone b.zone (and_r first second two))
    (eqb→eq a.place b.place (and_r (first && second) (eqb a.place b.place) t))
  where
    made : a.number ≡ b.number → a.zone ≡ b.zone → a.place ≡ b.place → a ≡ b
    made p q r i = record { number = p i; zone = q i; place = r i }

lists_equal : (xs ys : List Entry) → T (are_the_same_entries xs ys) → xs ≡ ys
lists_equal [] [] t = refl
lists_equal [] (y ∷ ys) t = absurd t
lists_equal (x ∷ xs) [] t = absurd t
lists_equal (x ∷ xs) (y ∷ ys) t =
    ap (λ (e : Entry). e ∷ xs) (entries_equal x y (and_l (same_entry x y) (are_the_same_entries xs ys) t))
    ∙ ap (λ (l : List Entry). y ∷ l) (lists_equal xs ys (and_r (same_entry x y) (are_the_same_entries xs ys) t))

-- Indexes that are the same place by place are equal.
pub same_equal : (a b : Index) → T (same_index a b) → a ≡ b
unfolding same_index
same_equal a b t = ap (λ (es : List Entry). record { entries = es }) (lists_equal a.entries b.entries t)

-- Within the bounds the index beside a field says of every number, present or not, what a look through the queues says.
pub indexed_as_looked : (x : Indexed) → T (within_bounds_indexed x) → (number : ℕ) → found_in x.index number ≡ place_of x.field number
unfolding within_bounds_indexed
indexed_as_looked x t number =
    let agrees = same_index x.index (index_of x.field) in
    ap (λ (i : Index). found_in i number) (same_equal x.index (index_of x.field) (and_r (within_bounds x.field) agrees t))
    ∙ found_as_looked x.field (and_l (within_bounds x.field) agrees t) number
