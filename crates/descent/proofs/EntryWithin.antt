-- An entry to an empty 3000 of a side, on a field as `MayEnter` has it: bounds e to g, and so the field is within the bounds still. Assumes nothing.
use mathlib.Core.Path.{◌≡◌, refl, sym, ap, ◌∙◌, subst}
use mathlib.Core.Logic.{◌≢◌, inl, inr}
use mathlib.Core.Bool.{Bool, true, false, cond, not, ◌&&◌, ◌||◌, true≢false, or-true}
use mathlib.Core.List.{List, [], ◌∷◌, ◌++◌, map, append_assoc}
use Prim.Native.Nat.{ℕ, zero, suc, ◌+◌, ◌≤◌, ◌<◌}
use native.Mathlib.Omega.{arith}
use native.Mathlib.Numerals.{add-one}
use borrow.Author.Tests.{eqb-true, eqb-false, lt-ltb}
use lib.Dec.{T, eqb, leb, leb→le, le→leb}
use lib.Ieee.Fits.{and_i, and_l, and_r}
use lib.ListN.{length, get_or, drop, set}
use Rattle.leg.specs.Ticks.{Between}
use Rattle.request.specs.declared.Request.{Request}
use Rattle.request.proofs.InputTests.{nonzero_yes}
use Rattle.field.specs.declared.Aircraft.{Aircraft}
use Rattle.field.specs.declared.Sequence.{Sequence}
use Rattle.field.specs.declared.Field.{Field}
use Rattle.field.specs.Airspace.{is_side, opposite, at3000, final_approach_zone, area, operation, everywhere}
use Rattle.field.specs.Airspace.{is_flying_zone, nobody, zone_of, in_zone, order_of, entering}
use Rattle.field.specs.Lists.{is_in, every, all_different}
use Rattle.edits.specs.Edits.{appended, with_zone, with_sequence}
use Rattle.questions.specs.Counts.{how_many}
use Rattle.questions.specs.Find.{place_of, aircraft_at, fix_of, is_head, is_first, numbers_in}
use Rattle.numbers.specs.Numbers.{numbers_differ, sequence_exact}
use Rattle.bounds.specs.Bounds.{final_first, zone_kept, sequence_kept, bound_e, alternate, bound_f, within_bounds}
use Rattle.fits.specs.Fits.{fits_zone, legal_legs, bound_g}
use Rattle.rules.specs.Kinds.{entered}
use Rattle.order.specs.Model.{count}
use Rattle.field.proofs.NumberLists.{every_listed, in_append, in_left}
use Rattle.field.proofs.TestLaws.{pass, passed, fail, decided, or_left, if_true, same}
use Rattle.questions.proofs.NumbersListed.{numbers_at, one_zone_more}
use Rattle.questions.proofs.FindLaws.{numbers, found_there}
use Rattle.laws.proofs.EditLaws.{each_zone_with}
use Rattle.laws.proofs.BoundLaws.{within_each, each_within, within_e}
use Rattle.laws.proofs.Fits.{entering_fits}
use Rattle.laws.proofs.TickLaws.{every_then}
use Rattle.laws.proofs.SameQueues.{kept_tail}
use Rattle.line.proofs.Members.{count_append, numbers_total}
use Rattle.moves.proofs.StaysOrderly.{different_of, nonzero_of}
use Rattle.descent.proofs.Down.{head_is}
use Rattle.descent.proofs.DownWithin.{in_same, fix_at}
use Rattle.descent.proofs.BySequence.{order_length_lem, last_put, order_different, order_inside, inside_order, alternate_more}
use Rattle.descent.proofs.EntryCounts.{MayEnter, newcomer, zone_with, sequence_with, field_with, is_entered, by_side, zone, here, elsewhere, past, sum_more, in_operation_lem, in_everywhere}
use Rattle.descent.proofs.EntryCounts.{a_more, b_more, c_more, d_more, next_side, short}

-- ---- lists

-- a test that each of a list passes
every_member : (p : ℕ → Bool) (xs : List ℕ) → ((k : ℕ) → is_in k xs ≡ true → p k ≡ true) → T (every p xs)
every_member p [] h = tt
every_member p (x ∷ xs) h =
    and_i (p x) (every p xs) (pass (h x (ap (λ (b : Bool). b || is_in x xs) (same x)))) (every_member p xs (λ k i. h k (ap (λ (b : Bool). eqb x k || b) i ∙ or-true (eqb x k))))

-- what stands behind place k, where another is put there
behind_put : {A : Type 0} (p : A → Bool) (xs : List A) (k : ℕ) (x : A) → k < length xs → T (every p (drop k xs)) → T (every p (drop (suc k) (set xs k x)))
behind_put p [] k x h t = absurd (omega (arith, h))
behind_put p (y ∷ xs) zero x h t = and_r (p y) (every p xs) t
behind_put p (y ∷ xs) (suc k) x h t = behind_put p xs k x (omega (arith, h)) t

-- the first of a list is the first of a longer one
head_more : (k : ℕ) (xs ys : List ℕ) → is_head k xs ≡ true → is_head k (xs ++ ys) ≡ true
head_more k [] ys e = absurd (true≢false (sym e))
head_more k (x ∷ xs) ys e = e

-- two functions that agree on a list
map_more : (h k : ℕ → ℕ) (xs : List ℕ) (n : ℕ) → ((m : ℕ) → is_in m xs ≡ true → h m ≡ k m) → map h (xs ++ (n ∷ [])) ≡ map k xs ++ (h n ∷ [])
map_more h k [] n e = refl
map_more h k (x ∷ xs) n e =
    let here = e x (ap (λ (b : Bool). b || is_in x xs) (same x)) in
    let rest = map_more h k xs n (λ m i. e m (ap (λ (b : Bool). eqb x m || b) i ∙ or-true (eqb x m))) in
    λ i. here i ∷ rest i

opposite_side : (s : ℕ) → T (is_side s) → T (is_side (opposite s))
unfolding is_side opposite
opposite_side s t = elim (decided (eqb s 1)) [
  | inl e ↦ subst (λ (x : ℕ). T (is_side (opposite x))) (sym (eqb-true s 1 e)) tt
  | inr e ↦ subst (λ (x : ℕ). T (is_side (opposite x))) (sym (eqb-true s 2 (sym (ap (λ (c : Bool). c || eqb s 2) e) ∙ passed t))) tt
]

-- ---- the field with the one that enters
module _ {f : Field} {r : Request} (m : MayEnter f r) where
  abbrev z : ℕ
  z = r.side

  abbrev n : ℕ
  n = r.number

  abbrev next : ℕ
  next = f.next

  abbrev order : List ℕ
  order = order_of f.sequence

  abbrev a : Aircraft
  a = newcomer f r

  abbrev s : Sequence
  s = sequence_with f r

  abbrev g : Field
  g = field_with f r

  -- ---- e
  often : (k : ℕ) (zs : List ℕ) → T (all_different zs) → is_in z zs ≡ true → count (numbers_in g zs) k ≡ count (n ∷ numbers_in f zs) k
  unfolding entering
  often k zs d i =
      let e = sum_more m (λ y l. count (numbers l) k) zs d refl in
      let now = numbers_total g k zs in
      let before = numbers_total f k zs in
      let one = ap (λ (b : Bool). cond b (count (numbers (a ∷ [])) k) 0) i in
      omega (arith, e, now, before, one)

  le : (k : ℕ) → count (numbers_in g everywhere) k ≤ count (n ∷ numbers_in f everywhere) k
  le k = let e = often k everywhere tt (in_everywhere m) in omega (arith, e)

  differ_more : T (numbers_differ g)
  unfolding numbers_differ
  differ_more =
      let nonzero : ℕ → Bool = λ k. not (eqb k 0) in
      let ns = numbers_in f everywhere in
      let d = (within_e f m.bounds).differ in
      and_i (every nonzero (numbers_in g everywhere)) (all_different (numbers_in g everywhere))
      (nonzero_of (numbers_in g everywhere) (n ∷ ns) le (and_i (nonzero n) (every nonzero ns) (pass (nonzero_yes n m.known.number)) (and_l (every nonzero ns) (all_different ns) d)))
      (different_of (numbers_in g everywhere) (n ∷ ns) le (and_i (not (is_in n ns)) (all_different ns) (fail m.absent) (and_r (every nonzero ns) (all_different ns) d)))

  different : T (all_different (numbers_in g everywhere))
  unfolding numbers_differ
  different = and_r (every (λ k. not (eqb k 0)) (numbers_in g everywhere)) (all_different (numbers_in g everywhere)) differ_more

  -- the sequence has it at its end
  fewer : f.sequence.length < 4
  fewer = let e = order_length_lem f.sequence m.shaped.sequence in let h = (short m) in omega (arith, e, h)

  longer : order_of s ≡ order ++ (n ∷ [])
  longer = last_put f.sequence m.shaped.sequence n fewer

  -- .. where it was not
  not_yet : is_in n order ≡ false
  not_yet =
      elim (decided (is_in n order)) [
        | inl i ↦
            let there = in_left n (numbers_in f operation) (numbers_at f 13) (order_inside f m.bounds n i) in
            absurd (true≢false (sym (ap (is_in n) (one_zone_more f 1 12) ∙ there) ∙ m.absent))
        | inr i ↦ i
      ]

  alike : (k : ℕ) → is_in k (numbers_in g operation) ≡ (eqb n k || is_in k (numbers_in f operation))
  alike = in_same (numbers_in g operation) (n ∷ numbers_in f operation) (λ k. often k operation tt (in_operation_lem m))

  named : (k : ℕ) → is_in k (order ++ (n ∷ [])) ≡ (is_in k order || (eqb n k || false))
  named k = in_append k order (n ∷ [])

  exact_more : T (sequence_exact g)
  unfolding sequence_exact with_sequence
  exact_more =
      let new = order ++ (n ∷ []) in
      let area = numbers_in g operation in
      let Exact : List ℕ → Type 0 = λ l. T (all_different l && every (λ k. is_in k area) l && every (λ k. is_in k l) area) in
      let once : T (all_different new) =
      different_of new (n ∷ order) (λ k. let c = count_append order (n ∷ []) k in omega (arith, c)) (and_i (not (is_in n order)) (all_different order) (fail not_yet) (order_different f m.bounds)) in
      subst Exact (sym longer)
      (and_i (all_different new && every (λ k. is_in k area) new) (every (λ k. is_in k new) area)
      (and_i (all_different new) (every (λ k. is_in k area) new) once (every_member (λ k. is_in k area) new (λ k i. alike k ∙ into k i)))
      (every_member (λ k. is_in k new) area (λ k i. named k ∙ out_of k (sym (alike k) ∙ i))))
    where
      into : (k : ℕ) → is_in k (order ++ (n ∷ [])) ≡ true → (eqb n k || is_in k (numbers_in f operation)) ≡ true
      into k i = elim (decided (eqb n k)) [
        | inl e ↦ ap (λ (b : Bool). b || is_in k (numbers_in f operation)) e
        | inr e ↦
            let old : is_in k order ≡ true = sym (or_nothing (is_in k order)) ∙ sym (ap (λ (b : Bool). is_in k order || (b || false)) e) ∙ sym (named k) ∙ i in
            ap (λ (b : Bool). b || is_in k (numbers_in f operation)) e ∙ order_inside f m.bounds k old
      ]
        where
          or_nothing : (b : Bool) → (b || false) ≡ b
          or_nothing true = refl
          or_nothing false = refl

      out_of : (k : ℕ) → (eqb n k || is_in k (numbers_in f operation)) ≡ true → (is_in k order || (eqb n k || false)) ≡ true
      out_of k i = elim (decided (eqb n k)) [
        | inl e ↦ ap (λ (b : Bool). is_in k order || (b || false)) e ∙ or-true (is_in k order)
        | inr e ↦ ap (λ (b : Bool). b || (eqb n k || false)) (inside_order f m.bounds k (sym (ap (λ (b : Bool). b || is_in k (numbers_in f operation)) e) ∙ i))
      ]

  first_more : T (final_first g)
  unfolding final_first is_first aircraft_at how_many with_sequence
  first_more =
      let same = elsewhere m final_approach_zone (past m final_approach_zone (omega arith)) in
      let First : List Aircraft → List ℕ → Bool = λ l ns. eqb (length l) 0 || is_head (get_or (nobody ∷ l) 1 nobody).number ns in
      let old = in_zone f final_approach_zone in
      let k = (get_or (nobody ∷ old) 1 nobody).number in
      subst (λ (l : List Aircraft). T (First l (order_of s))) (sym same)
      (subst (λ (ns : List ℕ). T (First old ns)) (sym longer)
      (elim (decided (eqb (length old) 0)) [
        | inl e ↦ or_left (eqb (length old) 0) (is_head k (order ++ (n ∷ []))) (pass e)
        | inr e ↦
            let head : is_head k order ≡ true = sym (ap (λ (b : Bool). b || is_head k order) e) ∙ passed (within_e f m.bounds).first in
            pass (ap (λ (b : Bool). b || is_head k (order ++ (n ∷ []))) e ∙ head_more k order (n ∷ []) head)
      ]))

  kept_more : (y : ℕ) → T (zone_kept (zone_of f y)) → T (zone_kept (zone_of g y))
  unfolding zone_of with_sequence
  kept_more =
      each_zone_with f z (zone_with f r) (zone m) m.shaped.zones (λ y p. T (zone_kept (zone_of f y)) → T (zone_kept p))
      (λ u. (kept_tail (zone_of f z) a (record { shaped = m.shaped.zone z; kept = u })).kept)
      (λ y h u. u)

  sequence_more : T (sequence_kept s)
  unfolding sequence_kept appended
  sequence_more =
      let q = f.sequence in
      let kept = and_r (leb q.length 4) (every (λ k. eqb k 0) (drop q.length q.numbers)) (within_e f m.bounds).sequence_kept_lem in
      let few = fewer in
      let places = m.shaped.sequence.places in
      let long : Sequence = record { numbers = set q.numbers q.length n; length = q.length + 1 } in
      subst (λ (p : Sequence). T (leb p.length 4 && every (λ k. eqb k 0) (drop p.length p.numbers))) (sym (if_true long q (lt-ltb q.length 4 few)))
      (and_i (leb (q.length + 1) 4) (every (λ k. eqb k 0) (drop (q.length + 1) (set q.numbers q.length n))) (le→leb (q.length + 1) 4 (omega (arith, few)))
      (subst (λ (i : ℕ). T (every (λ k. eqb k 0) (drop i (set q.numbers q.length n)))) (sym (add-one q.length))
      (behind_put (λ k. eqb k 0) q.numbers q.length n (omega (arith, few, places)) kept)))

  e_more : T (bound_e g)
  unfolding bound_e with_sequence
  e_more =
      let p = within_e f m.bounds in
      let two = numbers_differ g && sequence_exact g in
      let three = two && final_first g in
      let kept = every (λ y. zone_kept (zone_of g y)) everywhere in
      and_i (three && kept) (sequence_kept s)
      (and_i three kept
      (and_i two (final_first g) (and_i (numbers_differ g) (sequence_exact g) differ_more exact_more) first_more)
      (every_then (λ y. zone_kept (zone_of f y)) (λ y. zone_kept (zone_of g y)) (λ y. y) kept_more everywhere p.zones_kept))
      sequence_more

  -- ---- f
  own_fix : fix_of g n ≡ next
  unfolding how_many entering
  own_fix =
      let found = head_is g z a (here m) in
      let long = ap length (here m) in
      fix_at different (record { zone = zone m; first = omega arith; last = omega (arith, long); has = ap (λ (x : Aircraft). x.number) found }) ∙ ap (λ (x : Aircraft). x.fix) found

  old_fix : (k : ℕ) → is_in k order ≡ true → fix_of g k ≡ fix_of f k
  unfolding fix_of how_many aircraft_at
  old_fix k i =
      let there = in_left k (numbers_in f operation) (numbers_at f 13) (order_inside f m.bounds k i) in
      let p = found_there f k (ap (is_in k) (one_zone_more f 1 12) ∙ there) in
      let y = (place_of f k).zone in
      let place = (place_of f k).place in
      let other : y ≢ z = λ e. (let h = ap (λ (x : ℕ). length (in_zone f x)) e ∙ ap length m.above in let l = p.first in let u = p.last in omega (arith, h, l, u)) in
      let same : aircraft_at g y place ≡ aircraft_at f y place = ap (λ (l : List Aircraft). get_or (nobody ∷ l) place nobody) (elsewhere m y other) in
      let long = ap length (elsewhere m y other) in
      let last = p.last in
      fix_at different (record {
        zone = zone_between y p.listed;
        first = p.first;
        last = omega (arith, long, last);
        has = ap (λ (x : Aircraft). x.number) same ∙ p.has;
      }) ∙ ap (λ (x : Aircraft). x.fix) same
    where
      zone_between : (z : ℕ) → is_in z everywhere ≡ true → Between 1 13 z
      zone_between z e =
          let u = every_listed (λ (y : ℕ). leb 1 y && leb y 13) everywhere z tt e in
          record { least = leb→le 1 z (and_l (leb 1 z) (leb z 13) u); most = leb→le z 13 (and_r (leb 1 z) (leb z 13) u) }

  f_more : T (bound_f g)
  unfolding bound_f with_sequence
  f_more =
      let fixes = map_more (fix_of g) (fix_of f) order n old_fix ∙ ap (λ (x : ℕ). map (fix_of f) order ++ (x ∷ [])) own_fix in
      let all : map (fix_of g) (order_of s) ++ (opposite next ∷ []) ≡ map (fix_of f) order ++ (next ∷ opposite next ∷ []) =
      ap (λ (l : List ℕ). map (fix_of g) l ++ (opposite next ∷ [])) longer ∙ ap (λ (l : List ℕ). l ++ (opposite next ∷ [])) fixes
      ∙ append_assoc (map (fix_of f) order) (next ∷ []) (opposite next ∷ []) in
      subst (λ (l : List ℕ). T (alternate l)) (sym all) (alternate_more (map (fix_of f) order) next (within_each f m.bounds).bound_f_is)

  -- ---- g
  fits_more : (y : ℕ) → T (every (fits_zone f.legs y) (in_zone f y)) → T (every (fits_zone f.legs y) (in_zone g y))
  unfolding is_flying_zone
  fits_more y u = elim (decided (eqb y z)) [
    | inl e ↦
        let own = entering_fits f.legs z n next r.amount r.desk (next_side m) (record { least = m.known.speed_low; most = m.known.speed_high })
        (record { least = m.known.desk.low; most = m.known.desk.high }) (by_side m (λ (s : ℕ). is_flying_zone s ≡ false) refl refl) in
        subst (λ (x : ℕ). T (every (fits_zone f.legs x) (in_zone g x))) (sym (eqb-true y z e))
        (subst (λ (l : List Aircraft). T (every (fits_zone f.legs z) l)) (sym (here m)) (and_i (fits_zone f.legs z a) true own tt))
    | inr e ↦ subst (λ (l : List Aircraft). T (every (fits_zone f.legs y) l)) (sym (elsewhere m y (eqb-false y z e))) u
  ]

  g_more : T (bound_g g)
  unfolding bound_g with_zone with_sequence
  g_more =
      let fit : Field → Bool = λ h. every (λ y. every (fits_zone f.legs y) (in_zone h y)) everywhere in
      let w = (within_each f m.bounds).bound_g_is in
      let rest = and_l (fit f && is_side next) (legal_legs f.legs) w in
      and_i (fit g && is_side (opposite next)) (legal_legs f.legs)
      (and_i (fit g) (is_side (opposite next))
      (every_then (λ y. every (fits_zone f.legs y) (in_zone f y)) (λ y. every (fits_zone f.legs y) (in_zone g y)) (λ y. y) fits_more everywhere (and_l (fit f) (is_side next) rest))
      (opposite_side next (next_side m)))
      (and_r (fit f && is_side next) (legal_legs f.legs) w)

  -- All seven.
  pub within_entered : T (within_bounds (entered f r (at3000 r.side)))
  within_entered =
      subst (λ (h : Field). T (within_bounds h)) (sym (is_entered m))
      (each_within g (record { bound_a_is = a_more m; bound_b_is = b_more m; bound_c_is = c_more m; bound_d_is = d_more m; bound_e_is = e_more; bound_f_is = f_more; bound_g_is = g_more }))
