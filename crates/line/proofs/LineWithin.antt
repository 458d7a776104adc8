-- A field that an orderly line stands for is within the bounds a to g. Assumes nothing.
use mathlib.Core.Path.{◌≡◌, refl, sym, ap, ◌∙◌, subst}
use mathlib.Core.Logic.{◌⊎◌, inl, inr}
use mathlib.Core.Bool.{Bool, true, false, cond, ◌&&◌, ◌||◌}
use mathlib.Core.List.{List, [], ◌∷◌, ◌++◌, map, append_assoc}
use Prim.Native.Nat.{ℕ, ◌≤◌}
use native.Mathlib.Nat.{le_trans}
use native.Mathlib.Omega.{arith}
use lib.Dec.{T, leb, eqb, le→leb}
use lib.ListN.{length}
use lib.Ieee.Fits.{and_i, and_l, and_r}
use Rattle.request.specs.Input.{within}
use Rattle.field.specs.declared.Aircraft.{Aircraft}
use Rattle.field.specs.declared.Zone.{Zone}
use Rattle.field.specs.declared.Legs.{Legs}
use Rattle.field.specs.declared.Field.{Field}
use Rattle.field.specs.Airspace.{is_side, at3000, at2000, lateral, missed, zones_from, operation, everywhere, zone_of, in_zone, order_of}
use Rattle.field.specs.Lists.{is_in, every, all_different}
use Rattle.questions.specs.Counts.{how_many, in_operation, in_area, per_fix, is_empty}
use Rattle.questions.specs.Find.{aircraft_at, fix_of, is_first, numbers_in}
use Rattle.bounds.specs.Bounds.{bound_a, bound_b, lateral_rule, bound_c, bound_d, final_first, zone_kept, sequence_kept, bound_e, alternate, bound_f, within_bounds}
use Rattle.fits.specs.Fits.{fits_zone, legal_legs, bound_g}
use Rattle.numbers.specs.Numbers.{numbers_differ, sequence_exact}
use Rattle.order.specs.Model.{Side, right_side, left_side, num, next_fix, count, free, is_nil, okay}
use Rattle.order.proofs.Facts.{okay_length, okay_zones, Bounds, okay_bounds, final_first_lem}
use Rattle.field.proofs.TestLaws.{pass, decided, or_left, or_right}
use Rattle.line.proofs.AheadInLists.{map_append}
use Rattle.line.proofs.Line.{order_for, Placed, zones_in, numbers_of, inside, field_of}
use Rattle.line.proofs.CountedOnLine.{free_inside, zone_of_line, zone_of_runway, in_line, on_runway_lem, how_many_lem, how_many_runway, in_operation_lem, in_area_lem, per_fix_lem, all_counted}
use Rattle.questions.proofs.FindLaws.{numbers}
use Rattle.line.proofs.Located.{zone_split, fix_there, first_there, head_there}
use Rattle.line.proofs.Leaders.{nonzero, all_at}
use Rattle.line.proofs.Members.{count_append, different_count, count_different, nonzero_count, count_nonzero, every_in, operation_numbers, field_numbers}
use Rattle.line.proofs.Orderly.{Orderly, every_zone, every_same, kept_for, sequence_kept_lem, length_zones, length_numbers, inside_le, Split, first_in, fixes_of, alternates_pass}

-- the aircraft of a zone fit it where those of the line fit theirs
fit_inside : (legs : Legs) (z : ℕ) (line : List Placed) → T (every (λ (e : Placed). fits_zone legs e.zone e.aircraft) line) → T (every (fits_zone legs z) (inside z line))
fit_inside legs z [] t = tt
fit_inside legs z (e ∷ line) t =
    go (decided (eqb e.zone z)) (fit_inside legs z line (and_r (fits_zone legs e.zone e.aircraft) (every (λ (e : Placed). fits_zone legs e.zone e.aircraft) line) t))
  where
    here : T (fits_zone legs e.zone e.aircraft)
    here = and_l (fits_zone legs e.zone e.aircraft) (every (λ (e : Placed). fits_zone legs e.zone e.aircraft) line) t

    go : (eqb e.zone z ≡ true) ⊎ (eqb e.zone z ≡ false) → T (every (fits_zone legs z) (inside z line))
        → T (every (fits_zone legs z) (cond (eqb e.zone z) (e.aircraft ∷ inside z line) (inside z line)))
    go (inl b) h =
        subst (λ (c : Bool). T (every (fits_zone legs z) (cond c (e.aircraft ∷ inside z line) (inside z line)))) (sym b)
        (and_i (fits_zone legs z e.aircraft) (every (fits_zone legs z) (inside z line)) (subst (λ (w : ℕ). T (fits_zone legs w e.aircraft)) (borrow.Author.Tests.eqb-true e.zone z b) here) h)
    go (inr b) h = subst (λ (c : Bool). T (every (fits_zone legs z) (cond c (e.aircraft ∷ inside z line) (inside z line)))) (sym b) h

module _ (f : Side) (line : List Placed) (runway : List Aircraft) (legs : Legs) (o : Orderly f line runway legs) where
  abbrev F : Field
  F = field_of f line runway legs

  abbrev zs : List ℕ
  zs = zones_in line

  four : length line ≤ 4
  four = let a = okay_length f zs o.okay_line in let b = length_zones line in omega arith

  zones_in_lem : T (every (within 1 12) zs)
  zones_in_lem = okay_zones f zs o.okay_line

  facts : Bounds f zs
  facts = okay_bounds f zs o.okay_line

  -- a test of at most k, by what the count is
  at_most : (k : ℕ) {m n : ℕ} → m ≡ n → n ≤ k → T (leb m k)
  at_most k {m} {n} e h = le→leb m k (omega arith)

  pub a_holds : T (bound_a F)
  unfolding bound_a
  a_holds =
      and_i (leb (in_operation F) 4) (leb (how_many F 13) 1)
      (at_most 4 (in_operation_lem f line runway legs ∙ all_counted zs zones_in_lem ∙ length_zones line) four)
      (at_most 1 (how_many_runway f line runway legs) o.one_landed)

  pub b_holds : T (bound_b F)
  unfolding bound_b
  b_holds =
      and_i (leb (in_area F 1) 2) (leb (in_area F 2) 2)
      (at_most 2 (in_area_lem f line runway legs right_side) (facts.areas right_side))
      (at_most 2 (in_area_lem f line runway legs left_side) (facts.areas left_side))

  empty_is : (z : ℕ) → T (within 1 12 z) → is_empty F z ≡ free zs z
  empty_is z t = ap (λ (n : ℕ). eqb n 0) (how_many_lem f line runway legs z t)

  lateral_holds : (s : Side) → T (within 1 12 (lateral (num s))) → T (within 1 12 (at3000 (num s))) → T (within 1 12 (at2000 (num s))) → T (within 1 12 (missed (num s))) → T (lateral_rule F (num s))
  unfolding lateral_rule
  lateral_holds s t u v w =
      subst T
      (sym
      (ap (λ (b : Bool). b || (is_empty F (at3000 (num s)) && is_empty F (at2000 (num s)) && is_empty F (missed (num s)))) (empty_is (lateral (num s)) t)
      ∙ ap (λ (b : Bool). free zs (lateral (num s)) || (b && is_empty F (at2000 (num s)) && is_empty F (missed (num s)))) (empty_is (at3000 (num s)) u)
      ∙ ap (λ (b : Bool). free zs (lateral (num s)) || (free zs (at3000 (num s)) && b && is_empty F (missed (num s)))) (empty_is (at2000 (num s)) v)
      ∙ ap (λ (b : Bool). free zs (lateral (num s)) || (free zs (at3000 (num s)) && free zs (at2000 (num s)) && b)) (empty_is (missed (num s)) w)))
      (facts.lateral_alone s)

  pub c_holds : T (bound_c F)
  unfolding bound_c
  c_holds =
      let p = every (λ z. leb (how_many F z) 1) (zones_from 1 6) in
      and_i (p && lateral_rule F 1) (lateral_rule F 2)
      (and_i p (lateral_rule F 1)
      (subst T (sym (every_same (λ z. leb (how_many F z) 1) (λ z. leb (count zs z) 1) (zones_from 1 6) tt (λ z t. ap (λ (n : ℕ). leb n 1) (how_many_lem f line runway legs z t)))) facts.single)
      (lateral_holds right_side tt tt tt tt))
      (lateral_holds left_side tt tt tt tt)

  pub d_holds : T (bound_d F)
  unfolding bound_d
  d_holds =
      and_i (leb (per_fix F 1) 2) (leb (per_fix F 2) 2)
      (at_most 2 (per_fix_lem f line runway legs o.alternates 1) (facts.fixes right_side))
      (at_most 2 (per_fix_lem f line runway legs o.alternates 2) (facts.fixes left_side))

  -- ---- e
  once : (n : ℕ) → count (numbers_of line ++ numbers runway) n ≤ 1
  once = count_different (numbers_of line ++ numbers runway) o.different

  differ : T (numbers_differ F)
  unfolding numbers_differ
  differ =
      and_i (every nonzero (numbers_in F everywhere)) (all_different (numbers_in F everywhere))
      (nonzero_count (numbers_in F everywhere) (field_numbers f line runway legs zones_in_lem 0 ∙ count_nonzero (numbers_of line ++ numbers runway) o.nonzeros))
      (different_count (numbers_in F everywhere) (λ n. let a = field_numbers f line runway legs zones_in_lem n in let b = once n in omega arith))

  order_is : order_of F.sequence ≡ numbers_of line
  unfolding field_of
  order_is = order_for (numbers_of line)

  exact : T (sequence_exact F)
  unfolding sequence_exact
  exact =
      subst (λ (ns : List ℕ). T (all_different ns && every (λ n. is_in n (numbers_in F operation)) ns && every (λ n. is_in n ns) (numbers_in F operation))) (sym order_is)
      (and_i (all_different (numbers_of line) && every (λ n. is_in n (numbers_in F operation)) (numbers_of line)) (every (λ n. is_in n (numbers_of line)) (numbers_in F operation))
      (and_i (all_different (numbers_of line)) (every (λ n. is_in n (numbers_in F operation)) (numbers_of line))
      (different_count (numbers_of line) (λ n. let a = count_append (numbers_of line) (numbers runway) n in let b = once n in omega arith))
      (every_in (numbers_of line) (numbers_in F operation) (λ n. let a = operation_numbers f line runway legs zones_in_lem n in omega arith)))
      (every_in (numbers_in F operation) (numbers_of line) (λ n. let a = operation_numbers f line runway legs zones_in_lem n in omega arith)))

  kept : T (every (λ z. zone_kept (zone_of F z)) everywhere)
  kept =
      every_zone (λ z. zone_kept (zone_of F z)) everywhere tt
      (zone_split {P = λ z. T (zone_kept (zone_of F z))}
      (subst (λ (q : Zone). T (zone_kept q)) (sym (zone_of_runway f line runway legs)) (kept_for runway (let a = o.one_landed in omega arith)))
      (λ z t. subst (λ (q : Zone). T (zone_kept q)) (sym (zone_of_line f line runway legs z t)) (kept_for (inside z line) (le_trans (inside_le z line) four))))

  sequence_holds : T (sequence_kept F.sequence)
  unfolding field_of
  sequence_holds = sequence_kept_lem (numbers_of line) (let a = length_numbers line in let b = four in omega arith)

  -- ---- f
  -- the fixes by look-up are those of the line, from any place of it on
  fixes_from : (a b : List Placed) → line ≡ a ++ b → map (fix_of F) (numbers_of b) ≡ fixes_of b
  fixes_from a [] e = refl
  fixes_from a (x ∷ b) e =
      let d = subst (λ (l : List Placed). T (all_different (numbers_of l ++ numbers runway))) e o.different in
      let t = all_at (within 1 12) (λ (p : Placed). p.zone) a x b (subst (λ (l : List Placed). T (every (within 1 12) (zones_in l))) e zones_in_lem) in
      let h : fix_of F x.aircraft.number ≡ x.aircraft.fix = ap (λ (l : List Placed). fix_of (field_of f l runway legs) x.aircraft.number) e ∙ fix_there f a x b runway legs d t in
      let r = fixes_from (a ++ (x ∷ [])) b (e ∙ sym (append_assoc a (x ∷ []) b)) in
      ap (λ (n : ℕ). n ∷ map (fix_of F) (numbers_of b)) h ∙ ap (λ (l : List ℕ). x.aircraft.fix ∷ l) r

  next_is : F.next ≡ num (next_fix f zs)
  unfolding field_of
  next_is = refl

  f_holds : T (bound_f F)
  unfolding bound_f
  f_holds =
      subst (λ (l : List ℕ). T (alternate (l ++ (F.next ∷ [])))) (sym (ap (map (fix_of F)) order_is ∙ fixes_from [] line refl))
      (subst (λ (n : ℕ). T (alternate (fixes_of line ++ (n ∷ [])))) (sym next_is) (alternates_pass f line o.alternates))

  -- ---- g
  side_num : (s : Side) → T (is_side (num s))
  unfolding is_side
  side_num right_side = tt
  side_num left_side = tt

  legs_are : F.legs ≡ legs
  unfolding field_of
  legs_are = refl

  g_holds : T (bound_g F)
  unfolding bound_g
  g_holds =
      let p = every (λ z. every (fits_zone F.legs z) (in_zone F z)) everywhere in
      and_i (p && is_side F.next) (legal_legs F.legs)
      (and_i p (is_side F.next)
      (every_zone (λ z. every (fits_zone F.legs z) (in_zone F z)) everywhere tt
      (zone_split {P = λ z. T (every (fits_zone F.legs z) (in_zone F z))}
      (subst (λ (l : Legs). T (every (fits_zone l 13) (in_zone F 13))) (sym legs_are)
      (subst (λ (q : List Aircraft). T (every (fits_zone legs 13) q)) (sym (on_runway_lem f line runway legs)) o.fit_runway))
      (λ z t. subst (λ (l : Legs). T (every (fits_zone l z) (in_zone F z))) (sym legs_are)
      (subst (λ (q : List Aircraft). T (every (fits_zone legs z) q)) (sym (in_line f line runway legs z t)) (fit_inside legs z line o.fit_line)))))
      (subst (λ (n : ℕ). T (is_side n)) (sym next_is) (side_num (next_fix f zs))))
      (subst (λ (l : Legs). T (legal_legs l)) (sym legs_are) o.legal)

  -- ---- the head of final heads the sequence
  final_at : (s : Split 12 line) → T (is_first F.sequence (aircraft_at F 12 1).number)
  final_at s =
      let a = s.ahead in
      let e = s.here in
      let b = s.behind in
      let n = e.aircraft.number in
      let k = subst (λ (l : List Placed). T (okay f (zones_in l))) s.whole o.okay_line in
      let k₂ = subst (λ (l : List ℕ). T (okay f l)) (map_append (λ (p : Placed). p.zone) a (e ∷ b) ∙ ap (λ (z : ℕ). zones_in a ++ z ∷ zones_in b) s.at_zone_is) k in
      let d = subst (λ (l : List Placed). T (all_different (numbers_of l ++ numbers runway))) s.whole o.different in
      let t = subst (λ (z : ℕ). T (within 1 12 z)) (sym s.at_zone_is) tt in
      let h : inside e.zone a ≡ [] = free_inside e.zone a (subst (λ (z : ℕ). T (free (zones_in a) z)) (sym s.at_zone_is) s.none_ahead) in
      let x : (aircraft_at F 12 1).number ≡ n =
      ap (λ (l : List Placed). (aircraft_at (field_of f l runway legs) 12 1).number) s.whole
      ∙ ap (λ (z : ℕ). (aircraft_at (field_of f (a ++ e ∷ b) runway legs) z 1).number) (sym s.at_zone_is)
      ∙ ap (λ (y : Aircraft). y.number) (head_there f a e b runway legs d t h) in
      let y : is_first F.sequence n ≡ true =
      ap (λ (l : List Placed). is_first (field_of f l runway legs).sequence n) s.whole ∙ first_there f a e b runway legs d ∙ ap is_nil (final_first_lem f (zones_in a) (zones_in b) k₂ s.none_ahead) in
      pass (ap (is_first F.sequence) x ∙ y)

  final_holds : T (final_first F)
  unfolding final_first
  final_holds =
      elim (first_in 12 line) [
        | inl t ↦ or_left (is_empty F 12) (is_first F.sequence (aircraft_at F 12 1).number) (subst T (sym (empty_is 12 tt)) t)
        | inr s ↦ or_right (is_empty F 12) (is_first F.sequence (aircraft_at F 12 1).number) (final_at s)
      ]

  e_holds : T (bound_e F)
  unfolding bound_e
  e_holds =
      let p = every (λ z. zone_kept (zone_of F z)) everywhere in
      and_i (numbers_differ F && sequence_exact F && final_first F && p) (sequence_kept F.sequence)
      (and_i (numbers_differ F && sequence_exact F && final_first F) p
      (and_i (numbers_differ F && sequence_exact F) (final_first F) (and_i (numbers_differ F) (sequence_exact F) differ exact) final_holds) kept)
      sequence_holds

  -- ---- all seven
  pub within_bounds_lem : T (within_bounds F)
  unfolding within_bounds
  within_bounds_lem =
      let ab = bound_a F && bound_b F in
      let abc = ab && bound_c F in
      let abcd = abc && bound_d F in
      let abcde = abcd && bound_e F in
      let abcdef = abcde && bound_f F in
      and_i abcdef (bound_g F) (and_i abcde (bound_f F) (and_i abcd (bound_e F)
      (and_i abc (bound_d F) (and_i ab (bound_c F) (and_i (bound_a F) (bound_b F) a_holds b_holds) c_holds) d_holds) e_holds) f_holds) g_holds
