-- What holds of every okay sequence: its bounds, that entries and moves lead to okay sequences again, that a move makes the weight
-- smaller, and that the first can always go on.
-- A claim, such as `moved`, is tested of all okay sequences by computation, with others in one declaration (`moves_computed`), and the
-- fact is read off. Assumes nothing.
use mathlib.Core.Path.{◌≡◌, refl, subst}
use mathlib.Core.Bool.{true, cond, not, ◌&&◌, ◌||◌}
use mathlib.Core.List.{List, [], ◌∷◌, ◌++◌}
use Prim.Native.Nat.{ℕ, ◌+◌, ◌≤◌, ◌<◌}
use lib.Dec.{T, leb, ltb, eqb, leb→le, ltb→lt, eqb_refl}
use lib.ListN.{length}
use lib.Ieee.Fits.{and_i}
use Rattle.request.specs.Input.{within}
use Rattle.field.specs.Airspace.{opposite, side_of, at3000, at2000, lateral, missed, area, operation, zones_from}
use Rattle.questions.specs.Counts.{total}
use Rattle.field.specs.Lists.{every}
use Rattle.order.specs.Model.{Side, right_side, left_side, opp, num, count, count_fix, free, is_nil, Kind, descend, approaching, merge}
use Rattle.order.specs.Model.{final, hold, needs, target, may_come_in, may_enter, may_enter_lateral, first_fix, okay, weight, heaviest}
use Rattle.field.proofs.TestLaws.{implies, implied}
use Rattle.order.proofs.Claims.{EachHolds, Claim, Test, Passed, of_all, of_all_lem, One, Two, of_sequences, of_sequence, of_ones, of_one, of_twos, of_two}

-- ---- the sequence as a whole

-- nobody yet
pub okay_empty : (f : Side) → T (okay f [])
unfolding okay
okay_empty f = tt

-- the bounds that name no side
abbrev fitting : Claim (List ℕ)
fitting =
    record {
      given = λ f zs. true;
      shown = λ f zs. leb (length zs) 4 ∷ every (within 1 12) zs ∷ leb (weight zs) heaviest ∷ every (λ z. leb (count zs z) 1) (zones_from 1 6) ∷ [];
    }

-- the bounds of side s
abbrev fitting_side : Side → Claim (List ℕ)
fitting_side s =
    record {
      given = λ f zs. true;
      shown =
          λ f zs.
          leb (total (count zs) (area (num s))) 2
          ∷ (free zs (lateral (num s)) || (free zs (at3000 (num s)) && free zs (at2000 (num s)) && free zs (missed (num s))))
          ∷ leb (total (count_fix f zs (num s)) operation) 2
          ∷ [];
    }

-- what is tested of the whole sequence: a declaration builds the sequences once, and its memory grows with all that it tests
abbrev bound_tests : List Test
bound_tests = of_sequences fitting ∷ of_sequences (fitting_side right_side) ∷ of_sequences (fitting_side left_side) ∷ []

bounds_computed : T (of_all bound_tests)
unfolding weight
bounds_computed = tt

fitting_holds : Passed (of_sequences fitting)
fitting_holds = of_all_lem bound_tests bounds_computed 0

fitting_side_holds : (s : Side) → Passed (of_sequences (fitting_side s))
fitting_side_holds right_side = of_all_lem bound_tests bounds_computed 1
fitting_side_holds left_side = of_all_lem bound_tests bounds_computed 2

-- at most four in the sequence
pub okay_length : (f : Side) (zs : List ℕ) → T (okay f zs) → length zs ≤ 4
okay_length f zs o = leb→le (length zs) 4 (of_sequence fitting fitting_holds f zs o tt 0)

-- all of them in zones 1 to 12
pub okay_zones : (f : Side) (zs : List ℕ) → T (okay f zs) → T (every (within 1 12) zs)
okay_zones f zs o = of_sequence fitting fitting_holds f zs o tt 1

-- the weight is at most the heaviest
pub weight_small : (f : Side) (zs : List ℕ) → T (okay f zs) → weight zs ≤ heaviest
weight_small f zs o = leb→le (weight zs) heaviest (of_sequence fitting fitting_holds f zs o tt 2)

-- bounds b, c and d of document 01, said of the sequence
pub record Bounds (f : Side) (zs : List ℕ) : Type 0 where
  -- b
  pub areas : (s : Side) → total (count zs) (area (num s)) ≤ 2
  -- c: of each zone by itself
  pub single : T (every (λ z. leb (count zs z) 1) (zones_from 1 6))
  -- c: beside one in a lateral zone
  pub lateral_alone : (s : Side) → T (free zs (lateral (num s)) || (free zs (at3000 (num s)) && free zs (at2000 (num s)) && free zs (missed (num s))))
  -- d
  pub fixes : (s : Side) → total (count_fix f zs (num s)) operation ≤ 2

-- bounds b, c and d hold
pub okay_bounds : (f : Side) (zs : List ℕ) → T (okay f zs) → Bounds f zs
okay_bounds f zs o =
    let of_side : (s : Side) → EachHolds ((fitting_side s).shown f zs) = λ s. of_sequence (fitting_side s) (fitting_side_holds s) f zs o tt in
    record {
      areas = λ s. leb→le (total (count zs) (area (num s))) 2 (of_side s 0);
      single = of_sequence fitting fitting_holds f zs o tt 3;
      lateral_alone = λ s. of_side s 1;
      fixes = λ s. leb→le (total (count_fix f zs (num s)) operation) 2 (of_side s 2);
    }

-- ---- entries

-- vertical entry on side s
abbrev entered : Side → Claim (List ℕ)
entered s = record { given = λ f zs. may_enter f zs (num s); shown = λ f zs. okay (first_fix s f zs) (zs ++ (at3000 (num s) ∷ [])) ∷ [] }

-- lateral entry on side s
abbrev entered_lateral : Side → Claim (List ℕ)
entered_lateral s =
    record { given = λ f zs. may_enter_lateral f zs (num s); shown = λ f zs. okay (first_fix s f zs) (zs ++ (lateral (num s) ∷ [])) ∷ [] }

-- what is tested of entries
abbrev entry_tests : List Test
entry_tests = of_sequences (entered right_side) ∷ of_sequences (entered left_side) ∷ of_sequences (entered_lateral right_side) ∷ of_sequences (entered_lateral left_side) ∷ []

entries_computed : T (of_all entry_tests)
unfolding okay
entries_computed = tt

entered_holds : (s : Side) → Passed (of_sequences (entered s))
entered_holds right_side = of_all_lem entry_tests entries_computed 0
entered_holds left_side = of_all_lem entry_tests entries_computed 1

entered_lateral_holds : (s : Side) → Passed (of_sequences (entered_lateral s))
entered_lateral_holds right_side = of_all_lem entry_tests entries_computed 2
entered_lateral_holds left_side = of_all_lem entry_tests entries_computed 3

-- an entry to 3000 leads to an okay sequence
pub enter : (f s : Side) (zs : List ℕ) → T (okay f zs) → T (may_enter f zs (num s)) → T (okay (first_fix s f zs) (zs ++ (at3000 (num s) ∷ [])))
enter f s zs o u = of_sequence (entered s) (entered_holds s) f zs o u 0

-- a lateral entry leads to an okay sequence
pub enter_lateral : (f s : Side) (zs : List ℕ) → T (okay f zs) → T (may_enter_lateral f zs (num s)) → T (okay (first_fix s f zs) (zs ++ (lateral (num s) ∷ [])))
enter_lateral f s zs o u = of_sequence (entered_lateral s) (entered_lateral_holds s) f zs o u 0

-- ---- a move of one

-- the one in zone z, with zs₁ ahead of it and zs₂ behind it, has gone to zone w
pub record Moved (f : Side) (zs₁ : List ℕ) (z w : ℕ) (zs₂ : List ℕ) : Type 0 where
  pub okay_after : T (okay f (zs₁ ++ w ∷ zs₂))
  -- nobody behind is in the zone that is entered
  pub none_behind : T (free zs₂ w)
  pub other : T (not (eqb w z))
  pub inside : T (within 1 12 w)
  -- the weight is smaller
  pub lighter : weight (zs₁ ++ w ∷ zs₂) < weight (zs₁ ++ z ∷ zs₂)

-- a move of one by the kind
abbrev moved : Kind → Claim One
moved k =
    record {
      given = λ f (zs₁, z, zs₂). free zs₁ z && needs k zs₁ z zs₂;
      shown =
          λ f (zs₁, z, zs₂).
          let w = target k zs₁ z zs₂ in
          okay f (zs₁ ++ w ∷ zs₂) ∷ free zs₂ w ∷ not (eqb w z) ∷ within 1 12 w ∷ ltb (weight (zs₁ ++ w ∷ zs₂)) (weight (zs₁ ++ z ∷ zs₂)) ∷ [];
    }

-- what is tested of the moves
abbrev move_tests : List Test
move_tests =
    of_ones (moved descend) ∷ of_ones (moved approaching) ∷ of_ones (moved merge) ∷ of_ones (moved final) ∷ of_ones (moved hold) ∷ []

moves_computed : T (of_all move_tests)
unfolding okay weight opposite side_of
moves_computed = tt

moved_holds : (k : Kind) → Passed (of_ones (moved k))
moved_holds descend = of_all_lem move_tests moves_computed 0
moved_holds approaching = of_all_lem move_tests moves_computed 1
moved_holds merge = of_all_lem move_tests moves_computed 2
moved_holds final = of_all_lem move_tests moves_computed 3
moved_holds hold = of_all_lem move_tests moves_computed 4

-- a move by a kind whose needs are met, of one at the head of its zone
pub moves : (k : Kind) (f : Side) (zs₁ : List ℕ) (z : ℕ) (zs₂ : List ℕ)
    → T (okay f (zs₁ ++ z ∷ zs₂)) → T (free zs₁ z) → T (needs k zs₁ z zs₂) → Moved f zs₁ z (target k zs₁ z zs₂) zs₂
moves k f zs₁ z zs₂ o h n =
    let w = target k zs₁ z zs₂ in
    let m = of_one (moved k) (moved_holds k) f zs₁ z zs₂ o (and_i (free zs₁ z) (needs k zs₁ z zs₂) h n) in
    record {
      okay_after = m 0;
      none_behind = m 1;
      other = m 2;
      inside = m 3;
      lighter = ltb→lt (weight (zs₁ ++ w ∷ zs₂)) (weight (zs₁ ++ z ∷ zs₂)) (m 4);
    }

-- ---- an entry and a hold where 3000 is occupied

-- the one at 3000, zone z and side z, descends, and then another may enter
abbrev comes_in : Claim One
comes_in =
    record {
      given = λ f (zs₁, z, zs₂). needs descend zs₁ z zs₂;
      shown = λ f (zs₁, z, zs₂). implies (may_come_in f (zs₁ ++ z ∷ zs₂) z) (may_enter f (zs₁ ++ at2000 z ∷ zs₂) z) ∷ [];
    }

-- one at 3000 leads those in the missed zone of the side
abbrev holding_leads : Claim One
holding_leads = record { given = λ f (zs₁, z, zs₂). within 7 8 z; shown = λ f (zs₁, z, zs₂). free zs₂ (at3000 (side_of z)) ∷ [] }

-- a move of two by a hold
abbrev both_moved : Claim Two
both_moved =
    record {
      given = λ f (zs₁, y, zs₂, z, zs₃). within 7 8 z && eqb y (at3000 (side_of z)) && free (zs₁ ++ y ∷ zs₂) z;
      shown =
          λ f (zs₁, y, zs₂, z, zs₃).
          let w = at2000 (side_of z) in
          okay f (zs₁ ++ w ∷ (zs₂ ++ y ∷ zs₃))
          ∷ free zs₁ y
          ∷ free (zs₂ ++ z ∷ zs₃) w
          ∷ free zs₃ y
          ∷ okay f (zs₁ ++ w ∷ (zs₂ ++ z ∷ zs₃))
          ∷ not (eqb w y)
          ∷ not (eqb y z)
          ∷ not (eqb w z)
          ∷ within 1 12 y
          ∷ within 1 12 w
          ∷ ltb (weight (zs₁ ++ w ∷ (zs₂ ++ y ∷ zs₃))) (weight (zs₁ ++ y ∷ (zs₂ ++ z ∷ zs₃)))
          ∷ [];
    }

-- what is tested where 3000 is occupied
abbrev above_tests : List Test
above_tests = of_ones comes_in ∷ of_ones holding_leads ∷ of_twos both_moved ∷ []

above_computed : T (of_all above_tests)
unfolding okay weight side_of
above_computed = tt

comes_in_holds : Passed (of_ones comes_in)
comes_in_holds = of_all_lem above_tests above_computed 0

holding_leads_holds : Passed (of_ones holding_leads)
holding_leads_holds = of_all_lem above_tests above_computed 1

both_moved_holds : Passed (of_twos both_moved)
both_moved_holds = of_all_lem above_tests above_computed 2

-- an entry that needs only an empty 3000 may be made once the one there has descended
pub enter_above : (f : Side) (zs₁ : List ℕ) (z : ℕ) (zs₂ : List ℕ)
    → T (okay f (zs₁ ++ z ∷ zs₂)) → T (needs descend zs₁ z zs₂) → T (may_come_in f (zs₁ ++ z ∷ zs₂) z) → T (may_enter f (zs₁ ++ at2000 z ∷ zs₂) z)
enter_above f zs₁ z zs₂ o n u =
    implied (may_come_in f (zs₁ ++ z ∷ zs₂) z) (may_enter f (zs₁ ++ at2000 z ∷ zs₂) z) (of_one comes_in comes_in_holds f zs₁ z zs₂ o n 0) u

-- nobody at 3000 is behind one in the missed zone of the side
pub hold_ahead : (f : Side) (zs₁ : List ℕ) (z : ℕ) (zs₂ : List ℕ)
    → T (within 7 8 z) → T (okay f (zs₁ ++ z ∷ zs₂)) → T (free zs₂ (at3000 (side_of z)))
hold_ahead f zs₁ z zs₂ u o = of_one holding_leads holding_leads_holds f zs₁ z zs₂ o u 0

-- the one at 3000, zone y, has gone to 2000, zone w, and the one in the missed zone z to 3000
pub record BothMoved (f : Side) (zs₁ : List ℕ) (y w : ℕ) (zs₂ : List ℕ) (z : ℕ) (zs₃ : List ℕ) : Type 0 where
  pub okay_after : T (okay f (zs₁ ++ w ∷ (zs₂ ++ y ∷ zs₃)))
  -- the one at 3000 is at its head
  pub head_above : T (free zs₁ y)
  -- nobody behind it is at 2000
  pub none_below : T (free (zs₂ ++ z ∷ zs₃) w)
  -- nobody behind the missed one is at 3000
  pub none_behind : T (free zs₃ y)
  -- the sequence between the two moves
  pub okay_within : T (okay f (zs₁ ++ w ∷ (zs₂ ++ z ∷ zs₃)))
  pub apart : T (not (eqb w y)) × T (not (eqb y z)) × T (not (eqb w z))
  pub inside_y : T (within 1 12 y)
  pub inside_w : T (within 1 12 w)
  -- the weight is smaller
  pub lighter : weight (zs₁ ++ w ∷ (zs₂ ++ y ∷ zs₃)) < weight (zs₁ ++ y ∷ (zs₂ ++ z ∷ zs₃))

-- a hold of one at the head of its missed zone, where 3000 is occupied
pub hold_both : (f : Side) (zs₁ zs₂ : List ℕ) (z : ℕ) (zs₃ : List ℕ)
    → T (within 7 8 z) → T (okay f (zs₁ ++ at3000 (side_of z) ∷ (zs₂ ++ z ∷ zs₃))) → T (free (zs₁ ++ at3000 (side_of z) ∷ zs₂) z)
    → BothMoved f zs₁ (at3000 (side_of z)) (at2000 (side_of z)) zs₂ z zs₃
hold_both f zs₁ zs₂ z zs₃ u o h =
    let y = at3000 (side_of z) in
    let w = at2000 (side_of z) in
    let given = and_i (within 7 8 z && eqb y y) (free (zs₁ ++ y ∷ zs₂) z) (and_i (within 7 8 z) (eqb y y) u (eqb_refl y)) h in
    let m = of_two both_moved both_moved_holds f zs₁ y zs₂ z zs₃ o given in
    record {
      okay_after = m 0;
      head_above = m 1;
      none_below = m 2;
      none_behind = m 3;
      okay_within = m 4;
      apart = (m 5, m 6, m 7);
      inside_y = m 8;
      inside_w = m 9;
      lighter = ltb→lt (weight (zs₁ ++ w ∷ (zs₂ ++ y ∷ zs₃))) (weight (zs₁ ++ y ∷ (zs₂ ++ z ∷ zs₃))) (m 10);
    }

-- ---- the first of the sequence

-- the kind of request that moves the one in zone z on
abbrev pub head_kind : ℕ → Kind
head_kind z = cond (within 1 2 z) descend (cond (within 3 6 z) approaching (cond (within 7 8 z) hold (cond (within 9 10 z) merge final)))

-- the first leaves the sequence, and can go on
abbrev first_goes : Claim One
first_goes =
    record {
      given = λ f (zs₁, z, zs₂). is_nil zs₁;
      shown = λ f (zs₁, z, zs₂). okay (opp f) zs₂ ∷ (eqb z 12 || needs (head_kind z) [] z zs₂) ∷ [];
    }

-- without the first, in zone v, the weight is smaller by at least n
abbrev first_gone : ℕ → ℕ → Claim One
first_gone v n =
    record { given = λ f (zs₁, z, zs₂). is_nil zs₁ && eqb z v; shown = λ f (zs₁, z, zs₂). leb (n + weight zs₂) (weight (z ∷ zs₂)) ∷ [] }

-- the first, on final, misses its approach
abbrev first_misses : Claim One
first_misses =
    record {
      given = λ f (zs₁, z, zs₂). is_nil zs₁ && eqb z 12;
      shown = λ f (zs₁, z, zs₂). okay (first_fix f (opp f) zs₂) (zs₂ ++ (missed (num f) ∷ [])) ∷ [];
    }

-- the head of final leads the sequence
abbrev final_leads : Claim One
final_leads = record { given = λ f (zs₁, z, zs₂). eqb z 12 && free zs₁ 12; shown = λ f (zs₁, z, zs₂). is_nil zs₁ ∷ [] }

-- what is tested of the first
abbrev first_tests : List Test
first_tests = of_ones first_goes ∷ of_ones (first_gone 11 1) ∷ of_ones (first_gone 12 2) ∷ of_ones first_misses ∷ of_ones final_leads ∷ []

first_computed : T (of_all first_tests)
unfolding okay weight opposite side_of
first_computed = tt

first_goes_holds : Passed (of_ones first_goes)
first_goes_holds = of_all_lem first_tests first_computed 0

first_exits_holds : Passed (of_ones (first_gone 11 1))
first_exits_holds = of_all_lem first_tests first_computed 1

first_lands_holds : Passed (of_ones (first_gone 12 2))
first_lands_holds = of_all_lem first_tests first_computed 2

first_misses_holds : Passed (of_ones first_misses)
first_misses_holds = of_all_lem first_tests first_computed 3

final_leads_holds : Passed (of_ones final_leads)
final_leads_holds = of_all_lem first_tests first_computed 4

-- the sequence without its first is okay
pub first_leaves : (f : Side) (z : ℕ) (zs : List ℕ) → T (okay f (z ∷ zs)) → T (okay (opp f) zs)
first_leaves f z zs o = of_one first_goes first_goes_holds f [] z zs o tt 0

-- the first can go on, or is on final
pub head_moves : (f : Side) (z : ℕ) (zs : List ℕ) → T (okay f (z ∷ zs)) → T (eqb z 12 || needs (head_kind z) [] z zs)
head_moves f z zs o = of_one first_goes first_goes_holds f [] z zs o tt 1

-- an exit of the first, on intermediate, makes the weight smaller
pub exit_lighter : (f : Side) (z : ℕ) (zs : List ℕ) → z ≡ 11 → T (okay f (z ∷ zs)) → 1 + weight zs ≤ weight (z ∷ zs)
exit_lighter f z zs e o =
    leb→le (1 + weight zs) (weight (z ∷ zs)) (of_one (first_gone 11 1) first_exits_holds f [] z zs o (subst (λ (v : ℕ). T (eqb z v)) e (eqb_refl z)) 0)

-- a landing of the first, on final, makes it smaller by at least two: one of them is for the taxi that follows
pub landing_lighter : (f : Side) (z : ℕ) (zs : List ℕ) → z ≡ 12 → T (okay f (z ∷ zs)) → 2 + weight zs ≤ weight (z ∷ zs)
landing_lighter f z zs e o =
    leb→le (2 + weight zs) (weight (z ∷ zs)) (of_one (first_gone 12 2) first_lands_holds f [] z zs o (subst (λ (v : ℕ). T (eqb z v)) e (eqb_refl z)) 0)

-- a missed approach leads to an okay sequence
pub misses : (f : Side) (zs : List ℕ) → T (okay f (12 ∷ zs)) → T (okay (first_fix f (opp f) zs) (zs ++ (missed (num f) ∷ [])))
misses f zs o = of_one first_misses first_misses_holds f [] 12 zs o tt 0

-- what is tested to be empty is empty
nil_of : (zs : List ℕ) → T (is_nil zs) → zs ≡ []
nil_of [] t = refl
nil_of (z ∷ zs) t = absurd t

-- nobody is ahead of the head of final
pub final_first_lem : (f : Side) (zs₁ zs₂ : List ℕ) → T (okay f (zs₁ ++ 12 ∷ zs₂)) → T (free zs₁ 12) → zs₁ ≡ []
final_first_lem f zs₁ zs₂ o h = nil_of zs₁ (of_one final_leads final_leads_holds f zs₁ 12 zs₂ o h 0)
