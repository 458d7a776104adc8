-- What it means that a line is orderly, and laws of it. Assumes nothing.
use mathlib.Core.Path.{◌≡◌, refl, sym, ap, ◌∙◌}
use mathlib.Core.Logic.{◌⊎◌, inl, inr}
use mathlib.Core.Bool.{Bool, true, false, cond, ◌&&◌}
use mathlib.Core.List.{List, [], ◌∷◌, ◌++◌, map}
use Prim.Native.Nat.{ℕ, suc, ◌+◌, ◌≤◌}
use native.Mathlib.Omega.{arith}
use lib.Dec.{T, eqb, eqb→eq}
use lib.ListN.{length}
use lib.Ieee.{eq, of_int}
use lib.Ieee.Fits.{and_i, and_l, and_r}
use borrow.Author.Tests.{eq-eqb, eqb-true}
use Rattle.request.specs.Input.{within}
use Rattle.field.specs.declared.Aircraft.{Aircraft}
use Rattle.field.specs.declared.Legs.{Legs}
use Rattle.field.specs.Airspace.{opposite}
use Rattle.field.specs.Lists.{every, all_different}
use Rattle.bounds.specs.Bounds.{is_nobody, zone_kept, sequence_kept, alternate}
use Rattle.fits.specs.Fits.{fits_zone, legal_legs}
use Rattle.order.specs.Model.{Side, right_side, left_side, opp, num, next_fix, count, free, okay}
use Rattle.field.proofs.TestLaws.{pass, decided}
use Rattle.line.proofs.Line.{zone_for, sequence_for, Placed, zones_in, numbers_of, inside}
use Rattle.line.proofs.CountedOnLine.{length_inside, Alternates}
use Rattle.questions.proofs.FindLaws.{numbers}
use Rattle.line.proofs.Leaders.{nonzero}

-- ---- what is kept
pub record Orderly (f : Side) (line : List Placed) (runway : List Aircraft) (legs : Legs) : Type 0 where
  -- the zones of the line, with the fix of its first, are a sequence of the finite model that is okay
  pub okay_line : T (okay f (zones_in line))
  pub alternates : Alternates f line
  pub nonzeros : T (every nonzero (numbers_of line ++ numbers runway))
  pub different : T (all_different (numbers_of line ++ numbers runway))
  pub fit_line : T (every (λ (e : Placed). fits_zone legs e.zone e.aircraft) line)
  pub fit_runway : T (every (fits_zone legs 13) runway)
  pub one_landed : length runway ≤ 1
  pub legal : T (legal_legs legs)

-- ---- tests over zones
pub every_zone : (p : ℕ → Bool) (zs : List ℕ) → T (every (within 1 13) zs) → ((z : ℕ) → T (within 1 13 z) → T (p z)) → T (every p zs)
every_zone p [] t h = tt
every_zone p (z ∷ zs) t h =
    and_i (p z) (every p zs) (h z (and_l (within 1 13 z) (every (within 1 13) zs) t)) (every_zone p zs (and_r (within 1 13 z) (every (within 1 13) zs) t) h)

pub every_same : (p q : ℕ → Bool) (zs : List ℕ) → T (every (within 1 12) zs) → ((z : ℕ) → T (within 1 12 z) → p z ≡ q z) → every p zs ≡ every q zs
every_same p q [] t e = refl
every_same p q (z ∷ zs) t e =
    ap (λ (b : Bool). b && every p zs) (e z (and_l (within 1 12 z) (every (within 1 12) zs) t))
    ∙ ap (λ (b : Bool). q z && b) (every_same p q zs (and_r (within 1 12 z) (every (within 1 12) zs) t) e)

-- ---- a queue and a sequence of at most four are kept as arrays should be
pub kept_for : (xs : List Aircraft) → length xs ≤ 4 → T (zone_kept (zone_for xs))
unfolding zone_kept is_nobody eq of_int
kept_for [] h = tt
kept_for (x ∷ []) h = tt
kept_for (x ∷ y ∷ []) h = tt
kept_for (x ∷ y ∷ z ∷ []) h = tt
kept_for (x ∷ y ∷ z ∷ w ∷ []) h = tt
kept_for (x ∷ y ∷ z ∷ w ∷ v ∷ rest) h = absurd (omega arith)

pub sequence_kept_lem : (ns : List ℕ) → length ns ≤ 4 → T (sequence_kept (sequence_for ns))
unfolding sequence_kept
sequence_kept_lem [] h = tt
sequence_kept_lem (x ∷ []) h = tt
sequence_kept_lem (x ∷ y ∷ []) h = tt
sequence_kept_lem (x ∷ y ∷ z ∷ []) h = tt
sequence_kept_lem (x ∷ y ∷ z ∷ w ∷ []) h = tt
sequence_kept_lem (x ∷ y ∷ z ∷ w ∷ v ∷ rest) h = absurd (omega arith)

-- ---- lengths
pub length_zones : (line : List Placed) → length (zones_in line) ≡ length line
length_zones [] = refl
length_zones (e ∷ line) = ap suc (length_zones line)

pub length_numbers : (line : List Placed) → length (numbers_of line) ≡ length line
length_numbers [] = refl
length_numbers (e ∷ line) = ap suc (length_numbers line)

count_le : (zs : List ℕ) (z : ℕ) → count zs z ≤ length zs
count_le [] z = omega arith
count_le (y ∷ zs) z = go (eqb y z) (count_le zs z)
  where
    go : (b : Bool) → count zs z ≤ length zs → cond b 1 0 + count zs z ≤ suc (length zs)
    go true h = omega arith
    go false h = omega arith

pub inside_le : (z : ℕ) (line : List Placed) → length (inside z line) ≤ length line
inside_le z line = let a = length_inside z line in let b = count_le (zones_in line) z in let c = length_zones line in omega arith

-- ---- the first of a zone in the line, or nobody is there
pub record Split (z : ℕ) (line : List Placed) : Type 0 where
  pub ahead : List Placed
  pub here : Placed
  pub behind : List Placed
  pub whole : line ≡ ahead ++ here ∷ behind
  pub at_zone_is : here.zone ≡ z
  pub none_ahead : T (free (zones_in ahead) z)

pub first_in : (z : ℕ) (line : List Placed) → T (free (zones_in line) z) ⊎ Split z line
first_in z [] = inl tt
first_in z (e ∷ line) = go (decided (eqb e.zone z)) (first_in z line)
  where
    go : (eqb e.zone z ≡ true) ⊎ (eqb e.zone z ≡ false) → T (free (zones_in line) z) ⊎ Split z line → T (free (zones_in (e ∷ line)) z) ⊎ Split z (e ∷ line)
    go (inl t) rest = inr (record { ahead = []; here = e; behind = line; whole = refl; at_zone_is = eqb-true e.zone z t; none_ahead = tt })
    go (inr t) (inl u) = inl (pass (ap (λ (b : Bool). eqb (cond b 1 0 + count (zones_in line) z) 0) t ∙ ap (λ (n : ℕ). eqb (0 + n) 0) (eqb→eq (count (zones_in line) z) 0 u)))
    go (inr t) (inr s) =
        inr
        (record {
          ahead = e ∷ s.ahead;
          here = s.here;
          behind = s.behind;
          whole = ap (λ (l : List Placed). e ∷ l) s.whole;
          at_zone_is = s.at_zone_is;
          none_ahead = pass (ap (λ (b : Bool). eqb (cond b 1 0 + count (zones_in s.ahead) z) 0) t ∙ ap (λ (n : ℕ). eqb (0 + n) 0) (eqb→eq (count (zones_in s.ahead) z) 0 s.none_ahead));
        })

-- ---- fixes along the line
abbrev pub fixes_of : List Placed → List ℕ
fixes_of line = map (λ e. e.aircraft.fix) line

pub opposite_num : (f : Side) → opposite (num f) ≡ num (opp f)
unfolding opposite
opposite_num right_side = refl
opposite_num left_side = refl

pub alternates_pass : (f : Side) (line : List Placed) → Alternates f line → T (alternate (fixes_of line ++ (num (next_fix f (zones_in line)) ∷ [])))
alternates_pass f [] a = tt
alternates_pass f (e ∷ []) a = and_i (eqb (num (opp f)) (opposite e.aircraft.fix)) true (pass (eq-eqb (num (opp f)) (opposite e.aircraft.fix) (sym (ap opposite a.0 ∙ opposite_num f)))) tt
alternates_pass f (e ∷ g ∷ line) a =
    and_i (eqb g.aircraft.fix (opposite e.aircraft.fix)) (alternate (fixes_of (g ∷ line) ++ (num (next_fix (opp f) (zones_in (g ∷ line))) ∷ [])))
    (pass (eq-eqb g.aircraft.fix (opposite e.aircraft.fix) (a.1.0 ∙ sym (ap opposite a.0 ∙ opposite_num f))))
    (alternates_pass (opp f) (g ∷ line) a.1)
