-- The counts of a field that an order stands for are those of the finite model. Assumes nothing.
use mathlib.Core.Path.{◌≡◌, refl, ap, ◌∙◌}
use mathlib.Core.Bool.{Bool, true, false, cond, not, ◌&&◌}
use mathlib.Core.List.{List, [], ◌∷◌, ◌++◌}
use Prim.Native.Nat.{ℕ, ◌+◌}
use native.Mathlib.Omega.{arith}
use lib.Dec.{T, leb, eqb, leb→le, le→leb, eqb→eq}
use lib.ListN.{length}
use lib.Ieee.Fits.{and_i, and_l, and_r}
use borrow.Author.Tests.{ne_eqb}
use Rattle.request.specs.Input.{within}
use Rattle.field.specs.declared.Aircraft.{Aircraft}
use Rattle.field.specs.declared.Legs.{Legs}
use Rattle.field.specs.declared.Field.{Field}
use Rattle.field.specs.Airspace.{zone_of, queue_of, in_zone, area, approach, operation, runway, missed, everywhere}
use Rattle.field.specs.Lists.{is_in, every}
use Rattle.questions.specs.Counts.{total, have_fix, how_many, how_many_with_fix, in_operation, in_area, per_fix, approach_holds, counted_for, potential_of}
use Rattle.order.specs.Model.{Side, right_side, left_side, opp, num, next_fix, count, count_fix, free, potential}
use Rattle.field.proofs.TestLaws.{if_false, each_zone, each_operation}
use Rattle.line.proofs.Line.{zone_for, queue_for, zone_by, Placed, zones_in, numbers_of, inside, zones_of, sequence_for, field_of}

-- ---- what is inside a zone
pub inside_append : (z : ℕ) (a b : List Placed) → inside z (a ++ b) ≡ inside z a ++ inside z b
inside_append z [] b = refl
inside_append z (e ∷ a) b = go (eqb e.zone z) (inside_append z a b)
  where
    go : (t : Bool) → inside z (a ++ b) ≡ inside z a ++ inside z b
        → cond t (e.aircraft ∷ inside z (a ++ b)) (inside z (a ++ b)) ≡ cond t (e.aircraft ∷ inside z a) (inside z a) ++ inside z b
    go true h = ap (λ (l : List Aircraft). e.aircraft ∷ l) h
    go false h = h

pub length_inside : (z : ℕ) (line : List Placed) → length (inside z line) ≡ count (zones_in line) z
length_inside z [] = refl
length_inside z (e ∷ line) = go (eqb e.zone z) (length_inside z line)
  where
    go : (t : Bool) → length (inside z line) ≡ count (zones_in line) z
        → length (cond t (e.aircraft ∷ inside z line) (inside z line)) ≡ cond t 1 0 + count (zones_in line) z
    go true h = omega arith
    go false h = omega arith

-- a free zone is empty
pub none : (xs : List Aircraft) → length xs ≡ 0 → xs ≡ []
none [] e = refl
none (x ∷ xs) e = absurd (omega arith)

pub free_inside : (z : ℕ) (line : List Placed) → T (free (zones_in line) z) → inside z line ≡ []
free_inside z line t = none (inside z line) (length_inside z line ∙ eqb→eq (count (zones_in line) z) 0 t)

-- the fixes alternate along the line, and the first has f
abbrev pub Alternates : Side → List Placed → Type 0
Alternates f [] = Unit {0}
Alternates f (e ∷ line) = (e.aircraft.fix ≡ num f) × Alternates (opp f) line

pub fixes_inside : (f : Side) (s z : ℕ) (line : List Placed) → Alternates f line → have_fix s (inside z line) ≡ count_fix f (zones_in line) s z
fixes_inside f s z [] a = refl
fixes_inside f s z (e ∷ line) a = go (eqb e.zone z) (fixes_inside (opp f) s z line a.1)
  where
    both : (b : Bool) → b ≡ (b && true)
    both true = refl
    both false = refl

    neither : (b : Bool) → ◌≡◌ {A = ℕ} 0 (cond (b && false) 1 0)
    neither true = refl
    neither false = refl

    go : (t : Bool) → have_fix s (inside z line) ≡ count_fix (opp f) (zones_in line) s z
        → have_fix s (cond t (e.aircraft ∷ inside z line) (inside z line)) ≡ cond (eqb (num f) s && t) 1 0 + count_fix (opp f) (zones_in line) s z
    go true h =
        ap (λ (n : ℕ). cond (eqb n s) 1 0 + have_fix s (inside z line)) a.0
        ∙ ap (λ (b : Bool). cond b 1 0 + have_fix s (inside z line)) (both (eqb (num f) s))
        ∙ ap (λ (n : ℕ). cond (eqb (num f) s && true) 1 0 + n) h
    go false h = let n = neither (eqb (num f) s) in omega arith

-- ---- zones of the field
pub lower : (z : ℕ) → T (within 1 12 z) → T (within 1 13 z)
lower z t =
    let a = leb→le 1 z (and_l (leb 1 z) (leb z 12) t) in
    let b = leb→le z 12 (and_r (leb 1 z) (leb z 12) t) in
    and_i (leb 1 z) (leb z 13) (le→leb 1 z a) (le→leb z 13 (omega arith))

pub not_13 : (z : ℕ) → T (within 1 12 z) → eqb z 13 ≡ false
not_13 z t = ne_eqb z 13 (λ e. let b = leb→le z 12 (and_r (leb 1 z) (leb z 12) t) in omega arith)

module _ (f : Side) (line : List Placed) (runway : List Aircraft) (legs : Legs) where
  pub zone_of_line : (z : ℕ) → T (within 1 12 z) → zone_of (field_of f line runway legs) z ≡ zone_for (inside z line)
  unfolding field_of
  zone_of_line z t =
      zone_by (zones_of line runway) (sequence_for (numbers_of line)) (num (next_fix f (zones_in line))) legs z (lower z t)
      ∙ if_false (zone_for runway) (zone_for (inside z line)) (not_13 z t)

  pub zone_of_runway : zone_of (field_of f line runway legs) 13 ≡ zone_for runway
  unfolding field_of
  zone_of_runway = zone_by (zones_of line runway) (sequence_for (numbers_of line)) (num (next_fix f (zones_in line))) legs 13 tt

  pub in_line : (z : ℕ) → T (within 1 12 z) → in_zone (field_of f line runway legs) z ≡ inside z line
  unfolding in_zone
  in_line z t = ap queue_of (zone_of_line z t) ∙ queue_for (inside z line)

  pub on_runway_lem : in_zone (field_of f line runway legs) 13 ≡ runway
  unfolding in_zone
  on_runway_lem = ap queue_of zone_of_runway ∙ queue_for runway

  pub how_many_lem : (z : ℕ) → T (within 1 12 z) → how_many (field_of f line runway legs) z ≡ count (zones_in line) z
  unfolding how_many
  how_many_lem z t = ap length (in_line z t) ∙ length_inside z line

  pub how_many_runway : how_many (field_of f line runway legs) 13 ≡ length runway
  unfolding how_many
  how_many_runway = ap length on_runway_lem

  pub how-many-with-fix : Alternates f line → (s z : ℕ) → T (within 1 12 z) → how_many_with_fix (field_of f line runway legs) s z ≡ count_fix f (zones_in line) s z
  unfolding how_many_with_fix
  how-many-with-fix a s z t = ap (have_fix s) (in_line z t) ∙ fixes_inside f s z line a

-- ---- sums over zones
pub total_same : (g h : ℕ → ℕ) (zs : List ℕ) → T (every (within 1 12) zs) → ((z : ℕ) → T (within 1 12 z) → g z ≡ h z) → total g zs ≡ total h zs
total_same g h [] t e = refl
total_same g h (z ∷ zs) t e =
    ap (λ (n : ℕ). n + total g zs) (e z (and_l (within 1 12 z) (every (within 1 12) zs) t))
    ∙ ap (λ (n : ℕ). h z + n) (total_same g h zs (and_r (within 1 12 z) (every (within 1 12) zs) t) e)

-- a side's area, and its missed zone, lie in the operation area; zones 1 to 13 are everywhere
pub side_area : (s : Side) → T (every (within 1 12) (area (num s)))
side_area right_side = tt
side_area left_side = tt

pub missed_in : (s : Side) → T (within 1 12 (missed (num s)))
missed_in right_side = tt
missed_in left_side = tt

pub in_everywhere : (z : ℕ) → T (within 1 13 z) → is_in z everywhere ≡ true
in_everywhere = each_zone (λ y. is_in y everywhere ≡ true) (refl, (refl, (refl, (refl, (refl, (refl, (refl, (refl, (refl, (refl, (refl, (refl, (refl, tt)))))))))))))

module _ (f : Side) (line : List Placed) (runway : List Aircraft) (legs : Legs) where
  abbrev F : Field
  F = field_of f line runway legs

  pub in_operation_lem : in_operation F ≡ total (count (zones_in line)) operation
  unfolding in_operation
  in_operation_lem = total_same (how_many F) (count (zones_in line)) operation tt (how_many_lem f line runway legs)

  pub in_area_lem : (s : Side) → in_area F (num s) ≡ total (count (zones_in line)) (area (num s))
  unfolding in_area
  in_area_lem s = total_same (how_many F) (count (zones_in line)) (area (num s)) (side_area s) (how_many_lem f line runway legs)

  module _ (a : Alternates f line) where
    pub per_fix_lem : (s : ℕ) → per_fix F s ≡ total (count_fix f (zones_in line) s) operation
    unfolding per_fix
    per_fix_lem s = total_same (how_many_with_fix F s) (count_fix f (zones_in line) s) operation tt (how-many-with-fix f line runway legs a s)

    pub approach_holds_lem : (s : ℕ) → approach_holds F s ≡ not (eqb (total (count_fix f (zones_in line) s) approach) 0)
    unfolding approach_holds
    approach_holds_lem s = ap (λ (n : ℕ). not (eqb n 0)) (total_same (how_many_with_fix F s) (count_fix f (zones_in line) s) approach tt (how-many-with-fix f line runway legs a s))

    pub potential_is : (s : ℕ) → potential_of F s ≡ potential f (zones_in line) s
    unfolding potential_of counted_for
    potential_is s =
        total_same (counted_for F s) (λ z. cond (is_in z (area s)) (count (zones_in line) z) (count_fix f (zones_in line) s z)) operation tt
        (λ z t. ap (λ (n : ℕ). cond (is_in z (area s)) n (how_many_with_fix F s z)) (how_many_lem f line runway legs z t)
        ∙ ap (λ (n : ℕ). cond (is_in z (area s)) (count (zones_in line) z) n) (how-many-with-fix f line runway legs a s z t))

-- ---- the counts of the model over all zones add up to the list's length

-- what is counted in one zone is counted once
pub one_each : (n z : ℕ) → T (within 1 12 z) → total (λ w. cond (eqb z w) n 0) operation ≡ n
one_each n z t =
    each_operation (λ (z : ℕ). total (λ w. cond (eqb z w) n 0) operation ≡ n)
    (omega arith, omega arith, omega arith, omega arith, omega arith, omega arith, omega arith, omega arith, omega arith, omega arith, omega arith, omega arith)
    z t

pub total_add : (g h : ℕ → ℕ) (zs : List ℕ) → total (λ z. g z + h z) zs ≡ total g zs + total h zs
total_add g h [] = refl
total_add g h (z ∷ zs) = let e = total_add g h zs in omega arith

pub total_none : (zs : List ℕ) → total (λ z. 0) zs ≡ 0
total_none [] = refl
total_none (z ∷ zs) = let e = total_none zs in omega arith

pub all_counted : (zs : List ℕ) → T (every (within 1 12) zs) → total (count zs) operation ≡ length zs
all_counted [] t = refl
all_counted (z ∷ zs) t =
    let a = one_each 1 z (and_l (within 1 12 z) (every (within 1 12) zs) t) in
    let b = all_counted zs (and_r (within 1 12 z) (every (within 1 12) zs) t) in
    let c = total_add (λ w. cond (eqb z w) 1 0) (count zs) operation in
    omega arith
