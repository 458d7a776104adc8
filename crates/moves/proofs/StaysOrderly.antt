-- Each change of the line that a request makes keeps it orderly, given that the finite model keeps its zones okay. Assumes nothing.
use mathlib.Core.Path.{◌≡◌, refl, sym, ap, ◌∙◌, subst}
use mathlib.Core.Bool.{Bool, true, false, not}
use mathlib.Core.List.{List, [], ◌∷◌, ◌++◌, map, append_assoc}
use Prim.Native.Nat.{ℕ, ◌≤◌}
use native.Mathlib.Omega.{arith}
use lib.Dec.{T}
use lib.Ieee.Fits.{and_i, and_r}
use Rattle.limits.specs.Limits.{longest_tick}
use Rattle.leg.specs.Ticks.{Between}
use Rattle.field.specs.declared.Aircraft.{Aircraft}
use Rattle.field.specs.declared.Legs.{Legs}
use Rattle.field.specs.Airspace.{is_side}
use Rattle.field.specs.Lists.{is_in, every, all_different}
use Rattle.fits.specs.Fits.{fits_zone}
use Rattle.order.specs.Model.{Side, right_side, left_side, opp, num, count, okay, first_fix}
use Rattle.field.proofs.NumberLists.{absent_both}
use Rattle.line.proofs.AheadInLists.{map_append, every_append, every_left, every_right, different_with}
use Rattle.laws.proofs.TickLaws.{every_then, fix_kept, fits_ticked}
use Rattle.line.proofs.Line.{Placed, zones_in, numbers_of}
use Rattle.line.proofs.CountedOnLine.{Alternates}
use Rattle.questions.proofs.FindLaws.{numbers}
use Rattle.line.proofs.Leaders.{nonzero}
use Rattle.line.proofs.Members.{count_append, different_count, count_different, nonzero_count, count_nonzero}
use Rattle.line.proofs.Orderly.{Orderly}
use Rattle.moves.proofs.Moves.{same_numbers}
use Rattle.moves.proofs.Enters.{entry_fix, alternates_after}
use Rattle.moves.proofs.TickOnLine.{tick_placed, zones_same, numbers_same}

-- ---- numbers: a list in which no number stands more often
module _ (xs ys : List ℕ) (h : (n : ℕ) → count xs n ≤ count ys n) where
  pub different_of : T (all_different ys) → T (all_different xs)
  different_of t = different_count xs (λ n. let a = h n in let b = count_different ys t n in omega arith)

  pub nonzero_of : T (every nonzero ys) → T (every nonzero xs)
  nonzero_of t = nonzero_count xs (let a = h 0 in let b = count_nonzero ys t in omega arith)

-- ---- a side is a fix that an aircraft may have
pub side_fits : (s : Side) → T (is_side (num s))
unfolding is_side
side_fits right_side = tt
side_fits left_side = tt

-- ---- fixes along a line with one changed
pub alternates_changed : (f : Side) (a : List Placed) (e g : Placed) (b : List Placed) → g.aircraft.fix ≡ e.aircraft.fix → Alternates f (a ++ e ∷ b) → Alternates f (a ++ g ∷ b)
alternates_changed f [] e g b h al = (h ∙ al.0, al.1)
alternates_changed f (x ∷ a) e g b h al = (al.0, alternates_changed (opp f) a e g b h al.1)

abbrev pub placed_fits : Legs → Placed → Bool
placed_fits legs e = fits_zone legs e.zone e.aircraft

-- ---- one of the line in another zone
pub changed : (f : Side) (a : List Placed) (e g : Placed) (b : List Placed) (runway : List Aircraft) (legs : Legs) → Orderly f (a ++ e ∷ b) runway legs
    → T (okay f (zones_in (a ++ g ∷ b))) → g.aircraft.number ≡ e.aircraft.number → g.aircraft.fix ≡ e.aircraft.fix → T (placed_fits legs g) → Orderly f (a ++ g ∷ b) runway legs
changed f a e g b runway legs o k n h fit =
    let ns = same_numbers a e g b (sym n) in
    record {
      okay_line = k;
      alternates = alternates_changed f a e g b h o.alternates;
      nonzeros = subst (λ (l : List ℕ). T (every nonzero (l ++ numbers runway))) ns o.nonzeros;
      different = subst (λ (l : List ℕ). T (all_different (l ++ numbers runway))) ns o.different;
      fit_line =
          every_append (placed_fits legs) a (g ∷ b) (every_left (placed_fits legs) a (e ∷ b) o.fit_line)
          (and_i (placed_fits legs g) (every (placed_fits legs) b) fit (and_r (placed_fits legs e) (every (placed_fits legs) b) (every_right (placed_fits legs) a (e ∷ b) o.fit_line)));
      fit_runway = o.fit_runway;
      one_landed = o.one_landed;
      legal = o.legal;
    }

-- ---- the first gone from the field
pub first_gone_lem : (f : Side) (e : Placed) (b : List Placed) (runway : List Aircraft) (legs : Legs) → Orderly f (e ∷ b) runway legs → T (okay (opp f) (zones_in b)) → Orderly (opp f) b runway legs
first_gone_lem f e b runway legs o k =
    let n = e.aircraft.number in
    let rest = numbers_of b ++ numbers runway in
    record {
      okay_line = k;
      alternates = o.alternates.1;
      nonzeros = and_r (nonzero n) (every nonzero rest) o.nonzeros;
      different = and_r (not (is_in n rest)) (all_different rest) o.different;
      fit_line = and_r (placed_fits legs e) (every (placed_fits legs) b) o.fit_line;
      fit_runway = o.fit_runway;
      one_landed = o.one_landed;
      legal = o.legal;
    }

-- ---- the runway taken and left
pub landed_on : (f : Side) (line : List Placed) (x : Aircraft) (legs : Legs) → Orderly f line [] legs → T (nonzero x.number)
    → is_in x.number (numbers_of line) ≡ false → T (fits_zone legs 13 x) → Orderly f line (x ∷ []) legs
landed_on f line x legs o z d fit =
    let ns = numbers_of line in
    let n = x.number in
    record {
      okay_line = o.okay_line;
      alternates = o.alternates;
      nonzeros = every_append nonzero ns (n ∷ []) (every_left nonzero ns [] o.nonzeros) (and_i (nonzero n) true z tt);
      different = different_with ns n [] (absent_both n ns [] d refl) o.different;
      fit_line = o.fit_line;
      fit_runway = and_i (fits_zone legs 13 x) true fit tt;
      one_landed = omega arith;
      legal = o.legal;
    }

pub runway_left : (f : Side) (line : List Placed) (runway : List Aircraft) (legs : Legs) → Orderly f line runway legs → Orderly f line [] legs
runway_left f line runway legs o =
    let ns = numbers_of line in
    let fewer : (n : ℕ) → count (ns ++ []) n ≤ count (ns ++ numbers runway) n = λ n. let a = count_append ns [] n in let b = count_append ns (numbers runway) n in omega arith in
    record {
      okay_line = o.okay_line;
      alternates = o.alternates;
      nonzeros = nonzero_of (ns ++ []) (ns ++ numbers runway) fewer o.nonzeros;
      different = different_of (ns ++ []) (ns ++ numbers runway) fewer o.different;
      fit_line = o.fit_line;
      fit_runway = tt;
      one_landed = omega arith;
      legal = o.legal;
    }

-- ---- one more at the end of the line
pub come : (s f : Side) (line : List Placed) (e : Placed) (runway : List Aircraft) (legs : Legs) → Orderly f line runway legs
    → T (okay (first_fix s f (zones_in line)) (zones_in line ++ (e.zone ∷ []))) → e.aircraft.fix ≡ num (entry_fix s f (zones_in line)) → T (nonzero e.aircraft.number)
    → is_in e.aircraft.number (numbers_of line ++ numbers runway) ≡ false
    → T (placed_fits legs e) → Orderly (first_fix s f (zones_in line)) (line ++ (e ∷ [])) runway legs
come s f line e runway legs o k h z d fit =
    let n = e.aircraft.number in
    let ns = numbers_of line in
    let now : numbers_of (line ++ (e ∷ [])) ++ numbers runway ≡ ns ++ n ∷ numbers runway =
    ap (λ (l : List ℕ). l ++ numbers runway) (map_append (λ (p : Placed). p.aircraft.number) line (e ∷ [])) ∙ append_assoc ns (n ∷ []) (numbers runway) in
    record {
      okay_line = subst (λ (l : List ℕ). T (okay (first_fix s f (zones_in line)) l)) (sym (map_append (λ (p : Placed). p.zone) line (e ∷ []))) k;
      alternates = alternates_after s f line e o.alternates h;
      nonzeros =
          subst (λ (l : List ℕ). T (every nonzero l)) (sym now)
          (every_append nonzero ns (n ∷ numbers runway) (every_left nonzero ns (numbers runway) o.nonzeros)
          (and_i (nonzero n) (every nonzero (numbers runway)) z (every_right nonzero ns (numbers runway) o.nonzeros)));
      different = subst (λ (l : List ℕ). T (all_different l)) (sym now) (different_with ns n (numbers runway) d o.different);
      fit_line = every_append (placed_fits legs) line (e ∷ []) o.fit_line (and_i (placed_fits legs e) true fit tt);
      fit_runway = o.fit_runway;
      one_landed = o.one_landed;
      legal = o.legal;
    }

-- ---- a tick

alternates_ticked : (amount : ℕ) (f : Side) (line : List Placed) → Alternates f line → Alternates f (map (tick_placed amount) line)
alternates_ticked amount f [] al = tt
alternates_ticked amount f (e ∷ line) al = (fix_kept amount e.zone e.aircraft ∙ al.0, alternates_ticked amount (opp f) line al.1)

pub ticked_orderly : (f : Side) (line : List Placed) (runway : List Aircraft) (legs : Legs) (amount : ℕ) → Between 1 longest_tick amount → Orderly f line runway legs
    → Orderly f (map (tick_placed amount) line) runway legs
ticked_orderly f line runway legs amount r o =
    record {
      okay_line = subst (λ (l : List ℕ). T (okay f l)) (sym (zones_same amount line)) o.okay_line;
      alternates = alternates_ticked amount f line o.alternates;
      nonzeros = subst (λ (l : List ℕ). T (every nonzero (l ++ numbers runway))) (sym (numbers_same amount line)) o.nonzeros;
      different = subst (λ (l : List ℕ). T (all_different (l ++ numbers runway))) (sym (numbers_same amount line)) o.different;
      fit_line = every_then (placed_fits legs) (placed_fits legs) (tick_placed amount) (λ e. fits_ticked legs amount e.zone o.legal r e.aircraft) line o.fit_line;
      fit_runway = o.fit_runway;
      one_landed = o.one_landed;
      legal = o.legal;
    }
