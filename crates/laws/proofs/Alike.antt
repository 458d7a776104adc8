-- What the bounds a to f ask of those in the queues: their numbers and their fixes alone. Assumes nothing.
use mathlib.Core.Path.{◌≡◌, refl, sym, ap, ◌∙◌, fun_ext}
use mathlib.Core.Bool.{Bool, cond, not, ◌&&◌, ◌||◌}
use mathlib.Core.List.{List, [], ◌∷◌, ◌++◌, map}
use Prim.Native.Nat.{ℕ, ◌+◌}
use lib.Dec.{eqb, leb}
use lib.ListN.{length, get_or, length-map, get_or-map}
use Rattle.field.specs.declared.Aircraft.{Aircraft}
use Rattle.field.specs.declared.Sequence.{Sequence}
use Rattle.field.specs.declared.Field.{Field}
use Rattle.questions.specs.declared.Place.{Place}
use Rattle.field.specs.Airspace.{right, left, at3000, at2000, lateral, missed, final_approach_zone, runway, area, zones_from, operation, everywhere, nobody, in_zone, order_of}
use Rattle.field.specs.Lists.{is_in, every, all_different}
use Rattle.questions.specs.Counts.{total, have_fix, how_many, how_many_with_fix, in_operation, in_area, per_fix}
use Rattle.questions.specs.Find.{place_of, aircraft_at, fix_of, is_first, numbers_in}
use Rattle.bounds.specs.Bounds.{bound_a, bound_b, lateral_rule, bound_c, bound_d, final_first, alternate, bound_f}
use Rattle.numbers.specs.Numbers.{numbers_differ, sequence_exact}
use Rattle.questions.proofs.NumbersListed.{number_of}
use Rattle.questions.proofs.FindLaws.{look_up_same, numbers_same}

abbrev pub fix_of_one : Aircraft → ℕ
fix_of_one a = a.fix

-- the same numbers and the same fixes in every queue, the same sequence and the same next fix
pub record Alike (f g : Field) : Type 0 where
  pub numbers : (z : ℕ) → map number_of (in_zone f z) ≡ map number_of (in_zone g z)
  pub fixes : (z : ℕ) → map fix_of_one (in_zone f z) ≡ map fix_of_one (in_zone g z)
  pub sequence : f.sequence ≡ g.sequence
  pub next : f.next ≡ g.next

-- those in a list of fixes that are the side
abbrev are_fix : ℕ → List ℕ → ℕ
are_fix side [] = 0
are_fix side (s ∷ ss) = cond (eqb s side) 1 0 + are_fix side ss

have_fix_is : (side : ℕ) (xs : List Aircraft) → have_fix side xs ≡ are_fix side (map fix_of_one xs)
have_fix_is side [] = refl
have_fix_is side (x ∷ xs) = ap (λ (n : ℕ). cond (eqb x.fix side) 1 0 + n) (have_fix_is side xs)

module _ (f g : Field) (e : Alike f g) where
  -- ---- counts
  pub how_many_alike : (z : ℕ) → how_many f z ≡ how_many g z
  unfolding how_many
  how_many_alike z = sym (length-map (in_zone f z) number_of) ∙ ap length (e.numbers z) ∙ length-map (in_zone g z) number_of

  pub with_fix_alike : (side z : ℕ) → how_many_with_fix f side z ≡ how_many_with_fix g side z
  unfolding how_many_with_fix
  with_fix_alike side z = have_fix_is side (in_zone f z) ∙ ap (are_fix side) (e.fixes z) ∙ sym (have_fix_is side (in_zone g z))

  many : how_many f ≡ how_many g
  many = fun_ext how_many_alike

  with_fix : how_many_with_fix f ≡ how_many_with_fix g
  with_fix = fun_ext (λ side. fun_ext (with_fix_alike side))

  -- ---- who is where
  at_alike : (part : Aircraft → ℕ) → ((z : ℕ) → map part (in_zone f z) ≡ map part (in_zone g z)) → (z place : ℕ) → part (aircraft_at f z place) ≡ part (aircraft_at g z place)
  unfolding aircraft_at
  at_alike part h z place =
      sym (get_or-map part (nobody ∷ in_zone f z) place nobody)
      ∙ ap (λ (l : List ℕ). get_or (part nobody ∷ l) place (part nobody)) (h z)
      ∙ get_or-map part (nobody ∷ in_zone g z) place nobody

  fix_of_alike : (n : ℕ) → fix_of f n ≡ fix_of g n
  unfolding fix_of
  fix_of_alike n =
      ap (λ (p : Place). (aircraft_at f p.zone p.place).fix) (look_up_same f g n e.numbers)
      ∙ at_alike fix_of_one e.fixes (place_of g n).zone (place_of g n).place

  -- ---- bounds
  pub a_alike : bound_a f ≡ bound_a g
  unfolding bound_a in_operation
  a_alike = ap (λ (h : ℕ → ℕ). leb (total h operation) 4 && leb (h runway) 1) many

  pub b_alike : bound_b f ≡ bound_b g
  unfolding bound_b in_area
  b_alike = ap (λ (h : ℕ → ℕ). leb (total h (area right)) 2 && leb (total h (area left)) 2) many

  pub c_alike : bound_c f ≡ bound_c g
  unfolding bound_c lateral_rule
  c_alike = ap (λ (h : ℕ → ℕ). every (λ z. leb (h z) 1) (zones_from 1 6) && alone h right && alone h left) many
    where
      -- the lateral rule by how many are in each zone
      alone : (ℕ → ℕ) → ℕ → Bool
      alone h side = eqb (h (lateral side)) 0 || (eqb (h (at3000 side)) 0 && eqb (h (at2000 side)) 0 && eqb (h (missed side)) 0)

  pub d_alike : bound_d f ≡ bound_d g
  unfolding bound_d per_fix
  d_alike = ap (λ (h : ℕ → ℕ → ℕ). leb (total (h right) operation) 2 && leb (total (h left) operation) 2) with_fix

  -- of bound e
  pub differ_alike : numbers_differ f ≡ numbers_differ g
  unfolding numbers_differ
  differ_alike = ap (λ (l : List ℕ). every (λ n. not (eqb n 0)) l && all_different l) (numbers_same f g e.numbers everywhere)

  pub exact_alike : sequence_exact f ≡ sequence_exact g
  unfolding sequence_exact
  exact_alike =
      ap (λ (s : Sequence). exact s (numbers_in f operation)) e.sequence
      ∙ ap (exact g.sequence) (numbers_same f g e.numbers operation)
    where
      exact : Sequence → List ℕ → Bool
      exact s l = all_different (order_of s) && every (λ n. is_in n l) (order_of s) && every (λ n. is_in n (order_of s)) l

  pub first_alike : final_first f ≡ final_first g
  unfolding final_first
  first_alike =
      ap (λ (h : ℕ → ℕ). eqb (h final_approach_zone) 0 || is_first f.sequence (aircraft_at f final_approach_zone 1).number) many
      ∙ ap (λ (s : Sequence). eqb (how_many g final_approach_zone) 0 || is_first s (aircraft_at f final_approach_zone 1).number) e.sequence
      ∙ ap (λ (n : ℕ). eqb (how_many g final_approach_zone) 0 || is_first g.sequence n) (at_alike number_of e.numbers final_approach_zone 1)

  pub f_alike : bound_f f ≡ bound_f g
  unfolding bound_f
  f_alike =
      ap (λ (h : ℕ → ℕ). alternate (map h (order_of f.sequence) ++ (f.next ∷ []))) (fun_ext fix_of_alike)
      ∙ ap (λ (s : Sequence). alternate (map (fix_of g) (order_of s) ++ (f.next ∷ []))) e.sequence
      ∙ ap (λ (n : ℕ). alternate (map (fix_of g) (order_of g.sequence) ++ (n ∷ []))) e.next
