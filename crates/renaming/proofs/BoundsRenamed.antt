-- The bounds on a field with its numbers renamed: they hold exactly where they held. They ask of numbers only which are 0, which are equal, and which the sequence names. Assumes nothing.
use mathlib.Core.Path.{◌≡◌, refl, ap, ◌∙◌, fun_ext}
use mathlib.Core.Bool.{Bool, not, ◌&&◌, ◌||◌}
use mathlib.Core.List.{List, [], ◌∷◌, ◌++◌, map, map-map}
use Prim.Native.Nat.{ℕ}
use lib.Dec.{eqb, leb}
use lib.ListN.{drop}
use Rattle.field.specs.declared.Aircraft.{Aircraft}
use Rattle.field.specs.declared.Zone.{Zone}
use Rattle.field.specs.declared.Sequence.{Sequence}
use Rattle.field.specs.declared.Field.{Field}
use Rattle.field.specs.Airspace.{right, left, is_side, at3000, at2000, lateral, missed, final_approach_zone, runway, area, zones_from, operation, everywhere, zone_of, in_zone, order_of}
use Rattle.field.specs.Lists.{every, is_in, all_different}
use Rattle.questions.specs.Counts.{total, how_many, in_operation, in_area, per_fix}
use Rattle.questions.specs.Find.{numbers_in, aircraft_at, fix_of, is_first}
use Rattle.numbers.specs.Numbers.{numbers_differ, sequence_exact}
use Rattle.bounds.specs.Bounds.{bound_a, bound_b, lateral_rule, bound_c, bound_d, final_first, is_nobody, zone_kept, sequence_kept, bound_e, alternate, bound_f, within_bounds}
use Rattle.fits.specs.Fits.{fits_zone, legal_legs, bound_g}
use Rattle.renaming.specs.Renaming.{Renaming, renamed_aircraft, renamed_zone, renamed_sequence, renamed_field}
use Rattle.renaming.proofs.ListsRenamed.{drop_map, every_map, zero_renamed, in_renamed, different_renamed}
use Rattle.renaming.proofs.AskedRenamed.{order_renamed, zone_renamed, queue_renamed, at_renamed, many_renamed, with_fix_renamed, numbers_renamed, fix_renamed, first_renamed}

module _ {π : ℕ → ℕ} (p : Renaming π) where
  -- ---- places past a length
  nobody_kept : (a : Aircraft) → is_nobody (renamed_aircraft π a) ≡ is_nobody a
  unfolding is_nobody
  nobody_kept a = rw (zero_renamed p a.number) refl

  zone_kept_lem : (q : Zone) → zone_kept (renamed_zone π q) ≡ zone_kept q
  unfolding zone_kept
  zone_kept_lem q =
      ap (λ (b : Bool). leb q.length 4 && b)
      (ap (every is_nobody) (drop_map (renamed_aircraft π) q.length q.aircraft) ∙ every_map (renamed_aircraft π) is_nobody is_nobody nobody_kept (drop q.length q.aircraft))

  sequence_kept_lem : (s : Sequence) → sequence_kept (renamed_sequence π s) ≡ sequence_kept s
  unfolding sequence_kept
  sequence_kept_lem s =
      ap (λ (b : Bool). leb s.length 4 && b)
      (ap (every (λ n. eqb n 0)) (drop_map π s.length s.numbers) ∙ every_map π (λ n. eqb n 0) (λ n. eqb n 0) (zero_renamed p) (drop s.length s.numbers))

  module _ (f : Field) where
    abbrev F : Field
    F = renamed_field π f

    -- ---- a to d, by counts
    a_renamed : bound_a F ≡ bound_a f
    unfolding bound_a in_operation
    a_renamed = ap (λ (h : ℕ → ℕ). leb (total h operation) 4 && leb (h runway) 1) (many_renamed p f)

    b_renamed : bound_b F ≡ bound_b f
    unfolding bound_b in_area
    b_renamed = ap (λ (h : ℕ → ℕ). leb (total h (area right)) 2 && leb (total h (area left)) 2) (many_renamed p f)

    c_renamed : bound_c F ≡ bound_c f
    unfolding bound_c lateral_rule
    c_renamed = ap (λ (h : ℕ → ℕ). every (λ z. leb (h z) 1) (zones_from 1 6) && alone h right && alone h left) (many_renamed p f)
      where
        -- the lateral rule by how many are in each zone
        alone : (ℕ → ℕ) → ℕ → Bool
        alone h side = eqb (h (lateral side)) 0 || (eqb (h (at3000 side)) 0 && eqb (h (at2000 side)) 0 && eqb (h (missed side)) 0)

    d_renamed : bound_d F ≡ bound_d f
    unfolding bound_d per_fix
    d_renamed = ap (λ (h : ℕ → ℕ → ℕ). leb (total (h right) operation) 2 && leb (total (h left) operation) 2) (with_fix_renamed p f)

    -- ---- e
    differ_renamed : numbers_differ F ≡ numbers_differ f
    unfolding numbers_differ
    differ_renamed =
        let l = numbers_in f everywhere in
        ap (λ (ns : List ℕ). every (λ n. not (eqb n 0)) ns && all_different ns) (numbers_renamed p f everywhere)
        ∙ ap (λ (b : Bool). b && all_different (map π l)) (every_map π (λ n. not (eqb n 0)) (λ n. not (eqb n 0)) (λ n. ap not (zero_renamed p n)) l)
        ∙ ap (λ (b : Bool). every (λ n. not (eqb n 0)) l && b) (different_renamed p l)

    exact_renamed : sequence_exact F ≡ sequence_exact f
    unfolding sequence_exact
    exact_renamed =
        let s = order_of f.sequence in
        let l = numbers_in f operation in
        let within : (xs ys : List ℕ) → every (λ n. is_in n (map π xs)) (map π ys) ≡ every (λ n. is_in n xs) ys =
        λ xs ys. every_map π (λ n. is_in n (map π xs)) (λ n. is_in n xs) (λ n. in_renamed p n xs) ys in
        ap (λ (ns : List ℕ). exact ns (numbers_in F operation)) (order_renamed p f.sequence)
        ∙ ap (exact (map π s)) (numbers_renamed p f operation)
        ∙ ap (λ (b : Bool). b && every (λ n. is_in n (map π l)) (map π s) && every (λ n. is_in n (map π s)) (map π l)) (different_renamed p s)
        ∙ ap (λ (b : Bool). all_different s && b && every (λ n. is_in n (map π s)) (map π l)) (within l s)
        ∙ ap (λ (b : Bool). all_different s && every (λ n. is_in n l) s && b) (within s l)
      where
        exact : List ℕ → List ℕ → Bool
        exact s l = all_different s && every (λ n. is_in n l) s && every (λ n. is_in n s) l

    final_renamed : final_first F ≡ final_first f
    unfolding final_first
    final_renamed =
        ap (λ (h : ℕ → ℕ). eqb (h final_approach_zone) 0 || is_first F.sequence (aircraft_at F final_approach_zone 1).number) (many_renamed p f)
        ∙ ap (λ (a : Aircraft). eqb (how_many f final_approach_zone) 0 || is_first F.sequence a.number) (at_renamed p f final_approach_zone 1)
        ∙ ap (λ (b : Bool). eqb (how_many f final_approach_zone) 0 || b) (first_renamed p f (aircraft_at f final_approach_zone 1).number)

    e_renamed : bound_e F ≡ bound_e f
    unfolding bound_e
    e_renamed =
        let places : every (λ z. zone_kept (zone_of F z)) everywhere ≡ every (λ z. zone_kept (zone_of f z)) everywhere =
        ap (λ (h : ℕ → Bool). every h everywhere) (fun_ext (λ z. ap zone_kept (zone_renamed p f z) ∙ zone_kept_lem (zone_of f z))) in
        λ i. differ_renamed i && exact_renamed i && final_renamed i && places i && sequence_kept_lem f.sequence i

    -- ---- f and g
    f_renamed : bound_f F ≡ bound_f f
    unfolding bound_f
    f_renamed =
        ap (λ (l : List ℕ). alternate (l ++ (f.next ∷ [])))
        (ap (map (fix_of F)) (order_renamed p f.sequence) ∙ map-map (fix_of F) π (order_of f.sequence) ∙ ap (λ (h : ℕ → ℕ). map h (order_of f.sequence)) (fun_ext (fix_renamed p f)))

    g_renamed : bound_g F ≡ bound_g f
    unfolding bound_g fits_zone
    g_renamed =
        ap (λ (h : ℕ → Bool). every h everywhere && is_side f.next && legal_legs f.legs)
        (fun_ext (λ z. ap (every (fits_zone f.legs z)) (queue_renamed p f z) ∙ every_map (renamed_aircraft π) (fits_zone f.legs z) (fits_zone f.legs z) (λ a. refl) (in_zone f z)))

    -- ---- all seven, on any field
    pub within_renamed : within_bounds F ≡ within_bounds f
    unfolding within_bounds
    within_renamed = λ i. a_renamed i && b_renamed i && c_renamed i && d_renamed i && e_renamed i && f_renamed i && g_renamed i
