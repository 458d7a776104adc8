-- What the rules ask of a field with its numbers renamed: counts as they were, each aircraft where it was, its leader renamed. Assumes nothing.
use mathlib.Core.Path.{◌≡◌, refl, sym, ap, ◌∙◌, fun_ext}
use mathlib.Core.Bool.{Bool, cond}
use mathlib.Core.List.{List, [], ◌∷◌, ◌++◌, map, map-append, map-map}
use Prim.Native.Nat.{ℕ, suc, ◌+◌}
use lib.Dec.{eqb}
use lib.ListN.{length, get_or, length-map, get_or-map}
use Rattle.field.specs.declared.Aircraft.{Aircraft}
use Rattle.field.specs.declared.Zone.{Zone}
use Rattle.field.specs.declared.Sequence.{Sequence}
use Rattle.field.specs.declared.Field.{Field}
use Rattle.field.specs.Airspace.{everywhere, nobody, empty_zone, zone_of, queue_of, in_zone, order_of}
use Rattle.questions.specs.declared.Place.{Place}
use Rattle.questions.specs.Counts.{have_fix, how_many, how_many_with_fix}
use Rattle.questions.specs.Find.{numbers_in, place_from, find_in, place_of, aircraft_at, fix_of, is_head, is_first, ahead_of, leader_of, leader_zone}
use Rattle.questions.proofs.NumbersListed.{number_of, numbers_at}
use Rattle.questions.proofs.FindLaws.{at}
use Rattle.renaming.specs.Renaming.{Renaming, renamed_aircraft, renamed_zone, renamed_sequence, renamed_field}
use Rattle.renaming.proofs.ListsRenamed.{take_map, same_renamed, zero_renamed, head_renamed, ahead_renamed}

module _ {π : ℕ → ℕ} (p : Renaming π) where
  -- ---- zones and queues
  pub nobody_renamed : renamed_aircraft π nobody ≡ nobody
  nobody_renamed = rw p.zero refl

  empty_zone_renamed : renamed_zone π empty_zone ≡ empty_zone
  empty_zone_renamed = rw p.zero refl

  pub order_renamed : (s : Sequence) → order_of (renamed_sequence π s) ≡ map π (order_of s)
  unfolding order_of
  order_renamed s = take_map π s.length s.numbers

  pub order_length_lem : (s : Sequence) → length (order_of (renamed_sequence π s)) ≡ length (order_of s)
  order_length_lem s = ap length (order_renamed s) ∙ length-map (order_of s) π

  module _ (f : Field) where
    abbrev F : Field
    F = renamed_field π f

    pub zone_renamed : (z : ℕ) → zone_of F z ≡ renamed_zone π (zone_of f z)
    unfolding zone_of
    zone_renamed z = ap (λ (q : Zone). get_or (q ∷ F.zones) z q) (sym empty_zone_renamed) ∙ get_or-map (renamed_zone π) (empty_zone ∷ f.zones) z empty_zone

    pub queue_renamed : (z : ℕ) → in_zone F z ≡ map (renamed_aircraft π) (in_zone f z)
    unfolding in_zone queue_of
    queue_renamed z = ap queue_of (zone_renamed z) ∙ take_map (renamed_aircraft π) (zone_of f z).length (zone_of f z).aircraft

    pub at_renamed : (z place : ℕ) → aircraft_at F z place ≡ renamed_aircraft π (aircraft_at f z place)
    unfolding aircraft_at
    at_renamed z place =
        ap (λ (l : List Aircraft). get_or (nobody ∷ l) place nobody) (queue_renamed z)
        ∙ ap (λ (a : Aircraft). get_or (a ∷ map (renamed_aircraft π) (in_zone f z)) place a) (sym nobody_renamed)
        ∙ get_or-map (renamed_aircraft π) (nobody ∷ in_zone f z) place nobody

    -- ---- counts
    pub many_renamed : how_many F ≡ how_many f
    unfolding how_many
    many_renamed = fun_ext (λ z. ap length (queue_renamed z) ∙ length-map (in_zone f z) (renamed_aircraft π))

    pub with_fix_renamed : how_many_with_fix F ≡ how_many_with_fix f
    unfolding how_many_with_fix
    with_fix_renamed = fun_ext (λ side. fun_ext (λ z. ap (have_fix side) (queue_renamed z) ∙ have_fix_lem side (in_zone f z)))
      where
        have_fix_lem : (side : ℕ) (xs : List Aircraft) → have_fix side (map (renamed_aircraft π) xs) ≡ have_fix side xs
        have_fix_lem side [] = refl
        have_fix_lem side (x ∷ xs) = ap (λ (n : ℕ). cond (eqb x.fix side) 1 0 + n) (have_fix_lem side xs)

    -- ---- who is where
    pub numbers_renamed : (zs : List ℕ) → numbers_in F zs ≡ map π (numbers_in f zs)
    numbers_renamed [] = refl
    numbers_renamed (z ∷ zs) =
        ap (λ (l : List ℕ). l ++ numbers_in F zs) (ap (map number_of) (queue_renamed z) ∙ map-map number_of (renamed_aircraft π) (in_zone f z) ∙ sym (map-map π number_of (in_zone f z)))
        ∙ ap (λ (l : List ℕ). map π (numbers_at f z) ++ l) (numbers_renamed zs)
        ∙ sym (map-append π (numbers_at f z) (numbers_in f zs))

    module _ (n : ℕ) where
      place_in_queue : (k : ℕ) (xs : List Aircraft) → place_from k (π n) (map (renamed_aircraft π) xs) ≡ place_from k n xs
      place_in_queue k [] = refl
      place_in_queue k (x ∷ xs) =
          ap (λ (b : Bool). cond b k (place_from (suc k) (π n) (map (renamed_aircraft π) xs))) (same_renamed p x.number n)
          ∙ ap (cond (eqb x.number n) k) (place_in_queue (suc k) xs)

      find_renamed : (zs : List ℕ) → find_in F (π n) zs ≡ find_in f n zs
      unfolding find_in
      find_renamed [] = refl
      find_renamed (z ∷ zs) =
          ap (λ (k : ℕ). cond (eqb k 0) (find_in F (π n) zs) (at z k)) (ap (place_from 1 (π n)) (queue_renamed z) ∙ place_in_queue 1 (in_zone f z))
          ∙ ap (λ (q : Place). cond (eqb (place_from 1 n (in_zone f z)) 0) q (at z (place_from 1 n (in_zone f z)))) (find_renamed zs)

      -- a number's new name is found where it was
      pub place_renamed : place_of F (π n) ≡ place_of f n
      unfolding place_of
      place_renamed = find_renamed everywhere

      pub fix_renamed : fix_of F (π n) ≡ fix_of f n
      unfolding fix_of
      fix_renamed =
          ap (λ (q : Place). (aircraft_at F q.zone q.place).fix) place_renamed
          ∙ ap (λ (a : Aircraft). a.fix) (at_renamed (place_of f n).zone (place_of f n).place)

      -- ---- the sequence
      pub first_renamed : is_first F.sequence (π n) ≡ is_first f.sequence n
      unfolding is_first
      first_renamed = ap (is_head (π n)) (order_renamed f.sequence) ∙ head_renamed p n (order_of f.sequence)

      pub leader_renamed : leader_of F.sequence (π n) ≡ π (leader_of f.sequence n)
      unfolding leader_of
      leader_renamed =
          ap (ahead_of 0 (π n)) (order_renamed f.sequence) ∙ ap (λ (k : ℕ). ahead_of k (π n) (map π (order_of f.sequence))) (sym p.zero) ∙ ahead_renamed p 0 n (order_of f.sequence)

    -- the leader, by its new name, is found where it was
    pub leader_zone_renamed : (n : ℕ) → leader_zone F (π n) ≡ leader_zone f n
    unfolding leader_zone
    leader_zone_renamed n =
        let l = leader_of f.sequence n in
        ap (λ (k : ℕ). cond (eqb k 0) 0 (place_of F k).zone) (leader_renamed n)
        ∙ ap (λ (b : Bool). cond b 0 (place_of F (π l)).zone) (zero_renamed p l)
        ∙ ap (λ (q : Place). cond (eqb l 0) 0 q.zone) (place_renamed l)
