-- The edits of a field and a tick on a field with its numbers renamed: what they leave is renamed, and nothing else. On any field at all. Assumes nothing.
use mathlib.Core.Path.{◌≡◌, refl, sym, ap, ◌∙◌}
use mathlib.Core.Bool.{cond}
use mathlib.Core.List.{List, [], ◌∷◌, ◌++◌, map, map-append, map-map}
use Prim.Native.Nat.{ℕ, suc, ◌+◌, ◌-◌}
use lib.Dec.{eqb, ltb}
use lib.ListN.{length, take, drop}
use Rattle.field.specs.declared.Aircraft.{Aircraft}
use Rattle.field.specs.declared.Zone.{Zone}
use Rattle.field.specs.declared.Sequence.{Sequence}
use Rattle.field.specs.declared.Field.{Field}
use Rattle.field.specs.Airspace.{is_flying_zone, nobody, order_of}
use Rattle.edits.specs.Edits.{without_head, with_tail, appended, before, removed, with_zone}
use Rattle.tick.specs.Tick.{ticked_aircraft, ticked_zone, ticked_from, ticked}
use Rattle.renaming.specs.Renaming.{Renaming, renamed_aircraft, renamed_zone, renamed_sequence, renamed_field}
use Rattle.renaming.proofs.ListsRenamed.{take_map, drop_map, set_map, set_one_map, either_made, before_renamed}
use Rattle.renaming.proofs.AskedRenamed.{nobody_renamed, order_renamed, order_length_lem}

-- a zone by its places and its length, a sequence, and a field with other zones
abbrev zone_with : List Aircraft → ℕ → Zone
zone_with l n = record { aircraft = l; length = n }

abbrev sequence_with : List ℕ → ℕ → Sequence
sequence_with l n = record { numbers = l; length = n }

abbrev field_with : Field → List Zone → Field
field_with f l = record { zones = l; sequence = f.sequence; next = f.next; legs = f.legs }

module _ {π : ℕ → ℕ} (p : Renaming π) where
  -- ---- a queue
  pub without_head_renamed : (q : Zone) → without_head (renamed_zone π q) ≡ renamed_zone π (without_head q)
  unfolding without_head
  without_head_renamed q =
      let moved_up : drop 1 (map (renamed_aircraft π) q.aircraft) ++ (nobody ∷ []) ≡ map (renamed_aircraft π) (drop 1 q.aircraft ++ (nobody ∷ [])) =
      ap (λ (l : List Aircraft). l ++ (nobody ∷ [])) (drop_map (renamed_aircraft π) 1 q.aircraft)
      ∙ ap (λ (a : Aircraft). map (renamed_aircraft π) (drop 1 q.aircraft) ++ (a ∷ [])) (sym (nobody_renamed p))
      ∙ sym (map-append (renamed_aircraft π) (drop 1 q.aircraft) (nobody ∷ [])) in
      either_made (renamed_zone π) (eqb q.length 0) refl (ap (λ (l : List Aircraft). zone_with l (q.length - 1)) moved_up)

  pub with_tail_renamed : (q : Zone) (a : Aircraft) → with_tail (renamed_zone π q) (renamed_aircraft π a) ≡ renamed_zone π (with_tail q a)
  unfolding with_tail
  with_tail_renamed q a = either_made (renamed_zone π) (ltb q.length 4) (ap (λ (l : List Aircraft). zone_with l (q.length + 1)) (set_map (renamed_aircraft π) q.aircraft q.length a)) refl

  -- ---- the sequence
  pub appended_renamed : (s : Sequence) (n : ℕ) → appended (renamed_sequence π s) (π n) ≡ renamed_sequence π (appended s n)
  unfolding appended
  appended_renamed s n = either_made (renamed_sequence π) (ltb s.length 4) (ap (λ (l : List ℕ). sequence_with l (s.length + 1)) (set_map π s.numbers s.length n)) refl

  pub removed_renamed : (s : Sequence) (n : ℕ) → removed (renamed_sequence π s) (π n) ≡ renamed_sequence π (removed s n)
  unfolding removed
  removed_renamed s n =
      let k = before n (order_of s) in
      let same : before (π n) (order_of (renamed_sequence π s)) ≡ k = ap (before (π n)) (order_renamed p s) ∙ before_renamed p n (order_of s) in
      ap (λ (j : ℕ). cut_out (renamed_sequence π s) j (length (order_of (renamed_sequence π s)))) same
      ∙ ap (cut_out (renamed_sequence π s) k) (order_length_lem p s)
      ∙ either_made (renamed_sequence π) (ltb k (length (order_of s))) (ap (λ (l : List ℕ). sequence_with l (s.length - 1)) (cut s.numbers k)) refl
    where
      -- the sequence without its place j, where j is below n
      cut_out : Sequence → ℕ → ℕ → Sequence
      cut_out s j n = cond (ltb j n) (sequence_with (take j s.numbers ++ drop (suc j) s.numbers ++ (0 ∷ [])) (s.length - 1)) s

      cut : (l : List ℕ) (k : ℕ) → take k (map π l) ++ drop (suc k) (map π l) ++ (0 ∷ []) ≡ map π (take k l ++ drop (suc k) l ++ (0 ∷ []))
      cut l k =
          (λ i. take_map π k l i ++ drop_map π (suc k) l i ++ (sym p.zero i ∷ []))
          ∙ ap (λ (r : List ℕ). r ++ (π 0 ∷ [])) (sym (map-append π (take k l) (drop (suc k) l)))
          ∙ sym (map-append π (take k l ++ drop (suc k) l) (0 ∷ []))

  -- ---- the field
  pub with_zone_renamed : (f : Field) (z : ℕ) (q : Zone) → with_zone (renamed_field π f) z (renamed_zone π q) ≡ renamed_field π (with_zone f z q)
  unfolding with_zone
  with_zone_renamed f z q = ap (field_with (renamed_field π f)) (set_one_map (renamed_zone π) f.zones z q)

  -- ---- a tick
  ticked_zone_renamed : (amount : ℕ) (q : Zone) → ticked_zone amount (renamed_zone π q) ≡ renamed_zone π (ticked_zone amount q)
  unfolding ticked_zone ticked_aircraft
  ticked_zone_renamed amount q =
      ap (λ (l : List Aircraft). zone_with l q.length)
      (map-map (ticked_aircraft amount) (renamed_aircraft π) q.aircraft ∙ sym (map-map (renamed_aircraft π) (ticked_aircraft amount) q.aircraft))

  ticked_from_renamed : (amount z : ℕ) (qs : List Zone) → ticked_from amount z (map (renamed_zone π) qs) ≡ map (renamed_zone π) (ticked_from amount z qs)
  ticked_from_renamed amount z [] = refl
  ticked_from_renamed amount z (q ∷ qs) =
      λ i. either_made (renamed_zone π) (is_flying_zone z) {x = ticked_zone amount q} {y = q} (ticked_zone_renamed amount q) refl i ∷ ticked_from_renamed amount (suc z) qs i

  pub ticked_renamed : (f : Field) (amount : ℕ) → ticked (renamed_field π f) amount ≡ renamed_field π (ticked f amount)
  unfolding ticked
  ticked_renamed f amount = ap (field_with (renamed_field π f)) (ticked_from_renamed amount 1 f.zones)
