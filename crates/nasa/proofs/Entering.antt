-- The state after a new aircraft comes to the end of a zone. Assumes nothing.
use mathlib.Core.Path.{◌≡◌, refl, sym, ap, ◌∙◌, subst}
use mathlib.Core.Logic.{◌≢◌, ◌⊎◌, inl, inr}
use mathlib.Core.Bool.{Bool, true, false, cond, ◌&&◌, ◌||◌, true≢false}
use mathlib.Core.List.{List, [], ◌∷◌, ◌++◌, map, map-append}
use Prim.Native.Nat.{ℕ, suc, ◌+◌, ◌<◌}
use native.Mathlib.Omega.{arith}
use borrow.Author.Tests.{eqb-true, eqb-false, ltb-true}
use lib.Dec.{T, eqb, ltb}
use lib.Ieee.Fits.{and_l, and_r}
use lib.ListN.{length, length-append}
use Rattle.request.specs.Input.{within}
use Rattle.request.specs.declared.Request.{Request}
use Rattle.field.specs.declared.Aircraft as field
use Rattle.field.specs.declared.Sequence.{Sequence}
use Rattle.field.specs.declared.Field.{Field}
use Rattle.field.specs.Airspace.{is_side, operation, everywhere, zone_of, in_zone, order_of, order_length, entering}
use Rattle.field.specs.Lists.{is_in, every, all_different}
use Rattle.edits.specs.Edits.{before, appended, with_tail, with_sequence}
use Rattle.questions.specs.Counts.{how_many}
use Rattle.questions.specs.Find.{numbers_in}
use Rattle.numbers.specs.Numbers.{sequence_exact}
use Rattle.bounds.specs.Bounds.{within_bounds}
use Rattle.rules.specs.Kinds.{tail_put, fix_taken, entered}
use Rattle.order.specs.Model.{Side, opp, num}
use Rattle.field.proofs.TestLaws.{decided, passed, if_true, if_false, same, either_way}
use Rattle.field.proofs.NumberLists.{every_listed, absent_left, in_right}
use Rattle.questions.proofs.NumbersListed.{numbers_at, one_zone_more}
use Rattle.questions.proofs.FindLaws.{numbers}
use Rattle.laws.proofs.EditLaws.{Shaped, queue_put, queue_kept}
use Rattle.laws.proofs.BoundLaws.{within_each, within_e}
use Rattle.line.proofs.CountedOnLine.{not_13}
use Rattle.reason.proofs.Invariant.{parts}
use Rattle.nasa.specs.Definitions.{ScaAircraft, ScaZone, aircraft}
use Rattle.nasa.specs.Rules.{zone_number, with_queue, add, with_next, enters}
use Rattle.nasa.specs.Stands.{side_named, seen, state_of}
use Rattle.nasa.proofs.States.{same_state, as_seen, zone_number_lem}
use Rattle.nasa.proofs.DescendFinalTaxi.{each_side}
use Rattle.nasa.proofs.LeadersBySeq.{one_less}
use Rattle.nasa.proofs.AskedOfState.{in_sequence}
use Rattle.descent.proofs.BySequence.{last_put}
use Rattle.nasa.proofs.Sequences.{full_stays, before_kept, before_last, seen_kept}
use Rattle.nasa.proofs.MissTransition.{opposite_named, either_named}
use Rattle.nasa.proofs.LandExitTransitions.{operating}

-- ---- a new aircraft, whose number nobody has, comes to the end of zone z, which has room
pub record Newcomer (f : Field) (r : Request) (s : Side) (z : ScaZone) : Type 0 where
  pub bounds : T (within_bounds f)
  pub shaped : Shaped f
  pub asks : r.side ≡ num s
  pub inside : T (within 1 12 (zone_number z))
  pub absent : is_in r.number (numbers_in f everywhere) ≡ false
  pub room : how_many f (zone_number z) < 4
  pub after : T (within_bounds (entered f r (zone_number z)))

module _ {f : Field} {r : Request} {s : Side} {z : ScaZone} (new : Newcomer f r s z) where
  abbrev zn : ℕ
  zn = zone_number z

  abbrev n : ℕ
  n = r.number

  abbrev order : List ℕ
  order = order_of f.sequence

  abbrev g : Field
  g = entered f r zn

  abbrev fix : ℕ
  fix = fix_taken f r.side

  abbrev a : field.Aircraft
  a = entering n fix r.amount r.desk

  -- ---- the queues
  in_zone_lem : in_zone g zn ≡ in_zone f zn ++ (a ∷ [])
  unfolding entered with_sequence in_zone zone_of tail_put
  in_zone_lem = queue_put f new.shaped zn a (zone_number_lem z) new.room

  in_others : (y : ℕ) → y ≢ zn → in_zone g y ≡ in_zone f y
  unfolding entered with_sequence in_zone zone_of tail_put
  in_others y h = queue_kept f zn (with_tail (zone_of f zn) a) y h

  -- ---- the sequence
  not_listed : is_in n order ≡ false
  unfolding sequence_exact
  not_listed = go (decided (is_in n order))
    where
      nobody : is_in n (numbers_in f operation) ≡ false
      nobody = absent_left n (numbers_in f operation) (numbers_at f 13) (ap (is_in n) (sym (one_zone_more f 1 12)) ∙ new.absent)

      go : (is_in n order ≡ true) ⊎ (is_in n order ≡ false) → is_in n order ≡ false
      go (inl i) =
          let named = every (λ m. is_in m (numbers_in f operation)) order in
          let all = and_r (all_different order) named (and_l (all_different order && named) (every (λ m. is_in m order) (numbers_in f operation)) (within_e f new.bounds).exact) in
          absurd (true≢false (sym (passed (every_listed (λ m. is_in m (numbers_in f operation)) order n all i)) ∙ nobody))
      go (inr i) = i

  -- it stands in the sequence afterwards, so there was a place
  few : f.sequence.length < 4
  unfolding entered with_sequence entering
  few = elim (decided (ltb f.sequence.length 4)) [
    | inl p ↦ ltb-true f.sequence.length 4 p
    | inr p ↦
        let there : is_in n (numbers_at g zn) ≡ true =
        ap (λ (l : List field.Aircraft). is_in n (numbers l)) in_zone_lem ∙ ap (is_in n) (map-append (λ (b : field.Aircraft). b.number) (in_zone f zn) (a ∷ []))
        ∙ in_right n (numbers_at f zn) (n ∷ []) (ap (λ (b : Bool). b || false) (same n)) in
        let listed : is_in n (order_of (appended f.sequence n)) ≡ true = in_sequence g new.after zn new.inside n there in
        absurd (true≢false (sym listed ∙ ap (λ (q : Sequence). is_in n (order_of q)) (full_stays f.sequence n p) ∙ not_listed))
  ]

  order_after : order_of g.sequence ≡ order ++ (n ∷ [])
  unfolding entered with_sequence
  order_after = last_put f.sequence new.shaped.sequence n few

  -- ---- the aircraft
  fix_named : side_named fix ≡ (aircraft (state_of f) s).mahf
  unfolding fix_taken state_of order_length
  fix_named =
      either_named (eqb (length order) 0) r.side f.next
      ∙ ap (λ (b : Bool). elim b [ true ↦ side_named r.side | false ↦ side_named f.next ]) (sym (one_less (length order) 0))
      ∙ ap (λ (c : Side). elim (eqb (suc (length order)) 1) [ true ↦ c | false ↦ side_named f.next ]) (ap side_named new.asks ∙ each_side (λ s. side_named (num s) ≡ s) refl refl s)

  fix_is_side : T (is_side fix)
  unfolding fix_taken is_side
  fix_is_side =
      either_way (λ m. T (is_side m)) (eqb (length order) 0) r.side f.next
      (λ q. subst (λ (m : ℕ). T (is_side m)) (sym new.asks) (each_side (λ s. T (is_side (num s))) tt tt s)) (λ q. (parts f (within_each f new.bounds)).next_side)

  comes : seen g zn a ≡ aircraft (state_of f) s
  unfolding state_of order_length entering
  comes =
      ap (λ (b : Bool). as_seen (cond b 1 (suc (before n (order_of g.sequence)))) fix) (not_13 zn new.inside)
      ∙ ap (λ (l : List ℕ). as_seen (suc (before n l)) fix) order_after
      ∙ ap (λ (m : ℕ). as_seen (suc m) fix) (before_last n order not_listed)
      ∙ ap (λ (c : Side). record { seq = suc (length order); mahf = c }) fix_named

  -- ---- the state
  kept : (y : ℕ) → T (within 1 12 y) → map (seen g y) (in_zone f y) ≡ map (seen f y) (in_zone f y)
  kept y u = seen_kept f g y (in_zone f y) (λ m i. ap (before m) order_after ∙ before_kept m n order (in_sequence f new.bounds y u m i))

  next_fix_lem : side_named g.next ≡ opp (aircraft (state_of f) s).mahf
  unfolding entered with_sequence
  next_fix_lem = opposite_named fix fix_is_side ∙ ap opp fix_named

  pub entered_state : state_of g ≡ enters (state_of f) z s
  unfolding state_of with_queue add with_next enters order_length
  entered_state = same_state queues next_fix_lem next_number
    where
      next_number : suc (length (order_of g.sequence)) ≡ suc (length order) + 1
      next_number = let i = ap length order_after in let l = length-append order (n ∷ []) in omega arith

      own : (m : ℕ) → List ScaAircraft
      own m = map (seen f m) (in_zone f m)

      others : (y : ScaZone) → zone_number y ≢ zn → map (seen g (zone_number y)) (in_zone f (zone_number y)) ≡ own (zone_number y)
      others y h = elim (decided (eqb (zone_number y) 13)) [
        | inl p ↦ subst (λ (m : ℕ). map (seen g m) (in_zone f m) ≡ map (seen f m) (in_zone f m)) (sym (eqb-true (zone_number y) 13 p)) refl
        | inr p ↦ kept (zone_number y) (operating y p)
      ]

      queues : (y : ScaZone) → (state_of g).queue y ≡ (enters (state_of f) z s).queue y
      queues y = elim (decided (eqb (zone_number y) zn)) [
        | inl p ↦
            ap (λ (m : ℕ). map (seen g m) (in_zone g m)) (eqb-true (zone_number y) zn p)
            ∙ ap (map (seen g zn)) in_zone_lem
            ∙ map-append (seen g zn) (in_zone f zn) (a ∷ [])
            ∙ ap (λ (l : List ScaAircraft). l ++ (seen g zn a ∷ [])) (kept zn new.inside)
            ∙ ap (λ (c : ScaAircraft). own zn ++ (c ∷ [])) comes
            ∙ sym (if_true _ _ p)
        | inr p ↦ ap (map (seen g (zone_number y))) (in_others (zone_number y) (eqb-false (zone_number y) zn p)) ∙ others y (eqb-false (zone_number y) zn p) ∙ sym (if_false _ _ p)
      ]
