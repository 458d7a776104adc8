-- Kinds 4 and 5, each of any field with its places: an accepted one is its transition. Assumes nothing.
use mathlib.Core.Path.{◌≡◌, refl, sym, ap, ◌∙◌, subst}
use mathlib.Core.Logic.{◌⊎◌, inl, inr}
use mathlib.Core.Bool.{Bool, true, false, ◌&&◌, ◌||◌, true≢false, or_assoc, and_comm}
use mathlib.Core.List.{List, [], ◌∷◌}
use Prim.Native.Nat.{ℕ, suc, ◌-◌}
use native.Mathlib.Omega.{arith}
use borrow.Author.Tests.{leb-true, leb-false}
use lib.Dec.{T, eqb, leb}
use lib.ListN.{length}
use Rattle.request.specs.Input.{within}
use Rattle.request.specs.declared.Request.{Request}
use Rattle.request.proofs.InputTests as input
use Rattle.field.specs.declared.Aircraft as field
use Rattle.field.specs.declared.Field.{Field}
use Rattle.field.specs.Airspace.{opposite, side_of, at2000, order_of}
use Rattle.field.specs.Airspace as airspace
use Rattle.field.specs.Lists.{is_in}
use Rattle.edits.specs.Edits.{before}
use Rattle.questions.specs.Counts.{how_many}
use Rattle.questions.specs.Find.{leader_zone}
use Rattle.questions.specs.Find as find
use Rattle.rules.specs.Kinds.{zone_before, zone_ahead, starts_from, flown_out_check, may_approach, may_merge, base_free, moved, approached}
use Rattle.rules.specs.Step.{effect_of, number_of}
use Rattle.rules.specs.Reason.{has_places}
use Rattle.order.specs.Model.{Side, opp, num}
use Rattle.rules.proofs.Checks.{effect_at, first_passes}
use Rattle.field.proofs.TestLaws.{decided, if_true, if_false, same}
use Rattle.questions.proofs.FindLaws.{numbers}
use Rattle.line.proofs.CountedOnLine.{not_13}
use Rattle.nasa.specs.Definitions.{ScaAircraft, ScaZone, holding2, lez, base, intermediate, final, SCA, first_in_sequence, leader, on_zone, sca_on_approach}
use Rattle.nasa.specs.Rules.{zone_number, may_initiate, vertical_approach_initiation, lateral_approach_initiation, merging}
use Rattle.nasa.specs.Stands.{side_named, seen, state_of, side_before, approach_initiation, Is}
use Rattle.nasa.proofs.States.{there}
use Rattle.nasa.proofs.AcceptedHead.{differing, of_side, first_of, how_many_in, AcceptedOfKind, Heads, heading, heads}
use Rattle.nasa.proofs.AskedOfState.{in_sequence, first_seen, approach_seen, merge_seen}
use Rattle.nasa.proofs.DescendFinalTaxi.{leads, each_side, goes}

-- ---- what is asked of a request's aircraft, at the head of zone z of the operation area
module _ {f : Field} {r : Request} {z : ScaZone} (a : Heads f r z) (u : T (within 1 12 (zone_number z))) where
  abbrev n : ℕ
  n = a.first.x.number

  abbrev order : List ℕ
  order = order_of f.sequence

  abbrev pub one : ScaAircraft
  one = seen f (zone_number z) a.first.x

  pub listed : is_in n order ≡ true
  listed =
      in_sequence f a.bounds (zone_number z) u n
      (ap (λ (l : List field.Aircraft). is_in n (numbers l)) a.first.here ∙ ap (λ (b : Bool). b || is_in n (numbers a.first.rest)) (same n))

  pub seq_is : one.seq ≡ suc (before n order)
  seq_is = if_false 1 (suc (before n order)) (not_13 (zone_number z) u)

  pub first_is : first_in_sequence one ≡ find.is_first f.sequence r.number
  first_is = ap (λ (s : ℕ). eqb s 1) seq_is ∙ first_seen f a.bounds n listed ∙ ap (find.is_first f.sequence) a.named

  ahead_is : leader_zone f n ≡ zone_ahead f r
  ahead_is = ap (leader_zone f) a.named

  pub merges : (first_in_sequence one || on_zone ((state_of f).queue intermediate) (leader one) || on_zone ((state_of f).queue final) (leader one)) ≡ may_merge f.sequence r.number (zone_ahead f r)
  unfolding may_merge
  merges =
      or_assoc (first_in_sequence one) (on_zone ((state_of f).queue intermediate) (leader one)) (on_zone ((state_of f).queue final) (leader one))
      ∙ ap (λ (b : Bool). b || (on_zone ((state_of f).queue intermediate) (leader one) || on_zone ((state_of f).queue final) (leader one))) first_is
      ∙ ap (λ (s : ℕ). find.is_first f.sequence r.number || (on_zone ((state_of f).queue intermediate) (s - 1) || on_zone ((state_of f).queue final) (s - 1))) seq_is
      ∙ ap (λ (b : Bool). find.is_first f.sequence r.number || b) (merge_seen f a.bounds n listed ∙ ap (within 11 12) ahead_is)

  approaches : (first_in_sequence one || sca_on_approach (state_of f) (leader one)) ≡ may_approach f.sequence r.number (zone_ahead f r)
  unfolding may_approach
  approaches =
      ap (λ (b : Bool). b || sca_on_approach (state_of f) (leader one)) first_is
      ∙ ap (λ (s : ℕ). find.is_first f.sequence r.number || sca_on_approach (state_of f) (s - 1)) seq_is
      ∙ ap (λ (b : Bool). find.is_first f.sequence r.number || b) (approach_seen f a.bounds n listed ∙ ap (within 9 12) ahead_is)

  pub initiates : (s : Side) → side_of (zone_before f r) ≡ num s → may_initiate (state_of f) s one ≡ (base_free f (side_of (zone_before f r)) && may_approach f.sequence r.number (zone_ahead f r))
  unfolding base_free opposite
  initiates s q =
      let other = each_side (λ s. zone_number (base (opp s)) ≡ airspace.base (opposite (num s))) refl refl s in
      let free : length ((state_of f).queue (base (opp s))) ≡ how_many f (airspace.base (opposite (side_of (zone_before f r)))) =
      how_many_in f (base (opp s)) ∙ ap (how_many f) (other ∙ ap (λ (y : ℕ). airspace.base (opposite y)) (sym q)) in
      ap (λ (c : ℕ). leb c 1 && (first_in_sequence one || sca_on_approach (state_of f) (leader one))) free
      ∙ ap (λ (b : Bool). leb (how_many f (airspace.base (opposite (side_of (zone_before f r))))) 1 && b) approaches

-- ---- kind 5
module _ (f : Field) (h : T (has_places f)) (r : Request) (k : r.kind ≡ 5) (e : number_of f r ≡ 0) where
  accepted_5 : AcceptedOfKind f r 5
  accepted_5 = record { places = h; kind = k; accepted = e }

  merge_from : (s : Side) → zone_before f r ≡ zone_number (base s) → Is f r (merging s)
  unfolding merging
  merge_from s at =
      let a = heads accepted_5 refl (base s) at in
      let u = each_side (λ s. T (within 1 12 (zone_number (base s)))) tt tt s in
      let others = (first_passes 15 (flown_out_check f (zone_before f r)).1 ((22, may_merge f.sequence r.number (zone_ahead f r)) ∷ []) (omega arith) (heading accepted_5 refl).others).1 in
      let met = (first_passes 22 (may_merge f.sequence r.number (zone_ahead f r)) [] (omega arith) others).0 in
      leads f r (merging s) e (goes a intermediate (each_side (λ s. T (differing (base s) intermediate)) tt tt s))
      (effect_at f r k ∙ ap (λ (y : ℕ). moved f y 11) at)
      (first_of a.first _ ∙ if_true _ [] (merges a u ∙ met))

  pub merge_is : Is f r (merging (side_before f r))
  unfolding starts_from side_of
  merge_is =
      let s = of_side base 9 refl refl (zone_before f r) (heading accepted_5 refl).starts in
      let own : side_before f r ≡ s.0 = ap (λ (z : ℕ). side_named (side_of z)) s.1 ∙ each_side (λ s. side_named (side_of (zone_number (base s))) ≡ s) refl refl s.0 in
      subst (λ (t : Side). Is f r (merging t)) (sym own) (merge_from s.0 s.1)

-- ---- kind 4

side_of_2000 : (s : Side) → side_of (zone_number (holding2 s)) ≡ num s
unfolding side_of
side_of_2000 = each_side (λ s. side_of (zone_number (holding2 s)) ≡ num s) refl refl

side_of_lateral : (s : Side) → side_of (zone_number (lez s)) ≡ num s
unfolding side_of
side_of_lateral = each_side (λ s. side_of (zone_number (lez s)) ≡ num s) refl refl

base_of : (s : Side) → airspace.base (num s) ≡ zone_number (base s)
base_of = each_side (λ s. airspace.base (num s) ≡ zone_number (base s)) refl refl

-- from 3 to 6 and not 5 or 6 is 3 or 4
lower : (z : ℕ) → within 3 6 z ≡ true → within 5 6 z ≡ false → within 3 4 z ≡ true
lower z t b =
    let l = input.within_low 3 6 z t in
    let h = input.within_high 3 6 z t in
    elim (decided (leb 5 z)) [
      | inl e ↦ absurd (true≢false (sym (input.within_yes 5 6 z (leb-true 5 z e) h) ∙ b))
      | inr e ↦ let m = leb-false 5 z e in input.within_yes 3 4 z l (omega arith)
    ]

module _ (f : Field) (h : T (has_places f)) (r : Request) (k : r.kind ≡ 4) (e : number_of f r ≡ 0) where
  accepted_4 : AcceptedOfKind f r 4
  accepted_4 = record { places = h; kind = k; accepted = e }

  abbrev z₀ : ℕ
  z₀ = zone_before f r

  abbrev may : Bool
  may = may_approach f.sequence r.number (zone_ahead f r)

  abbrev free : Bool
  free = base_free f (side_of z₀)

  -- from 2000
  from_2000 : (s : Side) → z₀ ≡ zone_number (holding2 s) → Is f r (vertical_approach_initiation s)
  unfolding vertical_approach_initiation approached
  from_2000 s at =
      let a = heads accepted_4 refl (holding2 s) at in
      let u = each_side (λ s. T (within 1 12 (zone_number (holding2 s)))) tt tt s in
      let low : within 5 6 z₀ ≡ false = ap (within 5 6) at ∙ each_side (λ s. within 5 6 (zone_number (holding2 s)) ≡ false) refl refl s in
      let own : side_of z₀ ≡ num s = ap side_of at ∙ side_of_2000 s in
      let to : airspace.base (side_of z₀) ≡ zone_number (base s) = ap airspace.base own ∙ base_of s in
      let met = first_passes 22 (within 5 6 z₀ || may) ((23, within 5 6 z₀ || free) ∷ []) (omega arith) (heading accepted_4 refl).others in
      let p : may ≡ true = sym (ap (λ (b : Bool). b || may) low) ∙ met.0 in
      let q : free ≡ true = sym (ap (λ (b : Bool). b || free) low) ∙ (first_passes 23 (within 5 6 z₀ || free) [] (omega arith) met.1).0 in
      leads f r (vertical_approach_initiation s) e (goes a (base s) (each_side (λ s. T (differing (holding2 s) (base s))) tt tt s))
      (effect_at f r k ∙ if_false _ (moved f z₀ (airspace.base (side_of z₀))) low ∙ ap (moved f z₀) to ∙ ap (λ (y : ℕ). moved f y (zone_number (base s))) at)
      (first_of a.first _ ∙ if_true _ [] (initiates a u s own ∙ ap (λ (b : Bool). b && may) q ∙ p))

  -- from lateral: to base, or to 2000
  from_lateral : (s : Side) → z₀ ≡ zone_number (lez s) → Is f r (lateral_approach_initiation s)
  unfolding lateral_approach_initiation approached
  from_lateral s at = go (decided (may && free))
    where
      a : Heads f r (lez s)
      a = heads accepted_4 refl (lez s) at

      u : T (within 1 12 (zone_number (lez s)))
      u = each_side (λ s. T (within 1 12 (zone_number (lez s)))) tt tt s

      own : side_of z₀ ≡ num s
      own = ap side_of at ∙ side_of_lateral s

      low : within 5 6 z₀ ≡ true
      low = ap (within 5 6) at ∙ each_side (λ s. within 5 6 (zone_number (lez s)) ≡ true) refl refl s

      asked : may_initiate (state_of f) s (seen f (zone_number (lez s)) a.first.x) ≡ (may && free)
      asked = initiates a u s own ∙ and_comm free may

      to : (w : ScaZone) (g : ℕ → ℕ) → T (differing (lez s) w) → g (num s) ≡ zone_number w → effect_of f r ≡ moved f z₀ (g (side_of z₀))
          → lateral_approach_initiation s (state_of f) ≡ there a.first w ∷ [] → Is f r (lateral_approach_initiation s)
      to w g d q p i =
          leads f r (lateral_approach_initiation s) e (goes a w d)
          (p ∙ ap (λ (y : ℕ). moved f z₀ (g y)) own ∙ ap (moved f z₀) q ∙ ap (λ (y : ℕ). moved f y (zone_number w)) at) i

      go : ((may && free) ≡ true) ⊎ ((may && free) ≡ false) → Is f r (lateral_approach_initiation s)
      go (inl b) =
          to (base s) airspace.base (each_side (λ s. T (differing (lez s) (base s))) tt tt s) (base_of s)
          (effect_at f r k ∙ if_true _ _ low ∙ if_true _ _ b)
          (first_of a.first _ ∙ ap (λ (x : SCA). x ∷ []) (if_true _ _ (asked ∙ b)))
      go (inr b) =
          to (holding2 s) at2000 (each_side (λ s. T (differing (lez s) (holding2 s))) tt tt s) (each_side (λ s. at2000 (num s) ≡ zone_number (holding2 s)) refl refl s)
          (effect_at f r k ∙ if_true _ _ low ∙ if_false _ _ b)
          (first_of a.first _ ∙ ap (λ (x : SCA). x ∷ []) (if_false _ _ (asked ∙ b)))

  pub approach_is : Is f r (approach_initiation f r)
  unfolding starts_from side_of
  approach_is = elim (decided (within 5 6 z₀)) [
    | inl b ↦
        let s = of_side lez 5 refl refl z₀ b in
        let own : side_before f r ≡ s.0 = ap (λ (z : ℕ). side_named (side_of z)) s.1 ∙ each_side (λ s. side_named (side_of (zone_number (lez s))) ≡ s) refl refl s.0 in
        subst (Is f r) (sym (if_true _ _ b ∙ ap lateral_approach_initiation own)) (from_lateral s.0 s.1)
    | inr b ↦
        let s = of_side holding2 3 refl refl z₀ (lower z₀ (heading accepted_4 refl).starts b) in
        let own : side_before f r ≡ s.0 = ap (λ (z : ℕ). side_named (side_of z)) s.1 ∙ each_side (λ s. side_named (side_of (zone_number (holding2 s))) ≡ s) refl refl s.0 in
        subst (Is f r) (sym (if_false _ _ b ∙ ap vertical_approach_initiation own)) (from_2000 s.0 s.1)
  ]
