-- After every list of requests from an empty field that a list may start from, the field stands for a state that NASA's transitions reach. Assumes nothing.
use mathlib.Core.Path.{◌≡◌, refl, sym, ap, ◌∙◌, subst}
use mathlib.Core.Logic.{inl, inr}
use mathlib.Core.Bool.{Bool, true, false, cond}
use mathlib.Core.List.{List, [], ◌∷◌, map}
use Prim.Native.Nat.{ℕ, suc, ◌≤◌}
use borrow.Author.Tests.{eqb-true, eqb-false}
use lib.Dec.{T, eqb, leb, le→leb}
use lib.Ieee.Fits.{and_i}
use Rattle.request.specs.Input.{within}
use Rattle.request.specs.declared.Request.{Request}
use Rattle.request.proofs.ByKind.{kind_known}
use Rattle.field.specs.declared.Aircraft as field
use Rattle.field.specs.declared.Legs.{Legs}
use Rattle.field.specs.declared.Field.{Field}
use Rattle.field.specs.Airspace.{empty_field, in_zone, zone_of, queue_of, order_of, order_length}
use Rattle.edits.specs.Edits.{before}
use Rattle.rules.specs.Kinds.{zone_before}
use Rattle.rules.specs.Step.{number_of, step_of}
use Rattle.rules.specs.Start.{empty_start}
use Rattle.rules.specs.Play.{field_after}
use Rattle.rules.specs.Reason.{Sound}
use Rattle.order.specs.Model.{Side, right_side, left_side}
use Rattle.rules.proofs.StepLaws.{number_is}
use Rattle.rules.proofs.Refusals.{passes}
use Rattle.field.proofs.TestLaws.{decided, if_true, if_false, each_operation}
use Rattle.laws.proofs.SameQueues.{Same, queues_same}
use Rattle.rules.proofs.Starts.{start_same}
use Rattle.reason.proofs.Reason.{start_sound, reason_kept}
use Rattle.nasa.specs.Definitions.{ScaAircraft, ScaZone, holding3, holding2, lez, maz, base, intermediate, final, runway, SCA}
use Rattle.nasa.specs.Rules.{Transition, in_turn, when, for_first, nobody_in, with_queue, add, zone_number, vertical_entry, holding_pattern_descend}
use Rattle.nasa.specs.Stands.{side_named, state_of, side_before, entry_above}
use Rattle.nasa.specs.Steps.{transition_for}
use Rattle.nasa.specs.Enabled.{vertically, laterally, descends, initiates, initiates_lateral, merges, holds, exits, goes_final, lands, taxies, misses}
use Rattle.nasa.specs.Runs.{empty_state, Reached, start, onward, RunsWithin}
use Rattle.nasa.proofs.States.{same_state}
use Rattle.nasa.proofs.Enabled.{nowhere_on, head_same}
use Rattle.nasa.proofs.StepsAsTransitions.{steps_as}

-- ---- one transition after another

-- where a descend and then another transition lead on, there is a state between them
in_between : (side : Side) (other : Transition) (s t : SCA) → in_turn (holding_pattern_descend side) other s ≡ t ∷ [] → (m : SCA) × (holding_pattern_descend side s ≡ m ∷ []) × (other m ≡ t ∷ [])
unfolding holding_pattern_descend
in_between side other s t q = of_queue (s.queue (holding3 side)) refl
  where
    next : ScaAircraft → List ScaAircraft → List SCA
    next a rest = when (nobody_in s (holding2 side)) (add (with_queue s (holding3 side) rest) (holding2 side) a)

    then : List SCA → List SCA
    then l = elim l [ [] ↦ [] | (m ∷ rest) ↦ other m ]

    of_test : (b : Bool) (m : SCA) → holding_pattern_descend side s ≡ when b m → (m : SCA) × (holding_pattern_descend side s ≡ m ∷ []) × (other m ≡ t ∷ [])
    of_test true m p = (m, p, sym (ap then p) ∙ q)
    of_test false m p = absurd (nowhere_on (sym (ap then p) ∙ q))

    of_queue : (l : List ScaAircraft) → s.queue (holding3 side) ≡ l → (m : SCA) × (holding_pattern_descend side s ≡ m ∷ []) × (other m ≡ t ∷ [])
    of_queue [] p = absurd (nowhere_on (sym (ap (λ (l : List ScaAircraft). then (for_first l next)) p) ∙ q))
    of_queue (a ∷ rest) p = of_test (nobody_in s (holding2 side)) (add (with_queue s (holding3 side) rest) (holding2 side) a) (ap (λ (l : List ScaAircraft). for_first l next) p)

entered_on : (side : Side) (s t : SCA) → Reached s → entry_above side s ≡ t ∷ [] → Reached t
entered_on side s t c q = elim (decided (nobody_in s (holding3 side))) [
  | inl b ↦ onward c (vertically side) (sym (if_true _ _ b) ∙ q)
  | inr b ↦ let m = in_between side (vertical_entry side) s t (sym (if_false _ _ b) ∙ q) in onward (onward c (descends side) m.1) (vertically side) m.2
]

-- ---- one request
module _ (f : Field) (r : Request) (c : Reached (state_of f)) (t : SCA) where
  abbrev Onward : ℕ → Type 0
  Onward k = transition_for k f r (state_of f) ≡ t ∷ [] → Reached t

  by_approach : Onward 4
  by_approach q = elim (decided (within 5 6 (zone_before f r))) [
    | inl b ↦ onward c (initiates_lateral (side_before f r)) (sym (ap (λ (u : Transition). u (state_of f)) (if_true _ _ b)) ∙ q)
    | inr b ↦ onward c (initiates (side_before f r)) (sym (ap (λ (u : Transition). u (state_of f)) (if_false _ _ b)) ∙ q)
  ]

  of_kind : (k : ℕ) → 1 ≤ k → k ≤ 12 → Onward k
  of_kind k l h =
      each_operation Onward (
        entered_on (side_named r.side) (state_of f) t c,
        onward c (laterally (side_named r.side)),
        onward c (descends (side_before f r)),
        by_approach,
        onward c (merges (side_before f r)),
        onward c goes_final,
        onward c lands,
        onward c taxies,
        onward c exits,
        onward c misses,
        onward c (holds (side_before f r)),
        (λ q. subst Reached (head_same q) c),
      ) k (and_i (leb 1 k) (leb k 12) (le→leb 1 k l) (le→leb k 12 h))

reached_on : (f : Field) → Sound f → Reached (state_of f) → (r : Request) → Reached (state_of (step_of f r).field)
reached_on f S c r = elim (decided (eqb (number_of f r) 0)) [
  | inl b ↦
      let e = eqb-true (number_of f r) 0 b in
      let known = kind_known r (passes f r e).input in
      of_kind f r c (state_of (step_of f r).field) r.kind known.low known.high ((steps_as f S.places r).accepted (number_is f r ∙ e))
  | inr b ↦ subst Reached (sym ((steps_as f S.places r).refused (λ e. eqb-false (number_of f r) 0 b (sym (number_is f r) ∙ e)))) c
]

-- ---- any list of requests
pub reached_after : (f : Field) → Sound f → Reached (state_of f) → (rs : List Request) → Reached (state_of (field_after f rs))
reached_after f S c [] = c
reached_after f S c (r ∷ rs) = reached_after (step_of f r).field (reason_kept f S r).sound (reached_on f S c r) rs

-- the empty field stands for the empty state, ..
empty_state_lem : (legs : Legs) → state_of (empty_field legs) ≡ empty_state
unfolding state_of empty_field in_zone zone_of queue_of order_of order_length
empty_state_lem legs = same_state queues refl refl
  where
    queues : (z : ScaZone) → (state_of (empty_field legs)).queue z ≡ []
    queues (holding3 right_side) = refl
    queues (holding3 left_side) = refl
    queues (holding2 right_side) = refl
    queues (holding2 left_side) = refl
    queues (lez right_side) = refl
    queues (lez left_side) = refl
    queues (maz right_side) = refl
    queues (maz left_side) = refl
    queues (base right_side) = refl
    queues (base left_side) = refl
    queues intermediate = refl
    queues final = refl
    queues runway = refl

-- .. fields with the same queues stand for the same state, ..
state_same : {f g : Field} → Same f g → state_of f ≡ state_of g
unfolding state_of
state_same {f} {g} s =
    let queues = queues_same f g s in
    let sequence = s.sequence in
    let next = s.next in
    λ i.
    record {
      queue =
          λ z.
          map (λ (a : field.Aircraft). record { seq = cond (eqb (zone_number z) 13) 1 (suc (before a.number (order_of (sequence i)))); mahf = side_named a.fix })
          (queues i (zone_number z));
      nextmahf = side_named (next i);
      nextseq = suc (order_length (sequence i));
    }

-- .. and so every empty field that a list may start from stands for it
pub start_state : (f : Field) → T (empty_start f) → state_of f ≡ empty_state
start_state f t = state_same (start_same f t) ∙ empty_state_lem f.legs

pub runs_within : RunsWithin
runs_within f t = reached_after f (start_sound f t) (subst Reached (sym (start_state f t)) start)
