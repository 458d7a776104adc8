-- What holds of the number and the desk of everyone, in every place of every zone, holds after every request: no aircraft changes its number or its desk, and one that enters has
-- those of its request. Of any field at all. Assumes nothing.
use mathlib.Core.Path.{subst⁻¹}
use mathlib.Core.Logic.{inl, inr}
use mathlib.Core.Bool.{◌&&◌}
use mathlib.Core.List.{List, [], ◌∷◌}
use Prim.Native.Nat.{ℕ, suc}
use lib.Dec.{eqb, ltb}
use lib.ListN.{drop}
use borrow.Author.Tests.{eqb-true, eqb-false}
use Rattle.request.specs.Input.{within}
use Rattle.request.specs.declared.Request.{Request}
use Rattle.field.specs.declared.Aircraft.{Aircraft}
use Rattle.field.specs.declared.Zone.{Zone}
use Rattle.field.specs.declared.Sequence.{Sequence}
use Rattle.field.specs.declared.Field.{Field}
use Rattle.field.specs.Airspace.{opposite, side_of, at3000, at2000, lateral, missed, base, intermediate, final_approach_zone, runway, is_flying_zone}
use Rattle.field.specs.Airspace.{nobody, empty_zone, zone_of, queue_of, in_zone, entering, on_leg, arrived, arrived_by_miss, given_fix}
use Rattle.edits.specs.Edits.{without_head, with_tail, appended, removed, with_zone, with_sequence}
use Rattle.field.specs.Lists.{Each}
use Rattle.field.proofs.TestLaws.{decided, either_way}
use Rattle.questions.specs.Counts.{is_empty}
use Rattle.questions.specs.Find.{aircraft_at}
use Rattle.tick.specs.Tick.{ticked_aircraft, ticked_zone, ticked_from, ticked}
use Rattle.rules.specs.Kinds.{zone_before, zone_ahead, head_gone, tail_put, moved, descended, out_of_sequence, fix_taken, entered, made_room}
use Rattle.rules.specs.Kinds.{entered_above, may_approach, base_free, approached, landed, exited, fix_after_miss, missed_approach, held}
use Rattle.rules.specs.Step.{effect_for, effect_of, number_of, step_of}
use Rattle.rules.proofs.Checks.{by_kind_lem}
use Rattle.rules.proofs.StepLaws.{field_accepted, field_refused}
use Rattle.owners.proofs.EachOfList.{each_drop, each_take, each_append, each_set, each_set_one, each_at, each_map}

module _ (P : ℕ → ℕ → Type 0) where
  -- of an aircraft, by its number and its desk; in every place of a zone, and of a field
  abbrev pub Holds : Aircraft → Type 0
  Holds a = P a.number a.desk

  abbrev pub HoldsIn : Zone → Type 0
  HoldsIn q = Each Holds q.aircraft

  abbrev pub Everyone : Field → Type 0
  Everyone f = Each HoldsIn f.zones

module _ (P : ℕ → ℕ → Type 0) (none : P 0 0) where
  abbrev Q : Aircraft → Type 0
  Q = Holds P

  abbrev In : Zone → Type 0
  In = HoldsIn P

  abbrev On : Field → Type 0
  On = Everyone P

  -- ---- nobody, and an empty zone
  pub nobody_stays : Q nobody
  nobody_stays = none

  empty_stays : In empty_zone
  empty_stays = (nobody_stays, (nobody_stays, (nobody_stays, (nobody_stays, tt))))

  -- ---- a zone of the field, and the aircraft at a place
  zone_stays : (f : Field) (z : ℕ) → On f → In (zone_of f z)
  unfolding zone_of
  zone_stays f z h = each_at In (empty_zone ∷ f.zones) z empty_zone (empty_stays, h) empty_stays

  pub at_stays : (f : Field) (z place : ℕ) → On f → Q (aircraft_at f z place)
  unfolding aircraft_at in_zone queue_of
  at_stays f z place h = each_at Q (nobody ∷ in_zone f z) place nobody (nobody_stays, each_take Q (zone_of f z).length (zone_of f z).aircraft (zone_stays f z h)) nobody_stays

  -- ---- one off, and one put
  without_head_stays : (q : Zone) → In q → In (without_head q)
  unfolding without_head
  without_head_stays q h =
      either_way In (eqb q.length 0) q _ (λ e. h)
      (λ e. each_append Q (drop 1 q.aircraft) (nobody ∷ []) (each_drop Q 1 q.aircraft h) (nobody_stays, tt))

  with_tail_stays : (q : Zone) (a : Aircraft) → In q → Q a → In (with_tail q a)
  unfolding with_tail
  with_tail_stays q a h k = either_way In (ltb q.length 4) _ q (λ e. each_set Q q.aircraft q.length a h k) (λ e. h)

  gone_stays : (f : Field) (z : ℕ) → On f → On (head_gone f z)
  unfolding head_gone with_zone
  gone_stays f z h = each_set_one In f.zones z (without_head (zone_of f z)) h (without_head_stays (zone_of f z) (zone_stays f z h))

  put_stays : (f : Field) (z : ℕ) (a : Aircraft) → On f → Q a → On (tail_put f z a)
  unfolding tail_put with_zone
  put_stays f z a h k = each_set_one In f.zones z (with_tail (zone_of f z) a) h (with_tail_stays (zone_of f z) a (zone_stays f z h) k)

  with_sequence_stays : (f : Field) (s : Sequence) (next : ℕ) → On f → On (with_sequence f s next)
  unfolding with_sequence
  with_sequence_stays f s next h = h

  out_stays : (f : Field) (n : ℕ) → On f → On (out_of_sequence f n)
  unfolding out_of_sequence
  out_stays f n h = with_sequence_stays f (removed f.sequence n) f.next h

  -- ---- from zone to zone
  moved_stays : (f : Field) (z w : ℕ) → On f → On (moved f z w)
  unfolding moved arrived on_leg
  moved_stays f z w h = put_stays (head_gone f z) w (arrived f.legs w (aircraft_at f z 1)) (gone_stays f z h) (at_stays f z 1 h)

  -- ---- a tick
  ticked_zone_stays : (amount : ℕ) (q : Zone) → In q → In (ticked_zone amount q)
  unfolding ticked_zone ticked_aircraft
  ticked_zone_stays amount q h = each_map Q (ticked_aircraft amount) (λ a k. k) q.aircraft h

  ticked_from_stays : (amount z : ℕ) (qs : List Zone) → Each In qs → Each In (ticked_from amount z qs)
  ticked_from_stays amount z [] h = tt
  ticked_from_stays amount z (q ∷ qs) h = (either_way In (is_flying_zone z) (ticked_zone amount q) q (λ e. ticked_zone_stays amount q h.0) (λ e. h.0), ticked_from_stays amount (suc z) qs h.1)

  ticked_stays : (f : Field) (amount : ℕ) → On f → On (ticked f amount)
  unfolding ticked
  ticked_stays f amount h = ticked_from_stays amount 1 f.zones h

  -- ---- the kinds
  entered_stays : (f : Field) (r : Request) (z : ℕ) → P r.number r.desk → On f → On (entered f r z)
  unfolding entered entering
  entered_stays f r z k h =
      let fix = fix_taken f r.side in
      with_sequence_stays _ (appended f.sequence r.number) (opposite fix) (put_stays f z (entering r.number fix r.amount r.desk) h k)

  room_stays : (f : Field) (side : ℕ) → On f → On (made_room f side)
  unfolding made_room
  room_stays f side h = either_way On (is_empty f (at3000 side)) f (descended f (at3000 side)) (λ e. h) (λ e. moved_stays f (at3000 side) (at2000 (at3000 side)) h)

  above_stays : (f : Field) (r : Request) → P r.number r.desk → On f → On (entered_above f r)
  unfolding entered_above
  above_stays f r k h = entered_stays (made_room f r.side) r (at3000 r.side) k (room_stays f r.side h)

  approached_stays : (f : Field) (number z ahead : ℕ) → On f → On (approached f number z ahead)
  unfolding approached
  approached_stays f number z ahead h =
      let to-base = moved_stays f z (base (side_of z)) h in
      either_way On (within 5 6 z) _ _
      (λ e. either_way On (may_approach f.sequence number ahead && base_free f (side_of z)) _ _ (λ e. to-base) (λ e. moved_stays f z (at2000 (side_of z)) h))
      (λ e. to-base)

  landed_stays : (f : Field) (r : Request) → On f → On (landed f r)
  unfolding landed
  landed_stays f r h = out_stays (moved f final_approach_zone runway) r.number (moved_stays f final_approach_zone runway h)

  exited_stays : (f : Field) (r : Request) → On f → On (exited f r)
  unfolding exited
  exited_stays f r h = out_stays (head_gone f intermediate) r.number (gone_stays f intermediate h)

  missed_stays : (f : Field) (r : Request) → On f → On (missed_approach f r)
  unfolding missed_approach arrived_by_miss on_leg given_fix
  missed_stays f r h =
      let a = aircraft_at f final_approach_zone 1 in
      let w = missed a.fix in
      let fix = fix_after_miss f a in
      with_sequence_stays _ (appended (removed f.sequence r.number) r.number) (opposite fix)
      (put_stays (head_gone f final_approach_zone) w (given_fix (arrived_by_miss f.legs w a) fix) (gone_stays f final_approach_zone h) (at_stays f final_approach_zone 1 h))

  held_stays : (f : Field) (z : ℕ) → On f → On (held f z)
  unfolding held
  held_stays f z h =
      let side = side_of z in
      either_way On (is_empty f (at3000 side)) _ _
      (λ e. either_way On (is_empty f (at2000 side)) _ _ (λ e. moved_stays f z (at2000 side) h) (λ e. moved_stays f z (at3000 side) h))
      (λ e. moved_stays (descended f (at3000 side)) z (at3000 side) (moved_stays f (at3000 side) (at2000 (at3000 side)) h))

  -- ---- every request
  module _ (f : Field) (r : Request) (k : P r.number r.desk) (h : On f) where
    effect_for_stays : (z ahead : ℕ) → On (effect_for r.kind f r z ahead)
    effect_for_stays z ahead =
        by_kind_lem On r.kind (
          (λ e. above_stays f r k h),
          (λ e. entered_stays f r (lateral r.side) k h),
          (λ e. moved_stays f z (at2000 z) h),
          (λ e. approached_stays f r.number z ahead h),
          (λ e. moved_stays f z intermediate h),
          (λ e. moved_stays f intermediate final_approach_zone h),
          (λ e. landed_stays f r h),
          (λ e. gone_stays f runway h),
          (λ e. exited_stays f r h),
          (λ e. missed_stays f r h),
          (λ e. held_stays f z h),
          ticked_stays f r.amount h,
        )

    pub effect_stays : On (effect_of f r)
    unfolding effect_of
    effect_stays = effect_for_stays (zone_before f r) (zone_ahead f r)

    -- a refusal leaves the field
    pub step_stays : On (step_of f r).field
    step_stays =
        elim (decided (eqb (number_of f r) 0)) [
          | inl e ↦ subst⁻¹ On (field_accepted f r (eqb-true (number_of f r) 0 e)) effect_stays
          | inr e ↦ subst⁻¹ On (field_refused f r (eqb-false (number_of f r) 0 e)) h
        ]
