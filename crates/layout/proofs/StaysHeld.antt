-- Every request keeps the places of the arrays, and that each float is one of 64 bits. Of any field at all. Assumes nothing.
use mathlib.Core.Path.{◌≡◌, refl, ap, subst⁻¹, ◌∙◌}
use mathlib.Core.Logic.{inl, inr}
use mathlib.Core.Bool.{◌&&◌, ◌||◌}
use mathlib.Core.List.{List, [], ◌∷◌, ◌++◌}
use Prim.Native.Nat.{ℕ, zero, suc}
use native.Mathlib.Omega.{arith}
use lib.Dec.{eqb, ltb}
use lib.IntN.{pos}
use lib.Ieee.{Float, binary64, add, lt}
use lib.Ieee.Fits.{add-fits, of_int-fits}
use lib.ListN.{length, take, drop, length-append, length-drop, length-map, length-set}
use lib.Seq.{length-take-le}
use borrow.Author.Tests.{eqb-true, eqb-false, ltb-true}
use Rattle.limits.specs.Limits.{most_waited}
use Rattle.request.specs.Input.{within}
use Rattle.request.specs.declared.Request.{Request}
use Rattle.leg.specs.declared.Progress.{Progress}
use Rattle.leg.specs.declared.Progress.TheVariants.{Waiting, Flying}
use Rattle.leg.specs.Progress.{whole, miles_flown, flown_sum, past_end, advanced, waited_after, progress_after, waited_with, leg_after_miss}
use Rattle.field.specs.declared.Aircraft.{Aircraft}
use Rattle.field.specs.declared.Zone.{Zone}
use Rattle.field.specs.declared.Sequence.{Sequence}
use Rattle.field.specs.declared.Legs.{Legs}
use Rattle.field.specs.declared.Field.{Field}
use Rattle.field.specs.Airspace.{right, left, opposite, side_of, at3000, at2000, lateral, missed, base, intermediate, final_approach_zone, runway, is_flying_zone}
use Rattle.field.specs.Airspace.{nobody, empty_zone, empty_field, zone_of, queue_of, order_of, in_zone, leg_of, progress_into, entering, on_leg, arrived, arrived_by_miss, given_fix}
use Rattle.edits.specs.Edits.{without_head, with_tail, appended, before, removed, with_zone, with_sequence}
use Rattle.field.proofs.TestLaws.{decided, either_way}
use Rattle.field.proofs.Shapes.{order_fits}
use Rattle.questions.specs.Counts.{is_empty}
use Rattle.questions.specs.Find.{aircraft_at}
use Rattle.tick.specs.Tick.{ticked_aircraft, ticked_zone, ticked_from, ticked}
use Rattle.rules.specs.Kinds.{zone_before, zone_ahead, head_gone, tail_put, moved, descended, out_of_sequence, fix_taken, entered, made_room, entered_above}
use Rattle.rules.specs.Kinds.{may_approach, base_free, approached, landed, exited, fix_after_miss, missed_approach, held}
use Rattle.rules.specs.Step.{effect_for, effect_of, number_of, step_of}
use Rattle.rules.proofs.Checks.{by_kind_lem}
use Rattle.rules.proofs.StepLaws.{field_accepted, field_refused}
use Rattle.field.specs.Lists.{Each, set_from_one}
use Rattle.owners.proofs.EachOfList.{each_drop, each_take, each_append, each_set, each_set_one, each_at, each_map}
use Rattle.history.proofs.MovedUp.{moved_length}
use Rattle.layout.specs.Held.{MilesHeld, ProgressWith, AircraftWith, ZoneWith, LegsWith, FieldWith}

abbrev Q : Aircraft → Type 0
Q = AircraftWith MilesHeld

abbrev In : Zone → Type 0
In = ZoneWith MilesHeld

abbrev On : Field → Type 0
On = FieldWith MilesHeld

-- ---- nobody, and an empty zone
nobody_held : Q nobody
nobody_held = record { progress = tt; waited = of_int-fits binary64 (pos 0); leg = of_int-fits binary64 (pos 0) }

empty_held : In empty_zone
empty_held = record { places = refl; aircraft = (nobody_held, (nobody_held, (nobody_held, (nobody_held, tt)))) }

-- ---- a zone of the field, and the aircraft at a place
pub zone_held : (f : Field) (z : ℕ) → On f → In (zone_of f z)
unfolding zone_of
zone_held f z h = each_at In (empty_zone ∷ f.zones) z empty_zone (empty_held, h.zones) empty_held

at_held : (f : Field) (z place : ℕ) → On f → Q (aircraft_at f z place)
unfolding aircraft_at in_zone queue_of
at_held f z place h = each_at Q (nobody ∷ in_zone f z) place nobody (nobody_held, each_take Q (zone_of f z).length (zone_of f z).aircraft (zone_held f z h).aircraft) nobody_held

-- ---- one off, and one put
without_head_held : (q : Zone) → In q → In (without_head q)
unfolding without_head
without_head_held q h =
    let n = h.places in
    either_way In (eqb q.length 0) q _ (λ e. h)
    (λ e. record {
      places = moved_length q.aircraft nobody (omega (arith, n)) ∙ n;
      aircraft = each_append Q (drop 1 q.aircraft) (nobody ∷ []) (each_drop Q 1 q.aircraft h.aircraft) (nobody_held, tt);
    })

pub with_tail_held : (q : Zone) (a : Aircraft) → In q → Q a → In (with_tail q a)
unfolding with_tail
with_tail_held q a h k =
    either_way In (ltb q.length 4) _ q
    (λ e. record { places = length-set q.aircraft q.length a ∙ h.places; aircraft = each_set Q q.aircraft q.length a h.aircraft k })
    (λ e. h)

set_one_length : {A : Type 0} (xs : List A) (z : ℕ) (x : A) → length (set_from_one xs z x) ≡ length xs
set_one_length xs zero x = refl
set_one_length xs (suc i) x = length-set xs i x

pub with_zone_held : (f : Field) (z : ℕ) (q : Zone) → On f → In q → On (with_zone f z q)
unfolding with_zone
with_zone_held f z q h k = record { places = set_one_length f.zones z q ∙ h.places; zones = each_set_one In f.zones z q h.zones k; numbers = h.numbers; legs = h.legs }

gone_held : (f : Field) (z : ℕ) → On f → On (head_gone f z)
unfolding head_gone
gone_held f z h = with_zone_held f z (without_head (zone_of f z)) h (without_head_held (zone_of f z) (zone_held f z h))

put_held : (f : Field) (z : ℕ) (a : Aircraft) → On f → Q a → On (tail_put f z a)
unfolding tail_put
put_held f z a h k = with_zone_held f z (with_tail (zone_of f z) a) h (with_tail_held (zone_of f z) a (zone_held f z h) k)

-- ---- the sequence
abbrev Four : Sequence → Type 0
Four s = length s.numbers ≡ 4

pub appended_held : (s : Sequence) (n : ℕ) → Four s → Four (appended s n)
unfolding appended
appended_held s n h = either_way Four (ltb s.length 4) _ s (λ e. length-set s.numbers s.length n ∙ h) (λ e. h)

removed_held : (s : Sequence) (n : ℕ) → Four s → Four (removed s n)
unfolding removed
removed_held s n h =
    let k = before n (order_of s) in
    either_way Four (ltb k (length (order_of s))) _ s
    (λ e.
    let low = ltb-true k (length (order_of s)) e in
    let most = order_fits s h in
    let a1 = length-append (take k s.numbers ++ drop (suc k) s.numbers) (0 ∷ []) in
    let a2 = length-append (take k s.numbers) (drop (suc k) s.numbers) in
    let t = length-take-le k s.numbers (omega (arith, low, most, h)) in
    let d = length-drop (suc k) s.numbers in
    omega (arith, a1, a2, t, d, low, most, h))
    (λ e. h)

pub with_sequence_held : (f : Field) (s : Sequence) (next : ℕ) → On f → Four s → On (with_sequence f s next)
unfolding with_sequence
with_sequence_held f s next h k = record { places = h.places; zones = h.zones; numbers = k; legs = h.legs }

out_held : (f : Field) (n : ℕ) → On f → On (out_of_sequence f n)
unfolding out_of_sequence
out_held f n h = with_sequence_held f (removed f.sequence n) f.next h (removed_held f.sequence n h.numbers)

-- ---- from zone to zone
into_held : (z : ℕ) → ProgressWith MilesHeld (progress_into z)
unfolding progress_into
into_held z = either_way (ProgressWith MilesHeld) (is_flying_zone z) (Flying (whole 0)) Waiting (λ e. of_int-fits binary64 (pos 0)) (λ e. tt)

leg_held : (legs : Legs) (z : ℕ) → LegsWith MilesHeld legs → MilesHeld (leg_of legs z)
unfolding leg_of
leg_held legs z h =
    either_way MilesHeld (eqb z (missed right) || eqb z (missed left)) _ _ (λ e. h.missed)
    (λ e. either_way MilesHeld (eqb z (base right) || eqb z (base left)) _ _ (λ e. h.base)
    (λ e. either_way MilesHeld (eqb z intermediate) _ _ (λ e. h.intermediate)
    (λ e. either_way MilesHeld (eqb z final_approach_zone) _ _ (λ e. h.final_leg) (λ e. of_int-fits binary64 (pos 0)))))

arrived_held : (legs : Legs) (z : ℕ) (a : Aircraft) → LegsWith MilesHeld legs → Q a → Q (arrived legs z a)
unfolding arrived on_leg
arrived_held legs z a l h = record { progress = into_held z; waited = h.waited; leg = leg_held legs z l }

turned_held : (legs : Legs) (z : ℕ) (a : Aircraft) (fix : ℕ) → Q a → Q (given_fix (arrived_by_miss legs z a) fix)
unfolding arrived_by_miss on_leg given_fix leg_after_miss
turned_held legs z a fix h = record { progress = into_held z; waited = h.waited; leg = add-fits binary64 _ _ }

moved_held : (f : Field) (z w : ℕ) → On f → On (moved f z w)
unfolding moved
moved_held f z w h = put_held (head_gone f z) w (arrived f.legs w (aircraft_at f z 1)) (gone_held f z h) (arrived_held f.legs w (aircraft_at f z 1) h.legs (at_held f z 1 h))

-- ---- a tick
after_held : (p : Progress) (speed amount : ℕ) (leg : Float) → MilesHeld leg → ProgressWith MilesHeld (progress_after p speed amount leg)
unfolding advanced
after_held Waiting speed amount leg h = tt
after_held (Flying miles) speed amount leg h = either_way MilesHeld (lt (flown_sum miles speed amount) leg) _ _ (λ e. add-fits binary64 miles (miles_flown speed amount)) (λ e. h)

waited_held : (p : Progress) (waited : Float) (speed amount : ℕ) (leg : Float) → MilesHeld waited → MilesHeld (waited_with p waited speed amount leg)
unfolding waited_after
waited_held Waiting waited speed amount leg h = h
waited_held (Flying miles) waited speed amount leg h =
    let past = past_end miles speed amount leg in
    either_way MilesHeld (lt (add binary64 waited past) (whole most_waited)) _ _ (λ e. add-fits binary64 waited past) (λ e. of_int-fits binary64 (pos most_waited))

ticked_aircraft_held : (amount : ℕ) (a : Aircraft) → Q a → Q (ticked_aircraft amount a)
unfolding ticked_aircraft
ticked_aircraft_held amount a h = record {
  progress = after_held a.progress a.speed amount a.leg h.leg;
  waited = waited_held a.progress a.waited a.speed amount a.leg h.waited;
  leg = h.leg;
}

ticked_zone_held : (amount : ℕ) (q : Zone) → In q → In (ticked_zone amount q)
unfolding ticked_zone
ticked_zone_held amount q h = record {
  places = length-map q.aircraft (ticked_aircraft amount) ∙ h.places;
  aircraft = each_map Q (ticked_aircraft amount) (ticked_aircraft_held amount) q.aircraft h.aircraft;
}

ticked_from_held : (amount z : ℕ) (qs : List Zone) → Each In qs → Each In (ticked_from amount z qs)
ticked_from_held amount z [] h = tt
ticked_from_held amount z (q ∷ qs) h = (either_way In (is_flying_zone z) (ticked_zone amount q) q (λ e. ticked_zone_held amount q h.0) (λ e. h.0), ticked_from_held amount (suc z) qs h.1)

ticked_length : (amount z : ℕ) (qs : List Zone) → length (ticked_from amount z qs) ≡ length qs
ticked_length amount z [] = refl
ticked_length amount z (q ∷ qs) = ap suc (ticked_length amount (suc z) qs)

ticked_held : (f : Field) (amount : ℕ) → On f → On (ticked f amount)
unfolding ticked
ticked_held f amount h = record { places = ticked_length amount 1 f.zones ∙ h.places; zones = ticked_from_held amount 1 f.zones h.zones; numbers = h.numbers; legs = h.legs }

-- ---- the kinds
entered_held : (f : Field) (r : Request) (z : ℕ) → On f → On (entered f r z)
unfolding entered entering
entered_held f r z h =
    let fix = fix_taken f r.side in
    let a = entering r.number fix r.amount r.desk in
    with_sequence_held (tail_put f z a) (appended f.sequence r.number) (opposite fix)
    (put_held f z a h (record { progress = tt; waited = of_int-fits binary64 (pos 0); leg = of_int-fits binary64 (pos 0) }))
    (appended_held f.sequence r.number h.numbers)

room_held : (f : Field) (side : ℕ) → On f → On (made_room f side)
unfolding made_room
room_held f side h = either_way On (is_empty f (at3000 side)) f (descended f (at3000 side)) (λ e. h) (λ e. moved_held f (at3000 side) (at2000 (at3000 side)) h)

above_held : (f : Field) (r : Request) → On f → On (entered_above f r)
unfolding entered_above
above_held f r h = entered_held (made_room f r.side) r (at3000 r.side) (room_held f r.side h)

approached_held : (f : Field) (number z ahead : ℕ) → On f → On (approached f number z ahead)
unfolding approached
approached_held f number z ahead h =
    let to-base = moved_held f z (base (side_of z)) h in
    either_way On (within 5 6 z) _ _
    (λ e. either_way On (may_approach f.sequence number ahead && base_free f (side_of z)) _ _ (λ e. to-base) (λ e. moved_held f z (at2000 (side_of z)) h))
    (λ e. to-base)

landed_held : (f : Field) (r : Request) → On f → On (landed f r)
unfolding landed
landed_held f r h = out_held (moved f final_approach_zone runway) r.number (moved_held f final_approach_zone runway h)

exited_held : (f : Field) (r : Request) → On f → On (exited f r)
unfolding exited
exited_held f r h = out_held (head_gone f intermediate) r.number (gone_held f intermediate h)

missed_held : (f : Field) (r : Request) → On f → On (missed_approach f r)
unfolding missed_approach
missed_held f r h =
    let a = aircraft_at f final_approach_zone 1 in
    let w = missed a.fix in
    let fix = fix_after_miss f a in
    with_sequence_held (tail_put (head_gone f final_approach_zone) w (given_fix (arrived_by_miss f.legs w a) fix)) (appended (removed f.sequence r.number) r.number) (opposite fix)
    (put_held (head_gone f final_approach_zone) w (given_fix (arrived_by_miss f.legs w a) fix) (gone_held f final_approach_zone h) (turned_held f.legs w a fix (at_held f final_approach_zone 1 h)))
    (appended_held (removed f.sequence r.number) r.number (removed_held f.sequence r.number h.numbers))

hold_held : (f : Field) (z : ℕ) → On f → On (held f z)
unfolding held
hold_held f z h =
    let side = side_of z in
    either_way On (is_empty f (at3000 side)) _ _
    (λ e. either_way On (is_empty f (at2000 side)) _ _ (λ e. moved_held f z (at2000 side) h) (λ e. moved_held f z (at3000 side) h))
    (λ e. moved_held (descended f (at3000 side)) z (at3000 side) (moved_held f (at3000 side) (at2000 (at3000 side)) h))

-- ---- every request
module _ (f : Field) (r : Request) (h : On f) where
  effect_for_held : (z ahead : ℕ) → On (effect_for r.kind f r z ahead)
  effect_for_held z ahead =
      by_kind_lem On r.kind (
        (λ e. above_held f r h),
        (λ e. entered_held f r (lateral r.side) h),
        (λ e. moved_held f z (at2000 z) h),
        (λ e. approached_held f r.number z ahead h),
        (λ e. moved_held f z intermediate h),
        (λ e. moved_held f intermediate final_approach_zone h),
        (λ e. landed_held f r h),
        (λ e. gone_held f runway h),
        (λ e. exited_held f r h),
        (λ e. missed_held f r h),
        (λ e. hold_held f z h),
        ticked_held f r.amount h,
      )

  effect_held : On (effect_of f r)
  unfolding effect_of
  effect_held = effect_for_held (zone_before f r) (zone_ahead f r)

  -- a refusal leaves the field
  pub step_held : On (step_of f r).field
  step_held =
      elim (decided (eqb (number_of f r) 0)) [
        | inl e ↦ subst⁻¹ On (field_accepted f r (eqb-true (number_of f r) 0 e)) effect_held
        | inr e ↦ subst⁻¹ On (field_refused f r (eqb-false (number_of f r) 0 e)) h
      ]

-- ---- the empty field
pub empty_field_held : (legs : Legs) → LegsWith MilesHeld legs → On (empty_field legs)
unfolding empty_field
empty_field_held legs l =
    let e = empty_held in
    record { places = refl; zones = (e, (e, (e, (e, (e, (e, (e, (e, (e, (e, (e, (e, (e, tt))))))))))))); numbers = refl; legs = l }
