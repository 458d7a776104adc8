-- Whatever a host calls leaves a history with its places and floats of 64 bits (`HistoryHeld`). Assumes nothing.
use mathlib.Core.List.{List, [], ◌∷◌}
use Prim.Native.Nat.{ℕ}
use lib.Dec.{eqb}
use lib.IntN.{pos}
use lib.Ieee.{binary64}
use lib.Ieee.Fits.{of_int-fits}
use Rattle.request.specs.declared.Request.{Request}
use Rattle.practice.specs.declared.FileLegs.{FileLegs}
use Rattle.field.specs.declared.Field.{Field}
use Rattle.field.specs.Airspace.{opposite, zone_of, entering, empty_field}
use Rattle.edits.specs.Edits.{with_tail, appended, with_zone}
use Rattle.field.proofs.TestLaws.{either_way}
use Rattle.playing.specs.Playing.{legs_in_miles, no_legs}
use Rattle.history.specs.declared.History.{History}
use Rattle.history.specs.History.{step_history}
use Rattle.dialect.specs.declared.ListEntry.{ListEntry}
use Rattle.dialect_field.specs.declared.Built.{Built}
use Rattle.dialect_field.specs.Coming.{entries_in, fix_in, with_entry, built_on, built, coming_number, not_built, field_of_list}
use Rattle.press.specs.declared.Proposal.{Proposal}
use Rattle.press.specs.declared.Proposal.TheVariants.{Refused, None, Play}
use Rattle.press_kept.specs.PressKept.{proposal_kept, played_kept, press_kept, presses_kept, after_asked, held_kept}
use Rattle.limits.specs.Limits.{most_presses}
use Rattle.layout.specs.Held.{MilesHeld, FieldWith, IndexedWith, HistoryHeld}
use Rattle.layout.proofs.StaysHeld.{zone_held, with_tail_held, with_zone_held, appended_held, with_sequence_held, empty_field_held}
use Rattle.layout.proofs.CallsReadBack.{with_index_held, start_with_held, start_held, legs_in_64ths_held, step_history_held, step_back_held}
use Rattle.host.specs.Calls.{start_number}
use Rattle.host.specs.Calls.{HostCall, start, ask, back, press, hold_down, spaced, listed, built_from}
use Rattle.host.specs.Calls.{left_by}
use Rattle.host_calls.specs.HostCalls.{left_by_all}

-- ---- the field that a classroom list builds

abbrev On : Field → Type 0
On = FieldWith MilesHeld

entry_held : (f : Field) (speed : ℕ) (e : ListEntry) → On f → On (with_entry f speed e)
unfolding with_entry entering
entry_held f speed e h =
    let a = entering e.number (fix_in e.fix) speed 1 in
    with_sequence_held (with_zone f e.location (with_tail (zone_of f e.location) a)) (appended f.sequence e.number) (opposite (fix_in e.fix))
    (with_zone_held f e.location (with_tail (zone_of f e.location) a) h
    (with_tail_held (zone_of f e.location) a (zone_held f e.location h) (record { progress = tt; waited = of_int-fits binary64 (pos 0); leg = of_int-fits binary64 (pos 0) })))
    (appended_held f.sequence e.number h.numbers)

built_on_held : (f : Field) (speed : ℕ) (es : List ListEntry) → On f → On (built_on f speed es)
built_on_held f speed [] h = h
built_on_held f speed (e ∷ es) h = built_on_held (with_entry f speed e) speed es (entry_held f speed e h)

empty_held : (legs : FileLegs) → On (empty_field (legs_in_miles legs))
empty_held legs = empty_field_held (legs_in_miles legs) (legs_in_64ths_held legs.missed legs.base legs.intermediate legs.final_approach)

field_of_held : (legs : FileLegs) (speed : ℕ) (bytes : List ℕ) → IndexedWith MilesHeld (field_of_list legs speed bytes).after
unfolding field_of_list not_built built
field_of_held legs speed bytes =
    either_way (λ (b : Built). IndexedWith MilesHeld b.after) (eqb (coming_number legs speed bytes) 0) _ _
    (λ e. with_index_held _ (built_on_held (empty_field (legs_in_miles legs)) speed (entries_in bytes) (empty_held legs)))
    (λ e. with_index_held _ (empty_held no_legs))

-- ---- the button

played_held : (h : History) (p : Proposal) → HistoryHeld h → HistoryHeld (played_kept h p).after
played_held h Refused k = k
played_held h None k = k
played_held h (Play r) k = step_history_held h r k

asked_held : (h : History) (rs : List Request) → HistoryHeld h → HistoryHeld (after_asked h rs)
unfolding after_asked
asked_held h [] k = k
asked_held h (r ∷ rs) k = asked_held (step_history h r).after rs (step_history_held h r k)

-- ---- every call

pub left_held : (h : History) (c : HostCall) → HistoryHeld h → HistoryHeld (left_by h c)
unfolding press_kept held_kept
left_held h (start legs) k =
    either_way HistoryHeld (eqb (start_number legs) 0) _ h
    (λ e. start_held (legs_in_miles legs) (legs_in_64ths_held legs.missed legs.base legs.intermediate legs.final_approach)) (λ e. k)
left_held h (ask r) k = step_history_held h r k
left_held h (back desk) k = step_back_held h desk k
left_held h press k = played_held h (proposal_kept h) k
left_held h hold_down k = asked_held h (presses_kept most_presses h) k
left_held h (spaced n) k = k
left_held h listed k = k
left_held h (built_from legs speed bytes) k =
    either_way HistoryHeld (eqb (field_of_list legs speed bytes).number 0) _ h (λ e. start_with_held (field_of_list legs speed bytes).after (field_of_held legs speed bytes)) (λ e. k)

pub all_held : (h : History) (cs : List HostCall) → HistoryHeld h → HistoryHeld (left_by_all h cs)
all_held h [] k = k
all_held h (c ∷ cs) k = all_held (left_by h c) cs (left_held h c k)
