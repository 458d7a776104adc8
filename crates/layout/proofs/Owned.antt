-- What owning a history tells of it: `HistoryHeld`. `Is the_row x vs` is what field's proofs/FieldKnown.antt says it is. Assumes nothing.
use mathlib.Core.List.{List, [], ◌∷◌}
use lib.Ieee.{Float, binary64}
use mir.Val.{Val}
use denote.Shadow.{shadow}
use denote.Laws.{Is}
use denote.Floats.{FloatOf, passes}
use denote.Array.{each}
use denote.RattleType.{RattleType}
use Rattle.leg.specs.contracts.Progress as progress
use Rattle.field.specs.contracts.Aircraft as aircraft
use Rattle.field.specs.contracts.Zone as zone
use Rattle.field.specs.contracts.Legs as legs
use Rattle.field.specs.contracts.Field as field
use Rattle.finder.specs.contracts.Indexed as indexed
use Rattle.history.specs.contracts.History as history
use Rattle.field.proofs.FieldKnown.{sequence_known}
use Rattle.leg.specs.declared.Progress.{Progress}
use Rattle.leg.specs.declared.Progress.TheVariants.{Waiting, Flying}
use Rattle.field.specs.declared.Aircraft.{Aircraft}
use Rattle.field.specs.declared.Zone.{Zone}
use Rattle.field.specs.declared.Legs.{Legs}
use Rattle.field.specs.declared.Field.{Field}
use Rattle.finder.specs.declared.Indexed.{Indexed}
use Rattle.finder.proofs.IndexKnown.{index_known}
use Rattle.history.specs.declared.History.{History}
use Rattle.field.specs.Lists.{Each}
use Rattle.layout.specs.Held.{MilesHeld, ProgressWith, AircraftWith, ZoneWith, LegsWith, FieldWith, IndexedWith, HistoryHeld}

-- what each element of an array is known to have
module _ (R : RattleType) (P : R.Denot → Type 0) (known : (x : R.Denot) (v : Val) → Is R x (v ∷ []) → P x) where
  each_known : (xs : List R.Denot) (us : List Val) → shadow (each R.Denot R.own_val xs us) → Each P xs
  each_known [] us p = tt
  each_known (x ∷ xs) [] p = absurd p
  each_known (x ∷ xs) (u ∷ us) p = (known x u p.0, each_known xs us p.1)

miles_held : (x : Float) {vs : List Val} → Is (FloatOf binary64) x vs → MilesHeld x
miles_held x p = passes _ p.1

progress_held : (p : Progress) {vs : List Val} → Is progress.the_row p vs → ProgressWith MilesHeld p
progress_held Waiting k = tt
progress_held (Flying x) k = miles_held x k.1.1.1.1.0

aircraft_held : (a : Aircraft) {vs : List Val} → Is aircraft.the_row a vs → AircraftWith MilesHeld a
aircraft_held a k =
    let m = k.1.1.1.1.1.1 in
    record { progress = progress_held a.progress m.0; waited = miles_held a.waited m.1.0; leg = miles_held a.leg m.1.1.0 }

zone_held : (z : Zone) {vs : List Val} → Is zone.the_row z vs → ZoneWith MilesHeld z
zone_held z k = record {
  places = k.1.1.0.1.0.1;
  aircraft = each_known aircraft.the_row (AircraftWith MilesHeld) (λ a v. aircraft_held a) z.aircraft _ k.1.1.0.1.1;
}

legs_held_lem : (l : Legs) {vs : List Val} → Is legs.the_row l vs → LegsWith MilesHeld l
legs_held_lem l k =
    let m = k.1.1 in
    record {
      missed = miles_held l.missed m.0;
      base = miles_held l.base m.1.0;
      intermediate = miles_held l.intermediate m.1.1.0;
      final_leg = miles_held l.final_approach m.1.1.1.0;
    }

field_held : (f : Field) {vs : List Val} → Is field.the_row f vs → FieldWith MilesHeld f
field_held f k =
    let m = k.1.1 in
    record {
      places = m.0.1.0.1;
      zones = each_known zone.the_row (ZoneWith MilesHeld) (λ z v. zone_held z) f.zones _ m.0.1.1;
      numbers = (sequence_known f.sequence m.1.0).places;
      legs = legs_held_lem f.legs m.1.1.1.0;
    }

indexed_held : (x : Indexed) {vs : List Val} → Is indexed.the_row x vs → IndexedWith MilesHeld x
indexed_held x k = record { field = field_held x.field k.1.1.0; entries = (index_known x.index k.1.1.1.0).places }

pub history_held : (h : History) {vs : List Val} → Is history.the_row h vs → HistoryHeld h
history_held h k =
    let m = k.1.1 in
    record {
      now = indexed_held h.now m.0;
      places = m.1.0.1.0.1;
      kept = each_known indexed.the_row (IndexedWith MilesHeld) (λ x v. indexed_held x) h.kept _ m.1.0.1.1;
    }
