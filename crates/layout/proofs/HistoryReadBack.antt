-- A history that is written is read back as it was. Assumes nothing.
use mathlib.Core.Path.{◌≡◌, refl, ap, subst, ◌∙◌}
use mathlib.Core.List.{List, [], ◌∷◌, ◌++◌}
use Prim.Native.Nat.{ℕ, ◌+◌}
use native.Mathlib.Omega.{arith}
use lib.ListN.{length, get_or, length-append}
use Rattle.practice.specs.File.{number16}
use Rattle.practice.specs.Practice.{bytes16}
use Rattle.words.specs.Words.{bytes64, bits_of}
use Rattle.field.specs.declared.Aircraft.{Aircraft}
use Rattle.field.specs.declared.Zone.{Zone}
use Rattle.field.specs.declared.Sequence.{Sequence}
use Rattle.field.specs.declared.Legs.{Legs}
use Rattle.field.specs.declared.Field.{Field}
use Rattle.finder.specs.declared.Entry.{Entry}
use Rattle.finder.specs.declared.Indexed.{Indexed}
use Rattle.history.specs.declared.History.{History}
use Rattle.layout.specs.Read.{several, read_aircraft, read_zone, read_sequence, read_legs, read_field, read_entry, read_indexed, read_history}
use Rattle.layout.specs.Written.{bytes_of_each, progress_bits, aircraft_bytes, zone_bytes, sequence_bytes, legs_bytes, field_bytes, index_entry_bytes, indexed_bytes, history_bytes}
use Rattle.layout.specs.Held.{MilesHeld, AircraftWith, ZoneWith, LegsWith, FieldWith, IndexedWith, HistoryHeld}
use Rattle.layout.proofs.PartSizes.{Any, any_each, aircraft_size_lem, zone_size_lem, sequence_size, zones_size, field_size_lem, indexed_size, kept_size}
use Rattle.layout.proofs.BytesAt.{Holds, holds_first, holds_behind, holds_from, holds_after, back16, back64, miles_back, progress_back, each_size, each_back}

module _ (b : List ℕ) where
  aircraft_back : (a : Aircraft) → AircraftWith MilesHeld a → (at : ℕ) → Holds b at (aircraft_bytes a) → read_aircraft b at ≡ a
  unfolding read_aircraft aircraft_bytes
  aircraft_back a p at h =
      let n = bytes16 a.number in
      let d = a.fix ∷ a.desk ∷ [] in
      let s = bytes16 a.speed in
      let r = bytes64 (progress_bits a.progress) in
      let w = bytes64 (bits_of a.waited) in
      let l = bytes64 (bits_of a.leg) in
      let h5 = holds_first b at (n ++ d ++ s ++ r ++ w) l h in
      let h4 = holds_first b at (n ++ d ++ s ++ r) w h5 in
      let h3 = holds_first b at (n ++ d ++ s) r h4 in
      let h2 = holds_first b at (n ++ d) s h3 in
      let number = back16 b at a.number (holds_first b at n d h2) in
      let two = holds_behind b at n d h2 in
      let desk : get_or b (at + 3) 0 ≡ a.desk = ap (λ (i : ℕ). get_or b i 0) (omega arith) ∙ two.1.0 in
      let speed = back16 b (at + 4) a.speed (holds_behind b at (n ++ d) s h3) in
      let progress = progress_back b (at + 6) a.progress p.progress (holds_behind b at (n ++ d ++ s) r h4) in
      let waited = miles_back b (at + 14) a.waited p.waited (holds_behind b at (n ++ d ++ s ++ r) w h5) in
      let leg = miles_back b (at + 22) a.leg p.leg (holds_behind b at (n ++ d ++ s ++ r ++ w) l h) in
      λ t. record { number = number t; fix = two.0 t; desk = desk t; speed = speed t; progress = progress t; waited = waited t; leg = leg t }

  zone_back : (z : Zone) → ZoneWith MilesHeld z → (at : ℕ) → Holds b at (zone_bytes z) → read_zone b at ≡ z
  unfolding read_zone zone_bytes
  zone_back z p at h =
      let row = bytes_of_each aircraft_bytes z.aircraft in
      let e = each_size (AircraftWith MilesHeld) aircraft_bytes 30 aircraft_size_lem z.aircraft p.aircraft in
      let n = p.places in
      let before : length row ≡ 120 = omega (arith, e, n) in
      let four = each_back (AircraftWith MilesHeld) aircraft_bytes 30 aircraft_size_lem b (read_aircraft b) aircraft_back z.aircraft p.aircraft at (holds_first b at row (bytes64 z.length) h) in
      let all = subst (λ (k : ℕ). several (read_aircraft b) 30 k at ≡ z.aircraft) n four in
      let long = back64 b (at + 120) z.length (holds_from b at row (bytes64 z.length) h before) in
      λ t. record { aircraft = all t; length = long t }

  sequence_back : (s : Sequence) → length s.numbers ≡ 4 → (at : ℕ) → Holds b at (sequence_bytes s) → read_sequence b at ≡ s
  unfolding read_sequence sequence_bytes
  sequence_back s n at h =
      let ns = bytes_of_each bytes16 s.numbers in
      let any = any_each s.numbers in
      let e = each_size Any bytes16 2 (λ x p. refl) s.numbers any in
      let before : length ns ≡ 8 = omega (arith, e, n) in
      let four = each_back Any bytes16 2 (λ x p. refl) b (number16 b) (λ x p at. back16 b at x) s.numbers any at (holds_first b at ns (bytes64 s.length) h) in
      let all = subst (λ (k : ℕ). several (number16 b) 2 k at ≡ s.numbers) n four in
      let long = back64 b (at + 8) s.length (holds_from b at ns (bytes64 s.length) h before) in
      λ t. record { numbers = all t; length = long t }

  legs_back : (legs : Legs) → LegsWith MilesHeld legs → (at : ℕ) → Holds b at (legs_bytes legs) → read_legs b at ≡ legs
  unfolding read_legs legs_bytes
  legs_back legs p at h =
      let m = bytes64 (bits_of legs.missed) in
      let s = bytes64 (bits_of legs.base) in
      let i = bytes64 (bits_of legs.intermediate) in
      let f = bytes64 (bits_of legs.final_approach) in
      let h3 = holds_first b at (m ++ s ++ i) f h in
      let h2 = holds_first b at (m ++ s) i h3 in
      let missed = miles_back b at legs.missed p.missed (holds_first b at m s h2) in
      let base = miles_back b (at + 8) legs.base p.base (holds_behind b at m s h2) in
      let middle = miles_back b (at + 16) legs.intermediate p.intermediate (holds_behind b at (m ++ s) i h3) in
      let final = miles_back b (at + 24) legs.final_approach p.final_leg (holds_behind b at (m ++ s ++ i) f h) in
      λ t. record { missed = missed t; base = base t; intermediate = middle t; final_approach = final t }

  field_back : (f : Field) → FieldWith MilesHeld f → (at : ℕ) → Holds b at (field_bytes f) → read_field b at ≡ f
  unfolding read_field field_bytes
  field_back f p at h =
      let z = bytes_of_each zone_bytes f.zones in
      let s = sequence_bytes f.sequence in
      let o = f.next ∷ [] in
      let l = legs_bytes f.legs in
      let h2 = holds_first b at (z ++ s ++ o) l h in
      let h1 = holds_first b at (z ++ s) o h2 in
      let n = p.places in
      let e1 = zones_size f p in
      let e2 = sequence_size f.sequence p.numbers in
      let a2 = length-append (z ++ s) o in
      let a1 = length-append z s in
      let two : length (z ++ s) ≡ 1680 = omega (arith, a1, e1, e2) in
      let three : length (z ++ s ++ o) ≡ 1681 = omega (arith, a2, two) in
      let some = each_back (ZoneWith MilesHeld) zone_bytes 128 zone_size_lem b (read_zone b) zone_back f.zones p.zones at (holds_first b at z s h1) in
      let zones = subst (λ (k : ℕ). several (read_zone b) 128 k at ≡ f.zones) n some in
      let sequence = sequence_back f.sequence p.numbers (at + 1664) (holds_from b at z s h1 e1) in
      let next = holds_from b at (z ++ s) o h2 two in
      let legs = legs_back f.legs p.legs (at + 1681) (holds_from b at (z ++ s ++ o) l h three) in
      λ t. record { zones = zones t; sequence = sequence t; next = next.0 t; legs = legs t }

  entry_back : (e : Entry) → Any e → (at : ℕ) → Holds b at (index_entry_bytes e) → read_entry b at ≡ e
  entry_back e p at h =
      let n = bytes16 e.number in
      let d = e.zone ∷ e.place ∷ [] in
      let number = back16 b at e.number (holds_first b at n d h) in
      let two = holds_behind b at n d h in
      let place : get_or b (at + 3) 0 ≡ e.place = ap (λ (i : ℕ). get_or b i 0) (omega arith) ∙ two.1.0 in
      λ t. record { number = number t; zone = two.0 t; place = place t }

  indexed_back : (x : Indexed) → IndexedWith MilesHeld x → (at : ℕ) → Holds b at (indexed_bytes x) → read_indexed b at ≡ x
  unfolding read_indexed indexed_bytes
  indexed_back x p at h =
      let es = x.index.entries in
      let f = field_bytes x.field in
      let before = field_size_lem x.field p.field in
      let field = field_back x.field p.field at (holds_first b at f (bytes_of_each index_entry_bytes es) h) in
      let some = each_back Any index_entry_bytes 4 (λ x p. refl) b (read_entry b) entry_back es (any_each es) (at + 1713) (holds_from b at f (bytes_of_each index_entry_bytes es) h before) in
      let five = subst (λ (k : ℕ). several (read_entry b) 4 k (at + 1713) ≡ es) p.entries some in
      λ t. record { field = field t; index = record { entries = five t } }

  -- a history whose bytes stand first is read from them, whatever stands behind
  pub state_back : (h : History) → HistoryHeld h → Holds b 0 (history_bytes h) → read_history b ≡ h
  unfolding read_history history_bytes
  state_back h p at =
      let x = indexed_bytes h.now in
      let k = bytes_of_each indexed_bytes h.kept in
      let c = bytes64 h.count in
      let a = length-append x k in
      let e1 = indexed_size h.now p.now in
      let e2 = kept_size h p in
      let two : length (x ++ k) ≡ 15597 = omega (arith, a, e1, e2) in
      let first = holds_first b 0 (x ++ k) c at in
      let now = indexed_back h.now p.now 0 (holds_first b 0 x k first) in
      let some = each_back (IndexedWith MilesHeld) indexed_bytes 1733 indexed_size b (read_indexed b) indexed_back h.kept p.kept 1733 (holds_from b 0 x k first e1) in
      let eight = subst (λ (n : ℕ). several (read_indexed b) 1733 n 1733 ≡ h.kept) p.places some in
      let count = back64 b 15597 h.count (holds_from b 0 (x ++ k) c at two) in
      λ t. record { now = now t; kept = eight t; count = count t }

-- the bytes that are written are read back as the history
pub state_read_back : (h : History) → HistoryHeld h → read_history (history_bytes h) ≡ h
state_read_back h p = state_back (history_bytes h) h p (holds_after [] (history_bytes h))
