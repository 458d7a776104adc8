-- How many bytes each part of a history has that is written. Assumes nothing.
use mathlib.Core.Path.{◌≡◌, refl}
use mathlib.Core.List.{List, [], ◌∷◌, ◌++◌}
use native.Mathlib.Omega.{arith}
use lib.Ieee.{Float}
use lib.ListN.{length, length-append}
use Rattle.practice.specs.Practice.{bytes16}
use Rattle.words.specs.Words.{bytes64}
use Rattle.field.specs.declared.Aircraft.{Aircraft}
use Rattle.field.specs.declared.Zone.{Zone}
use Rattle.field.specs.declared.Sequence.{Sequence}
use Rattle.field.specs.declared.Legs.{Legs}
use Rattle.field.specs.declared.Field.{Field}
use Rattle.finder.specs.declared.Indexed.{Indexed}
use Rattle.history.specs.declared.History.{History}
use Rattle.layout.specs.Read.{state_size}
use Rattle.layout.specs.Written.{bytes_of_each, aircraft_bytes, zone_bytes, sequence_bytes, legs_bytes, field_bytes, index_entry_bytes, indexed_bytes, history_bytes}
use Rattle.field.specs.Lists.{Each}
use Rattle.layout.specs.Held.{AircraftWith, ZoneWith, FieldWith, IndexedWith, HistoryWith}
use Rattle.layout.proofs.BytesAt.{each_size}

-- numbers and entries of which nothing is asked
abbrev pub Any : {A : Type 0} → A → Type 0
Any x = Unit {0}

pub any_each : {A : Type 0} (xs : List A) → Each Any xs
any_each [] = tt
any_each (x ∷ xs) = (tt, any_each xs)

pub sequence_size : (s : Sequence) → length s.numbers ≡ 4 → length (sequence_bytes s) ≡ 16
unfolding sequence_bytes
sequence_size s n =
    let a = length-append (bytes_of_each bytes16 s.numbers) (bytes64 s.length) in
    let e = each_size Any bytes16 2 (λ x p. refl) s.numbers (any_each s.numbers) in
    omega (arith, a, e, n)

pub legs_size : (legs : Legs) → length (legs_bytes legs) ≡ 32
unfolding legs_bytes
legs_size legs = refl

module _ {Q : Float → Type 0} where
  pub aircraft_size_lem : (a : Aircraft) → AircraftWith Q a → length (aircraft_bytes a) ≡ 30
  unfolding aircraft_bytes
  aircraft_size_lem a p = refl

  pub zone_size_lem : (z : Zone) → ZoneWith Q z → length (zone_bytes z) ≡ 128
  unfolding zone_bytes
  zone_size_lem z p =
      let a = length-append (bytes_of_each aircraft_bytes z.aircraft) (bytes64 z.length) in
      let e = each_size (AircraftWith Q) aircraft_bytes 30 aircraft_size_lem z.aircraft p.aircraft in
      let n = p.places in
      omega (arith, a, e, n)

  pub zones_size : (f : Field) → FieldWith Q f → length (bytes_of_each zone_bytes f.zones) ≡ 1664
  zones_size f p =
      let e = each_size (ZoneWith Q) zone_bytes 128 zone_size_lem f.zones p.zones in
      let n = p.places in
      omega (arith, e, n)

  pub field_size_lem : (f : Field) → FieldWith Q f → length (field_bytes f) ≡ 1713
  unfolding field_bytes
  field_size_lem f p =
      let z = bytes_of_each zone_bytes f.zones in
      let s = sequence_bytes f.sequence in
      let a1 = length-append (z ++ s ++ (f.next ∷ [])) (legs_bytes f.legs) in
      let a2 = length-append (z ++ s) (f.next ∷ []) in
      let a3 = length-append z s in
      let e1 = zones_size f p in
      let e2 = sequence_size f.sequence p.numbers in
      let e3 = legs_size f.legs in
      omega (arith, a1, a2, a3, e1, e2, e3)

  pub indexed_size : (x : Indexed) → IndexedWith Q x → length (indexed_bytes x) ≡ 1733
  unfolding indexed_bytes
  indexed_size x p =
      let es = x.index.entries in
      let a = length-append (field_bytes x.field) (bytes_of_each index_entry_bytes es) in
      let e1 = field_size_lem x.field p.field in
      let e2 = each_size Any index_entry_bytes 4 (λ x p. refl) es (any_each es) in
      let n = p.entries in
      omega (arith, a, e1, e2, n)

  pub kept_size : (h : History) → HistoryWith Q h → length (bytes_of_each indexed_bytes h.kept) ≡ 13864
  kept_size h p =
      let e = each_size (IndexedWith Q) indexed_bytes 1733 indexed_size h.kept p.kept in
      let n = p.places in
      omega (arith, e, n)

  pub state_size_lem : (h : History) → HistoryWith Q h → length (history_bytes h) ≡ state_size
  unfolding history_bytes
  state_size_lem h p =
      let x = indexed_bytes h.now in
      let k = bytes_of_each indexed_bytes h.kept in
      let a1 = length-append (x ++ k) (bytes64 h.count) in
      let a2 = length-append x k in
      let e1 = indexed_size h.now p.now in
      let e2 = kept_size h p in
      omega (arith, a1, a2, e1, e2)
