-- `decoding::read_field` meets its contract: the zones are read one after the other, and then the sequence, the next fix and the legs. Assumes nothing.
use mathlib.Core.Path.{◌≡◌, refl}
use mathlib.Core.List.{List}
use Prim.Native.Nat.{ℕ, ◌+◌}
use native.Mathlib.Omega.{arith}
use lib.ListN.{get_or}
use Rattle.field.specs.declared.Zone.{Zone}
use Rattle.field.specs.declared.Sequence.{Sequence}
use Rattle.field.specs.declared.Legs.{Legs}
use Rattle.field.specs.declared.Field.{Field}
use Rattle.layout.specs.Read.{several, read_zone, read_sequence, read_legs, read_field}
use Rattle.decoding.proofs.Several.{reading_one, reading_more, reading_all}
use Rattle.decoding.proofs.read_field.Goals as goal

made : (bytes : List ℕ) (at : ℕ) {zs : List Zone} {s : Sequence} {l : Legs}
    → zs ≡ several (read_zone bytes) 128 13 at → s ≡ read_sequence bytes (at + 1664) → l ≡ read_legs bytes (at + 1681)
    → ◌≡◌ {A = Field} (record { zones = zs; sequence = s; next = get_or bytes (at + 1680) 0; legs = l }) (read_field bytes at)
unfolding read_field
made bytes at zs s l t = record { zones = zs t; sequence = s t; next = get_or bytes (at + 1680) 0; legs = l t }

pub loop-i-init : goal.loop-i-init
loop-i-init c =
    let a = c.args in
    reading_one (read_zone a.bytes.now) 128 12 a.at _ _ refl c.read_zone-first.ensures

pub loop-i-preserved : goal.loop-i-preserved
loop-i-preserved c =
    let a = c.args in
    reading_more (read_zone a.bytes.now) 128 13 a.at c.loop-i.zones c.loop-i.i c.loop-i.invariant _ (omega arith) c.read_zone.ensures

pub returns : goal.returns
returns c =
    let a = c.args in
    made a.bytes.now a.at
    (reading_all (read_zone a.bytes.now) 128 13 a.at c.loop-i.zones c.loop-i.i c.loop-i.invariant (omega arith)) c.read_sequence.ensures c.read_legs.ensures
