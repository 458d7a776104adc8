-- A field without the head of a zone, and one with an aircraft put at its tail, have their places as the field before. Assumes nothing.
use Prim.Native.Nat.{ℕ}
use Rattle.leg.specs.Ticks.{Between}
use Rattle.field.specs.declared.Aircraft.{Aircraft}
use Rattle.field.specs.declared.Field.{Field}
use Rattle.field.specs.Airspace.{zone_of}
use Rattle.edits.specs.Edits.{without_head, with_tail}
use Rattle.laws.proofs.EditLaws.{Shaped, shaped_with_zone, shaped_without_head, shaped_with_tail}
use Rattle.rules.specs.Kinds.{head_gone, tail_put}

module _ {f : Field} (sh : Shaped f) {z : ℕ} (b : Between 1 13 z) where
  pub gone_shaped : Shaped (head_gone f z)
  unfolding head_gone
  gone_shaped = shaped_with_zone f z (without_head (zone_of f z)) b sh.zones sh (shaped_without_head (zone_of f z) (sh.zone z))

  pub put_shaped : (a : Aircraft) → Shaped (tail_put f z a)
  unfolding tail_put
  put_shaped a = shaped_with_zone f z (with_tail (zone_of f z) a) b sh.zones sh (shaped_with_tail (zone_of f z) a (sh.zone z))
