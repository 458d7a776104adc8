-- `edits::with_zone` meets its contract: the definition takes the arm of the test. Assumes nothing.
use Rattle.std.proofs.Common.{◌≡◌, ℕ, zero, suc, ◌≤◌, ◌<◌, ◌⊎◌, length, refl, arith, rules}
use Rattle.std.proofs.lemmas.Bool.Decides.{nat_tests}
use lib.Seq.{set_out}
use Rattle.field.specs.declared.Zone.{Zone}
use Rattle.field.specs.declared.Field.{Field}
use Rattle.field.proofs.Arrays.{set_from_one_lem}
use Rattle.edits.specs.Edits.{with_zone}
use Rattle.edits.proofs.with_zone.Goals as goal

-- what is no zone leaves the field as it is
stays : (f : Field) (zone : ℕ) (q : Zone) → length f.zones ≡ 13 → (zone < 1) ⊎ (13 < zone) → f ≡ with_zone f zone q
unfolding with_zone
stays f zero q long out = refl
stays f (suc i) q long out = simp (set_out f.zones i q (omega arith))

pub returns-then-contains : goal.returns-then-contains
unfolding with_zone
returns-then-contains c =
    let within = c.if-contains.ensures.cases in
    let low : 1 ≤ c.args.zone = grind (arith, nat_tests) in
    simp (set_from_one_lem c.args.f.zones c.args.zone c.args.q low)

pub returns-else-contains : goal.returns-else-contains
returns-else-contains c =
    let within = c.if-contains.ensures.cases in
    let out : (c.args.zone < 1) ⊎ (13 < c.args.zone) = grind (arith, nat_tests) in
    stays c.args.f c.args.zone c.args.q (search rules) out
