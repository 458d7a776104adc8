-- `playing::play_body` meets its contract. The loop's invariant is `Playing`: the log holds the requests so far, and the rest is to be
use mathlib.Core.Path.{◌≡◌, refl, sym, ap, ◌∙◌, subst⁻¹}
use Prim.Native.Nat.{◌+◌, ◌%◌, ◌<◌}
use native.Mathlib.Omega.{arith}
use lib.ListN.{length-set}
use lib.Seq.{sets}
use Rattle.limits.specs.Limits.{most_requests}
use Rattle.std.specs.Prelude.{None, Some}
use Rattle.practice.specs.Requests.{requests_of, reading_at}
use Rattle.field.specs.declared.Field.{Field}
use Rattle.field.specs.Airspace.{empty_field}
use Rattle.finder.specs.declared.Indexed.{Indexed}
use Rattle.questions.specs.Counts.{present_on}
use Rattle.indexed.specs.declared.SteppedIndexed.{SteppedIndexed}
use Rattle.indexed.specs.Indexed.{with_index}
use Rattle.rules.specs.Play.{field_after, played}
use Rattle.rules.specs.Reason.{Sound}
use Rattle.reason.proofs.Reason.{empty_sound}
use Rattle.playing.specs.Playing.{answers_from, present_from, field_from}
use Rattle.playing.specs.Log.{log_of}
use Rattle.playing.proofs.AnswerSizes.{Short, short_step}
use Rattle.playing.proofs.Playing.{made_own, playing_none, stepped_own, neither, playing_more, playing_turn, all_logged, last_field, all_played, here}
use Rattle.playing.proofs.play_body.Given.{Over}
use Rattle.playing.proofs.play_body.Goals.{After-with_index-empty, In-Some, In_default}
use Rattle.playing.proofs.play_body.Goals as goal

empty_is : (g : Over) (c : After-with_index-empty g) → c.with_index-empty.result.field ≡ empty_field c.args.legs
unfolding with_index
empty_is g c = ap (λ (x : Indexed). x.field) c.with_index-empty.ensures ∙ c.empty_field.ensures

reading : (g : Over) (c : In-Some g) → reading_at ((requests_of c.args.body.now)) c.loop-r.i ≡ Some (c.in-Some.r)
reading g c = sym c.request_at.ensures ∙ c.in-Some.is

below : (g : Over) (c : In-Some g) → c.loop-r.i < most_requests
below g c = let h = here ((requests_of c.args.body.now)) c.loop-r.i (c.in-Some.r) (reading g c) in omega (arith, c.requires.body_len_bound.0)

no-reading : (g : Over) (c : In_default g) → reading_at ((requests_of c.args.body.now)) c.loop-r.i ≡ None
no-reading g c = sym c.request_at.ensures ∙ c.in_default.is

pub loop-r-init : goal.loop-r-init
loop-r-init g c =
    let sound = subst⁻¹ Sound (empty_is g (goal.at.loop-r-init g c).After-with_index-empty) (empty_sound c.args.legs c.requires.t) in
    (refl, λ d. playing_none (requests_of c.args.body.now) c.with_index-empty.result c.args.log.now sound (made_own c.empty_field.result c.with_index-empty.ensures))

-- from the field reached neither 10 nor 25 is answered
pub step-s-requires : goal.step-s-requires
step-s-requires g c = let n = neither (requests_of c.args.body.now) (c.loop-r.invariant.1 _) c.in-Some.r in c.requires.callable _ _ n.0 n.1

pub overflow_mul-i : goal.overflow_mul-i
overflow_mul-i g c = let h = below g (goal.at.overflow_mul-i g c).In-Some in omega arith

pub put_entry-requires : goal.put_entry-requires
put_entry-requires g c =
    let brief = subst⁻¹ (λ (s : SteppedIndexed). Short s.answer) ((c.requires.steps _ _ _ (neither (requests_of c.args.body.now) (c.loop-r.invariant.1 _) _).0 (neither (requests_of c.args.body.now) (c.loop-r.invariant.1 _) _).1 c.step-s.ensures) ∙ stepped_own ((requests_of c.args.body.now)) (c.loop-r.invariant.1 _) (c.in-Some.r)) (short_step _ (c.in-Some.r)) in
    let h = below g (goal.at.put_entry-requires g c).In-Some in
    let room = (c.loop-r.invariant.1 (c.with_index-empty.result)).same in record { at_in_bounds = omega (arith, c.requires.body_len_bound.1); zone_bound = omega (arith, brief.zone) }

pub overflow_add-i : goal.overflow_add-i
overflow_add-i g c =
    let h = below g (goal.at.overflow_add-i g c).In-Some in
    omega arith

pub loop-r-smaller : goal.loop-r-smaller
loop-r-smaller g c =
    let h = here ((requests_of c.args.body.now)) c.loop-r.i (c.in-Some.r) (reading g (goal.at.loop-r-smaller g c).In-Some) in
    omega arith

pub loop-r-preserved : goal.loop-r-preserved
loop-r-preserved g c =
    let next = playing_more ((requests_of c.args.body.now)) (c.loop-r.invariant.1 _) (c.in-Some.r) c.step-s.result (reading g (goal.at.loop-r-preserved g c).In-Some) (c.requires.steps _ _ _ (neither (requests_of c.args.body.now) (c.loop-r.invariant.1 _) _).0 (neither (requests_of c.args.body.now) (c.loop-r.invariant.1 _) _).1 c.step-s.ensures) c.put_entry.ensures in
    (length-set c.loop-r.fields ((c.loop-r.i + 1) % 2) c.step-s.result.after ∙ c.loop-r.invariant.0, playing_turn ((requests_of c.args.body.now)) next c.loop-r.fields c.loop-r.invariant.0)

pub shape_of-log : goal.shape_of-log
shape_of-log g c =
    (c.loop-r.invariant.1 (c.with_index-empty.result)).same

pub returns : goal.returns
unfolding answers_from present_from field_from
returns g c =
    let rs = (requests_of c.args.body.now) in
    let e = empty_is g (goal.at.returns g c).After-with_index-empty in
    let z = no-reading g (goal.at.returns g c).In_default in
    let count = all_played rs (c.loop-r.invariant.1 (c.with_index-empty.result)) z in
    let last = last_field rs (c.loop-r.invariant.1 _) z ∙ ap (λ (f : Field). field_after f rs) e in
    let present = c.present_on.ensures ∙ ap present_on last in record { value = (λ i. record { number = 0; requests = count i; present = present i; field = last i }); log_after = all_logged rs (c.loop-r.invariant.1 (c.with_index-empty.result)) z ∙ ap (λ (f : Field). sets c.args.log.now 0 (log_of (played f rs))) e }
