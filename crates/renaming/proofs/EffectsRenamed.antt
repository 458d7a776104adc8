-- What a request does to a field with its numbers renamed: the field that it leaves, renamed. Assumes nothing.
use mathlib.Core.Path.{◌≡◌, refl, ap, ◌∙◌}
use mathlib.Core.Bool.{cond, ◌&&◌}
use Prim.Native.Nat.{ℕ}
use lib.Dec.{eqb}
use Rattle.request.specs.Input.{within}
use Rattle.request.specs.declared.Request.{Request}
use Rattle.field.specs.declared.Aircraft.{Aircraft}
use Rattle.field.specs.declared.Zone.{Zone}
use Rattle.field.specs.declared.Sequence.{Sequence}
use Rattle.field.specs.declared.Field.{Field}
use Rattle.field.specs.Airspace.{opposite, side_of, at3000, at2000, lateral, missed, base, intermediate, final_approach_zone, runway, zone_of, entering, on_leg, arrived, arrived_by_miss, given_fix}
use Rattle.edits.specs.Edits.{without_head, with_tail, appended, removed, with_zone, with_sequence}
use Rattle.questions.specs.declared.Place.{Place}
use Rattle.questions.specs.Find.{aircraft_at}
use Rattle.rules.specs.Kinds.{zone_before, zone_ahead, head_gone, tail_put, moved, descended, out_of_sequence, fix_taken, entered, made_room}
use Rattle.rules.specs.Kinds.{entered_above, may_approach, base_free, approached, landed, exited, fix_after_miss, missed_approach, held}
use Rattle.rules.specs.Step.{by_kind, effect_for, effect_of}
use Rattle.renaming.specs.Renaming.{Renaming, renamed_aircraft, renamed_sequence, renamed_field, renamed_request}
use Rattle.renaming.proofs.ListsRenamed.{either_made, by_test}
use Rattle.renaming.proofs.AskedRenamed.{order_length_lem, zone_renamed, at_renamed, place_renamed, leader_zone_renamed}
use Rattle.renaming.proofs.EditsRenamed.{without_head_renamed, with_tail_renamed, appended_renamed, removed_renamed, with_zone_renamed, ticked_renamed}
use Rattle.renaming.proofs.NeedsRenamed.{empty_renamed, may_approach_renamed, base_renamed}

-- what is made of each entry of a table by kind is made of the kind's own
by_kind_made : {A B : Type 0} (g : A → B) (kind : ℕ) (k1 k2 k3 k4 k5 k6 k7 k8 k9 k10 k11 k12 : A)
    → by_kind kind (g k1) (g k2) (g k3) (g k4) (g k5) (g k6) (g k7) (g k8) (g k9) (g k10) (g k11) (g k12) ≡ g (by_kind kind k1 k2 k3 k4 k5 k6 k7 k8 k9 k10 k11 k12)
by_kind_made {A} {B} g kind k1 k2 k3 k4 k5 k6 k7 k8 k9 k10 k11 k12 =
    made 1 k1 (made 2 k2 (made 3 k3 (made 4 k4 (made 5 k5 (made 6 k6 (made 7 k7 (made 8 k8 (made 9 k9 (made 10 k10 (made 11 k11 {y = k12} refl))))))))))
  where
    made : (k : ℕ) (x : A) {y : A} {v : B} → v ≡ g y → cond (eqb kind k) (g x) v ≡ g (cond (eqb kind k) x y)
    made k x e = either_made g (eqb kind k) refl e

module _ {π : ℕ → ℕ} (p : Renaming π) where
  module _ (f : Field) where
    abbrev F : Field
    F = renamed_field π f

    -- ---- one off, and one put
    gone_renamed : (z : ℕ) → head_gone F z ≡ renamed_field π (head_gone f z)
    unfolding head_gone
    gone_renamed z =
        ap (λ (q : Zone). with_zone F z (without_head q)) (zone_renamed p f z)
        ∙ ap (with_zone F z) (without_head_renamed p (zone_of f z))
        ∙ with_zone_renamed p f z (without_head (zone_of f z))

    put_renamed : (z : ℕ) (a : Aircraft) → tail_put F z (renamed_aircraft π a) ≡ renamed_field π (tail_put f z a)
    unfolding tail_put
    put_renamed z a =
        ap (λ (q : Zone). with_zone F z (with_tail q (renamed_aircraft π a))) (zone_renamed p f z)
        ∙ ap (with_zone F z) (with_tail_renamed p (zone_of f z) a)
        ∙ with_zone_renamed p f z (with_tail (zone_of f z) a)

    out_renamed : (n : ℕ) → out_of_sequence F (π n) ≡ renamed_field π (out_of_sequence f n)
    unfolding out_of_sequence with_sequence
    out_renamed n = ap (λ (s : Sequence). with_sequence F s f.next) (removed_renamed p f.sequence n)

    -- the fixes that an entry and a miss take
    taken_renamed : (side : ℕ) → fix_taken F side ≡ fix_taken f side
    unfolding fix_taken
    taken_renamed side = ap (λ (k : ℕ). cond (eqb k 0) side f.next) (order_length_lem p f.sequence)

    after_miss_renamed : (a : Aircraft) → fix_after_miss F (renamed_aircraft π a) ≡ fix_after_miss f a
    unfolding fix_after_miss
    after_miss_renamed a = ap (λ (k : ℕ). cond (eqb k 1) a.fix f.next) (order_length_lem p f.sequence)

  -- ---- from zone to zone
  moved_renamed : (f : Field) (z w : ℕ) → moved (renamed_field π f) z w ≡ renamed_field π (moved f z w)
  unfolding moved arrived on_leg
  moved_renamed f z w =
      ap (λ (a : Aircraft). tail_put (head_gone (renamed_field π f) z) w (arrived f.legs w a)) (at_renamed p f z 1)
      ∙ ap (λ (g : Field). tail_put g w (renamed_aircraft π (arrived f.legs w (aircraft_at f z 1)))) (gone_renamed f z)
      ∙ put_renamed (head_gone f z) w (arrived f.legs w (aircraft_at f z 1))

  entered_renamed : (f : Field) (r : Request) (z : ℕ) → entered (renamed_field π f) (renamed_request π r) z ≡ renamed_field π (entered f r z)
  unfolding entered entering with_sequence
  entered_renamed f r z =
      let s = f.sequence in
      let n = r.number in
      let fix = fix_taken f r.side in
      ap (λ (k : ℕ). with_sequence (tail_put (renamed_field π f) z (entering (π n) k r.amount r.desk)) (appended (renamed_sequence π s) (π n)) (opposite k)) (taken_renamed f r.side)
      ∙ ap (λ (g : Field). with_sequence g (appended (renamed_sequence π s) (π n)) (opposite fix)) (put_renamed f z (entering n fix r.amount r.desk))
      ∙ ap (λ (t : Sequence). with_sequence (renamed_field π (tail_put f z (entering n fix r.amount r.desk))) t (opposite fix)) (appended_renamed p s n)

  module _ (f : Field) (r : Request) where
    abbrev G : Field
    G = renamed_field π f

    abbrev R : Request
    R = renamed_request π r

    -- ---- the kinds
    room_renamed : (side : ℕ) → made_room G side ≡ renamed_field π (made_room f side)
    unfolding made_room
    room_renamed side = by_test (renamed_field π) (empty_renamed p f (at3000 side)) refl (moved_renamed f (at3000 side) (at2000 (at3000 side)))

    above_renamed : entered_above G R ≡ renamed_field π (entered_above f r)
    unfolding entered_above
    above_renamed = ap (λ (g : Field). entered g R (at3000 r.side)) (room_renamed r.side) ∙ entered_renamed (made_room f r.side) r (at3000 r.side)

    approached_renamed : (z ahead : ℕ) → approached G (π r.number) z ahead ≡ renamed_field π (approached f r.number z ahead)
    unfolding approached
    approached_renamed z ahead =
        let may : (may_approach G.sequence (π r.number) ahead && base_free G (side_of z)) ≡ (may_approach f.sequence r.number ahead && base_free f (side_of z)) =
        λ i. may_approach_renamed p f r.number ahead i && base_renamed p f (side_of z) i in
        by_test (renamed_field π) {b = within 5 6 z} refl (by_test (renamed_field π) may (moved_renamed f z (base (side_of z))) (moved_renamed f z (at2000 (side_of z))))
        (moved_renamed f z (base (side_of z)))

    landed_renamed : landed G R ≡ renamed_field π (landed f r)
    unfolding landed
    landed_renamed = ap (λ (g : Field). out_of_sequence g (π r.number)) (moved_renamed f final_approach_zone runway) ∙ out_renamed (moved f final_approach_zone runway) r.number

    exited_renamed : exited G R ≡ renamed_field π (exited f r)
    unfolding exited
    exited_renamed = ap (λ (g : Field). out_of_sequence g (π r.number)) (gone_renamed f intermediate) ∙ out_renamed (head_gone f intermediate) r.number

    missed_renamed : missed_approach G R ≡ renamed_field π (missed_approach f r)
    unfolding missed_approach arrived_by_miss on_leg given_fix with_sequence
    missed_renamed =
        let n = r.number in
        let a = aircraft_at f final_approach_zone 1 in
        let w = missed a.fix in
        let fix = fix_after_miss f a in
        let b = given_fix (arrived_by_miss f.legs w a) fix in
        let s : appended (removed G.sequence (π n)) (π n) ≡ renamed_sequence π (appended (removed f.sequence n) n) =
        ap (λ (t : Sequence). appended t (π n)) (removed_renamed p f.sequence n) ∙ appended_renamed p (removed f.sequence n) n in
        ap (λ (x : Aircraft). missing x (fix_after_miss G x)) (at_renamed p f final_approach_zone 1)
        ∙ ap (missing (renamed_aircraft π a)) (after_miss_renamed f a)
        ∙ ap (λ (g : Field). with_sequence (tail_put g w (renamed_aircraft π b)) (appended (removed G.sequence (π n)) (π n)) (opposite fix)) (gone_renamed f final_approach_zone)
        ∙ ap (λ (g : Field). with_sequence g (appended (removed G.sequence (π n)) (π n)) (opposite fix)) (put_renamed (head_gone f final_approach_zone) w b)
        ∙ ap (λ (t : Sequence). with_sequence (renamed_field π (tail_put (head_gone f final_approach_zone) w b)) t (opposite fix)) s
      where
        -- the field after a miss of the one at the head of final, with the fix that it takes
        missing : Aircraft → ℕ → Field
        missing x fix =
            with_sequence (tail_put (head_gone G final_approach_zone) (missed x.fix) (given_fix (arrived_by_miss f.legs (missed x.fix) x) fix))
            (appended (removed G.sequence (π r.number)) (π r.number)) (opposite fix)

    held_renamed : (z : ℕ) → held G z ≡ renamed_field π (held f z)
    unfolding held
    held_renamed z =
        let side = side_of z in
        by_test (renamed_field π) (empty_renamed p f (at3000 side)) (by_test (renamed_field π) (empty_renamed p f (at2000 side)) (moved_renamed f z (at2000 side)) (moved_renamed f z (at3000 side)))
        (ap (λ (g : Field). moved g z (at3000 side)) (moved_renamed f (at3000 side) (at2000 (at3000 side))) ∙ moved_renamed (descended f (at3000 side)) z (at3000 side))

    -- ---- every request
    effect_for_renamed : (z ahead : ℕ) → effect_for r.kind G R z ahead ≡ renamed_field π (effect_for r.kind f r z ahead)
    effect_for_renamed z ahead =
        (λ i.
        by_kind r.kind (above_renamed i) (entered_renamed f r (lateral r.side) i) (moved_renamed f z (at2000 z) i) (approached_renamed z ahead i)
        (moved_renamed f z intermediate i) (moved_renamed f intermediate final_approach_zone i) (landed_renamed i) (gone_renamed f runway i) (exited_renamed i)
        (missed_renamed i) (held_renamed z i) (ticked_renamed p f r.amount i))
        ∙ by_kind_made (renamed_field π) r.kind _ _ _ _ _ _ _ _ _ _ _ _

    pub effect_renamed : effect_of G R ≡ renamed_field π (effect_of f r)
    unfolding effect_of
    effect_renamed =
        ap (λ (q : Place). effect_for r.kind G R q.zone (zone_ahead G R)) (place_renamed p f r.number)
        ∙ ap (effect_for r.kind G R (zone_before f r)) (leader_zone_renamed p f r.number)
        ∙ effect_for_renamed (zone_before f r) (zone_ahead f r)
