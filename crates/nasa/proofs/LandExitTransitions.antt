-- Kinds 7 and 9, each of any field with its places: an accepted one is its transition. Assumes nothing.
use mathlib.Core.Path.{◌≡◌, refl, sym, ap, ◌∙◌, subst}
use mathlib.Core.Logic.{◌≢◌, ◌⊎◌, inl, inr}
use mathlib.Core.Bool.{Bool, true, false, cond, ◌||◌, true≢false}
use mathlib.Core.List.{List, [], ◌∷◌, ◌++◌, map}
use Prim.Native.Nat.{ℕ, suc, ◌-◌, ◌<◌}
use native.Mathlib.Omega.{arith}
use borrow.Author.Tests.{ne_eqb, eq-eqb, eqb-true, eqb-false}
use lib.Dec.{T, eqb}
use lib.ListN.{length}
use Rattle.request.specs.Input.{within}
use Rattle.request.specs.declared.Request.{Request}
use Rattle.request.proofs.InputTests as input
use Rattle.field.specs.declared.Aircraft as field
use Rattle.field.specs.declared.Field.{Field}
use Rattle.field.specs.Airspace.{zone_of, in_zone, order_of, order_length, arrived, on_leg}
use Rattle.field.specs.Lists.{is_in}
use Rattle.edits.specs.Edits.{before, removed, with_zone, with_sequence}
use Rattle.questions.specs.Counts.{how_many, is_empty}
use Rattle.questions.specs.Find.{aircraft_at, is_first}
use Rattle.rules.specs.Kinds.{zone_before, starts_from, flown_out_check, head_gone, tail_put, moved, out_of_sequence, landed, exited}
use Rattle.rules.specs.Step.{number_of}
use Rattle.rules.specs.Reason.{has_places}
use Rattle.rules.proofs.Checks.{effect_at, first_passes}
use Rattle.field.proofs.TestLaws.{decided, pass, if_true, if_false, same}
use Rattle.questions.proofs.NumbersListed.{numbers_at}
use Rattle.questions.proofs.FindLaws.{numbers}
use Rattle.line.proofs.CountedOnLine.{none}
use Rattle.rules.proofs.HeadOfRequest.{only_zone}
use Rattle.nasa.specs.Definitions.{ScaAircraft, ScaZone, intermediate, final, runway, SCA, decrease}
use Rattle.nasa.specs.Rules.{zone_number, same_zone, with_queue, add, with_next, decreased, lowered, exit, landing}
use Rattle.nasa.specs.Stands.{side_named, seen, state_of, Is}
use Rattle.nasa.proofs.States.{same_state, as_seen, zone_number_lem, First, gone_there, head_first, gone_here, Move, put_there, put_here, put_elsewhere}
use Rattle.nasa.proofs.AcceptedHead.{first_of, nobody_in_lem, AcceptedOfKind, Heads, heading, heads}
use Rattle.nasa.proofs.DescendFinalTaxi.{leads}
use Rattle.nasa.proofs.ApproachMergeTransitions.{first_is}
use Rattle.nasa.proofs.Sequences.{FirstInSequence, first_left}
use Rattle.nasa.proofs.Leaving.{first_in, elsewhere_apart, lowered_elsewhere, lowered_rest, final_first_lem}

-- a zone that is not the runway is one of the operation area
pub operating : (y : ScaZone) → eqb (zone_number y) 13 ≡ false → T (within 1 12 (zone_number y))
operating y e = let b = zone_number_lem y in let n = eqb-false (zone_number y) 13 e in pass (input.within_yes 1 12 (zone_number y) b.least (omega arith))

-- the next sequence number, when the first has left
one_fewer : {f : Field} {x : field.Aircraft} (b : FirstInSequence f x) → suc (length b.behind) ≡ lowered (suc (length (order_of f.sequence)))
one_fewer {f} b =
    let n = suc (length b.behind) in
    let e : n ≡ suc n - 1 = omega arith in
    e ∙ sym (if_false 1 (suc n - 1) (ne_eqb (suc n) 1 (λ q. omega arith))) ∙ ap (λ (l : List ℕ). lowered (suc (length l))) (sym b.order)

-- ---- kind 7
module _ {f : Field} {r : Request} (H : Heads f r final) (b : FirstInSequence f H.first.x) (free : is_empty f 13 ≡ true) where
  abbrev g : Field
  g = landed f r

  abbrev x : field.Aircraft
  x = H.first.x

  order_after : order_of g.sequence ≡ b.behind
  unfolding landed out_of_sequence with_sequence moved tail_put head_gone with_zone
  order_after = ap (λ (m : ℕ). order_of (removed f.sequence m)) (sym H.named) ∙ first_left H.shaped b

  next_kept : g.next ≡ f.next
  unfolding landed out_of_sequence with_sequence moved tail_put head_gone with_zone
  next_kept = refl

  further : (m : ℕ) → is_in m b.behind ≡ true → before m (order_of g.sequence) ≡ before m b.behind
  further m i = ap (before m) order_after

  nobody_there : in_zone f 13 ≡ []
  unfolding how_many
  nobody_there = none (in_zone f 13) (eqb-true (length (in_zone f 13)) 0 free)

  room : how_many f 13 < 4
  room = let n = eqb-true (how_many f 13) 0 free in omega arith

  abbrev to_runway : Move f final runway
  to_runway = record { shaped = H.shaped; first = H.first; apart = λ q. omega arith; room = room }

  abbrev a : field.Aircraft
  a = arrived f.legs 13 (aircraft_at f 12 1)

  -- the queues after it
  on_runway_lem : in_zone g 13 ≡ a ∷ []
  unfolding landed out_of_sequence with_sequence moved in_zone zone_of
  on_runway_lem = put_there to_runway a ∙ ap (λ (l : List field.Aircraft). l ++ (a ∷ [])) nobody_there

  on_final : in_zone g 12 ≡ H.first.rest
  unfolding landed out_of_sequence with_sequence moved in_zone zone_of
  on_final = put_here to_runway a

  in_others : (y : ℕ) → y ≢ 12 → y ≢ 13 → in_zone g y ≡ in_zone f y
  unfolding landed out_of_sequence with_sequence moved in_zone zone_of
  in_others = put_elsewhere to_runway a

  abbrev R : List ScaAircraft
  R = map (seen f 12) H.first.rest

  -- on the runway it has the sequence number that it had, 1
  lands : seen g 13 a ≡ seen f 12 x
  unfolding arrived on_leg
  lands =
      let one : before x.number (order_of f.sequence) ≡ 0 = ap (before x.number) b.order ∙ if_true 0 (suc (before x.number b.behind)) (same x.number) in
      ap (λ (c : field.Aircraft). as_seen 1 c.fix) (head_first H.first) ∙ ap (λ (m : ℕ). as_seen (suc m) x.fix) (sym one)

  abbrev after : SCA
  after = with_next (add (decreased (λ z. same_zone z runway) (with_queue (state_of f) final R)) runway (seen f 12 x)) (state_of f).nextmahf (lowered (state_of f).nextseq)

  landed_state : state_of g ≡ after
  unfolding state_of with_queue add with_next decreased order_length
  landed_state = same_state queues (ap side_named next_kept) (ap (λ (l : List ℕ). suc (length l)) order_after ∙ one_fewer b)
    where
      off_runway : (y : ScaZone) → eqb (zone_number y) 13 ≡ false
          → map (seen g (zone_number y)) (in_zone g (zone_number y)) ≡ decrease (cond (eqb (zone_number y) 12) R (map (seen f (zone_number y)) (in_zone f (zone_number y))))
      off_runway y p = elim (decided (eqb (zone_number y) 12)) [
        | inl q ↦
            let at = eqb-true (zone_number y) 12 q in
            ap (λ (m : ℕ). map (seen g m) (in_zone g m)) at
            ∙ ap (map (seen g 12)) on_final
            ∙ lowered_rest H.bounds H.first b g further tt
            ∙ ap decrease (sym (if_true R _ q))
        | inr q ↦
            ap (map (seen g (zone_number y))) (in_others (zone_number y) (eqb-false (zone_number y) 12 q) (eqb-false (zone_number y) 13 p))
            ∙ lowered_elsewhere H.bounds H.first b g further y (operating y p) (eqb-false (zone_number y) 12 q)
            ∙ ap decrease (sym (if_false R _ q))
      ]

      queues : (y : ScaZone) → (state_of g).queue y ≡ after.queue y
      queues y = elim (decided (eqb (zone_number y) 13)) [
        | inl p ↦
            ap (λ (m : ℕ). map (seen g m) (in_zone g m)) (eqb-true (zone_number y) 13 p)
            ∙ ap (map (seen g 13)) on_runway_lem
            ∙ ap (λ (c : ScaAircraft). c ∷ []) lands
            ∙ ap (λ (l : List field.Aircraft). map (seen f 13) l ++ (seen f 12 x ∷ [])) (sym nobody_there)
            ∙ sym (if_true _ _ p)
        | inr p ↦ off_runway y p ∙ sym (if_false _ _ p ∙ if_false _ _ p)
      ]

pub land_is : (f : Field) → T (has_places f) → (r : Request) → r.kind ≡ 7 → number_of f r ≡ 0 → Is f r landing
unfolding landing starts_from
land_is f h r k e =
    let A : AcceptedOfKind f r 7 = record { places = h; kind = k; accepted = e } in
    let passed = heading A refl in
    let H = heads A refl final (only_zone 12 (zone_before f r) passed.starts) in
    let others = (first_passes 15 (flown_out_check f (zone_before f r)).1 ((24, is_empty f 13) ∷ []) (omega arith) passed.others).1 in
    let free = (first_passes 24 (is_empty f 13) [] (omega arith) others).0 in
    leads f r landing e (landed_state H (final_first_lem H.bounds H.first) free) (effect_at f r k) (first_of H.first _ ∙ if_true _ [] (nobody_in_lem f runway ∙ free))

-- ---- kind 9
module _ {f : Field} {r : Request} (H : Heads f r intermediate) (b : FirstInSequence f H.first.x) where
  abbrev g₉ : Field
  g₉ = exited f r

  abbrev x₉ : field.Aircraft
  x₉ = H.first.x

  order_out : order_of g₉.sequence ≡ b.behind
  unfolding exited out_of_sequence with_sequence head_gone with_zone
  order_out = ap (λ (m : ℕ). order_of (removed f.sequence m)) (sym H.named) ∙ first_left H.shaped b

  next_out : g₉.next ≡ f.next
  unfolding exited out_of_sequence with_sequence head_gone with_zone
  next_out = refl

  further_out : (m : ℕ) → is_in m b.behind ≡ true → before m (order_of g₉.sequence) ≡ before m b.behind
  further_out m i = ap (before m) order_out

  on_intermediate : in_zone g₉ 11 ≡ H.first.rest
  unfolding exited out_of_sequence with_sequence in_zone zone_of
  on_intermediate = gone_here H.first H.shaped

  in_rest : (y : ℕ) → y ≢ 11 → in_zone g₉ y ≡ in_zone f y
  unfolding exited out_of_sequence with_sequence in_zone zone_of
  in_rest = gone_there f 11

  -- nobody is on final, since its head would be the first of the sequence
  none_on_final : in_zone f 12 ≡ []
  none_on_final = go (in_zone f 12) refl
    where
      go : (l : List field.Aircraft) → in_zone f 12 ≡ l → l ≡ []
      go [] q = refl
      go (y ∷ ys) q =
          let F : First f final = record { x = y; rest = ys; here = q } in
          let same-one : y.number ≡ x₉.number = head_same (sym (final_first_lem H.bounds F).order ∙ b.order) in
          let there : is_in x₉.number (numbers_at f 12) ≡ true =
          ap (λ (l : List field.Aircraft). is_in x₉.number (numbers l)) q ∙ ap (λ (c : Bool). c || is_in x₉.number (numbers ys)) (eq-eqb y.number x₉.number same-one) in
          absurd (true≢false (sym there ∙ elsewhere_apart H.bounds H.first final (λ w. omega arith)))
        where
          head_same : {m n : ℕ} {ms os : List ℕ} → m ∷ ms ≡ n ∷ os → m ≡ n
          head_same {m} {n} {ms} {os} w = cc

  abbrev R₉ : List ScaAircraft
  R₉ = map (seen f 11) H.first.rest

  abbrev after_exit : SCA
  after_exit = with_next (decreased (λ z. same_zone z final || same_zone z runway) (with_queue (state_of f) intermediate R₉)) (state_of f).nextmahf (lowered (state_of f).nextseq)

  exited_state : state_of g₉ ≡ after_exit
  unfolding state_of with_queue add with_next decreased order_length
  exited_state = same_state queues (ap side_named next_out) (ap (λ (l : List ℕ). suc (length l)) order_out ∙ one_fewer b)
    where
      own : (n : ℕ) → List ScaAircraft
      own n = cond (eqb n 11) R₉ (map (seen f n) (in_zone f n))

      -- on final and on the runway
      kept : (n : ℕ) → n ≢ 11 → map (seen g₉ n) (in_zone f n) ≡ map (seen f n) (in_zone f n) → map (seen g₉ n) (in_zone g₉ n) ≡ own n
      kept n p q = ap (map (seen g₉ n)) (in_rest n p) ∙ q ∙ sym (if_false R₉ _ (ne_eqb n 11 p))

      on_final_too : map (seen g₉ 12) (in_zone f 12) ≡ map (seen f 12) (in_zone f 12)
      on_final_too = ap (map (seen g₉ 12)) none_on_final ∙ sym (ap (map (seen f 12)) none_on_final)

      others : (y : ScaZone) → eqb (zone_number y) 13 ≡ false → map (seen g₉ (zone_number y)) (in_zone g₉ (zone_number y)) ≡ decrease (own (zone_number y))
      others y p = elim (decided (eqb (zone_number y) 11)) [
        | inl q ↦
            ap (λ (m : ℕ). map (seen g₉ m) (in_zone g₉ m)) (eqb-true (zone_number y) 11 q)
            ∙ ap (map (seen g₉ 11)) on_intermediate
            ∙ lowered_rest H.bounds H.first b g₉ further_out tt
            ∙ ap decrease (sym (if_true R₉ _ q))
        | inr q ↦
            ap (map (seen g₉ (zone_number y))) (in_rest (zone_number y) (eqb-false (zone_number y) 11 q))
            ∙ lowered_elsewhere H.bounds H.first b g₉ further_out y (operating y p) (eqb-false (zone_number y) 11 q)
            ∙ ap decrease (sym (if_false R₉ _ q))
      ]

      queues : (y : ScaZone) → (state_of g₉).queue y ≡ after_exit.queue y
      queues y = go (decided (eqb (zone_number y) 12)) (decided (eqb (zone_number y) 13))
        where
          n : ℕ
          n = zone_number y

          go : (eqb (zone_number y) 12 ≡ true) ⊎ (eqb (zone_number y) 12 ≡ false) → (eqb (zone_number y) 13 ≡ true) ⊎ (eqb (zone_number y) 13 ≡ false)
              → map (seen g₉ (zone_number y)) (in_zone g₉ (zone_number y)) ≡ cond (eqb (zone_number y) 12 || eqb (zone_number y) 13) (own (zone_number y)) (decrease (own (zone_number y)))
          go (inl p) q =
              subst (λ (m : ℕ). map (seen g₉ m) (in_zone g₉ m) ≡ own m) (sym (eqb-true (zone_number y) 12 p)) (kept 12 (λ w. omega arith) on_final_too)
              ∙ sym (if_true _ _ (ap (λ (c : Bool). c || eqb (zone_number y) 13) p))
          go (inr p) (inl q) =
              subst (λ (m : ℕ). map (seen g₉ m) (in_zone g₉ m) ≡ own m) (sym (eqb-true (zone_number y) 13 q)) (kept 13 (λ w. omega arith) refl)
              ∙ sym (if_true _ _ (ap (λ (c : Bool). c || eqb (zone_number y) 13) p ∙ q))
          go (inr p) (inr q) = others y q ∙ sym (if_false _ _ (ap (λ (c : Bool). c || eqb (zone_number y) 13) p ∙ q))

pub exit_is : (f : Field) → T (has_places f) → (r : Request) → r.kind ≡ 9 → number_of f r ≡ 0 → Is f r exit
unfolding exit starts_from
exit_is f h r k e =
    let A : AcceptedOfKind f r 9 = record { places = h; kind = k; accepted = e } in
    let passed = heading A refl in
    let H = heads A refl intermediate (only_zone 11 (zone_before f r) passed.starts) in
    let others = (first_passes 15 (flown_out_check f (zone_before f r)).1 ((22, is_first f.sequence r.number) ∷ []) (omega arith) passed.others).1 in
    let met = (first_passes 22 (is_first f.sequence r.number) [] (omega arith) others).0 in
    let b = first_in f H.first.x (ap (is_first f.sequence) H.named ∙ met) in
    leads f r exit e (exited_state H b) (effect_at f r k) (first_of H.first _ ∙ if_true _ [] (first_is H tt ∙ met))
