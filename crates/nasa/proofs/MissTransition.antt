-- Kind 10, of any field with its places: an accepted one is its transition. Assumes nothing.
use mathlib.Core.Path.{◌≡◌, refl, sym, ap, ◌∙◌, subst}
use mathlib.Core.Logic.{◌≢◌, ◌⊎◌, inl, inr}
use mathlib.Core.Bool.{Bool, true, false, cond, not, ◌||◌}
use mathlib.Core.List.{List, [], ◌∷◌, ◌++◌, map, map-append}
use Prim.Native.Nat.{ℕ, suc, ◌-◌}
use native.Mathlib.Omega.{arith}
use borrow.Author.Tests.{ne_eqb, eqb-true, eqb-false}
use lib.Dec.{T, eqb, eqb→eq}
use lib.Ieee.Fits.{and_l}
use lib.ListN.{length, length-append}
use Rattle.request.specs.Input.{within}
use Rattle.request.specs.declared.Request.{Request}
use Rattle.request.proofs.InputTests as input
use Rattle.field.specs.declared.Aircraft as field
use Rattle.field.specs.declared.Field.{Field}
use Rattle.field.specs.Airspace.{is_side, opposite, missed, everywhere, zone_of, in_zone, order_of, order_length, arrived_by_miss, on_leg, given_fix}
use Rattle.field.specs.Lists.{is_in, every, all_different}
use Rattle.edits.specs.Edits.{before, appended, removed, with_sequence}
use Rattle.bounds.specs.Bounds.{within_bounds}
use Rattle.fits.specs.Fits.{fits_zone}
use Rattle.rules.specs.Kinds.{zone_before, starts_from, head_gone, tail_put, fix_after_miss}
use Rattle.rules.specs.Kinds as rules
use Rattle.rules.specs.Step.{number_of}
use Rattle.rules.specs.Reason.{has_places}
use Rattle.order.specs.Model.{Side, opp}
use Rattle.rules.proofs.Checks.{effect_at}
use Rattle.field.proofs.TestLaws.{decided, passed, failed, if_true, if_false, either_way}
use Rattle.field.proofs.NumberLists.{every_listed, zone_listed}
use Rattle.laws.proofs.BoundLaws.{within_each}
use Rattle.laws.proofs.Fits.{fits_parts}
use Rattle.line.proofs.CountedOnLine.{not_13}
use Rattle.reason.proofs.Invariant.{parts}
use Rattle.rules.proofs.HeadOfRequest.{only_zone}
use Rattle.nasa.specs.Definitions.{ScaAircraft, ScaZone, maz, final, runway, SCA, decrease, reassign}
use Rattle.nasa.specs.Rules.{zone_number, same_zone, with_queue, add, with_next, decreased, sca_missed_approach}
use Rattle.nasa.specs.Stands.{side_named, seen, state_of, Is}
use Rattle.nasa.proofs.States.{same_state, as_seen, zone_number_lem, First, head_first, Move, put_there, put_here, put_elsewhere}
use Rattle.nasa.proofs.AcceptedHead.{differing, move, first_of, AcceptedOfKind, Heads, heading, heads}
use Rattle.nasa.proofs.DescendFinalTaxi.{leads}
use Rattle.nasa.proofs.AskedOfState.{sequence_different}
use Rattle.nasa.proofs.Sequences.{FirstInSequence, first_last, before_kept, before_last}
use Rattle.nasa.proofs.Leaving.{lowered_elsewhere, lowered_rest, final_first_lem}
use Rattle.nasa.proofs.LandExitTransitions.{operating}

-- ---- sides by their numbers
pub side_cases {ℓ} : (P : ℕ → Type ℓ) → P 1 → P 2 → (n : ℕ) → T (is_side n) → P n
unfolding is_side
side_cases P p q n t = go (decided (eqb n 1))
  where
    go : (eqb n 1 ≡ true) ⊎ (eqb n 1 ≡ false) → P n
    go (inl e) = subst P (sym (eqb-true n 1 e)) p
    go (inr e) = subst P (sym (eqb→eq n 2 (subst (λ (b : Bool). T (b || eqb n 2)) e t))) q

pub opposite_named : (n : ℕ) → T (is_side n) → side_named (opposite n) ≡ opp (side_named n)
unfolding opposite
opposite_named = side_cases (λ n. side_named (opposite n) ≡ opp (side_named n)) refl refl

missed_named : (n : ℕ) → T (is_side n) → zone_number (maz (side_named n)) ≡ missed n
missed_named = side_cases (λ n. zone_number (maz (side_named n)) ≡ missed n) refl refl

pub either_named : (b : Bool) (m n : ℕ) → side_named (cond b m n) ≡ elim b [ true ↦ side_named m | false ↦ side_named n ]
either_named true m n = refl
either_named false m n = refl

-- whoever heads a zone has a side for its fix
fix_side : {f : Field} {z : ScaZone} → T (within_bounds f) → (F : First f z) → T (is_side F.x.fix)
fix_side {f} {z} t F =
    let n = zone_number z in
    let all = every_listed (λ z. every (fits_zone f.legs z) (in_zone f z)) everywhere n (parts f (within_each f t)).fit (zone_listed n (zone_number_lem z)) in
    let both = subst (λ (l : List field.Aircraft). T (every (fits_zone f.legs n) l)) F.here all in
    (fits_parts f.legs n F.x (and_l (fits_zone f.legs n F.x) (every (fits_zone f.legs n) F.rest) both)).side

decrease_append : (p q : List ScaAircraft) → decrease (p ++ q) ≡ decrease p ++ decrease q
decrease_append [] q = refl
decrease_append (a ∷ p) q = ap (λ (l : List ScaAircraft). record { seq = a.seq - 1; mahf = a.mahf } ∷ l) (decrease_append p q)

-- ---- kind 10
module _ {f : Field} {r : Request} (H : Heads f r final) (b : FirstInSequence f H.first.x) where
  abbrev g : Field
  g = rules.missed_approach f r

  abbrev x : field.Aircraft
  x = H.first.x

  abbrev n : ℕ
  n = x.number

  own_side : T (is_side x.fix)
  own_side = fix_side H.bounds H.first

  abbrev w : ScaZone
  w = maz (side_named x.fix)

  abbrev wn : ℕ
  wn = zone_number w

  abbrev fix : ℕ
  fix = fix_after_miss f x

  fix_is_side : T (is_side fix)
  unfolding fix_after_miss
  fix_is_side = either_way (λ m. T (is_side m)) (eqb (length (order_of f.sequence)) 1) x.fix f.next (λ q. own_side) (λ q. (parts f (within_each f H.bounds)).next_side)

  -- as it is in the missed zone
  abbrev a : field.Aircraft
  a = given_fix (arrived_by_miss f.legs wn x) fix

  differ : T (differing final w)
  differ = side_cases (λ m. T (differing final (maz (side_named m)))) tt tt x.fix own_side

  abbrev to_missed : Move f final w
  to_missed = move H.bounds H.first w differ H.shaped

  -- the field after it, with its aircraft named
  abbrev made : field.Aircraft → ℕ → ℕ → Field
  made c v m = with_sequence (tail_put (head_gone f 12) v (given_fix (arrived_by_miss f.legs v c) (fix_after_miss f c))) (appended (removed f.sequence m) m) (opposite (fix_after_miss f c))

  effect : g ≡ with_sequence (tail_put (head_gone f 12) wn a) (appended (removed f.sequence n) n) (opposite fix)
  unfolding rules.missed_approach
  effect =
      ap (λ (c : field.Aircraft). made c (missed c.fix) r.number) (head_first H.first)
      ∙ ap (λ (v : ℕ). made x v r.number) (sym (missed_named x.fix own_side))
      ∙ ap (made x wn) (sym H.named)

  w_inside : T (within 1 12 wn)
  w_inside = side_cases (λ m. T (within 1 12 (zone_number (maz (side_named m))))) tt tt x.fix own_side

  -- ---- the sequence
  absent : is_in n b.behind ≡ false
  absent = failed (and_l (not (is_in n b.behind)) (all_different b.behind) (subst (λ (l : List ℕ). T (all_different l)) b.order (sequence_different f H.bounds)))

  order_after : order_of g.sequence ≡ b.behind ++ (n ∷ [])
  unfolding with_sequence
  order_after = ap (λ (c : Field). order_of c.sequence) effect ∙ first_last H.shaped b

  further : (m : ℕ) → is_in m b.behind ≡ true → before m (order_of g.sequence) ≡ before m b.behind
  further m i = ap (before m) order_after ∙ before_kept m n b.behind i

  -- ---- the queues
  in_missed : in_zone g wn ≡ in_zone f wn ++ (a ∷ [])
  unfolding with_sequence in_zone zone_of
  in_missed = ap (λ (c : Field). in_zone c wn) effect ∙ put_there to_missed a

  on_final : in_zone g 12 ≡ H.first.rest
  unfolding with_sequence in_zone zone_of
  on_final = ap (λ (c : Field). in_zone c 12) effect ∙ put_here to_missed a

  in_others : (y : ℕ) → y ≢ 12 → y ≢ wn → in_zone g y ≡ in_zone f y
  unfolding with_sequence in_zone zone_of
  in_others y p q = ap (λ (c : Field). in_zone c y) effect ∙ put_elsewhere to_missed a y p q

  -- ---- the state
  abbrev R : List ScaAircraft
  R = map (seen f 12) H.first.rest

  abbrev again : ScaAircraft
  again = reassign (state_of f) (seen f 12 x)

  -- its new sequence number is the last, and its new fix
  reassigned : seen g wn a ≡ as_seen (suc (length b.behind)) fix
  unfolding given_fix arrived_by_miss on_leg
  reassigned =
      ap (λ (c : Bool). as_seen (cond c 1 (suc (before n (order_of g.sequence)))) fix) (not_13 wn w_inside)
      ∙ ap (λ (l : List ℕ). as_seen (suc (before n l)) fix) order_after
      ∙ ap (λ (m : ℕ). as_seen (suc m) fix) (before_last n b.behind absent)

  again_fix : side_named fix ≡ again.mahf
  unfolding fix_after_miss state_of order_length
  again_fix =
      let l = length (order_of f.sequence) in
      let one : l ≡ suc l - 1 = omega arith in
      either_named (eqb l 1) x.fix f.next ∙ ap (λ (m : ℕ). elim (eqb m 1) [ true ↦ side_named x.fix | false ↦ side_named f.next ]) one

  again_last : decrease (again ∷ []) ≡ as_seen (suc (length b.behind)) fix ∷ []
  unfolding state_of order_length
  again_last =
      let m : suc (length (order_of f.sequence)) - 1 ≡ suc (length b.behind) = let l = ap length b.order in omega arith in
      ap (λ (c : Side). record { seq = suc (length (order_of f.sequence)) - 1; mahf = c } ∷ []) (sym again_fix) ∙ ap (λ (j : ℕ). as_seen j fix ∷ []) m

  abbrev after : SCA
  after = with_next (decreased (λ z. same_zone z runway) (add (with_queue (state_of f) final R) w again)) (opp again.mahf) (state_of f).nextseq

  next_number : suc (length (order_of g.sequence)) ≡ suc (length (order_of f.sequence))
  next_number = let i = ap length order_after in let j = ap length b.order in let l = length-append b.behind (n ∷ []) in omega arith

  next_fix_lem : side_named g.next ≡ opp again.mahf
  unfolding with_sequence
  next_fix_lem = ap (λ (c : Field). side_named c.next) effect ∙ opposite_named fix fix_is_side ∙ ap opp again_fix

  missed_state : state_of g ≡ after
  unfolding state_of with_queue add with_next decreased order_length
  missed_state = same_state queues next_fix_lem next_number
    where
      before_it : (m : ℕ) → List ScaAircraft
      before_it m = cond (eqb m 12) R (map (seen f m) (in_zone f m))

      at_end : map (seen g wn) (in_zone g wn) ≡ decrease (before_it wn ++ (again ∷ []))
      at_end =
          ap (map (seen g wn)) in_missed
          ∙ map-append (seen g wn) (in_zone f wn) (a ∷ [])
          ∙ ap (λ (l : List ScaAircraft). l ++ (seen g wn a ∷ [])) (lowered_elsewhere H.bounds H.first b g further w w_inside to_missed.apart)
          ∙ ap (λ (c : ScaAircraft). decrease (map (seen f wn) (in_zone f wn)) ++ (c ∷ [])) reassigned
          ∙ ap (λ (l : List ScaAircraft). decrease (map (seen f wn) (in_zone f wn)) ++ l) (sym again_last)
          ∙ sym (decrease_append (map (seen f wn) (in_zone f wn)) (again ∷ []))
          ∙ ap (λ (l : List ScaAircraft). decrease (l ++ (again ∷ []))) (sym (if_false R _ (ne_eqb wn 12 to_missed.apart)))

      off_runway : (y : ScaZone) → eqb (zone_number y) 13 ≡ false
          → map (seen g (zone_number y)) (in_zone g (zone_number y)) ≡ decrease (cond (eqb (zone_number y) wn) (before_it wn ++ (again ∷ [])) (before_it (zone_number y)))
      off_runway y p = go (decided (eqb (zone_number y) wn)) (decided (eqb (zone_number y) 12))
        where
          go : (eqb (zone_number y) wn ≡ true) ⊎ (eqb (zone_number y) wn ≡ false) → (eqb (zone_number y) 12 ≡ true) ⊎ (eqb (zone_number y) 12 ≡ false)
              → map (seen g (zone_number y)) (in_zone g (zone_number y)) ≡ decrease (cond (eqb (zone_number y) wn) (before_it wn ++ (again ∷ [])) (before_it (zone_number y)))
          go (inl q) j = ap (λ (m : ℕ). map (seen g m) (in_zone g m)) (eqb-true (zone_number y) wn q) ∙ at_end ∙ ap decrease (sym (if_true _ _ q))
          go (inr q) (inl j) =
              ap (λ (m : ℕ). map (seen g m) (in_zone g m)) (eqb-true (zone_number y) 12 j)
              ∙ ap (map (seen g 12)) on_final
              ∙ lowered_rest H.bounds H.first b g further tt
              ∙ ap decrease (sym (if_false _ _ q ∙ if_true R _ j))
          go (inr q) (inr j) =
              ap (map (seen g (zone_number y))) (in_others (zone_number y) (eqb-false (zone_number y) 12 j) (eqb-false (zone_number y) wn q))
              ∙ lowered_elsewhere H.bounds H.first b g further y (operating y p) (eqb-false (zone_number y) 12 j)
              ∙ ap decrease (sym (if_false _ _ q ∙ if_false R _ j))

      on_runway_lem : (m : ℕ) → m ≡ 13 → map (seen g m) (in_zone g m) ≡ cond (eqb m wn) (before_it wn ++ (again ∷ [])) (before_it m)
      on_runway_lem m q =
          let far : 13 ≡ wn → ⊥ = λ j. let l = input.within_high 1 12 wn (passed w_inside) in omega arith in
          subst (λ (m : ℕ). map (seen g m) (in_zone g m) ≡ cond (eqb m wn) (before_it wn ++ (again ∷ [])) (before_it m)) (sym q)
          (ap (map (seen g 13)) (in_others 13 (λ j. omega arith) far) ∙ sym (if_false _ _ (ne_eqb 13 wn far)))

      queues : (y : ScaZone) → (state_of g).queue y ≡ after.queue y
      queues y = elim (decided (eqb (zone_number y) 13)) [
        | inl p ↦ on_runway_lem (zone_number y) (eqb-true (zone_number y) 13 p) ∙ sym (if_true _ _ p)
        | inr p ↦ off_runway y p ∙ sym (if_false _ _ p)
      ]

pub miss_is : (f : Field) → T (has_places f) → (r : Request) → r.kind ≡ 10 → number_of f r ≡ 0 → Is f r sca_missed_approach
unfolding sca_missed_approach starts_from
miss_is f h r k e =
    let A : AcceptedOfKind f r 10 = record { places = h; kind = k; accepted = e } in
    let H = heads A refl final (only_zone 12 (zone_before f r) (heading A refl).starts) in
    leads f r sca_missed_approach e (missed_state H (final_first_lem H.bounds H.first)) (effect_at f r k) (first_of H.first _)
