-- Exactness holds after every list of requests from every empty field that a list may start from, with legs in whole 64ths. Assumes nothing.
use mathlib.Core.Path.{◌≡◌, refl, sym, ap, ◌∙◌, subst, subst⁻¹}
use mathlib.Core.Logic.{◌⊎◌, inl, inr}
use mathlib.Core.Bool.{Bool, true, false, cond, ◌&&◌}
use mathlib.Core.List.{List, [], ◌∷◌, ◌++◌, map, append_assoc}
use Prim.Native.Nat.{ℕ}
use native.Mathlib.Omega.{arith}
use lib.Dec.{T, eqb}
use lib.Ieee.Fits.{and_l, and_r}
use borrow.Author.Tests.{eqb-true, eqb-false, eq-eqb, ne_eqb}
use Rattle.limits.specs.Limits.{longest_tick}
use Rattle.leg.specs.Ticks.{Between}
use Rattle.request.specs.Input.{within, is_entry, is_tick}
use Rattle.request.specs.declared.Request.{Request}
use Rattle.request.proofs.ByKind.{tick_known}
use Rattle.field.specs.declared.Aircraft.{Aircraft}
use Rattle.field.specs.declared.Field.{Field}
use Rattle.field.specs.declared.Legs.{Legs}
use Rattle.field.specs.Airspace.{is_flying_zone, in_zone, empty_field}
use Rattle.field.specs.Lists.{every, Each}
use Rattle.questions.specs.declared.Place.{Place}
use Rattle.questions.specs.Find.{place_of}
use Rattle.order.specs.Model.{Side, right_side}
use Rattle.rules.specs.Step.{number_of, step_of}
use Rattle.rules.specs.declared.Answer.{Answer}
use Rattle.rules.specs.Play.{field_after, played}
use Rattle.demand.specs.Exact.{WholeLegs, in_miles, Flight, no_flight, ticking, entry, onward, after_miss, flight_with, flight_after, Account, ExactOf, Exact}
use Rattle.field.proofs.TestLaws.{decided, if_true, if_false}
use Rattle.field.proofs.NumberLists.{or_false_left, or_false_right, alone}
use Rattle.laws.proofs.TickLaws.{number_kept}
use Rattle.laws.proofs.SameQueues.{Same, queues_same}
use Rattle.rules.proofs.SameStep.{played_same, after_same}
use Rattle.rules.proofs.Starts.{start_same}
use Rattle.line.proofs.Line.{Placed, numbers_of, inside, field_of, empty_is}
use Rattle.line.proofs.CountedOnLine.{in_line, on_runway_lem}
use Rattle.line.proofs.Located.{zone_split, located, located_runway}
use Rattle.line.proofs.Orderly.{Orderly}
use Rattle.moves.proofs.TickOnLine.{tick_placed}
use Rattle.moves.proofs.StaysOrderly.{placed_fits}
use Rattle.moves.proofs.Carried.{on_runway, Came, stayed, went, turned, followed, came_in}
use Rattle.moves.proofs.AfterAccepted.{zone_in}
use Rattle.rules.proofs.StepLaws.{number_is, field_accepted, field_refused, input_of, zone_answered}
use Rattle.moves.proofs.AcceptedOrRefused.{AcceptedOnLine, outcome}
use Rattle.demand.proofs.Demand.{empty_orderly}
use Rattle.demand.proofs.Flights.{legs_legal, Known, known_waiting, known_ticked, known_onward, known_turned, known_along, known_entry}

-- ---- each one of a line
each_map : {P Q : Placed → Type 0} (line : List Placed) → ((e : Placed) → P e → Q e) → Each P line → Each Q line
each_map [] h p = tt
each_map (e ∷ line) h p = (h e p.0, each_map line h p.1)

each_both : {P Q R : Placed → Type 0} (line : List Placed) → ((e : Placed) → P e → Q e → R e) → Each P line → Each Q line → Each R line
each_both [] h p q = tt
each_both (e ∷ line) h p q = (h e p.0 q.0, each_both line h p.1 q.1)

-- one by the flight of its number
abbrev KnownBy : WholeLegs → (ℕ → Flight) → Placed → Type 0
KnownBy w s e = Known w (s e.aircraft.number) e.zone e.aircraft

-- another account of the numbers that says the same of this one
known_same : (w : WholeLegs) (s t : ℕ → Flight) (e : Placed) → s e.aircraft.number ≡ t e.aircraft.number → KnownBy w s e → KnownBy w t e
known_same w s t e h p = subst (λ (x : Flight). Known w x e.zone e.aircraft) h p

-- ---- a tick
module _ (w : WholeLegs) (s : ℕ → Flight) where
  line_ticked : {amount : ℕ} → Between 1 longest_tick amount → (line : List Placed) → T (every (placed_fits (in_miles w)) line) → Each (KnownBy w s) line
      → Each (KnownBy w (λ n. ticking (s n) amount)) (map (tick_placed amount) line)
  line_ticked fits [] t p = tt
  line_ticked {amount} fits (e ∷ line) t p =
      let here = known_ticked fits (and_l (placed_fits (in_miles w) e) (every (placed_fits (in_miles w)) line) t) p.0 in (
        subst (λ (n : ℕ). Known w (ticking (s n) amount) e.zone (tick_placed amount e).aircraft) (sym (number_kept amount e.zone e.aircraft)) here,
        line_ticked fits line (and_r (placed_fits (in_miles w) e) (every (placed_fits (in_miles w)) line) t) p.1,
      )

  runway_ticked : (amount : ℕ) (runway : List Aircraft) → Each (KnownBy w s) (map on_runway runway) → Each (KnownBy w (λ n. ticking (s n) amount)) (map on_runway runway)
  unfolding is_flying_zone
  runway_ticked amount [] p = tt
  runway_ticked amount (x ∷ runway) p = (known_waiting amount refl p.0, runway_ticked amount runway p.1)

-- ---- where each one is found
module _ {f : Side} {line : List Placed} {runway : List Aircraft} {legs : Legs} (o : Orderly f line runway legs) where
  abbrev Found : Placed → Type 0
  Found e = (place_of (field_of f line runway legs) e.aircraft.number).zone ≡ e.zone

  found_from : (a rest : List Placed) → line ≡ a ++ rest → Each Found rest
  found_from a [] h = tt
  found_from a (e ∷ b) h =
      let there : Orderly f (a ++ e ∷ b) runway legs = subst (λ (l : List Placed). Orderly f l runway legs) h o in (
        subst (λ (l : List Placed). (place_of (field_of f l runway legs) e.aircraft.number).zone ≡ e.zone) (sym h)
            (ap (λ (p : Place). p.zone) (located f a e b runway legs there.different (zone_in f a e b runway legs there))),
        found_from (a ++ (e ∷ [])) b (h ∙ sym (append_assoc a (e ∷ []) b)),
      )

  found_line : Each Found line
  found_line = found_from [] line refl

found_runway : {f : Side} {line : List Placed} (runway : List Aircraft) {legs : Legs} (o : Orderly f line runway legs) → Each (Found o) (map on_runway runway)
found_runway [] o = tt
found_runway {f} {line} (x ∷ []) {legs} o = (ap (λ (p : Place). p.zone) (located_runway f line x legs (alone (numbers_of line) x.number [] o.different).ahead), tt)
found_runway (x ∷ y ∷ rest) o = absurd (let h = o.one_landed in omega arith)

-- ---- every list
-- everyone of an orderly line and on the runway is known by the flight of its number
record AllKnown (w : WholeLegs) (s : ℕ → Flight) (f : Side) (line : List Placed) (runway : List Aircraft) : Type 0 where
  orderly : Orderly f line runway (in_miles w)
  known_line : Each (KnownBy w s) line
  known_runway : Each (KnownBy w s) (map on_runway runway)

-- and such a line stands for the field
record KnownOn (w : WholeLegs) (s : ℕ → Flight) (g : Field) : Type 0 where
  first : Side
  line : List Placed
  runway : List Aircraft
  stands : g ≡ field_of first line runway (in_miles w)
  known : AllKnown w s first line runway

module _ {w : WholeLegs} {s : ℕ → Flight} {f : Side} {line : List Placed} {runway : List Aircraft} (k : AllKnown w s f line runway) (r : Request) where
  abbrev F : Field
  F = field_of f line runway (in_miles w)

  abbrev zone : ℕ
  zone = (step_of F r).answer.zone

  abbrev more : ℕ → Flight
  more n = flight_with w n (s n) (r, (step_of F r).answer)

  abbrev by_name : ℕ → Flight
  by_name n = cond (is_entry r.kind) (entry r.amount zone) (cond (eqb r.kind 10) (after_miss w (s n) zone) (onward w (s n) zone))

  -- the flight of a number after the request, by whether it is accepted
  more_by : (n : ℕ) {b : Bool} → eqb (step_of F r).answer.number 0 ≡ b → more n ≡ cond (b && is_tick r.kind) (ticking (s n) r.amount) (cond (b && eqb r.number n) (by_name n) (s n))
  more_by n e = ap (λ (c : Bool). cond (c && is_tick r.kind) (ticking (s n) r.amount) (cond (c && eqb r.number n) (by_name n) (s n))) e

  refused_known : (number_of F r ≡ 0 → ⊥) → (l : List Placed) → Each (KnownBy w s) l → Each (KnownBy w more) l
  refused_known h l =
      each_map l (λ e. known_same w s more e (sym (more_by e.aircraft.number (ne_eqb (step_of F r).answer.number 0 (λ q. h (sym (number_is F r) ∙ q))))))

  module _ (a : AcceptedOnLine f line runway (in_miles w) r) where
    b0 : eqb (step_of F r).answer.number 0 ≡ true
    b0 = eq-eqb (step_of F r).answer.number 0 (number_is F r ∙ a.number_0)

    ticked_known : r.kind ≡ 12 → (l : List Placed) → Each (KnownBy w (λ n. ticking (s n) r.amount)) l → Each (KnownBy w more) l
    ticked_known h l =
        each_map l
        (λ e. let n = e.aircraft.number in known_same w (λ n. ticking (s n) r.amount) more e
        (sym (more_by n b0 ∙ if_true (ticking (s n) r.amount) (cond (eqb r.number n) (by_name n) (s n)) (eq-eqb r.kind 12 h))))

    module _ (h : r.kind ≡ 12 → ⊥) where
      -- the flight of a number after a request that is no tick
      by_number : (n : ℕ) {b : Bool} → eqb r.number n ≡ b → more n ≡ cond b (by_name n) (s n)
      by_number n e =
          more_by n b0 ∙ if_false (ticking (s n) r.amount) (cond (eqb r.number n) (by_name n) (s n)) (ne_eqb r.kind 12 h)
          ∙ ap (λ (b : Bool). cond b (by_name n) (s n)) e

      others : (n : ℕ) → (n ≡ r.number → ⊥) → s n ≡ more n
      others n d = sym (by_number n (ne_eqb r.number n (λ q. d (sym q))))

      named : (n : ℕ) → n ≡ r.number → by_name n ≡ more n
      named n d = sym (by_number n (eq-eqb r.number n (sym d)))

      abbrev G : Field
      G = field_of a.after.first_after a.after.line_after a.after.runway_after (in_miles w)

      answered : (g : Placed) → g.aircraft.number ≡ r.number → (place_of G g.aircraft.number).zone ≡ g.zone → zone ≡ g.zone
      answered g n p =
          zone_answered F r a.number_0 h ∙ ap (λ (k : Field). (place_of k r.number).zone) a.after.effect ∙ ap (λ (m : ℕ). (place_of G m).zone) (sym n) ∙ p

      came : (g : Placed) → Came (in_miles w) r (KnownBy w s) g → (place_of G g.aircraft.number).zone ≡ g.zone → KnownBy w more g
      came g (stayed d p) q = known_same w s more g (others g.aircraft.number d) p
      came g (went e p on n k) q =
          let here = on.same_number ∙ n in
          let m = g.aircraft.number in
          let known = known_onward p on (answered g here q) in
          let entered = or_false_left (is_entry r.kind) (eqb r.kind 10) k in
          let missed = or_false_right (is_entry r.kind) (eqb r.kind 10) k in
          let by : by_name m ≡ onward w (s m) zone = if_false (entry r.amount zone) _ entered ∙ if_false (after_miss w (s m) zone) (onward w (s m) zone) missed in
          subst (λ (x : Flight). Known w x g.zone g.aircraft) (ap (λ (m : ℕ). onward w (s m) zone) (sym on.same_number) ∙ sym by ∙ named m here) known
      came g (turned e p on n k) q =
          let here = on.turned_number ∙ n in
          let m = g.aircraft.number in
          let known = known_turned p on (answered g here q) in
          let by : by_name m ≡ after_miss w (s m) zone = if_false (entry r.amount zone) _ (ap is_entry k) ∙ if_true (after_miss w (s m) zone) (onward w (s m) zone) (eq-eqb r.kind 10 k) in
          subst (λ (x : Flight). Known w x g.zone g.aircraft) (ap (λ (m : ℕ). after_miss w (s m) zone) (sym on.turned_number) ∙ sym by ∙ named m here) known
      came g (followed e p along) q =
          let same = along.onward.same_number in
          subst (λ (x : Flight). Known w x g.zone g.aircraft)
          (ap s (sym same) ∙ others g.aircraft.number (λ n. along.not_named (sym same ∙ n))) (known_along p along)
      came g (came_in v) q =
          subst (λ (x : Flight). Known w x g.zone g.aircraft) (sym (if_true (entry r.amount zone) _ v.an_entry) ∙ named g.aircraft.number v.new_number)
          (known_entry v.new_speed v.none_waited v.no_leg v.not_flown (answered g v.new_number q))

  -- everyone after an accepted request
  accepted_known : (a : AcceptedOnLine f line runway (in_miles w) r) → AllKnown w more a.after.first_after a.after.line_after a.after.runway_after
  accepted_known a = elim (decided (eqb r.kind 12)) [ inl e ↦ by_tick (eqb-true r.kind 12 e) | inr e ↦ by_other (eqb-false r.kind 12 e) ]
    where
      KnownAfter : Type 0
      KnownAfter = AllKnown w more a.after.first_after a.after.line_after a.after.runway_after

      by_tick : r.kind ≡ 12 → KnownAfter
      by_tick h =
          let t = a.after in
          let known = tick_known r (input_of F r a.number_0) h in
          let fits : Between 1 longest_tick r.amount = record { least = known.amount_low; most = known.amount_high } in
          record {
            orderly = t.orderly;
            known_line =
                subst (Each (KnownBy w more)) (sym (t.ticked_on h))
                (ticked_known a h (map (tick_placed r.amount) line) (line_ticked w s fits line k.orderly.fit_line k.known_line));
            known_runway =
                subst (λ (l : List Aircraft). Each (KnownBy w more) (map on_runway l)) (sym (t.runway_on h))
                (ticked_known a h (map on_runway runway) (runway_ticked w s r.amount runway k.known_runway));
          }

      by_other : (r.kind ≡ 12 → ⊥) → KnownAfter
      by_other h =
          let t = a.after in
          let (on_line, on_runway_lem) = (t.carried h).carry (KnownBy w s) k.known_line k.known_runway in
          record {
            orderly = t.orderly;
            known_line = each_both t.line_after (came a h) on_line (found_line t.orderly);
            known_runway = each_both (map on_runway t.runway_after) (came a h) on_runway_lem (found_runway t.runway_after t.orderly);
          }

  -- everyone after a request, accepted or refused
  step_known : KnownOn w more (step_of F r).field
  step_known =
      elim (outcome f line runway (in_miles w) k.orderly r) [
        | inl a ↦
            let b = a.after in
            record { first = b.first_after; line = b.line_after; runway = b.runway_after; stands = field_accepted F r a.number_0 ∙ b.effect; known = accepted_known a }
        | inr t ↦
            let z : number_of F r ≡ 0 → ⊥ = λ q. let n = t.not_0 in omega arith in
            record {
              first = f;
              line = line;
              runway = runway;
              stands = field_refused F r z;
              known = record { orderly = k.orderly; known_line = refused_known z line k.known_line; known_runway = refused_known z (map on_runway runway) k.known_runway };
            }
      ]

exact_runs : {w : WholeLegs} {s : ℕ → Flight} {g : Field} (rs : List Request) → KnownOn w s g → KnownOn w (λ n. flight_after w n (s n) (played g rs)) (field_after g rs)
exact_runs [] k = k
exact_runs {w = w} {s = s} {g = g} (r ∷ rs) k =
    exact_runs {w = w} {s = λ n. flight_with w n (s n) (r, (step_of g r).answer)} {g = (step_of g r).field} rs (subst⁻¹ (λ (h : Field). KnownOn w (λ n. flight_with w n (s n) (r, (step_of h r).answer)) (step_of h r).field) k.stands (step_known k.known r))

-- ---- by zone
module _ (w : WholeLegs) (s : ℕ → Flight) where
  abbrev AccountIn : ℕ → Aircraft → Type 0
  AccountIn z a = Account (s a.number) z a

  inside_each : (z : ℕ) (line : List Placed) → Each (KnownBy w s) line → Each (AccountIn z) (inside z line)
  inside_each z [] p = tt
  inside_each z (e ∷ line) p = go (decided (eqb e.zone z)) (inside_each z line p.1)
    where
      go : (eqb e.zone z ≡ true) ⊎ (eqb e.zone z ≡ false) → Each (AccountIn z) (inside z line) → Each (AccountIn z) (inside z (e ∷ line))
      go (inl b) rest =
          subst (Each (AccountIn z)) (sym (if_true (e.aircraft ∷ inside z line) (inside z line) b))
          (subst (λ (y : ℕ). AccountIn y e.aircraft) (eqb-true e.zone z b) p.0.account, rest)
      go (inr b) rest = subst (Each (AccountIn z)) (sym (if_false (e.aircraft ∷ inside z line) (inside z line) b)) rest

  runway_each : (runway : List Aircraft) → Each (KnownBy w s) (map on_runway runway) → Each (AccountIn 13) runway
  runway_each [] p = tt
  runway_each (x ∷ runway) p = (p.0.account, runway_each runway p.1)

-- from the empty field with these legs, ..
exact_empty : (w : WholeLegs) (rs : List Request) → ExactOf w (played (empty_field (in_miles w)) rs) (field_after (empty_field (in_miles w)) rs)
exact_empty w rs =
    let g = empty_field (in_miles w) in
    let start : KnownOn w (λ n. no_flight) g =
    record { first = right_side; line = []; runway = []; stands = empty_is (in_miles w); known = record { orderly = empty_orderly (in_miles w) (legs_legal w); known_line = tt; known_runway = tt } } in
    let k = exact_runs rs start in
    let s : ℕ → Flight = λ n. flight_after w n no_flight (played g rs) in
    let In : ℕ → Type 0 = λ z. Each (AccountIn w s z) (in_zone (field_after g rs) z) in
    zone_split {P = In}
    (subst (Each (AccountIn w s 13)) (sym (ap (λ (h : Field). in_zone h 13) k.stands ∙ on_runway_lem k.first k.line k.runway (in_miles w)))
    (runway_each w s k.runway k.known.known_runway))
    (λ z t. subst (Each (AccountIn w s z)) (sym (ap (λ (h : Field). in_zone h z) k.stands ∙ in_line k.first k.line k.runway (in_miles w) z t))
    (inside_each w s z k.line k.known.known_line))

-- .. and from every empty field that has them
pub exactness : Exact
exactness w f t l rs =
    let s : Same f (empty_field (in_miles w)) = subst (λ (legs : Legs). Same f (empty_field legs)) l (start_same f t) in
    let after = after_same s rs in
    let answers = played f rs in
    let AllAt : (ℕ → List Aircraft) → Type 0 = λ h. (zone : ℕ) → T (within 1 13 zone) → Each (λ a. Account (flight_after w a.number no_flight answers) zone a) (h zone) in
    subst AllAt (sym (queues_same (field_after f rs) (field_after (empty_field (in_miles w)) rs) after))
    (subst (λ (ps : List (Request × Answer)). ExactOf w ps (field_after (empty_field (in_miles w)) rs)) (sym (played_same s rs)) (exact_empty w rs))
