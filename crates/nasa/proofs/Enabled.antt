-- On any field within the bounds and with the reason, the request for a transition that leads on is accepted, as soon as its leg is flown out. Assumes nothing.
use mathlib.Core.Path.{◌≡◌, refl, sym, ap, ◌∙◌, subst}
use mathlib.Core.Logic.{inl, inr}
use mathlib.Core.Bool.{Bool, true, false, cond, not, ◌||◌}
use mathlib.Core.List.{List, [], ◌∷◌, ◌++◌, map}
use Prim.Native.Nat.{ℕ, ◌≤◌}
use native.Mathlib.Omega.{arith}
use borrow.Author.Tests.{eq-eqb, ne_eqb}
use lib.Dec.{T}
use lib.Ieee.Fits.{and_l}
use lib.ListN.{length}
use Rattle.request.specs.Input.{within, is_entry, is_tick, first_refused, input_number}
use Rattle.request.specs.declared.Request.{Request}
use Rattle.request.proofs.InputTests as input
use Rattle.request.proofs.ByKind.{DeskKnown, move_allowed}
use Rattle.field.specs.declared.Aircraft as field
use Rattle.field.specs.declared.Field.{Field}
use Rattle.questions.specs.declared.Place.{Place}
use Rattle.field.specs.Airspace.{in_zone, everywhere}
use Rattle.field.specs.Lists.{is_in, every}
use Rattle.questions.specs.Find.{place_of}
use Rattle.bounds.specs.Bounds.{within_bounds}
use Rattle.fits.specs.Fits.{fits_zone}
use Rattle.rules.specs.Kinds.{place_before, zone_before, zone_ahead, starts_from, belongs_to, absent_checks, head_checks, presence_checks}
use Rattle.rules.specs.Step.{needs_for, checks_of, effect_of, number_of, step_of}
use Rattle.rules.specs.Reason.{Sound}
use Rattle.rules.proofs.Checks.{checks_at, owned, refused_append, checks_refuse}
use Rattle.rules.proofs.StepLaws.{number_is}
use Rattle.rules.proofs.Refusals.{accepts}
use Rattle.field.proofs.TestLaws.{decided, passed, if_true, if_false, same}
use Rattle.field.proofs.NumberLists.{zone_listed}
use Rattle.questions.proofs.FindLaws.{numbers, at, in_zones}
use Rattle.laws.proofs.Fits.{all_fit, fits_parts}
use Rattle.laws.proofs.BoundLaws.{within_each}
use Rattle.reason.proofs.Reason.{neither_10_nor_25}
use Rattle.descent.proofs.Descent.{shaped}
use Rattle.nasa.specs.Definitions.{ScaAircraft, ScaZone, SCA}
use Rattle.nasa.specs.Rules.{when, for_first, zone_number}
use Rattle.nasa.specs.Stands.{seen, state_of}
use Rattle.nasa.specs.Steps.{transition_for}
use Rattle.nasa.specs.Enabled.{head_request, LeadsTo}
use Rattle.nasa.proofs.States.{zone_number_lem, First, head_first}
use Rattle.nasa.proofs.AcceptedHead.{Heads}
use Rattle.nasa.proofs.AskedOfState.{not_zero}
use Rattle.nasa.proofs.Leaving.{found_head}
use Rattle.nasa.proofs.StepsAsTransitions.{steps_as}

-- ---- a transition that leads on
pub nowhere_on : {s : SCA} → [] ≡ s ∷ [] → ⊥
nowhere_on q = let n : ◌≡◌ {A = ℕ} 0 1 = ap length q in omega arith

pub head_same : {s t : SCA} → s ∷ [] ≡ t ∷ [] → s ≡ t
head_same {s} {t} q = cc

-- its test holds
pub tested : (b : Bool) (t s : SCA) → when b t ≡ s ∷ [] → b ≡ true
tested true t s q = refl
tested false t s q = absurd (nowhere_on q)

-- somebody is in its zone
pub somebody : (f : Field) (z : ScaZone) (next : ScaAircraft → List ScaAircraft → List SCA) (s : SCA) → for_first ((state_of f).queue z) next ≡ s ∷ [] → First f z
unfolding state_of
somebody f z next s q = go (in_zone f (zone_number z)) refl
  where
    go : (l : List field.Aircraft) → in_zone f (zone_number z) ≡ l → First f z
    go [] i = absurd (nowhere_on (ap (λ (l : List field.Aircraft). for_first (map (seen f (zone_number z)) l) next) (sym i) ∙ q))
    go (x ∷ rest) i = record { x = x; rest = rest; here = i }

module _ (f : Field) (S : Sound f) where
  -- ---- a request that nothing refuses but the bounds is accepted
  pub accepted_by : (r : Request) → input_number r ≡ 0 → first_refused (checks_of f r) ≡ 0 → number_of f r ≡ 0
  unfolding number_of
  accepted_by r i c = elim (decided (within_bounds (effect_of f r))) [
    | inl b ↦ accepts f r (record { input = i; before = passed S.bounds; checks = c; after = b })
    | inr b ↦
        let last : List (ℕ × Bool) = (25, within_bounds (effect_of f r)) ∷ [] in
        let own : within_bounds f ≡ true = passed S.bounds in
        absurd ((neither_10_nor_25 f S r).1
        (if_true (first_refused ((10, within_bounds f) ∷ checks_of f r ++ last)) (input_number r) (eq-eqb (input_number r) 0 i)
        ∙ if_true (first_refused (checks_of f r ++ last)) 10 own
        ∙ refused_append (checks_of f r) last (checks_refuse f r)
        ∙ if_true (first_refused last) (first_refused (checks_of f r)) (eq-eqb (first_refused (checks_of f r)) 0 c)
        ∙ if_false 0 25 b))
  ]

  -- and leads to the state of its transition
  pub follows : (r : Request) (k : ℕ) → r.kind ≡ k → number_of f r ≡ 0 → (s : SCA) → transition_for k f r (state_of f) ≡ s ∷ [] → LeadsTo f r s
  follows r k q e s i =
      let own : transition_for k f r (state_of f) ≡ state_of (step_of f r).field ∷ [] = ap (λ (j : ℕ). transition_for j f r (state_of f)) (sym q) ∙ (steps_as f S.places r).accepted (number_is f r ∙ e) in
      record { accepted = number_is f r ∙ e; leads_to_is = head_same (sym own ∙ i) }

  -- ---- the first of zone z moves
  module _ {z : ScaZone} (F : First f z) (k : ℕ) (kind : T (within 3 11 k)) where
    abbrev zn : ℕ
    zn = zone_number z

    abbrev pub r : Request
    r = head_request f k z

    found : place_before f r ≡ at zn 1
    found = ap (λ (a : field.Aircraft). place_of f a.number) (head_first F) ∙ found_head S.bounds F

    pub zone_is : zone_before f r ≡ zn
    zone_is = ap (λ (p : Place). p.zone) found

    abbrev pub head : Heads f r z
    head = record { bounds = S.bounds; shaped = shaped f S.places S.bounds; first = F; named = ap (λ (a : field.Aircraft). a.number) (sym (head_first F)) }

    numbered : 1 ≤ r.number
    numbered =
        let n = F.x.number in
        let here = ap (λ (l : List field.Aircraft). is_in n (numbers l)) F.here ∙ ap (λ (b : Bool). b || is_in n (numbers F.rest)) (same n) in
        let m = not_zero f S.bounds n (in_zones f n zn everywhere (zone_listed zn (zone_number_lem z)) here) in
        let e : r.number ≡ n = ap (λ (a : field.Aircraft). a.number) (head_first F) in
        input.nonzero_known r.number (ap not (ne_eqb r.number 0 (λ q. m (sym e ∙ q))))

    -- it has a desk
    desked : DeskKnown r.desk
    desked =
        let b = zone_number_lem z in
        let fit = subst (λ (l : List field.Aircraft). T (every (fits_zone f.legs zn) l)) F.here (all_fit f (within_each f S.bounds).bound_g_is zn b.least b.most) in
        let d = (fits_parts f.legs zn F.x (and_l (fits_zone f.legs zn F.x) (every (fits_zone f.legs zn) F.rest) fit)).desk in
        subst (λ (a : field.Aircraft). DeskKnown a.desk) (sym (head_first F)) (record { low = d.least; high = d.most })

    low : 3 ≤ k
    low = input.within_low 3 11 k (passed kind)

    high : k ≤ 11
    high = input.within_high 3 11 k (passed kind)

    -- where what its kind needs besides is met, it is accepted
    pub moves_on_lem : starts_from k zn ≡ true → first_refused (needs_for k f r (at zn 1) (zone_ahead f r)) ≡ 0 → number_of f r ≡ 0
    unfolding belongs_to
    moves_on_lem starts needs =
        let p = place_before f r in
        let l = low in
        let h = high in
        let no_entry_lem : is_entry k ≡ false = input.within_above 1 2 k (omega arith) in
        let no_tick : is_tick k ≡ false = ne_eqb k 12 (λ q. omega arith) in
        let checks : Place → List (ℕ × Bool) = λ q. head_checks k q (belongs_to f q r.desk) in
        let all : presence_checks k p (owned f r) ≡ checks p = if_false (absent_checks p) (cond (is_tick k) [] (checks p)) no_entry_lem ∙ if_false [] (checks p) no_tick in
        let b = zone_number_lem z in
        let heads = input.none_refused (checks (at zn 1)) (input.nonzero_yes zn b.least, (same r.desk, (starts, (refl, tt)))) in
        accepted_by r (move_allowed r low high (record { side = refl; number = numbered; amount = refl }) desked)
        (ap first_refused (checks_at f r refl)
        ∙ ap (λ (l : List (ℕ × Bool)). first_refused (l ++ needs_for k f r p (zone_ahead f r))) all
        ∙ ap (λ (q : Place). first_refused (checks q ++ needs_for k f r q (zone_ahead f r))) found
        ∙ refused_append (checks (at zn 1)) (needs_for k f r (at zn 1) (zone_ahead f r)) (tt, (tt, (tt, (tt, tt))))
        ∙ if_true _ _ (eq-eqb (first_refused (checks (at zn 1))) 0 heads)
        ∙ needs)
