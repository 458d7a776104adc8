-- The theorem of two desks with steps back (02, 2.10 and 2.13): one desk's answers do not change when the other desk's numbers are renamed on the field and on the kept ones. Assumes
-- nothing.
use mathlib.Core.Path.{◌≡◌, refl, sym, ap, ◌∙◌, subst⁻¹}
use mathlib.Core.Logic.{◌⊎◌, inl, inr}
use mathlib.Core.Bool.{Bool, true, false, cond}
use mathlib.Core.List.{List, [], ◌∷◌, map}
use Prim.Native.Nat.{ℕ, ◌≤◌}
use native.Mathlib.Omega.{arith}
use lib.Dec.{T, eqb, leb}
use lib.Ieee.Fits.{and_l, and_r}
use lib.ListN.{length, drop, length-map, length-append, length-drop}
use lib.Seq.{length-take-le, take_at}
use borrow.Author.Tests.{eqb-true, eq-eqb}
use Rattle.limits.specs.Limits.{most_kept}
use Rattle.request.specs.declared.Request.{Request}
use Rattle.field.specs.Lists.{every, Each}
use Rattle.field.proofs.TestLaws.{pass, passed, decided, if_false, either_way}
use Rattle.finder.specs.declared.Indexed.{Indexed}
use Rattle.finder.specs.Finder.{within_bounds_indexed}
use Rattle.rules.specs.declared.Answer.{Answer}
use Rattle.renaming.specs.Renaming.{Renaming, renamed_request, renamed_answer}
use Rattle.indexed.specs.Indexed.{with_index}
use Rattle.indexed.proofs.StepsIndexed.{field_within, index_own}
use Rattle.isolated.specs.Isolated.{KeepsAircraft}
use Rattle.owners.proofs.EachOfList.{maps_agree}
use Rattle.isolated.proofs.Shown.{zeros_stay, answer_stays}
use Rattle.isolated.proofs.Isolation.{own_stay, field_is, request_is}
use Rattle.history.specs.declared.History.{History}
use Rattle.history.specs.declared.SteppedHistory.{SteppedHistory}
use Rattle.history.specs.History.{counted, kept_within_bounds, within_bounds_history, number_history, step_history, number_back, step_back}
use Rattle.history.proofs.StepNumbers as numbers
use Rattle.taken_back.specs.Calls.{Call, request, back, called, played_calls}
use Rattle.isolated_back.specs.IsolatedBack.{renamed_indexed, renamed_history, renamed_other_call, call_desk, calls_by_desk, KeepsCall, HistoryShaped, IsolationBack}
use Rattle.isolated_back.proofs.Renamed.{renamed, Own, Renamed, Answered, request_renamed, back_renamed}

module _ (d : ℕ) {π : ℕ → ℕ} (p : Renaming π) where
  -- ---- one call
  call_renamed : (g h : History) → Renamed d p g h → (c : Call) → KeepsCall d π c → Answered d p (called g (renamed_other_call d π c)) (called h c)
  call_renamed g h q (request r) k =
      subst⁻¹ (λ (s : Request). Answered d p (step_history g s) (step_history h r)) (request_is d p r k) (request_renamed d p g h q r k)
  call_renamed g h q (back desk) k = back_renamed d p g h q desk

  -- the desk of a call stays, ..
  desk_stays : (c : Call) → call_desk (renamed_other_call d π c) ≡ call_desk c
  desk_stays (request r) = either_way (λ (s : Request). s.desk ≡ r.desk) (eqb r.desk d) r (renamed_request π r) (λ e. refl) (λ e. refl)
  desk_stays (back desk) = refl

  -- .. one of this desk stays as it is, ..
  call_stays : (c : Call) → call_desk c ≡ d → renamed_other_call d π c ≡ c
  call_stays (request r) e = ap (λ (b : Bool). request (cond b r (renamed_request π r))) (eq-eqb r.desk d e)
  call_stays (back desk) e = refl

  -- .. and so does its answer
  own_answer : (h : History) → Own d p h.now → (c : Call) → KeepsCall d π c → call_desk c ≡ d → renamed_answer π (called h c).answer ≡ (called h c).answer
  unfolding step_history step_back
  own_answer h o (request r) k e =
      either_way (λ (s : SteppedHistory). renamed_answer π s.answer ≡ s.answer) (eqb (number_history h r) 0) _ _
      (λ z. answer_stays d p h.now.field o.stays r e k) (λ z. zeros_stay d p (number_history h r))
  own_answer h o (back desk) k e =
      either_way (λ (s : SteppedHistory). renamed_answer π s.answer ≡ s.answer) (eqb (number_back h desk) 0) _ _
      (λ z. zeros_stay d p 0) (λ z. zeros_stay d p (number_back h desk))

  -- ---- any list
  pub calls_same : (g h : History) → Renamed d p g h → (cs : List Call) → Each (KeepsCall d π) cs
      → calls_by_desk d (played_calls g (map (renamed_other_call d π) cs)) ≡ calls_by_desk d (played_calls h cs)
  calls_same g h q [] k = refl
  calls_same g h q (c ∷ cs) k =
      let a = call_renamed g h q c k.0 in
      ap (λ (n : ℕ). cond (eqb n d) (pair ∷ calls_by_desk d (played_calls (called g (renamed_other_call d π c)).after (map (renamed_other_call d π) cs)))
      (calls_by_desk d (played_calls (called g (renamed_other_call d π c)).after (map (renamed_other_call d π) cs)))) (desk_stays c)
      ∙ same_listed (decided (eqb (call_desk c) d)) a (calls_same (called g (renamed_other_call d π c)).after (called h c).after a.after cs k.1)
    where
      pair : Call × Answer
      pair = (renamed_other_call d π c, (called g (renamed_other_call d π c)).answer)

      same_listed : (eqb (call_desk c) d ≡ true) ⊎ (eqb (call_desk c) d ≡ false) → Answered d p (called g (renamed_other_call d π c)) (called h c) → {ps qs : List (Call × Answer)} → ps ≡ qs
          → cond (eqb (call_desk c) d) (pair ∷ ps) ps ≡ cond (eqb (call_desk c) d) ((c, (called h c).answer) ∷ qs) qs
      same_listed (inl e) a l =
          let own = eqb-true (call_desk c) d e in
          let answer = a.answer ∙ own_answer h q.own_now c k.0 own in
          λ i. cond (eqb (call_desk c) d) ((call_stays c own i, answer i) ∷ l i) (l i)
      same_listed (inr e) a l = if_false _ _ e ∙ l ∙ sym (if_false _ _ e)

  -- ---- the start
  own_at : (x : Indexed) → T (within_bounds_indexed x) → length x.field.zones ≡ 13 → KeepsAircraft d π x.field → Own d p x
  unfolding with_index
  own_at x w long k =
      record { own = λ i. record { field = x.field; index = index_own x w i }; stays = own_stay d p x.field (pass (field_within x w)) k long }

  own_each : (l : List Indexed) → T (every within_bounds_indexed l) → Each (λ (x : Indexed). length x.field.zones ≡ 13) l → Each (λ (x : Indexed). KeepsAircraft d π x.field) l → Each (Own d p) l
  own_each [] w long k = tt
  own_each (x ∷ l) w long k =
      (own_at x (and_l (within_bounds_indexed x) (every within_bounds_indexed l) w) long.0 k.0, own_each l (and_r (within_bounds_indexed x) (every within_bounds_indexed l) w) long.1 k.1)

  is_renamed : (x : Indexed) → Own d p x → renamed_indexed d π x ≡ renamed d p x
  is_renamed x o = ap with_index (field_is d p x.field o.stays)

  module _ (h : History) (s : HistoryShaped h) (w : T (within_bounds_history h)) (on : KeepsAircraft d π h.now.field)
      (on-kept : Each (λ (x : Indexed). KeepsAircraft d π x.field) (counted h)) where
    kept_within : T (kept_within_bounds h)
    unfolding within_bounds_history
    kept_within = and_l (kept_within_bounds h) (within_bounds_indexed h.now) w

    now_within : T (within_bounds_indexed h.now)
    unfolding within_bounds_history
    now_within = and_r (kept_within_bounds h) (within_bounds_indexed h.now) w

    each_within : T (every within_bounds_indexed (counted h))
    unfolding kept_within_bounds
    each_within = and_r (leb h.count most_kept) (every within_bounds_indexed (counted h)) kept_within

    few : h.count ≤ most_kept
    few = numbers.few_kept h (passed w)

    long : length (map (renamed_indexed d π) (counted h)) ≡ h.count
    long = let places = s.places in let f = few in length-map (counted h) (renamed_indexed d π) ∙ length-take-le h.count h.kept (omega (arith, places, f))

    pub start_renamed : Renamed d p (renamed_history d π h) h
    start_renamed =
        let places = s.places in
        let f = few in
        let own = own_at h.now now_within s.zones on in
        let each = own_each (counted h) each_within s.kept_zones on-kept in
        record {
          count = refl;
          few = few;
          places = places;
          places_too =
              let a = length-append (map (renamed_indexed d π) (counted h)) (drop h.count h.kept) in
              let b = length-drop h.count h.kept in
              let c = long in
              omega (arith, a, b, c, places, f);
          now = is_renamed h.now own;
          kept =
              take_at (map (renamed_indexed d π) (counted h)) (drop h.count h.kept) h.count long
              ∙ maps_agree (Own d p) (renamed_indexed d π) (renamed d p) is_renamed (counted h) each;
          own_now = own;
          own_kept = each;
        }

-- One desk's answers, to its requests and to its steps back, are as they were when the other desk's numbers are renamed (02, 2.13).
pub isolation_back : IsolationBack
isolation_back h s w d cs π k =
    calls_same d k.renaming (renamed_history d π h) h (start_renamed d k.renaming h s w k.aircraft k.kept) cs k.calls
