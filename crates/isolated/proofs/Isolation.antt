-- The theorem of two desks (02, 2.10): one desk's answers do not change when the other desk's numbers are renamed. Assumes nothing.
use mathlib.Core.Path.{◌≡◌, refl, sym, ap, ◌∙◌}
use mathlib.Core.Logic.{◌⊎◌, inl, inr}
use mathlib.Core.Bool.{Bool, true, false, cond, ◌&&◌}
use mathlib.Core.List.{List, [], ◌∷◌, map}
use Prim.Native.Nat.{ℕ, zero, suc}
use native.Mathlib.Omega.{arith}
use lib.Dec.{T, eqb, leb, le→leb, eqb→eq}
use lib.Ieee.Fits.{and_i, and_l, and_r}
use lib.ListN.{length, drop}
use borrow.Author.Tests.{eqb-true}
use lib.Ieee.{eq}
use Rattle.leg.specs.Progress.{whole}
use Rattle.leg.specs.Ticks.{Between}
use Rattle.request.specs.declared.Request.{Request}
use Rattle.field.specs.declared.Aircraft.{Aircraft}
use Rattle.field.specs.declared.Zone.{Zone}
use Rattle.field.specs.declared.Field.{Field}
use Rattle.field.specs.Airspace.{everywhere, empty_zone, zone_of, queue_of, in_zone}
use Rattle.field.specs.Lists.{every, Each}
use Rattle.field.proofs.NumberLists.{every_listed, zone_listed}
use Rattle.field.proofs.TestLaws.{decided, if_false, either_way}
use Rattle.bounds.specs.Bounds.{is_nobody, zone_kept, within_bounds}
use Rattle.fits.specs.Fits.{is_waiting}
use Rattle.laws.proofs.BoundLaws.{within_e}
use Rattle.rules.specs.declared.Answer.{Answer}
use Rattle.rules.specs.Step.{step_of}
use Rattle.rules.specs.Play.{played, of_desk}
use Rattle.renaming.specs.Renaming.{Renaming, renamed_aircraft, renamed_zone, renamed_field, renamed_request, renamed_pair}
use Rattle.renaming.proofs.StepsRenamed.{played_renamed}
use Rattle.isolated.specs.Isolated.{KeepsRequest, KeepsRequests, KeepsNumber, KeepsAircraft, Isolation, renamed_other, renamed_others_in, renamed_others, renamed_other_request, renamed_other_requests}
use Rattle.owners.proofs.EachOfList.{each_parts, each_places, maps_agree}
use Rattle.isolated.proofs.Stays.{StaysIn, Stays, own_numbers_stay}
use Rattle.isolated.proofs.Shown.{pair_stays}

-- a test of several parts passes its first
first_part : (b c d e f g h : Bool) → T (b && c && d && e && f && g && h) → T b
first_part true c d e f g h t = tt
first_part false c d e f g h t = t

module _ (d : ℕ) {π : ℕ → ℕ} (p : Renaming π) where
  -- ---- from the aircraft within the lengths to every place

  -- a place past a length has number 0, which stays
  past_stays : (xs : List Aircraft) → T (every is_nobody xs) → Each (KeepsNumber d π) xs
  unfolding is_nobody
  past_stays [] t = tt
  past_stays (a ∷ xs) t =
      let none =
      first_part (eqb a.number 0) (eqb a.fix 0) (eqb a.speed 0) (eqb a.desk 0) (eq a.waited (whole 0))
      (eq a.leg (whole 0)) (is_waiting a.progress) (and_l (is_nobody a) (every is_nobody xs) t) in
      ((λ e. rw (eqb→eq a.number 0 none) p.zero), past_stays xs (and_r (is_nobody a) (every is_nobody xs) t))

  module _ (f : Field) (w : T (within_bounds f)) (h : KeepsAircraft d π f) where
    zone_stays : (z : ℕ) → Between 1 13 z → StaysIn d π (zone_of f z)
    unfolding zone_kept in_zone queue_of
    zone_stays z b =
        let q = zone_of f z in
        let kept = every_listed (λ y. zone_kept (zone_of f y)) everywhere z (within_e f w).zones_kept (zone_listed z b) in
        each_parts (KeepsNumber d π) q.length q.aircraft
        (h z (and_i (leb 1 z) (leb z 13) (le→leb 1 z b.least) (le→leb z 13 b.most)))
        (past_stays (drop q.length q.aircraft) (and_r (leb q.length 4) (every is_nobody (drop q.length q.aircraft)) kept))

    pub own_stay : length f.zones ≡ 13 → Stays d π f
    unfolding zone_of
    own_stay long = each_places (StaysIn d π) f.zones empty_zone (λ i l. zone_stays (suc i) (record { least = omega arith; most = omega arith }))

  -- ---- where the own numbers stay, the other desk's numbers renamed are all numbers renamed
  aircraft_is : (a : Aircraft) → KeepsNumber d π a → renamed_other d π a ≡ renamed_aircraft π a
  aircraft_is a k =
      either_way (λ (b : Aircraft). b ≡ renamed_aircraft π a) (eqb a.desk d) a (renamed_aircraft π a)
      (λ e. rw (k (eqb-true a.desk d e)) refl)
      (λ e. refl)

  zone_is : (q : Zone) → StaysIn d π q → renamed_others_in d π q ≡ renamed_zone π q
  zone_is q h = rw (maps_agree (KeepsNumber d π) (renamed_other d π) (renamed_aircraft π) aircraft_is q.aircraft h) refl

  pub field_is : (f : Field) → Stays d π f → renamed_others d π f ≡ renamed_field π f
  field_is f h = rw (maps_agree (StaysIn d π) (renamed_others_in d π) (renamed_zone π) zone_is f.zones h) refl

  pub request_is : (r : Request) → KeepsRequest d π r → renamed_other_request d π r ≡ renamed_request π r
  request_is r k =
      either_way (λ (s : Request). s ≡ renamed_request π r) (eqb r.desk d) r (renamed_request π r)
      (λ e. rw (k (eqb-true r.desk d e)) refl)
      (λ e. refl)

  requests_are : (rs : List Request) → KeepsRequests d π rs → renamed_other_requests d π rs ≡ map (renamed_request π) rs
  requests_are rs k = maps_agree (KeepsRequest d π) (renamed_other_request d π) (renamed_request π) request_is rs k

  -- ---- the desk's own requests and answers stay
  own_answers : (f : Field) (rs : List Request) → Stays d π f → KeepsRequests d π rs → of_desk d (map (renamed_pair π) (played f rs)) ≡ of_desk d (played f rs)
  own_answers f [] h k = refl
  own_answers f (r ∷ rs) h k =
      same_listed (decided (eqb r.desk d)) (own_answers (step_of f r).field rs (own_numbers_stay d p f r k.0 h) k.1)
    where
      pair : Request × Answer
      pair = (r, (step_of f r).answer)

      same_listed : (eqb r.desk d ≡ true) ⊎ (eqb r.desk d ≡ false) → {ps qs : List (Request × Answer)} → ps ≡ qs
          → cond (eqb r.desk d) (renamed_pair π pair ∷ ps) ps ≡ cond (eqb r.desk d) (pair ∷ qs) qs
      same_listed (inl e) l = λ i. cond (eqb r.desk d) (pair_stays d p f h r (eqb-true r.desk d e) k.0 i ∷ l i) (l i)
      same_listed (inr e) l = if_false _ _ e ∙ l ∙ sym (if_false _ _ e)

  -- On any field at all, where the numbers of the desk's aircraft stay in every place.
  pub isolated_where : (f : Field) (rs : List Request) → Stays d π f → KeepsRequests d π rs
      → of_desk d (played (renamed_others d π f) (renamed_other_requests d π rs)) ≡ of_desk d (played f rs)
  isolated_where f rs h k =
      ap (λ (g : Field). of_desk d (played g (renamed_other_requests d π rs))) (field_is f h)
      ∙ ap (λ (qs : List Request). of_desk d (played (renamed_field π f) qs)) (requests_are rs k)
      ∙ ap (of_desk d) (played_renamed p f rs)
      ∙ own_answers f rs h k

-- One desk's answers are as they were when the other desk's numbers are renamed (02, 2.10).
pub isolation : Isolation
isolation f long w d rs π k = isolated_where d k.renaming f rs (own_stay d k.renaming f w k.aircraft long) k.requests
