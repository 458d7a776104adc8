-- The theorems: on any field at all, a request renamed has its answer renamed and leaves its field renamed; so has every list; and the index says of a number's new name what
-- it said of the number. Assumes nothing.
use mathlib.Core.Path.{◌≡◌, refl, sym, ap, ◌∙◌, subst}
use mathlib.Core.Bool.{cond}
use mathlib.Core.List.{List, [], ◌∷◌, ◌++◌, map}
use Prim.Native.Nat.{ℕ}
use lib.Dec.{T, eqb}
use Rattle.request.specs.Input.{first_refused}
use Rattle.request.specs.declared.Request.{Request}
use Rattle.field.specs.declared.Aircraft.{Aircraft}
use Rattle.field.specs.declared.Legs.{Legs}
use Rattle.field.specs.declared.Field.{Field}
use Rattle.field.specs.Airspace.{side_of, at3000, empty_field}
use Rattle.questions.specs.declared.Place.{Place}
use Rattle.questions.specs.Find.{place_of, aircraft_at, leader_of}
use Rattle.bounds.specs.Bounds.{within_bounds}
use Rattle.finder.specs.Finder.{index_of, found_in}
use Rattle.finder.proofs.IndexLaws.{found_as_looked}
use Rattle.rules.specs.declared.Answer.{Answer}
use Rattle.rules.specs.declared.Stepped.{Stepped}
use Rattle.rules.specs.Kinds.{zone_before, shown_to, shown_at3000}
use Rattle.rules.specs.Step.{effect_of, number_of, number_and_zeros, acceptance, acceptance_on, along_for, answer_of, step_of}
use Rattle.rules.specs.Play.{field_after, played}
use Rattle.renaming.specs.Renaming.{Renaming, renamed_aircraft, renamed_field, renamed_request, renamed_answer, renamed_step, renamed_pair}
use Rattle.renaming.proofs.ListsRenamed.{either_made}
use Rattle.renaming.proofs.AskedRenamed.{at_renamed, place_renamed, leader_renamed}
use Rattle.renaming.proofs.BoundsRenamed.{within_renamed}
use Rattle.renaming.proofs.NeedsRenamed.{input_renamed, checks_renamed}
use Rattle.renaming.proofs.EffectsRenamed.{effect_renamed}

module _ {π : ℕ → ℕ} (p : Renaming π) where
  -- ---- answers
  zeros_renamed : (number : ℕ) → number_and_zeros number ≡ renamed_answer π (number_and_zeros number)
  unfolding number_and_zeros
  zeros_renamed number = rw p.zero refl

  -- what a desk is shown of an aircraft: its new number, or 0 still
  shown_renamed : (desk : ℕ) (a : Aircraft) → shown_to desk (renamed_aircraft π a) ≡ π (shown_to desk a)
  unfolding shown_to
  shown_renamed desk a = either_made π (eqb a.desk desk) refl (sym p.zero)

  shown_at_renamed : (f : Field) (desk z place : ℕ) → shown_to desk (aircraft_at (renamed_field π f) z place) ≡ π (shown_to desk (aircraft_at f z place))
  shown_at_renamed f desk z place = ap (shown_to desk) (at_renamed p f z place) ∙ shown_renamed desk (aircraft_at f z place)

  acceptance_renamed : (f : Field) (at ahead : Place) (r : Request) (along : ℕ)
      → acceptance (renamed_field π f) at ahead (renamed_request π r) (π along) ≡ renamed_answer π (acceptance f at ahead r along)
  unfolding acceptance
  acceptance_renamed f at ahead r along = rw (at_renamed p f at.zone at.place, shown_at_renamed f r.desk ahead.zone ahead.place) refl

  module _ (f : Field) (r : Request) where
    abbrev F : Field
    F = renamed_field π f

    abbrev R : Request
    R = renamed_request π r

    -- the number of a request is the same, ..
    pub number_renamed : number_of F R ≡ number_of f r
    unfolding number_of
    number_renamed =
        let after : within_bounds (effect_of F R) ≡ within_bounds (effect_of f r) = ap within_bounds (effect_renamed p f r) ∙ within_renamed p (effect_of f r) in
        λ i.
        cond (eqb (input_renamed p r i) 0)
        (first_refused ((10, within_renamed p f i) ∷ checks_renamed p f r i ++ ((25, after i) ∷ [])))
        (input_renamed p r i)

    along_renamed : (z : ℕ) → along_for r.kind F R z ≡ π (along_for r.kind f r z)
    unfolding shown_at3000
    along_renamed z =
        let there : (side : ℕ) → shown_at3000 F r.desk side ≡ π (shown_at3000 f r.desk side) = λ side. shown_at_renamed f r.desk (at3000 side) 1 in
        either_made π (eqb r.kind 1) (there r.side) (either_made π (eqb r.kind 11) (there (side_of z)) (sym p.zero))

    -- .. where it is accepted its answer is renamed, ..
    pub answer_renamed : answer_of F R ≡ renamed_answer π (answer_of f r)
    unfolding answer_of
    answer_renamed =
        let n = r.number in
        let g = effect_of f r in
        let G = renamed_field π g in
        let along : along_for r.kind F R (zone_before F R) ≡ π (along_for r.kind f r (zone_before f r)) =
        ap (λ (q : Place). along_for r.kind F R q.zone) (place_renamed p f n) ∙ along_renamed (zone_before f r) in
        either_made (renamed_answer π) (eqb r.kind 12) (zeros_renamed 0)
        (ap (λ (g : Field). acceptance_on g R (along_for r.kind F R (zone_before F R))) (effect_renamed p f r)
        ∙ ap (λ (q : Place). acceptance G q (place_of G (leader_of G.sequence (π n))) R (along_for r.kind F R (zone_before F R))) (place_renamed p g n)
        ∙ ap (λ (m : ℕ). acceptance G (place_of g n) (place_of G m) R (along_for r.kind F R (zone_before F R))) (leader_renamed p g n)
        ∙ ap (λ (q : Place). acceptance G (place_of g n) q R (along_for r.kind F R (zone_before F R))) (place_renamed p g (leader_of g.sequence n))
        ∙ ap (acceptance G (place_of g n) (place_of g (leader_of g.sequence n)) R) along
        ∙ acceptance_renamed g (place_of g n) (place_of g (leader_of g.sequence n)) r (along_for r.kind f r (zone_before f r)))

    -- .. and so the step of any request on any field, accepted or refused: the same number, zone and fix, the other numbers renamed, and the field renamed.
    pub step_renamed : step_of F R ≡ renamed_step π (step_of f r)
    unfolding step_of
    step_renamed =
        ap (λ (k : ℕ). cond (eqb k 0) (record { answer = answer_of F R; field = effect_of F R }) (record { answer = number_and_zeros k; field = F })) number_renamed
        ∙ either_made (renamed_step π) (eqb (number_of f r) 0)
        (λ i. record { answer = answer_renamed i; field = effect_renamed p f r i })
        (ap (λ (a : Answer). record { answer = a; field = F }) (zeros_renamed (number_of f r)))

  -- ---- any list of requests, from any field
  pub played_renamed : (f : Field) (rs : List Request) → played (renamed_field π f) (map (renamed_request π) rs) ≡ map (renamed_pair π) (played f rs)
  played_renamed f [] = refl
  played_renamed f (r ∷ rs) =
      ap (λ (s : Stepped). (renamed_request π r, s.answer) ∷ played s.field (map (renamed_request π) rs)) (step_renamed f r)
      ∙ ap (λ (l : List (Request × Answer)). renamed_pair π (r, (step_of f r).answer) ∷ l) (played_renamed (step_of f r).field rs)

  pub field_after_renamed : (f : Field) (rs : List Request) → field_after (renamed_field π f) (map (renamed_request π) rs) ≡ renamed_field π (field_after f rs)
  field_after_renamed f [] = refl
  field_after_renamed f (r ∷ rs) = ap (λ (s : Stepped). field_after s.field (map (renamed_request π) rs)) (step_renamed f r) ∙ field_after_renamed (step_of f r).field rs

  -- the empty field has nobody to rename
  pub empty_field_renamed : (legs : Legs) → renamed_field π (empty_field legs) ≡ empty_field legs
  unfolding empty_field
  empty_field_renamed legs = rw p.zero refl

  -- ---- the index put in order again
  pub found_renamed : (f : Field) → T (within_bounds f) → (n : ℕ) → found_in (index_of (renamed_field π f)) (π n) ≡ found_in (index_of f) n
  found_renamed f w n =
      found_as_looked (renamed_field π f) (subst T (sym (within_renamed p f)) w) (π n) ∙ place_renamed p f n ∙ sym (found_as_looked f w n)
