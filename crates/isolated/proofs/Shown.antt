-- What a desk is answered stays under new numbers that keep its own: the aircraft that it names, and a leader and one in `along` only where they are its own. Assumes nothing.
use mathlib.Core.Path.{◌≡◌, refl}
use Prim.Native.Nat.{ℕ}
use lib.Dec.{eqb}
use borrow.Author.Tests.{eqb-true}
use Rattle.request.specs.declared.Request.{Request}
use Rattle.field.specs.declared.Aircraft.{Aircraft}
use Rattle.field.specs.declared.Field.{Field}
use Rattle.field.specs.Airspace.{side_of, at3000}
use Rattle.field.proofs.TestLaws.{either_way}
use Rattle.questions.specs.Find.{place_of, aircraft_at, leader_of}
use Rattle.rules.specs.declared.Answer.{Answer}
use Rattle.rules.specs.declared.Stepped.{Stepped}
use Rattle.rules.specs.Kinds.{zone_before, shown_to, shown_at3000}
use Rattle.rules.specs.Step.{effect_of, number_of, number_and_zeros, acceptance, along_for, answer_of, step_of}
use Rattle.renaming.specs.Renaming.{Renaming, renamed_answer, renamed_pair}
use Rattle.isolated.specs.Isolated.{KeepsRequest, KeepsNumber}
use Rattle.isolated.proofs.Stays.{Stays, at_stays, effect_stays}

module _ (d : ℕ) {π : ℕ → ℕ} (p : Renaming π) where
  -- ---- numbers that are shown
  shown_stays : (a : Aircraft) → KeepsNumber d π a → π (shown_to d a) ≡ shown_to d a
  unfolding shown_to
  shown_stays a k = either_way (λ (n : ℕ). π n ≡ n) (eqb a.desk d) a.number 0 (λ e. k (eqb-true a.desk d e)) (λ e. p.zero)

  shown_at_stays : (f : Field) → Stays d π f → (desk z place : ℕ) → desk ≡ d → π (shown_to desk (aircraft_at f z place)) ≡ shown_to desk (aircraft_at f z place)
  shown_at_stays f h desk z place e = rw e (shown_stays (aircraft_at f z place) (at_stays d p f z place h))

  -- ---- answers
  pub zeros_stay : (number : ℕ) → renamed_answer π (number_and_zeros number) ≡ number_and_zeros number
  unfolding number_and_zeros
  zeros_stay number = rw p.zero refl

  module _ (f : Field) (h : Stays d π f) (r : Request) (own : r.desk ≡ d) (k : KeepsRequest d π r) where
    along_stays : (z : ℕ) → π (along_for r.kind f r z) ≡ along_for r.kind f r z
    unfolding shown_at3000
    along_stays z =
        let there : (side : ℕ) → π (shown_at3000 f r.desk side) ≡ shown_at3000 f r.desk side = λ side. shown_at_stays f h r.desk (at3000 side) 1 own in
        either_way (λ (n : ℕ). π n ≡ n) (eqb r.kind 1) _ _ (λ e. there r.side) (λ e. either_way (λ (n : ℕ). π n ≡ n) (eqb r.kind 11) _ 0 (λ e. there (side_of z)) (λ e. p.zero))

    answer_of_stays : renamed_answer π (answer_of f r) ≡ answer_of f r
    unfolding answer_of acceptance
    answer_of_stays =
        let g = effect_of f r in
        let at = place_of g r.number in
        let ahead = place_of g (leader_of g.sequence r.number) in
        either_way (λ (a : Answer). renamed_answer π a ≡ a) (eqb r.kind 12) (number_and_zeros 0) _ (λ e. zeros_stay 0)
        (λ e. rw (k own, shown_at_stays g (effect_stays d p f r k h) r.desk ahead.zone ahead.place own, along_stays (zone_before f r)) refl)

    -- a request of the desk and its answer, accepted or refused
    pub answer_stays : renamed_answer π (step_of f r).answer ≡ (step_of f r).answer
    unfolding step_of
    answer_stays =
        either_way (λ (s : Stepped). renamed_answer π s.answer ≡ s.answer) (eqb (number_of f r) 0)
        (record { answer = answer_of f r; field = effect_of f r }) (record { answer = number_and_zeros (number_of f r); field = f })
        (λ e. answer_of_stays) (λ e. zeros_stay (number_of f r))

    pub pair_stays : renamed_pair π (r, (step_of f r).answer) ≡ (r, (step_of f r).answer)
    pair_stays = rw (k own, answer_stays) refl
