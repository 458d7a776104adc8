-- The numbers of one desk's aircraft stay under new numbers, in every place of every zone, and so they do after every request. Of any field at all. Assumes nothing.
use mathlib.Core.Path.{◌≡◌}
use Prim.Native.Nat.{ℕ}
use Rattle.request.specs.declared.Request.{Request}
use Rattle.field.specs.declared.Zone.{Zone}
use Rattle.field.specs.declared.Field.{Field}
use Rattle.questions.specs.Find.{aircraft_at}
use Rattle.rules.specs.Step.{effect_of, step_of}
use Rattle.owners.proofs.Everyone as everyone
use Rattle.owners.proofs.Everyone.{HoldsIn, Everyone}
use Rattle.renaming.specs.Renaming.{Renaming}
use Rattle.isolated.specs.Isolated.{KeepsRequest, KeepsNumber}

module _ (d : ℕ) (π : ℕ → ℕ) where
  -- a number that one of the desk d has stays
  abbrev Fixed : ℕ → ℕ → Type 0
  Fixed number desk = desk ≡ d → π number ≡ number

  -- in every place of a zone, and of a field
  abbrev pub StaysIn : Zone → Type 0
  StaysIn = HoldsIn Fixed

  abbrev pub Stays : Field → Type 0
  Stays = Everyone Fixed

module _ (d : ℕ) {π : ℕ → ℕ} (p : Renaming π) where
  pub at_stays : (f : Field) (z place : ℕ) → Stays d π f → KeepsNumber d π (aircraft_at f z place)
  at_stays = everyone.at_stays (Fixed d π) (λ e. p.zero)

  pub effect_stays : (f : Field) (r : Request) → KeepsRequest d π r → Stays d π f → Stays d π (effect_of f r)
  effect_stays = everyone.effect_stays (Fixed d π) (λ e. p.zero)

  pub own_numbers_stay : (f : Field) (r : Request) → KeepsRequest d π r → Stays d π f → Stays d π (step_of f r).field
  own_numbers_stay = everyone.step_stays (Fixed d π) (λ e. p.zero)
