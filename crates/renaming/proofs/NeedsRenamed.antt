-- What a request needs on a field with its numbers renamed: the same checks, with the same outcomes. Assumes nothing.
use mathlib.Core.Path.{◌≡◌, refl, ap, ◌∙◌}
use mathlib.Core.Bool.{Bool, cond, not, ◌||◌}
use mathlib.Core.List.{List, [], ◌∷◌, ◌++◌}
use Prim.Native.Nat.{ℕ}
use lib.Dec.{eqb, leb, ltb}
use Rattle.request.specs.Input.{within, desk_allowed, kind_allowed, side_allowed, number_allowed, amount_allowed, input_number}
use Rattle.request.specs.declared.Request.{Request}
use Rattle.field.specs.declared.Aircraft.{Aircraft}
use Rattle.field.specs.declared.Field.{Field}
use Rattle.field.specs.Airspace.{opposite, side_of, at3000, at2000, lateral, missed, base, runway, area, approach, operation, leg_flown_out}
use Rattle.field.specs.Lists.{is_in}
use Rattle.questions.specs.declared.Place.{Place}
use Rattle.questions.specs.Counts.{total, is_empty, approach_holds, counted_for, potential_of}
use Rattle.rules.specs.Kinds.{place_before, zone_ahead, presence_checks, belongs_to, flown_out_check, may_approach, base_free, may_merge}
use Rattle.rules.specs.Step.{by_kind, needs_for, checks_for, checks_of}
use Rattle.renaming.specs.Renaming.{Renaming, renamed_field, renamed_request}
use Rattle.renaming.proofs.ListsRenamed.{zero_renamed}
use Rattle.renaming.proofs.AskedRenamed.{at_renamed, many_renamed, with_fix_renamed, place_renamed, first_renamed, leader_zone_renamed}

module _ {π : ℕ → ℕ} (p : Renaming π) where
  -- the input rules: 3 asks whether the number is 0
  pub input_renamed : (r : Request) → input_number (renamed_request π r) ≡ input_number r
  unfolding input_number desk_allowed kind_allowed side_allowed number_allowed amount_allowed
  input_renamed r = rw (zero_renamed p r.number) refl

  module _ (f : Field) where
    abbrev F : Field
    F = renamed_field π f

    pub empty_renamed : (z : ℕ) → is_empty F z ≡ is_empty f z
    empty_renamed z = ap (λ (h : ℕ → ℕ). eqb (h z) 0) (many_renamed p f)

    potential_renamed : (side : ℕ) → potential_of F side ≡ potential_of f side
    unfolding potential_of counted_for
    potential_renamed side = λ i. total (λ z. cond (is_in z (area side)) (many_renamed p f i z) (with_fix_renamed p f i side z)) operation

    holds_renamed : (side : ℕ) → approach_holds F side ≡ approach_holds f side
    unfolding approach_holds
    holds_renamed side = ap (λ (h : ℕ → ℕ → ℕ). not (eqb (total (h side) approach) 0)) (with_fix_renamed p f)

    pub may_approach_renamed : (n ahead : ℕ) → may_approach F.sequence (π n) ahead ≡ may_approach f.sequence n ahead
    unfolding may_approach
    may_approach_renamed n ahead = ap (λ (b : Bool). b || within 9 12 ahead) (first_renamed p f n)

    may_merge_renamed : (n ahead : ℕ) → may_merge F.sequence (π n) ahead ≡ may_merge f.sequence n ahead
    unfolding may_merge
    may_merge_renamed n ahead = ap (λ (b : Bool). b || within 11 12 ahead) (first_renamed p f n)

    pub base_renamed : (side : ℕ) → base_free F side ≡ base_free f side
    unfolding base_free
    base_renamed side = ap (λ (h : ℕ → ℕ). leb (h (base (opposite side))) 1) (many_renamed p f)

    flown_renamed : (z : ℕ) → flown_out_check F z ≡ flown_out_check f z
    unfolding leg_flown_out
    flown_renamed z = ap (λ (a : Aircraft). (15, leg_flown_out a)) (at_renamed p f z 1)

    belongs_renamed : (at : Place) (desk : ℕ) → belongs_to F at desk ≡ belongs_to f at desk
    unfolding belongs_to
    belongs_renamed at desk = ap (λ (a : Aircraft). eqb a.desk desk) (at_renamed p f at.zone at.place)

    module _ (r : Request) where
      abbrev n : ℕ
      n = r.number

      abbrev side : ℕ
      side = r.side

      needs_renamed : (at : Place) (ahead : ℕ) → needs_for r.kind F (renamed_request π r) at ahead ≡ needs_for r.kind f r at ahead
      needs_renamed at ahead =
          let z = at.zone in
          λ i.
          by_kind r.kind
          ((16, ltb (potential_renamed side i) 2) ∷ (17, not (holds_renamed side i)) ∷ (18, empty_renamed (missed side) i)
          ∷ (19, empty_renamed (lateral side) i) ∷ (20, empty_renamed (at3000 side) i || empty_renamed (at2000 side) i) ∷ [])
          ((16, eqb (potential_renamed side i) 0) ∷ [])
          ((21, empty_renamed (at2000 z) i) ∷ [])
          ((22, within 5 6 z || may_approach_renamed n ahead i) ∷ (23, within 5 6 z || base_renamed (side_of z) i) ∷ [])
          (flown_renamed z i ∷ (22, may_merge_renamed n ahead i) ∷ [])
          (flown_renamed z i ∷ [])
          (flown_renamed z i ∷ (24, empty_renamed runway i) ∷ [])
          []
          (flown_renamed z i ∷ (22, first_renamed p f n i) ∷ [])
          []
          (flown_renamed z i ∷ [])
          []

      -- every check of a kind, of where its aircraft is and of what it needs besides
      pub checks_renamed : checks_of F (renamed_request π r) ≡ checks_of f r
      unfolding checks_of
      checks_renamed =
          let at = place_before f r in
          ap (λ (at : Place). checks_for r.kind F (renamed_request π r) at (zone_ahead F (renamed_request π r))) (place_renamed p f n)
          ∙ ap (checks_for r.kind F (renamed_request π r) at) (leader_zone_renamed p f n)
          ∙ ap (λ (b : Bool). presence_checks r.kind at b ++ needs_for r.kind F (renamed_request π r) at (zone_ahead f r)) (belongs_renamed at r.desk)
          ∙ ap (λ (l : List (ℕ × Bool)). presence_checks r.kind at (belongs_to f at r.desk) ++ l) (needs_renamed at (zone_ahead f r))
