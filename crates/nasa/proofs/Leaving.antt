-- The first of the landing sequence leaves it, on any field within the bounds: everyone else's sequence number is lowered by one. Assumes nothing.
use mathlib.Core.Path.{◌≡◌, refl, sym, ap, ◌∙◌, subst}
use mathlib.Core.Logic.{◌≢◌, ◌⊎◌, inl, inr}
use mathlib.Core.Bool.{Bool, true, false, not, ◌||◌, true≢false, or-true}
use mathlib.Core.List.{List, [], ◌∷◌, ◌++◌, map}
use Prim.Native.Nat.{ℕ, suc}
use native.Mathlib.Omega.{arith}
use borrow.Author.Tests.{ne_eqb, eqb-true}
use lib.Dec.{T, eqb}
use lib.Ieee.Fits.{and_l}
use lib.ListN.{length, get_or}
use Rattle.request.specs.Input.{within}
use Rattle.field.specs.declared.Aircraft as field
use Rattle.field.specs.declared.Field.{Field}
use Rattle.questions.specs.declared.Place.{Place}
use Rattle.field.specs.Airspace.{nobody, in_zone, order_of, everywhere}
use Rattle.field.specs.Lists.{is_in, all_different}
use Rattle.edits.specs.Edits.{before}
use Rattle.questions.specs.Counts.{how_many}
use Rattle.questions.specs.Find.{place_of, aircraft_at, numbers_in, is_head, is_first}
use Rattle.bounds.specs.Bounds.{final_first, within_bounds}
use Rattle.field.proofs.TestLaws.{decided, passed, failed}
use Rattle.field.proofs.NumberLists.{absent_left, different_right, zone_listed}
use Rattle.questions.proofs.NumbersListed.{numbers_at}
use Rattle.questions.proofs.FindLaws.{numbers, at, own_place}
use Rattle.laws.proofs.BoundLaws.{within_e, numbers_different}
use Rattle.line.proofs.CountedOnLine.{not_13}
use Rattle.nasa.specs.Definitions.{ScaZone, final, decrease}
use Rattle.nasa.specs.Rules.{zone_number}
use Rattle.nasa.specs.Stands.{seen}
use Rattle.nasa.proofs.States.{zone_number_lem, First, someone, head_first}
use Rattle.nasa.proofs.AskedOfState.{in_sequence, in_its_zone}
use Rattle.nasa.proofs.Sequences.{FirstInSequence, seen_lowered}

-- one that is found to be the first of the sequence, and those behind it
pub first_in : (f : Field) (x : field.Aircraft) → is_first f.sequence x.number ≡ true → FirstInSequence f x
unfolding is_first
first_in f x = go (order_of f.sequence) refl
  where
    go : (l : List ℕ) → order_of f.sequence ≡ l → is_head x.number l ≡ true → FirstInSequence f x
    go [] o i = absurd (true≢false (sym i))
    go (m ∷ ms) o i = record { behind = ms; order = o ∙ ap (λ (k : ℕ). k ∷ ms) (eqb-true m x.number i) }

-- ---- the first of zone z
module _ {f : Field} {z : ScaZone} (t : T (within_bounds f)) (F : First f z) where
  abbrev n : ℕ
  n = F.x.number

  abbrev zn : ℕ
  zn = zone_number z

  abbrev rest : List field.Aircraft
  rest = F.rest

  -- nobody behind it in the zone has its number, ..
  rest_apart : is_in n (numbers rest) ≡ false
  rest_apart = go everywhere (numbers_different f t) (zone_listed zn (zone_number_lem z))
    where
      go : (zs : List ℕ) → T (all_different (numbers_in f zs)) → is_in zn zs ≡ true → is_in n (numbers rest) ≡ false
      go [] d i = absurd (true≢false (sym i))
      go (w ∷ zs) d i = pick (decided (eqb w zn)) (go zs (different_right (numbers_at f w) (numbers_in f zs) d))
        where
          pick : (eqb w zn ≡ true) ⊎ (eqb w zn ≡ false) → (is_in zn zs ≡ true → is_in n (numbers rest) ≡ false) → is_in n (numbers rest) ≡ false
          pick (inl e) later =
              let all = ap (λ (y : ℕ). numbers_at f y ++ numbers_in f zs) (eqb-true w zn e) ∙ ap (λ (l : List field.Aircraft). numbers l ++ numbers_in f zs) F.here in
              let others = numbers rest ++ numbers_in f zs in
              absent_left n (numbers rest) (numbers_in f zs) (failed (and_l (not (is_in n others)) (all_different others) (subst (λ (l : List ℕ). T (all_different l)) all d)))
          pick (inr e) later = later (sym (ap (λ (c : Bool). c || is_in zn zs) e) ∙ i)

  pub found_head : place_of f n ≡ at zn 1
  found_head = ap (λ (a : field.Aircraft). place_of f a.number) (sym (head_first F)) ∙ own_place f zn 1 (numbers_different f t) (zone_number_lem z) (omega arith) (someone F)

  -- .. and nobody in another
  pub elsewhere_apart : (y : ScaZone) → zone_number y ≢ zn → is_in n (numbers_at f (zone_number y)) ≡ false
  elsewhere_apart y h = in_its_zone f t n (zone_number y) (zone_number_lem y) ∙ ap (λ (p : Place). eqb p.zone (zone_number y)) found_head ∙ ne_eqb zn (zone_number y) (λ e. h (sym e))

  -- ---- it is the first of the sequence, and on the field g those behind it are each a place further
  module _ (b : FirstInSequence f F.x) (g : Field) (further : (m : ℕ) → is_in m b.behind ≡ true → before m (order_of g.sequence) ≡ before m b.behind) where
    -- one of the operation area that is not it is behind it
    is_behind : (y : ℕ) → T (within 1 12 y) → (m : ℕ) → is_in m (numbers_at f y) ≡ true → eqb n m ≡ false → is_in m b.behind ≡ true
    is_behind y u m i h = sym (ap (λ (c : Bool). c || is_in m b.behind) h) ∙ ap (is_in m) (sym b.order) ∙ in_sequence f t y u m i

    -- those of another zone are lowered, ..
    pub lowered_elsewhere : (y : ScaZone) → T (within 1 12 (zone_number y)) → zone_number y ≢ zn
        → map (seen g (zone_number y)) (in_zone f (zone_number y)) ≡ decrease (map (seen f (zone_number y)) (in_zone f (zone_number y)))
    lowered_elsewhere y u h =
        let yn = zone_number y in
        let apart = elsewhere_apart y h in
        seen_lowered f g yn b (not_13 yn u) (in_zone f yn) apart
        (λ m i. further m (is_behind yn u m i (ne_eqb n m (λ e. true≢false (sym i ∙ ap (λ (k : ℕ). is_in k (numbers_at f yn)) (sym e) ∙ apart)))))

    -- .. and those behind it in its own
    pub lowered_rest : T (within 1 12 zn) → map (seen g zn) rest ≡ decrease (map (seen f zn) rest)
    lowered_rest u =
        seen_lowered f g zn b (not_13 zn u) rest rest_apart
        (λ m i.
        let here = ap (λ (l : List field.Aircraft). is_in m (numbers l)) F.here ∙ ap (λ (c : Bool). eqb n m || c) i ∙ or-true (eqb n m) in
        further m (is_behind zn u m here (ne_eqb n m (λ e. true≢false (sym i ∙ ap (λ (k : ℕ). is_in k (numbers rest)) (sym e) ∙ rest_apart)))))

-- whoever heads final is the first of the sequence
pub final_first_lem : {f : Field} → T (within_bounds f) → (F : First f final) → FirstInSequence f F.x
unfolding final_first how_many aircraft_at
final_first_lem {f} t F =
    first_in f F.x
    (sym (ap (λ (l : List field.Aircraft). eqb (length l) 0 || is_first f.sequence (get_or (nobody ∷ l) 1 nobody).number) F.here
    ∙ ap (λ (c : Bool). c || is_first f.sequence F.x.number) (ne_eqb (suc (length F.rest)) 0 (λ e. omega arith)))
    ∙ passed (within_e f t).first)
