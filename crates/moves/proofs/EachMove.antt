-- Kinds 3 to 11, a lemma for each: a request that passes its checks leaves a field that an orderly line stands for. Assumes nothing.
use mathlib.Core.Path.{◌≡◌, refl, sym, ap, ◌∙◌, subst}
use mathlib.Core.Logic.{inl, inr}
use mathlib.Core.Bool.{true, false, cond, not, ◌&&◌, true≢false, false≢true}
use mathlib.Core.List.{List, [], ◌∷◌, ◌++◌}
use Prim.Native.Nat.{ℕ}
use native.Mathlib.Omega.{arith}
use lib.Dec.{T, leb, eqb, leb→le, eqb→eq}
use lib.ListN.{length}
use lib.Ieee.Fits.{and_l, and_r}
use borrow.Author.Tests.{eqb-true, eq-eqb}
use Rattle.request.specs.Input.{within, first_refused}
use Rattle.request.specs.declared.Request.{Request}
use Rattle.request.proofs.InputTests as input
use Rattle.field.specs.declared.Aircraft.{Aircraft}
use Rattle.field.specs.declared.Legs.{Legs}
use Rattle.field.specs.declared.Field.{Field}
use Rattle.field.specs.Airspace.{side_of, at3000, at2000}
use Rattle.questions.specs.Counts.{how_many, is_empty}
use Rattle.questions.specs.Find.{is_first}
use Rattle.order.specs.Model.{Side, count, free, is_nil, okay, one}
use Rattle.order.proofs.Facts.{final_first_lem, hold_ahead}
use Rattle.rules.specs.Kinds.{place_before, zone_before, starts_from, head_checks, moved, held}
use Rattle.rules.specs.Step.{effect_of}
use Rattle.field.proofs.TestLaws.{passed, failed, decided, if_false, zones_imply}
use Rattle.line.proofs.Line.{Placed, zones_in, field_of}
use Rattle.line.proofs.CountedOnLine.{lower, how_many_runway, none}
use Rattle.line.proofs.Located.{first_there}
use Rattle.line.proofs.Members.{count_append}
use Rattle.line.proofs.Orderly.{Orderly, Split, first_in}
use Rattle.moves.proofs.AfterAccepted.{After, zone_in, okay_split}
use Rattle.moves.proofs.Heads.{AtHead, Heading, heading}
use Rattle.rules.proofs.Checks.{effect_at, head_passed, besides, owned}
use Rattle.moves.proofs.OnLine.{MissedZone, eleven_from, zone_before_lem, from_kind, empty_free, after_3, after_4, after_5, after_6, after_11}
use Rattle.moves.proofs.HoldBoth.{after_both}
use Rattle.moves.proofs.AtEnds.{after_7, after_8, after_9, after_10}

-- ---- zones that kinds start from, where the zone is one of 1 to 13
land_from : (z : ℕ) → T (within 1 13 z) → T (starts_from 7 z) → T (eqb z 12)
unfolding starts_from
land_from = zones_imply (starts_from 7) (λ z. eqb z 12) tt

miss_from : (z : ℕ) → T (within 1 13 z) → T (starts_from 10 z) → T (eqb z 12)
unfolding starts_from
miss_from = zones_imply (starts_from 10) (λ z. eqb z 12) tt

exit_from : (z : ℕ) → T (within 1 13 z) → T (starts_from 9 z) → T (eqb z 11)
unfolding starts_from
exit_from = zones_imply (starts_from 9) (λ z. eqb z 11) tt

taxi_from : (z : ℕ) → T (within 1 13 z) → T (starts_from 8 z) → T (eqb z 13)
unfolding starts_from
taxi_from = zones_imply (starts_from 8) (λ z. eqb z 13) tt

-- nobody else starts from the runway
runway_only : (k : ℕ) → T (within 1 13 k) → T (starts_from k 13) → k ≡ 8
unfolding starts_from
runway_only k t u = eqb-true k 8 (passed (zones_imply (λ k. starts_from k 13) (λ k. eqb k 8) tt k t u))

-- a list whose zones are none
no_line : (a : List Placed) → zones_in a ≡ [] → a ≡ []
no_line [] e = refl
no_line (x ∷ a) e = absurd (let n = ap length e in omega arith)

nil_line : (a : List Placed) → is_nil (zones_in a) ≡ true → a ≡ []
nil_line [] e = refl
nil_line (x ∷ a) e = absurd (false≢true e)

-- a missed zone is no holding at 3000
missed_apart : (z : ℕ) → T (within 1 13 z) → T (within 7 8 z) → eqb z (at3000 (side_of z)) ≡ false
unfolding side_of
missed_apart z t u = failed {b = eqb z (at3000 (side_of z))} (zones_imply (within 7 8) (λ z. not (eqb z (at3000 (side_of z)))) tt z t u)

-- ---- kind 11 where 3000 is occupied
module _ {f : Side} {a : List Placed} {e : Placed} {b : List Placed} {runway : List Aircraft} {legs : Legs} {r : Request} (m : AtHead f a e b runway legs r)
    (h : r.kind ≡ 11) (occupied : is_empty (field_of f (a ++ e ∷ b) runway legs) (at3000 (side_of e.zone)) ≡ false) where
  abbrev F : Field
  F = field_of f (a ++ e ∷ b) runway legs

  abbrev z : ℕ
  z = e.zone

  abbrev y : ℕ
  y = at3000 (side_of z)

  in_13 : T (within 1 13 z)
  in_13 = lower z (zone_in f a e b runway legs m.orderly)

  from_11 : MissedZone z
  from_11 = eleven_from z in_13 (from_kind m h)

  -- the one at 3000 is ahead
  not_free : T (free (zones_in a) y) → ⊥
  not_free t =
      let p = eqb→eq (count (zones_in a) y) 0 t in
      let q = eqb→eq (count (zones_in b) y) 0 (hold_ahead f (zones_in a) z (zones_in b) from_11.is_missed (okay_split f a e b m.orderly.okay_line)) in
      let n : one (eqb z y) ≡ 0 = ap one (missed_apart z in_13 from_11.is_missed) in
      let c = count_append (zones_in a) (z ∷ zones_in b) y in
      true≢false (sym (eq-eqb (count (zones_in a ++ z ∷ zones_in b) y) 0 (omega arith)) ∙ sym (empty_free m y from_11.above) ∙ occupied)

  moves_both : effect_of F r ≡ moved (moved F y (at2000 (side_of z))) z y
  unfolding held
  moves_both =
      effect_at F r h
      ∙ ap (λ (v : ℕ). cond (is_empty F (at3000 (side_of v))) (cond (is_empty F (at2000 (side_of v))) (moved F v (at2000 (side_of v))) (moved F v (at3000 (side_of v))))
      (moved (moved F (at3000 (side_of v)) (at2000 (side_of v))) v (at3000 (side_of v)))) (zone_before_lem m)
      ∙ if_false (cond (is_empty F (at2000 (side_of z))) (moved F z (at2000 (side_of z))) (moved F z y)) (moved (moved F y (at2000 (side_of z))) z y) occupied

  by_split : Split y a → After f (a ++ e ∷ b) runway legs r
  by_split s =
      let w = s.whole in
      subst (λ (l : List Placed). After f (l ++ e ∷ b) runway legs r) (sym w)
      (after_both s.ahead s.here s.behind (subst (λ (l : List Placed). AtHead f l e b runway legs r) w m) from_11.is_missed s.at_zone_is h
      (subst (λ (l : List Placed). effect_of (field_of f (l ++ e ∷ b) runway legs) r ≡ moved (moved (field_of f (l ++ e ∷ b) runway legs) y (at2000 (side_of z))) z y) w moves_both))

  pub after_11_both : After f (a ++ e ∷ b) runway legs r
  after_11_both = elim (first_in y a) [ inl t ↦ absurd (not_free t) | inr s ↦ by_split s ]

-- ---- kinds 3 to 11
module _ {f : Side} {line : List Placed} {runway : List Aircraft} {legs : Legs} (o : Orderly f line runway legs) (r : Request) where
  abbrev G : Field
  G = field_of f line runway legs

  -- the field as seen from one of its line
  abbrev around : Heading f line runway legs r → List Placed
  around h = h.ahead ++ h.here ∷ h.behind

  -- the aircraft of a request whose kind starts from a zone of the line
  moving : (k : ℕ) → r.kind ≡ k → T (within 1 13 k && not (eqb k 8)) → first_refused (head_checks k (place_before G r) (owned G r) ++ besides G r k) ≡ 0
      → ((h : Heading f line runway legs r) → first_refused (besides (field_of f (around h) runway legs) r k) ≡ 0 → After f (around h) runway legs r)
      → After f line runway legs r
  moving k h t c go =
      let p = head_passed k (place_before G r) (owned G r) (besides G r k) c in
      let starts = ap (λ (j : ℕ). starts_from j (zone_before G r)) h ∙ p.starts in
      elim (heading f line runway legs o r p.known p.owned_by starts p.first) [
        | inl d ↦
            subst (λ (l : List Placed). After f l runway legs r) (sym d.whole)
            (go d (subst (λ (l : List Placed). first_refused (besides (field_of f l runway legs) r k) ≡ 0) d.whole p.others))
        | inr d ↦
            let n = runway_only k (and_l (within 1 13 k) (not (eqb k 8)) t) (subst (λ (j : ℕ). T (starts_from j 13)) h d.starts) in
            absurd (subst (λ (j : ℕ). T (within 1 13 j && not (eqb j 8))) n t)
      ]

  -- what the first of the line leaves behind
  leading : (h : Heading f line runway legs r) → h.ahead ≡ [] → (AtHead f [] h.here h.behind runway legs r → After f (h.here ∷ h.behind) runway legs r) → After f (around h) runway legs r
  leading h e go =
      subst (λ (l : List Placed). After f (l ++ h.here ∷ h.behind) runway legs r) (sym e) (go (subst (λ (l : List Placed). AtHead f l h.here h.behind runway legs r) e h.at_head))

  -- one of the line that a kind takes from a zone of its own
  from_zone : (h : Heading f line runway legs r) {k : ℕ} → r.kind ≡ k → (w : ℕ) → ((z : ℕ) → T (within 1 13 z) → T (starts_from k z) → T (eqb z w)) → h.here.zone ≡ w
  from_zone h k w only =
      let m = h.at_head in
      let z = h.here.zone in
      eqb-true z w (passed (only z (lower z (zone_in f h.ahead h.here h.behind runway legs m.orderly)) (from_kind m k)))

  -- the one on final is the first of the line
  final_leads_lem : (h : Heading f line runway legs r) → h.here.zone ≡ 12 → h.ahead ≡ []
  final_leads_lem h z =
      let m = h.at_head in
      no_line h.ahead
      (final_first_lem f (zones_in h.ahead) (zones_in h.behind)
      (subst (λ (v : ℕ). T (okay f (zones_in h.ahead ++ v ∷ zones_in h.behind))) z (okay_split f h.ahead h.here h.behind m.orderly.okay_line))
      (subst (λ (v : ℕ). T (free (zones_in h.ahead) v)) z m.heads))

  -- kinds 3 to 6
  pub three : r.kind ≡ 3 → first_refused (head_checks 3 (place_before G r) (owned G r) ++ besides G r 3) ≡ 0 → After f line runway legs r
  three k c = moving 3 k tt c (λ h d. after_3 h.at_head k d)

  pub four : r.kind ≡ 4 → first_refused (head_checks 4 (place_before G r) (owned G r) ++ besides G r 4) ≡ 0 → After f line runway legs r
  four k c = moving 4 k tt c (λ h d. after_4 h.at_head k d)

  pub five : r.kind ≡ 5 → first_refused (head_checks 5 (place_before G r) (owned G r) ++ besides G r 5) ≡ 0 → After f line runway legs r
  five k c = moving 5 k tt c (λ h d. after_5 h.at_head k d)

  pub six : r.kind ≡ 6 → first_refused (head_checks 6 (place_before G r) (owned G r) ++ besides G r 6) ≡ 0 → After f line runway legs r
  six k c = moving 6 k tt c (λ h d. after_6 h.at_head k)

  -- kind 7
  pub seven : r.kind ≡ 7 → first_refused (head_checks 7 (place_before G r) (owned G r) ++ besides G r 7) ≡ 0 → After f line runway legs r
  seven k c =
      moving 7 k tt c
      (λ h d.
      let z = from_zone h k 12 land_from in
      let H = field_of f (around h) runway legs in
      let p = input.passed (besides H r 7) (tt, (tt, tt)) d in
      let n : runway ≡ [] = none runway (sym (how_many_runway f (around h) runway legs) ∙ eqb-true (how_many H 13) 0 p.1.0) in
      leading h (final_leads_lem h z)
      (subst (λ (l : List Aircraft). AtHead f [] h.here h.behind l legs r → After f (h.here ∷ h.behind) l legs r) (sym n) (λ m. after_7 m k z)))

  -- kind 8
  pub eight : r.kind ≡ 8 → first_refused (head_checks 8 (place_before G r) (owned G r) ++ []) ≡ 0 → After f line runway legs r
  eight k c =
      let p = head_passed 8 (place_before G r) (owned G r) [] c in
      let starts = ap (λ (j : ℕ). starts_from j (zone_before G r)) k ∙ p.starts in
      elim (heading f line runway legs o r p.known p.owned_by starts p.first) [
        | inl h ↦
            let t = zone_in f h.ahead h.here h.behind runway legs h.at_head.orderly in
            let z = from_zone h k 13 taxi_from in
            absurd (let u = leb→le h.here.zone 12 (and_r (leb 1 h.here.zone) (leb h.here.zone 12) t) in omega arith)
        | inr d ↦ subst (λ (l : List Aircraft). After f line l legs r) (sym d.whole)
            (after_8 (subst (λ (l : List Aircraft). Orderly f line l legs) d.whole o) r d.named k d.owned_by)
      ]

  -- kind 9
  pub nine : r.kind ≡ 9 → first_refused (head_checks 9 (place_before G r) (owned G r) ++ besides G r 9) ≡ 0 → After f line runway legs r
  nine k c =
      moving 9 k tt c
      (λ h d.
      let H = field_of f (around h) runway legs in
      let m = h.at_head in
      let p = input.passed (besides H r 9) (tt, (tt, tt)) d in
      let a = nil_line h.ahead (sym (first_there f h.ahead h.here h.behind runway legs m.orderly.different) ∙ ap (is_first H.sequence) (sym m.named) ∙ p.1.0) in
      leading h a (λ m. after_9 m k (from_zone h k 11 exit_from)))

  -- kind 10
  pub ten : r.kind ≡ 10 → first_refused (head_checks 10 (place_before G r) (owned G r) ++ []) ≡ 0 → After f line runway legs r
  ten k c = moving 10 k tt c (λ h d. let z = from_zone h k 12 miss_from in leading h (final_leads_lem h z) (λ m. after_10 m k z))

  -- kind 11
  pub eleven : r.kind ≡ 11 → first_refused (head_checks 11 (place_before G r) (owned G r) ++ besides G r 11) ≡ 0 → After f line runway legs r
  eleven k c =
      moving 11 k tt c
      (λ h d.
      elim (decided (is_empty (field_of f (around h) runway legs) (at3000 (side_of h.here.zone)))) [
        | inl t ↦ after_11 h.at_head k t
        | inr t ↦ after_11_both h.at_head k t
      ])
