-- Parts that are handed on in 8 and 16 bits are refused as C handed them over, and are the request where they are not. Assumes nothing.
use mathlib.Core.Path.{◌≡◌, refl, sym, ap, ◌∙◌}
use mathlib.Core.Logic.{◌⊎◌, inl, inr}
use mathlib.Core.Bool.{Bool, true, false, cond, not, ◌&&◌}
use mathlib.Core.List.{List, [], ◌∷◌}
use Prim.Native.Nat.{ℕ, ◌≤◌, ◌<◌, min}
use native.Mathlib.Nat.{lt_of_le_of_lt}
use native.Mathlib.Omega.{arith}
use native.Mathlib.Decide.{dec_le}
use lib.Dec.{leb, eqb, lit<, leb→le}
use lib.Ieee.Fits.{and_r}
use borrow.Author.Tests.{eqb-true}
use Rattle.limits.specs.Limits.{desks}
use Rattle.field.proofs.TestLaws.{decided, passed, pass, if_true, if_false, either_way}
use Rattle.field.proofs.TestParts.{over}
use Rattle.request.specs.declared.Request.{Request}
use Rattle.request.specs.declared.Range.{Range}
use Rattle.request.specs.Input.{within, in_range, is_entry, is_tick, asked_of, first_refused, desk_allowed, kind_allowed, side_allowed, number_allowed, amount_allowed, input_number}
use Rattle.request.proofs.ByKind.{Keeps, keeps}
use Rattle.rules.specs.Step.{number_and_zeros}
use Rattle.history.specs.declared.History.{History}
use Rattle.history.specs.declared.SteppedHistory.{SteppedHistory}
use Rattle.history.specs.History.{number_history, step_history}
use Rattle.replies.specs.Replies.{answer_numbers}
use Rattle.layout.specs.Read.{read_history}
use Rattle.layout.specs.Written.{state_after}
use Rattle.host.specs.Calls.{ask, reply_on, bytes_left}
use Rattle.baguymo.specs.Widths.{in8, in16, number_in16}
use Rattle.baguymo.specs.Parts.{parts_number, reply_to_parts, left_by_parts}
use Rattle.baguymo.proofs.Narrowed.{within_min}

-- the request that is handed on
abbrev pub narrow_request : Request → Request
narrow_request r = record { kind = in8 r.kind; side = in8 r.side; number = number_in16 r.kind r.number; amount = in16 r.amount; desk = in8 r.desk }

-- every side that a kind allows has 8 bits, and every amount 16
sides_few : (kind : ℕ) → (asked_of kind).sides.1 < 255
sides_few kind = either_way (λ (r : Range). r.1 < 255) (is_entry kind) _ _ (λ _. lit< tt) (λ _. lit< tt)

amounts_few : (kind : ℕ) → (asked_of kind).amounts.1 < 65535
amounts_few kind =
    either_way (λ (r : Range). r.1 < 65535) (is_entry kind) _ _ (λ _. lit< tt)
    (λ _. either_way (λ (r : Range). r.1 < 65535) (is_tick kind) _ _ (λ _. lit< tt) (λ _. lit< tt))

and_true : (b : Bool) → (b && true) ≡ b
and_true true = refl
and_true false = refl

and_false : (b : Bool) → (b && false) ≡ false
and_false true = refl
and_false false = refl

-- an aircraft's number keeps rule 3 as it did where it has 16 bits, and breaks it where it is wider
by_width : (n : ℕ) (fits tick : Bool)
    → cond (not tick) (not (eqb (cond fits n (cond tick 1 0)) 0)) (eqb (cond fits n (cond tick 1 0)) 0) ≡ (cond (not tick) (not (eqb n 0)) (eqb n 0) && fits)
by_width n true tick = sym (and_true (cond (not tick) (not (eqb n 0)) (eqb n 0)))
by_width n false true = sym (and_false (eqb n 0))
by_width n false false = sym (and_false (not (eqb n 0)))

-- the first of the five rules that is broken
abbrev first_broken : Bool → Bool → Bool → Bool → Bool → ℕ
first_broken d k s n a = first_refused ((31, d) ∷ (1, k) ∷ (2, s) ∷ (3, n) ∷ (4, a) ∷ [])

pub parts_as_input : (r : Request) → input_number (narrow_request r) ≡ parts_number r
unfolding input_number parts_number desk_allowed kind_allowed side_allowed number_allowed amount_allowed
parts_as_input r = go (dec_le r.kind 255)
  where
    desk : within 1 desks (in8 r.desk) ≡ within 1 desks r.desk
    desk = within_min 1 desks 255 r.desk (lit< tt)

    side : in_range (asked_of r.kind).sides (in8 r.side) ≡ in_range (asked_of r.kind).sides r.side
    side = within_min (asked_of r.kind).sides.0 (asked_of r.kind).sides.1 255 r.side (sides_few r.kind)

    amount : in_range (asked_of r.kind).amounts (in16 r.amount) ≡ in_range (asked_of r.kind).amounts r.amount
    amount = within_min (asked_of r.kind).amounts.0 (asked_of r.kind).amounts.1 65535 r.amount (amounts_few r.kind)

    -- the rules of a kind, of the parts that are handed on
    narrow_by : ℕ → ℕ
    narrow_by k =
        first_broken (within 1 desks (in8 r.desk)) (within 1 12 k) (in_range (asked_of k).sides (in8 r.side))
        (cond (asked_of k).aircraft (not (eqb (number_in16 r.kind r.number) 0)) (eqb (number_in16 r.kind r.number) 0))
        (in_range (asked_of k).amounts (in16 r.amount))

    same_rule : narrow_by r.kind ≡ parts_number r
    same_rule i = first_broken (desk i) (within 1 12 r.kind) (side i) (by_width r.number (leb r.number 65535) (is_tick r.kind) i) (amount i)

    none : within 1 12 r.kind ≡ false → narrow_by (in8 r.kind) ≡ parts_number r
    none e =
        let k = within_min 1 12 255 r.kind (lit< tt) ∙ e in
        (λ i. first_broken (desk i) (k i) (in_range (asked_of (in8 r.kind)).sides (in8 r.side))
        (cond (asked_of (in8 r.kind)).aircraft (not (eqb (number_in16 r.kind r.number) 0)) (eqb (number_in16 r.kind r.number) 0))
        (in_range (asked_of (in8 r.kind)).amounts (in16 r.amount)))
        ∙ (λ i. first_broken (within 1 desks r.desk) (sym e i) (in_range (asked_of r.kind).sides r.side)
        (cond (asked_of r.kind).aircraft (not (eqb r.number 0)) (eqb r.number 0) && leb r.number 65535)
        (in_range (asked_of r.kind).amounts r.amount))

    go : Dec (r.kind ≤ 255) → input_number (narrow_request r) ≡ parts_number r
    go (yes p) = let e : in8 r.kind ≡ r.kind = omega arith in ap narrow_by e ∙ same_rule
    go (no p) =
        let wide : 12 < r.kind = omega arith in
        none (and_cut_second (leb 1 r.kind) (over refl wide))
      where
        and_cut_second : (a : Bool) {b : Bool} → b ≡ false → (a && b) ≡ false
        and_cut_second a e = ap (λ (t : Bool). a && t) e ∙ and_false a

-- a number that is below the largest is handed on as it is
small_same : (most n : ℕ) → min most n < most → min most n ≡ n
small_same most n h = omega arith

-- the end of a range that a number is in
up_to : (low high n : ℕ) → within low high n ≡ true → n ≤ high
up_to low high n e = leb→le n high (and_r (leb low n) (leb n high) (pass e))

-- parts that the rules keep are handed on as they are
pub parts_same : (r : Request) → parts_number r ≡ 0 → narrow_request r ≡ r
parts_same r e i = record { kind = kind i; side = side i; number = number i; amount = amount i; desk = desk i }
  where
    known : Keeps (narrow_request r) (asked_of (in8 r.kind))
    known = keeps (narrow_request r) (parts_as_input r ∙ e)

    kind : in8 r.kind ≡ r.kind
    kind = let h = up_to 1 12 (in8 r.kind) known.kind in small_same 255 r.kind (omega arith)

    desk : in8 r.desk ≡ r.desk
    desk = let h = up_to 1 desks (in8 r.desk) known.desk in small_same 255 r.desk (omega arith)

    side : in8 r.side ≡ r.side
    side =
        let range = (asked_of (in8 r.kind)).sides in
        let h = up_to range.0 range.1 (in8 r.side) known.side in
        let few = sides_few (in8 r.kind) in
        small_same 255 r.side (lt_of_le_of_lt h few)

    amount : in16 r.amount ≡ r.amount
    amount =
        let range = (asked_of (in8 r.kind)).amounts in
        let h = up_to range.0 range.1 (in16 r.amount) known.amount in
        small_same 65535 r.amount (lt_of_le_of_lt h (amounts_few (in8 r.kind)))

    number : number_in16 r.kind r.number ≡ r.number
    number =
        let n = number_in16 r.kind r.number in
        let kept = ap (λ (k : ℕ). cond (not (is_tick k)) (not (eqb n 0)) (eqb n 0)) (sym kind) ∙ known.number in
        let both = sym (by_width r.number (leb r.number 65535) (is_tick r.kind)) ∙ kept in
        let test = cond (not (is_tick r.kind)) (not (eqb r.number 0)) (eqb r.number 0) in
        if_true {b = leb r.number 65535} r.number (cond (is_tick r.kind) 1 0) (passed (and_r test (leb r.number 65535) (pass both)))

-- ---- what the request that is handed on is replied

-- a request that the input rules refuse
refused_asked : (h : History) (r : Request) (n : ℕ) → input_number r ≡ n → eqb n 0 ≡ false → step_history h r ≡ record { answer = number_and_zeros n; after = h }
unfolding step_history number_history
refused_asked h r n e z =
    let number : number_history h r ≡ n = if_false _ _ (ap (λ (k : ℕ). eqb k 0) e ∙ z) ∙ e in
    if_false _ _ (ap (λ (k : ℕ). eqb k 0) number ∙ z) ∙ ap (λ (k : ℕ). record { answer = number_and_zeros k; after = h }) number

pub parts_replied : (state : List ℕ) (r : Request) → reply_on state (ask (narrow_request r)) ≡ reply_to_parts state r
unfolding number_and_zeros
parts_replied state r = go (decided (eqb (parts_number r) 0))
  where
    go : (eqb (parts_number r) 0 ≡ true) ⊎ (eqb (parts_number r) 0 ≡ false) → reply_on state (ask (narrow_request r)) ≡ reply_to_parts state r
    go (inl e) = ap (λ (x : Request). reply_on state (ask x)) (parts_same r (eqb-true (parts_number r) 0 e)) ∙ sym (if_true _ _ e)
    go (inr e) =
        ap (λ (s : SteppedHistory). record { number = s.answer.number; request = []; numbers = answer_numbers s.answer; gaps = [] })
        (refused_asked (read_history state) (narrow_request r) (parts_number r) (parts_as_input r) e)
        ∙ sym (if_false _ _ e)

pub parts_left : (state : List ℕ) (r : Request) → bytes_left state (ask (narrow_request r)) ≡ left_by_parts state r
unfolding number_and_zeros
parts_left state r = go (decided (eqb (parts_number r) 0))
  where
    go : (eqb (parts_number r) 0 ≡ true) ⊎ (eqb (parts_number r) 0 ≡ false) → bytes_left state (ask (narrow_request r)) ≡ left_by_parts state r
    go (inl e) = ap (λ (x : Request). bytes_left state (ask x)) (parts_same r (eqb-true (parts_number r) 0 e)) ∙ sym (if_true _ _ e)
    go (inr e) =
        ap (λ (s : SteppedHistory). state_after state s.answer.number s.after)
        (refused_asked (read_history state) (narrow_request r) (parts_number r) (parts_as_input r) e)
        ∙ if_false _ _ e
        ∙ sym (if_false _ _ e)
