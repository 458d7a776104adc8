-- What entries and missed approaches do to a field that an order stands for: the aircraft comes to the end of the line. Assumes nothing.
use mathlib.Core.Path.{◌≡◌, refl, sym, ap, ◌∙◌, subst}
use mathlib.Core.Bool.{cond}
use mathlib.Core.List.{List, [], ◌∷◌, ◌++◌, append-nil}
use Prim.Native.Nat.{ℕ, suc, ◌<◌}
use native.Mathlib.Omega.{arith}
use lib.Dec.{T, eqb}
use lib.ListN.{length}
use Rattle.request.specs.Input.{within}
use Rattle.field.specs.declared.Aircraft.{Aircraft}
use Rattle.field.specs.declared.Zone.{Zone}
use Rattle.field.specs.declared.Sequence.{Sequence}
use Rattle.field.specs.declared.Legs.{Legs}
use Rattle.field.specs.declared.Field.{Field}
use Rattle.field.specs.Airspace.{opposite, missed, zone_of, entering, arrived_by_miss, given_fix}
use Rattle.questions.specs.Find.{aircraft_at}
use Rattle.field.specs.Lists.{all_different}
use Rattle.edits.specs.Edits.{with_tail, with_zone, with_sequence, appended, removed}
use Rattle.request.specs.declared.Request.{Request}
use Rattle.order.specs.Model.{Side, opp, num, next_fix, first_fix}
use Rattle.rules.specs.Kinds.{head_gone, tail_put, fix_taken, entered, fix_after_miss, missed_approach}
use Rattle.field.proofs.TestLaws.{if_false, flip_eqb}
use Rattle.field.proofs.ArrivalLaws.{into_arrived_by_miss}
use Rattle.line.proofs.AheadInLists.{map_append}
use Rattle.line.proofs.Line.{zone_for, tail_for, sequence_for, order_for, appended_for, field_by, zone_by, Placed, zones_in, numbers_of, inside, zones_of, field_of}
use Rattle.line.proofs.CountedOnLine.{lower, not_13, Alternates, missed_in}
use Rattle.questions.proofs.FindLaws.{numbers}
use Rattle.line.proofs.Located.{inside_at, inside_other, head_there}
use Rattle.line.proofs.Orderly.{inside_le, length_numbers, opposite_num}
use Rattle.moves.proofs.Moves.{one_zone}
use Rattle.moves.proofs.Leaves.{head_gone_lem, sequence_left}

-- ---- fixes at the end of the line

-- the fix that one takes at the end of a list, where the first has fix f: s where the list is empty, else the next fix
abbrev pub entry_fix : Side → Side → List ℕ → Side
entry_fix s f [] = s
entry_fix s f (z ∷ zs) = next_fix (opp f) zs

next_snoc : (f : Side) (line : List Placed) (e : Placed) → next_fix f (zones_in (line ++ (e ∷ []))) ≡ opp (next_fix f (zones_in line))
next_snoc f [] e = refl
next_snoc f (x ∷ line) e = next_snoc (opp f) line e

pub next_after : (s f : Side) (line : List Placed) (e : Placed) → next_fix (first_fix s f (zones_in line)) (zones_in (line ++ (e ∷ []))) ≡ opp (entry_fix s f (zones_in line))
next_after s f [] e = refl
next_after s f (x ∷ line) e = next_snoc (opp f) line e

alternates_snoc : (f : Side) (line : List Placed) (e : Placed) → Alternates f line → e.aircraft.fix ≡ num (next_fix f (zones_in line)) → Alternates f (line ++ (e ∷ []))
alternates_snoc f [] e a h = (h, tt)
alternates_snoc f (x ∷ line) e a h = (a.0, alternates_snoc (opp f) line e a.1 h)

pub alternates_after : (s f : Side) (line : List Placed) (e : Placed) → Alternates f line → e.aircraft.fix ≡ num (entry_fix s f (zones_in line))
    → Alternates (first_fix s f (zones_in line)) (line ++ (e ∷ []))
alternates_after s f [] e a h = (h, tt)
alternates_after s f (x ∷ line) e a h = (a.0, alternates_snoc (opp f) line e a.1 h)

-- ---- one more at the tail of its zone
module _ (line : List Placed) (e : Placed) (runway : List Aircraft) (S : Sequence) (N : ℕ) (legs : Legs) (t : T (within 1 12 e.zone)) (room : length line < 4) where
  abbrev w : ℕ
  w = e.zone

  pub at_tail : with_zone (field_by (zones_of line runway) S N legs) w (with_tail (zone_of (field_by (zones_of line runway) S N legs) w) e.aircraft) ≡ field_by (zones_of (line ++ (e ∷ [])) runway) S N legs
  at_tail =
      one_zone (zones_of line runway) (zones_of (line ++ (e ∷ [])) runway) S N legs w (with_tail (zone_of (field_by (zones_of line runway) S N legs) w) e.aircraft) (lower w t)
      (ap (λ (q : Zone). with_tail q e.aircraft) (zone_by (zones_of line runway) S N legs w (lower w t) ∙ if_false (zone_for runway) (zone_for (inside w line)) (not_13 w t))
      ∙ tail_for (inside w line) e.aircraft (let p = inside_le w line in omega arith)
      ∙ sym (if_false (zone_for runway) (zone_for (inside w (line ++ (e ∷ [])))) (not_13 w t) ∙ ap zone_for (inside_at line e [])))
      (λ y u p. ap (λ (l : List Aircraft). cond (eqb y 13) (zone_for runway) (zone_for l)) (sym (inside_other y line e [] (flip_eqb y w p) ∙ append-nil (inside y line))))

-- the sequence with one more
sequence_more : (line : List Placed) (e : Placed) → length line < 4 → appended (sequence_for (numbers_of line)) e.aircraft.number ≡ sequence_for (numbers_of (line ++ (e ∷ [])))
sequence_more line e room =
    appended_for (numbers_of line) e.aircraft.number (let p = length_numbers line in omega arith)
    ∙ ap sequence_for (sym (map_append (λ (p : Placed). p.aircraft.number) line (e ∷ [])))

-- the fix and the next fix afterwards
pub ended : (s f : Side) (line : List Placed) (e : Placed) (runway : List Aircraft) (legs : Legs) → length line < 4
    → field_by (zones_of (line ++ (e ∷ [])) runway) (appended (sequence_for (numbers_of line)) e.aircraft.number) (opposite (num (entry_fix s f (zones_in line)))) legs
    ≡ field_of (first_fix s f (zones_in line)) (line ++ (e ∷ [])) runway legs
unfolding field_of
ended s f line e runway legs room =
    ap (λ (q : Sequence). field_by (zones_of (line ++ (e ∷ [])) runway) q (opposite (num (entry_fix s f (zones_in line)))) legs) (sequence_more line e room)
    ∙ ap (λ (n : ℕ). field_by (zones_of (line ++ (e ∷ [])) runway) (sequence_for (numbers_of (line ++ (e ∷ [])))) n legs)
    (opposite_num (entry_fix s f (zones_in line)) ∙ ap num (sym (next_after s f line e)))

-- ---- kinds 1 and 2
module _ (s f : Side) (line : List Placed) (runway : List Aircraft) (legs : Legs) (r : Request) (w : ℕ) (t : T (within 1 12 w)) (room : length line < 4) (side : r.side ≡ num s) where
  abbrev F : Field
  F = field_of f line runway legs

  -- the one that has come in
  abbrev pub entrant : Placed
  entrant = record { aircraft = entering r.number (num (entry_fix s f (zones_in line))) r.amount r.desk; zone = w }

  by_length : (l : List Placed) → cond (eqb (length (numbers_of l)) 0) (num s) (num (next_fix f (zones_in l))) ≡ num (entry_fix s f (zones_in l))
  by_length [] = refl
  by_length (x ∷ l) = if_false (num s) (num (next_fix f (zones_in (x ∷ l)))) (borrow.Author.Tests.ne_eqb (suc (length (numbers_of l))) 0 (λ q. omega arith))

  fix_taken_lem : fix_taken F r.side ≡ num (entry_fix s f (zones_in line))
  unfolding fix_taken field_of
  fix_taken_lem =
      ap (λ (ns : List ℕ). cond (eqb (length ns) 0) r.side (num (next_fix f (zones_in line)))) (order_for (numbers_of line))
      ∙ ap (λ (n : ℕ). cond (eqb (length (numbers_of line)) 0) n (num (next_fix f (zones_in line)))) side
      ∙ by_length line

  pub enters : entered F r w ≡ field_of (first_fix s f (zones_in line)) (line ++ (entrant ∷ [])) runway legs
  unfolding entered tail_put with_sequence field_of entering
  enters =
      ap (λ (n : ℕ). with_sequence (with_zone F w (with_tail (zone_of F w) (entering r.number n r.amount r.desk))) (appended F.sequence r.number) (opposite n)) fix_taken_lem
      ∙ ap (λ (g : Field). with_sequence g (appended F.sequence r.number) (opposite (num (entry_fix s f (zones_in line)))))
      (at_tail line entrant runway (sequence_for (numbers_of line)) (num (next_fix f (zones_in line))) legs t room)
      ∙ ended s f line entrant runway legs room

-- ---- kind 10
module _ (f : Side) (e : Placed) (b : List Placed) (runway : List Aircraft) (legs : Legs) (r : Request) (h : e.zone ≡ 12) (room : length b < 4) (fix : e.aircraft.fix ≡ num f)
    (number : r.number ≡ e.aircraft.number) (d : T (all_different (numbers_of (e ∷ b) ++ numbers runway))) where
  abbrev F₁₀ : Field
  F₁₀ = field_of f (e ∷ b) runway legs

  t : T (within 1 12 e.zone)
  t = subst (λ (z : ℕ). T (within 1 12 z)) (sym h) tt

  -- the one that has missed its approach
  abbrev pub misser : Placed
  misser = record { aircraft = given_fix (arrived_by_miss legs (missed (num f)) e.aircraft) (num (entry_fix f (opp f) (zones_in b))); zone = missed (num f) }

  head_is : aircraft_at F₁₀ 12 1 ≡ e.aircraft
  head_is = ap (λ (w : ℕ). aircraft_at F₁₀ w 1) (sym h) ∙ head_there f [] e b runway legs d t refl

  by_length₁₀ : (l : List Placed) → cond (eqb (suc (length (numbers_of l))) 1) (num f) (num (next_fix (opp f) (zones_in l))) ≡ num (entry_fix f (opp f) (zones_in l))
  by_length₁₀ [] = refl
  by_length₁₀ (x ∷ l) = if_false (num f) (num (next_fix (opp f) (zones_in (x ∷ l)))) (borrow.Author.Tests.ne_eqb (suc (suc (length (numbers_of l)))) 1 (λ q. omega arith))

  fix_after : fix_after_miss F₁₀ e.aircraft ≡ num (entry_fix f (opp f) (zones_in b))
  unfolding fix_after_miss field_of
  fix_after =
      ap (λ (ns : List ℕ). cond (eqb (length ns) 1) e.aircraft.fix (num (next_fix f (zones_in (e ∷ b))))) (order_for (numbers_of (e ∷ b)))
      ∙ ap (λ (n : ℕ). cond (eqb (length (numbers_of (e ∷ b))) 1) n (num (next_fix f (zones_in (e ∷ b))))) fix
      ∙ by_length₁₀ b

  gone : head_gone F₁₀ 12 ≡ field_by (zones_of b runway) (sequence_for (numbers_of (e ∷ b))) (num (next_fix f (zones_in (e ∷ b)))) legs
  gone = ap (head_gone F₁₀) (sym h) ∙ head_gone_lem f e b runway legs t room

  -- the field with the aircraft x at the tail of zone w and the fix n
  abbrev with_fix : Aircraft → Field → ℕ → Field
  with_fix x g n =
      with_sequence (with_zone g (missed x.fix) (with_tail (zone_of g (missed x.fix)) (given_fix (arrived_by_miss legs (missed x.fix) x) n)))
      (appended (removed F₁₀.sequence r.number) r.number) (opposite n)

  pub misses_approach : missed_approach F₁₀ r ≡ field_of (first_fix f (opp f) (zones_in b)) (b ++ (misser ∷ [])) runway legs
  unfolding missed_approach tail_put with_sequence field_of given_fix
  misses_approach =
      ap (λ (x : Aircraft). with_fix x (head_gone F₁₀ 12) (fix_after_miss F₁₀ x)) head_is
      ∙ ap (λ (n : ℕ). with_fix e.aircraft (head_gone F₁₀ 12) n) fix_after
      ∙ ap (λ (g : Field). with_fix e.aircraft g (num (entry_fix f (opp f) (zones_in b)))) gone
      ∙ ap (λ (m : ℕ). let g = field_by (zones_of b runway) (sequence_for (numbers_of (e ∷ b))) (num (next_fix f (zones_in (e ∷ b)))) legs in
      with_sequence (with_zone g (missed m) (with_tail (zone_of g (missed m)) (given_fix (arrived_by_miss legs (missed m) e.aircraft) (num (entry_fix f (opp f) (zones_in b))))))
      (appended (removed F₁₀.sequence r.number) r.number) (opposite (num (entry_fix f (opp f) (zones_in b))))) fix
      ∙ ap (λ (g : Field). with_sequence g (appended (removed F₁₀.sequence r.number) r.number) (opposite (num (entry_fix f (opp f) (zones_in b)))))
      (at_tail b misser runway (sequence_for (numbers_of (e ∷ b))) (num (next_fix f (zones_in (e ∷ b)))) legs (missed_in f) room)
      ∙ ap (λ (n : ℕ). field_by (zones_of (b ++ (misser ∷ [])) runway) (appended (removed (sequence_for (numbers_of (e ∷ b))) n) n) (opposite (num (entry_fix f (opp f) (zones_in b)))) legs) number
      ∙ ap (λ (q : Sequence). field_by (zones_of (b ++ (misser ∷ [])) runway) (appended q e.aircraft.number) (opposite (num (entry_fix f (opp f) (zones_in b)))) legs)
      (sequence_left f e b runway legs t room)
      ∙ ap (λ (n : ℕ). field_by (zones_of (b ++ (misser ∷ [])) runway) (appended (sequence_for (numbers_of b)) n) (opposite (num (entry_fix f (opp f) (zones_in b)))) legs)
      (sym (into_arrived_by_miss legs (missed (num f)) e.aircraft).number)
      ∙ ended f (opp f) b misser runway legs room
