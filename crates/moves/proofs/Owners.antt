-- The desks of those on a line and on the runway, and how many of them pass a test: all of them, or those of one desk (02, 2.10). Assumes nothing.
use mathlib.Core.Path.{◌≡◌, refl, ap}
use mathlib.Core.Bool.{Bool, true, false, cond}
use mathlib.Core.List.{List, [], ◌∷◌, ◌++◌, map}
use Prim.Native.Nat.{ℕ, ◌+◌}
use native.Mathlib.Omega.{arith}
use lib.Dec.{T, eqb}
use lib.ListN.{length, length-map}
use lib.Ieee.Fits.{and_l, and_r}
use Rattle.request.specs.Input.{within}
use Rattle.field.specs.Airspace.{operation}
use Rattle.questions.specs.Counts.{total, owned_by}
use Rattle.field.specs.declared.Aircraft.{Aircraft}
use Rattle.field.specs.Lists.{every}
use Rattle.order.specs.Model.{one}
use Rattle.laws.proofs.TickLaws.{desk_kept}
use Rattle.line.proofs.AheadInLists.{map_append}
use Rattle.line.proofs.Line.{Placed, zones_in, inside}
use Rattle.line.proofs.CountedOnLine.{total_same, total_add, total_none, one_each}
use Rattle.moves.proofs.TickOnLine.{tick_placed}

-- how many desks of a list pass the test
abbrev pub passing : (ℕ → Bool) → List ℕ → ℕ
passing who [] = 0
passing who (d ∷ ds) = one (who d) + passing who ds

-- the desks along a line, and on the runway
abbrev pub desks_in : List Placed → List ℕ
desks_in line = map (λ (p : Placed). p.aircraft.desk) line

abbrev pub desks_on : List Aircraft → List ℕ
desks_on runway = map (λ (a : Aircraft). a.desk) runway

-- those of a line and of the runway
abbrev pub owners : (ℕ → Bool) → List Placed → List Aircraft → ℕ
owners who line runway = passing who (desks_in line) + passing who (desks_on runway)

pub passing_append : (who : ℕ → Bool) (xs ys : List ℕ) → passing who (xs ++ ys) ≡ passing who xs + passing who ys
passing_append who [] ys = omega arith
passing_append who (x ∷ xs) ys = let p = passing_append who xs ys in omega arith

-- one more at the end of a line
pub one_more : (who : ℕ → Bool) (line : List Placed) (e : Placed) → passing who (desks_in (line ++ (e ∷ []))) ≡ passing who (desks_in line) + one (who e.aircraft.desk)
one_more who line e =
    let p = ap (passing who) (map_append (λ (p : Placed). p.aircraft.desk) line (e ∷ [])) in
    let q = passing_append who (desks_in line) (e.aircraft.desk ∷ []) in
    omega arith

-- another one of the same desk in its place
pub same_desks : (a : List Placed) (e g : Placed) (b : List Placed) → g.aircraft.desk ≡ e.aircraft.desk → desks_in (a ++ g ∷ b) ≡ desks_in (a ++ e ∷ b)
same_desks [] e g b h = ap (λ (d : ℕ). d ∷ desks_in b) h
same_desks (x ∷ a) e g b h = ap (λ (l : List ℕ). x.aircraft.desk ∷ l) (same_desks a e g b h)

-- a tick changes no desk
pub desks_ticked : (amount : ℕ) (line : List Placed) → desks_in (map (tick_placed amount) line) ≡ desks_in line
desks_ticked amount [] = refl
desks_ticked amount (e ∷ line) = λ i. desk_kept amount e.zone e.aircraft i ∷ desks_ticked amount line i

-- those of one desk: zone by zone, and along the line
pub owned_in : (desk : ℕ) (line : List Placed) → T (every (within 1 12) (zones_in line)) → total (λ z. owned_by desk (inside z line)) operation ≡ passing (λ d. eqb d desk) (desks_in line)
owned_in desk [] t = total_none operation
owned_in desk (e ∷ line) t =
    let n = one (eqb e.aircraft.desk desk) in
    let a = total_same (λ z. owned_by desk (inside z (e ∷ line))) (λ z. cond (eqb e.zone z) n 0 + owned_by desk (inside z line)) operation tt (λ z u. here (eqb e.zone z) z) in
    let b = total_add (λ z. cond (eqb e.zone z) n 0) (λ z. owned_by desk (inside z line)) operation in
    let c = one_each n e.zone (and_l (within 1 12 e.zone) (every (within 1 12) (zones_in line)) t) in
    let d = owned_in desk line (and_r (within 1 12 e.zone) (every (within 1 12) (zones_in line)) t) in
    omega arith
  where
    here : (b : Bool) (z : ℕ) → owned_by desk (cond b (e.aircraft ∷ inside z line) (inside z line)) ≡ cond b (one (eqb e.aircraft.desk desk)) 0 + owned_by desk (inside z line)
    here true z = refl
    here false z = omega arith

pub owned_on : (desk : ℕ) (runway : List Aircraft) → owned_by desk runway ≡ passing (λ d. eqb d desk) (desks_on runway)
owned_on desk [] = refl
owned_on desk (x ∷ runway) = ap (λ (n : ℕ). one (eqb x.desk desk) + n) (owned_on desk runway)

-- all of them
passing_all : (ds : List ℕ) → passing (λ d. true) ds ≡ length ds
passing_all [] = refl
passing_all (d ∷ ds) = let p = passing_all ds in omega arith

pub owners_all : (line : List Placed) (runway : List Aircraft) → owners (λ d. true) line runway ≡ length line + length runway
owners_all line runway =
    let a = passing_all (desks_in line) in
    let b = passing_all (desks_on runway) in
    let c = length-map line (λ (p : Placed). p.aircraft.desk) in
    let d = length-map runway (λ (x : Aircraft). x.desk) in
    omega arith
