-- The landing order as a finite model: the zones of the landing sequence, first to land first, and the fix of the first. Fixes alternate,
-- so that those two say where everyone in the operation area is and what its fix is; numbers, speeds and miles are left out.
-- The tests of the moves are those of document 01, "The requests", said of such a list.
use Rattle.std.specs.Prelude.{Bool, true, false, cond, not, ◌&&◌, ◌||◌, List, [], ◌∷◌, ◌++◌, ℕ, suc, ◌+◌, ◌-◌, ◌*◌, ◌/◌, ◌%◌, leb, ltb, eqb, length, get_or}
use Rattle.request.specs.Input.{within}
use Rattle.field.specs.Airspace.{opposite, side_of, at3000, at2000, lateral, missed, base, area, approach, operation}
use Rattle.field.specs.Lists.{is_in, every}
use Rattle.questions.specs.Counts.{total}

-- ---- sides, right and left as a type of their own
pub data Side : Type 0 where
  right_side left_side : Side

-- the opposite side
abbrev pub opp : Side → Side
opp right_side = left_side
opp left_side = right_side

-- the number of a side (01, "The boxes")
abbrev pub num : Side → ℕ
num right_side = 1
num left_side = 2

-- the next fix, where the first of the list has fix f: the opposite of the last one's; f where the list is empty
abbrev pub next_fix : Side → List ℕ → Side
next_fix f [] = f
next_fix f (z ∷ zs) = next_fix (opp f) zs

-- ---- who is where

-- how many are in zone w
abbrev pub count : List ℕ → ℕ → ℕ
count [] w = 0
count (z ∷ zs) w = cond (eqb z w) 1 0 + count zs w

-- how many in zone w have fix s, where the first has fix f
abbrev pub count_fix : Side → List ℕ → ℕ → ℕ → ℕ
count_fix f [] s w = 0
count_fix f (z ∷ zs) s w = cond (eqb (num f) s && eqb z w) 1 0 + count_fix (opp f) zs s w

-- the potential number of side s
abbrev pub potential : Side → List ℕ → ℕ → ℕ
potential f zs s = total (λ z. cond (is_in z (area s)) (count zs z) (count_fix f zs s z)) operation

-- whether z is empty
abbrev pub free : List ℕ → ℕ → Bool
free zs z = eqb (count zs z) 0

-- whether a list is empty
abbrev pub is_nil : List ℕ → Bool
is_nil [] = true
is_nil (z ∷ zs) = false

-- the last of a list, else d: the zone of the leader of the one behind the list
abbrev pub last_or : ℕ → List ℕ → ℕ
last_or d [] = d
last_or d (z ∷ zs) = last_or z zs

-- ---- the moves, of the one in zone z with zs₁ ahead of it and zs₂ behind it

-- kinds 3, 4, 5, 6, and 11 where 3000 is empty
pub data Kind : Type 0 where
  descend approaching merge final hold : Kind

-- what an approach needs of the order: nobody is ahead, or the nearest ahead, the leader, is on the approach; and no more than one is on the opposite base
abbrev pub may_come_to_base : List ℕ → ℕ → List ℕ → Bool
may_come_to_base zs₁ z zs₂ =
    (is_nil zs₁ || within 9 12 (last_or 0 zs₁)) && leb (count (zs₁ ++ z ∷ zs₂) (base (opposite (side_of z)))) 1

-- what the kind needs
abbrev pub needs : Kind → List ℕ → ℕ → List ℕ → Bool
needs descend zs₁ z zs₂ = within 1 2 z && free (zs₁ ++ z ∷ zs₂) (at2000 z)
needs approaching zs₁ z zs₂ = within 3 6 z && (within 5 6 z || may_come_to_base zs₁ z zs₂)
needs merge zs₁ z zs₂ = within 9 10 z && (is_nil zs₁ || within 11 12 (last_or 0 zs₁))
needs final zs₁ z zs₂ = eqb z 11
needs hold zs₁ z zs₂ = within 7 8 z && free (zs₁ ++ z ∷ zs₂) (at3000 (side_of z))

-- where the kind leads
abbrev pub target : Kind → List ℕ → ℕ → List ℕ → ℕ
target descend zs₁ z zs₂ = at2000 z
target approaching zs₁ z zs₂ = cond (may_come_to_base zs₁ z zs₂) (base (side_of z)) (at2000 (side_of z))
target merge zs₁ z zs₂ = 11
target final zs₁ z zs₂ = 12
target hold zs₁ z zs₂ = cond (free (zs₁ ++ z ∷ zs₂) (at2000 (side_of z))) (at2000 (side_of z)) (at3000 (side_of z))

-- ---- entries

-- kind 1, vertical entry on side s: all that it needs but an empty 3000, ..
abbrev pub may_come_in : Side → List ℕ → ℕ → Bool
may_come_in f zs s = ltb (potential f zs s) 2 && eqb (total (count_fix f zs s) approach) 0 && free zs (missed s) && free zs (lateral s)

-- .. and that too
abbrev pub may_enter : Side → List ℕ → ℕ → Bool
may_enter f zs s = may_come_in f zs s && free zs (at3000 s)

-- kind 2, lateral entry on side s
abbrev pub may_enter_lateral : Side → List ℕ → ℕ → Bool
may_enter_lateral f zs s = eqb (potential f zs s) 0

-- the fix of the first once another has come to the end of the list: its own, s, where the list was empty
abbrev pub first_fix : Side → Side → List ℕ → Side
first_fix s f [] = s
first_fix s f (z ∷ zs) = f

-- ---- the invariant

-- two zones of one side's area
abbrev pub are_in_one_area : ℕ → ℕ → Bool
are_in_one_area z w = leb z 8 && leb w 8 && eqb (z % 2) (w % 2)

-- w is in the area of side s
abbrev pub of_area : Side → ℕ → Bool
of_area s w = leb w 8 && eqb (w % 2) (num s % 2)

-- whether a zone is a lateral one
abbrev pub is_lateral : ℕ → Bool
is_lateral z = within 5 6 z

-- 1 where the test holds, else 0
abbrev pub one : Bool → ℕ
one b = cond b 1 0

-- how far along the approach: base 1, intermediate 2, final 3, not on the approach 0
abbrev pub rank : ℕ → ℕ
rank z = one (leb 9 z) + one (leb 11 z) + one (leb 12 z)

-- the height within an area: 2000 and lateral 0, 3000 1, missed 2
abbrev pub height : ℕ → ℕ
height z = one (leb z 2) + 2 * one (leb 7 z)

-- how many pass the test
abbrev pub pass_count : (ℕ → Bool) → List ℕ → ℕ
pass_count p [] = 0
pass_count p (z ∷ zs) = one (p z) + pass_count p zs

-- one in zone z with fix f may be ahead of one in zone w: the approach does not run ahead of itself; nobody else is in a zone of 1 to 6;
-- heights in an area do not fall, and a lateral zone has its area alone; and nobody ahead of a lateral zone has that side as fix
abbrev pub may_lead : Side → ℕ → ℕ → Bool
may_lead f z w =
    leb (rank w) (rank z)
    && not (leb z 6 && eqb z w)
    && not (are_in_one_area z w && (is_lateral z || is_lateral w || ltb (height w) (height z)))
    && not (is_lateral w && of_area f w)

-- one in zone z with fix f at the head of zs: those behind may follow it, and at most one of them is in its area
abbrev pub may_head : Side → ℕ → List ℕ → Bool
may_head f z zs = within 1 12 z && every (may_lead f z) zs && leb (pass_count (are_in_one_area z) zs) 1

-- mayHead holds of each one and those behind it
abbrev pub chain : Side → List ℕ → Bool
chain f [] = true
chain f (z ∷ zs) = may_head f z zs && chain (opp f) zs

-- room to miss: of each one, with k ahead of it, those behind it in the area of its fix and those ahead of it with the same fix are one
-- at most
abbrev pub room_in_order : ℕ → Side → List ℕ → Bool
room_in_order k f [] = true
room_in_order k f (z ∷ zs) = leb (pass_count (of_area f) zs + k / 2) 1 && room_in_order (suc k) (opp f) zs

-- the invariant of the landing order
unfoldable pub okay : Side → List ℕ → Bool
okay f zs = leb (length zs) 4 && chain f zs && room_in_order 0 f zs

-- ---- the weight

-- at most so many moves are left for one in zone z, as long as it does not miss its approach
abbrev moves_from : ℕ → ℕ
moves_from z = get_or (0 ∷ 6 ∷ 6 ∷ 5 ∷ 5 ∷ 6 ∷ 6 ∷ 7 ∷ 7 ∷ 4 ∷ 4 ∷ 3 ∷ 2 ∷ []) z 0

-- so many for those in the sequence, each by itself
abbrev moves_each : List ℕ → ℕ
moves_each [] = 0
moves_each (z ∷ zs) = moves_from z + moves_each zs

-- one less for side s where its missed zone is occupied while both its holdings are empty: the first of that zone holds at 2000, and does
-- not come by 3000
abbrev one_less : List ℕ → ℕ → ℕ
one_less zs s = one (not (free zs (missed s)) && free zs (at3000 s) && free zs (at2000 s))

-- at most so many moves are left for those in the sequence, as long as nobody enters or misses its approach
unfoldable pub weight : List ℕ → ℕ
weight zs = moves_each zs - (one_less zs 1 + one_less zs 2)

-- the weight of an okay sequence at the most, 13 for each side: with one move more, for the one on the runway, the 27 of document 02, 2.14
abbrev pub heaviest : ℕ
heaviest = 26
