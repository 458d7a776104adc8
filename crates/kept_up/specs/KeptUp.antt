-- The index kept up by a request; 02, 2.9, leaves open how the index is kept.
use Rattle.std.specs.Prelude.{cond, ◌&&◌, List, [], ◌∷◌, ◌++◌, map, ℕ, ◌-◌, eqb, ltb, leb}
use Rattle.request.specs.Input.{within}
use Rattle.request.specs.declared.Request.{Request}
use Rattle.field.specs.Airspace.{side_of, at3000, at2000, lateral, missed, base, intermediate, final_approach_zone, runway}
use Rattle.field.specs.declared.Sequence.{Sequence}
use Rattle.finder.specs.declared.Entry.{Entry}
use Rattle.finder.specs.declared.Index.{Index}
use Rattle.finder.specs.Finder.{unused, put_among}
use Rattle.rules.specs.Kinds.{may_approach}
use Rattle.rules.specs.Step.{by_kind}

-- ---- where a request leads

-- kind 4, from zone z, with so many in the opposite base: to the base of its side; from a lateral zone to 2000 where a need is not met (01, "The requests")
unfoldable pub approach_to : ℕ → Sequence → ℕ → ℕ → ℕ → ℕ
approach_to z s number ahead across =
    cond (within 5 6 z) (cond (may_approach s number ahead && leb across 1) (base (side_of z)) (at2000 (side_of z))) (base (side_of z))

-- kind 11, on a side with so many at 3000 and at 2000: to 2000 where nobody is at either, else to 3000 (01, "The requests")
unfoldable pub hold_to : ℕ → ℕ → ℕ → ℕ
hold_to side above below = cond (eqb above 0) (cond (eqb below 0) (at2000 side) (at3000 side)) (at3000 side)

-- the zone that a request leads to, its aircraft in zone z and its leader in zone `ahead`, with so many in the opposite base, at 3000 and at 2000 of the zone's
-- side, and with the fix of the first of final; the runway for a taxi, an exit and a tick, which lead to none
unfoldable pub leads_to : ℕ → Request → ℕ → Sequence → ℕ → ℕ → ℕ → ℕ → ℕ → ℕ
leads_to kind r z s ahead across above below fix =
    by_kind kind
    (at3000 (side_of r.side))
    (lateral (side_of r.side))
    (at2000 (side_of z))
    (approach_to z s r.number ahead across)
    intermediate
    final_approach_zone
    runway
    runway
    runway
    (missed (side_of fix))
    (hold_to (side_of z) above below)
    runway

-- the place of who comes into zone z, by the place behind those who are there: at 3000, zones 1 and 2, the first, since whoever was there makes room
unfoldable pub place_in : ℕ → ℕ → ℕ
place_in z place = cond (ltb z 3) 1 place

-- where an aircraft is after its request, by the zone that it leads to and the place behind those who are there: at its place there, or nowhere after a taxi and
-- an exit
unfoldable pub led_to : ℕ → ℕ → ℕ → ℕ → Entry
led_to kind number z place =
    cond (within 8 9 kind) (record { number = number; zone = 0; place = 0 }) (record { number = number; zone = z; place = place_in z place })

-- ---- the index after it

-- an entry after the head of zone `from` has moved to where the entry `to` says: it has become that one, and those behind it in the zone that it left move up by a
-- place
unfoldable pub moved_entry : ℕ → Entry → Entry → Entry
moved_entry from to e =
    cond (eqb e.number to.number) to
    (cond (eqb e.zone from && ltb 1 e.place) (record { number = e.number; zone = e.zone; place = e.place - 1 }) e)

-- all entries after that
abbrev pub moved_entries : ℕ → Entry → List Entry → List Entry
moved_entries from to es = map (moved_entry from to) es

-- an entry after who was alone at 3000 of a side has descended, to be alone at 2000 (02, 2.5)
unfoldable pub descended_entry : ℕ → Entry → Entry
descended_entry side e = cond (eqb e.zone side) (record { number = e.number; zone = at2000 side; place = 1 }) e

-- all entries after that
abbrev pub descended_entries : ℕ → List Entry → List Entry
descended_entries side es = map (descended_entry side) es

-- the entries without that of a number: those behind it close the gap, and the last place is unused
abbrev pub without : ℕ → List Entry → List Entry
without number [] = []
without number (e ∷ es) = cond (eqb e.number number) (es ++ (unused ∷ [])) (e ∷ without number es)

-- entries after an aircraft has gone from the head of zone `from`, or from outside the field where that is 0, to where the entry `to` says
abbrev pub arrived_at : ℕ → Entry → List Entry → List Entry
arrived_at from to es = cond (eqb from 0) (put_among to es) (moved_entries from to es)

-- the index after that: to zone 0 it has left the field, and at 3000, zones 1 and 2, whoever was there has made room
unfoldable pub kept_up : ℕ → Entry → Index → Index
kept_up from to i =
    cond (eqb to.zone 0) (record { entries = moved_entries from unused (without to.number i.entries) })
    (cond (ltb to.zone 3) (record { entries = arrived_at from to (descended_entries to.zone i.entries) })
    (record { entries = arrived_at from to i.entries }))
