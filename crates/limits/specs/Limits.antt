-- The limits of documents 01 and 02 that several definitions and theorems speak of, each by one name, with the place where the documents set it.
use Rattle.std.specs.Prelude.{ℕ, ◌+◌, ◌*◌}

-- the longest tick, in 64ths of a minute (01, "Turned away by the request or the file", 4)
abbrev pub longest_tick : ℕ
longest_tick = 64

-- the highest speed, in 64ths of a nautical mile a minute (01, "Turned away by the request or the file", 4, and "The bounds", g)
abbrev pub fastest : ℕ
fastest = 512

-- the longest leg of a practice file, in 64ths of a mile (01, "Turned away by the request or the file", 7)
abbrev pub longest_leg : ℕ
longest_leg = 4096

-- the same length in miles, as a field holds it (01, "The bounds", g)
abbrev pub longest_leg_miles : ℕ
longest_leg_miles = 64

-- the longest leg of an aircraft's own, in miles, the missed leg and the whole of final (02, 2.7)
abbrev pub longest_own_leg_miles : ℕ
longest_own_leg_miles = 128

-- the most requests of a practice file (02, 2.11)
abbrev pub most_requests : ℕ
most_requests = 4096

-- the longest body 2 of a practice file, six bytes for each request: 24,576 bytes (01, "The practice file")
abbrev pub longest_body : ℕ
longest_body = 6 * most_requests

-- the longest practice file, that body and the 34 bytes before it: 24,610 bytes (01, "Turned away by the request or the file", 5)
abbrev pub longest_file : ℕ
longest_file = 34 + longest_body

-- the most moves from one entry or miss to the next, on a field that requests reach from the empty one (02, 2.14)
abbrev pub most_moves : ℕ
most_moves = 27

-- the desks that share the field: 1 and 2 (02, 2.10)
abbrev pub desks : ℕ
desks = 2

-- how many fields are kept at most, each the one before an accepted request (02, 2.13)
abbrev pub most_kept : ℕ
most_kept = 8

-- the most miles past the ends of legs that are added up of an aircraft (02, 2.2)
abbrev pub most_waited : ℕ
most_waited = 4096

-- the most ticks of `longest_tick` after which every leg is flown out: the longest of an aircraft's own at the lowest speed (02, 2.6 and 2.7)
abbrev pub most_ticks : ℕ
most_ticks = 8192

-- the presses by which the button empties every field that requests reach: as many moves as there can be, each after as many ticks (02, 2.6, 2.7 and 2.14)
abbrev pub most_presses : ℕ
most_presses = most_moves * (most_ticks + 1)
