-- Document 01, "Played by hand": the marked cases, each a list of requests from the empty field, with the answer to the last of them
-- and, where the document says more, a test of the field after it.
use Rattle.std.specs.Prelude.{Bool, true, false, ◌&&◌, List, [], ◌∷◌, ℕ, eqb}
use Rattle.leg.specs.Progress.{whole, flown_out}
use Rattle.request.specs.declared.Request.{Request}
use Rattle.field.specs.declared.Legs.{Legs}
use Rattle.field.specs.declared.Field.{Field}
use Rattle.field.specs.Airspace.{legs_in64ths, empty_field, order_of}
use Rattle.questions.specs.Find.{place_of, aircraft_at}
use Rattle.rules.specs.declared.Answer.{Answer}
use Rattle.rules.specs.Step.{number_and_zeros}
use Rattle.rules.specs.Play.{field_after, played}

-- a request of desk 1 by its four parts
abbrev pub ask : ℕ → ℕ → ℕ → ℕ → Request
ask kind side number amount = record { kind = kind; side = side; number = number; amount = amount; desk = 1 }

-- an answer by its parts after the number 0
abbrev pub says : ℕ → ℕ → ℕ → ℕ → ℕ → Answer
says aircraft zone fix leader along = record { number = 0; aircraft = aircraft; zone = zone; fix = fix; leader = leader; along = along }

-- four legs of so many 64ths of a mile
abbrev pub all_legs : ℕ → Legs
all_legs k = legs_in64ths k k k k

-- a case: the length of all four legs in 64ths of a mile, the requests, the answer to the last of them, and a test of the field after it
pub record Case : Type 0 where
  pub leg : ℕ
  pub requests : List Request
  pub answer : Answer
  pub after : Field → Bool

-- ---- tests of the field

-- none
abbrev pub any_field : Field → Bool
any_field f = true

-- whether two lists of numbers are the same
abbrev pub same_numbers : List ℕ → List ℕ → Bool
same_numbers [] [] = true
same_numbers [] (n ∷ ns) = false
same_numbers (m ∷ ms) [] = false
same_numbers (m ∷ ms) (n ∷ ns) = eqb m n && same_numbers ms ns

-- whether the landing sequence is this list
abbrev pub in_order : List ℕ → Field → Bool
in_order ns f = same_numbers (order_of f.sequence) ns

-- whether the one with a number is in a zone
abbrev pub stands_in : ℕ → ℕ → Field → Bool
stands_in number zone f = eqb (place_of f number).zone zone

-- whether the head of a zone has flown so many miles
abbrev pub has_flown : ℕ → ℕ → Field → Bool
has_flown zone miles f = flown_out (aircraft_at f zone 1).progress (whole miles)

-- ---- the way to final and back, by aircraft 7 and others on legs of one mile at one mile a minute

-- from 3000 by 2000 to base
abbrev pub to_base : ℕ → List Request → List Request
to_base n rest = ask 3 0 n 0 ∷ ask 4 0 n 0 ∷ rest

-- from base to final, each leg flown out by a tick
abbrev pub to_final : ℕ → List Request → List Request
to_final n rest = ask 12 0 0 64 ∷ ask 5 0 n 0 ∷ ask 12 0 0 64 ∷ ask 6 0 n 0 ∷ rest

-- the marked cases, in the order of the document
abbrev pub marked : List Case
marked =
    -- a vertical entry on the empty field takes its own side as fix
    record { leg = 64; requests = ask 1 1 7 64 ∷ []; answer = says 7 1 1 0 0; after = any_field }
    -- another on that side is let in since 2.5 (02): the first descends, and is in `along`
    ∷ record { leg = 64; requests = ask 1 1 7 64 ∷ ask 1 1 8 64 ∷ []; answer = says 8 1 2 7 7; after = λ f. in_order (7 ∷ 8 ∷ []) f && stands_in 7 3 f }
    -- another on the left takes the next fix, and has the first as its leader
    ∷ record { leg = 64; requests = ask 1 1 7 64 ∷ ask 1 2 8 64 ∷ []; answer = says 8 2 2 7 0; after = any_field }
    -- another with the number of the first: 11
    ∷ record { leg = 64; requests = ask 1 1 7 64 ∷ ask 1 2 7 64 ∷ []; answer = number_and_zeros 11; after = any_field }
    -- a lateral entry on the empty field
    ∷ record { leg = 64; requests = ask 2 1 7 64 ∷ []; answer = says 7 5 1 0 0; after = any_field }
    -- beside it, a vertical entry on that side is answered 19, and a lateral one 16
    ∷ record { leg = 64; requests = ask 2 1 7 64 ∷ ask 1 1 8 64 ∷ []; answer = number_and_zeros 19; after = any_field }
    ∷ record { leg = 64; requests = ask 2 1 7 64 ∷ ask 2 1 8 64 ∷ []; answer = number_and_zeros 16; after = any_field }
    -- the approach of one that entered laterally and has nobody ahead
    ∷ record { leg = 64; requests = ask 2 1 7 64 ∷ ask 4 0 7 0 ∷ []; answer = says 7 9 1 0 0; after = any_field }
    -- one that is alone and misses keeps its fix
    ∷ record {
      leg = 64;
      requests = ask 1 1 7 64 ∷ to_base 7 (to_final 7 (ask 10 0 7 0 ∷ []));
      answer = says 7 7 1 0 0;
      after = any_field;
    }
    -- the first of two misses: it goes to the right, its old fix, takes the next fix, which is right again, and is last
    ∷ record {
      leg = 64;
      requests = ask 1 1 7 64 ∷ ask 1 2 8 64 ∷ to_base 7 (to_final 7 (ask 10 0 7 0 ∷ []));
      answer = says 7 7 1 8 0;
      after = in_order (8 ∷ 7 ∷ []);
    }
    -- a hold where somebody is at 3000 moves both: 7 misses at the start of final, and has both legs ahead (02, 2.7)
    ∷ record {
      leg = 64;
      requests = ask 1 1 7 64 ∷ ask 3 0 7 0 ∷ ask 1 1 8 64 ∷ ask 4 0 7 0 ∷ to_final 7 (ask 10 0 7 0 ∷ ask 12 0 0 64 ∷ ask 12 0 0 64 ∷ ask 11 0 7 0 ∷ []);
      answer = says 7 1 1 8 8;
      after = λ f. stands_in 7 1 f && stands_in 8 3 f;
    }
    -- an approach from the right where two are on base left: 23
    ∷ record {
      leg = 64;
      requests = ask 1 2 7 64 ∷ ask 3 0 7 0 ∷ ask 1 2 8 64 ∷ ask 4 0 7 0 ∷ ask 1 1 9 64 ∷ to_base 8 (to_base 9 []);
      answer = number_and_zeros 23;
      after = λ f. in_order (7 ∷ 8 ∷ 9 ∷ []) f && stands_in 7 10 f && stands_in 8 10 f && stands_in 9 3 f;
    }
    -- the highest speed and the longest tick give 8 miles on the longest leg
    ∷ record {
      leg = 4096;
      requests = ask 1 1 7 512 ∷ to_base 7 (ask 12 0 0 64 ∷ []);
      answer = number_and_zeros 0;
      after = has_flown 9 8;
    }
    ∷ []

-- ---- the test of the table

-- whether two answers are the same
abbrev pub same_answer : Answer → Answer → Bool
same_answer a b =
    eqb a.number b.number && eqb a.aircraft b.aircraft && eqb a.zone b.zone && eqb a.fix b.fix
    && eqb a.leader b.leader && eqb a.along b.along

-- whether the last answer of a played list is this one
abbrev pub ends_with : Answer → List (Request × Answer) → Bool
ends_with a [] = false
ends_with a (p ∷ []) = same_answer p.1 a
ends_with a (p ∷ q ∷ ps) = ends_with a (q ∷ ps)

-- whether the requests of a case are answered so, and its field passes the test
abbrev pub case_holds : Case → Bool
case_holds c =
    ends_with c.answer (played (empty_field (all_legs c.leg)) c.requests)
    && c.after (field_after (empty_field (all_legs c.leg)) c.requests)
