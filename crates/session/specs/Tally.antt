-- Document 01, "The practice file": the closing counts, of a list of answers and answer by answer. Definitions only.
use Rattle.std.specs.Prelude.{ℕ, ◌+◌, ◌<◌, List, eqb}
use Rattle.request.specs.declared.Request.{Request}
use Rattle.request.specs.Input.{is_entry}
use Rattle.rules.specs.declared.Answer.{Answer}
use Rattle.rules.specs.Play.{let_in, taxied_off, exited_from, misses}
use Rattle.playing.specs.Log.{of_kinds}
use Rattle.session.specs.declared.tally.Tally.{Tally}

-- the closing counts of a list of answers: those of demand 3 (01, "Any list of requests"), and the misses
unfoldable pub tally_of : List (Request × Answer) → Tally
tally_of ps = record { entries = let_in ps; taxis = taxied_off ps; exits = exited_from ps; misses = misses ps }

-- the counts before the first request
abbrev pub empty_tally : Tally
empty_tally = record { entries = 0; taxis = 0; exits = 0; misses = 0 }

-- the counts with one more request, of this kind and answered with this number
unfoldable pub tallied : Tally → ℕ → ℕ → Tally
tallied t kind number =
    record {
      entries = t.entries + of_kinds is_entry kind number;
      taxis = t.taxis + of_kinds (λ k. eqb k 8) kind number;
      exits = t.exits + of_kinds (λ k. eqb k 9) kind number;
      misses = t.misses + of_kinds (λ k. eqb k 10) kind number;
    }

-- each count is below n
pub record Under (n : ℕ) (t : Tally) : Type 0 where
  pub entries : t.entries < n
  pub taxis : t.taxis < n
  pub exits : t.exits < n
  pub misses : t.misses < n
