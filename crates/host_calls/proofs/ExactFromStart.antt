-- From a history that calls may start from, with legs in whole 64ths, after any list of a host's calls that go on, distances are exact, and so are the gaps that
-- a legal spacing asked then tells of. Assumes nothing.
use mathlib.Core.Path.{◌≡◌, ap, subst⁻¹, ◌∙◌}
use mathlib.Core.Bool.{true}
use mathlib.Core.List.{List}
use Prim.Native.Nat.{ℕ}
use lib.Dec.{T}
use Rattle.field.specs.declared.Field.{Field}
use Rattle.field.specs.Lists.{every}
use Rattle.field.proofs.TestLaws.{passed, if_true}
use Rattle.rules.specs.Start.{empty_start}
use Rattle.rules.specs.Play.{field_after, played}
use Rattle.reason.proofs.Reason.{start_sound}
use Rattle.demand.specs.Exact.{WholeLegs, in_miles, ExactOf}
use Rattle.demand.proofs.Exact.{exactness}
use Rattle.gaps.specs.Gaps.{legal_spacing, gaps_of}
use Rattle.exact_gaps.proofs.ExactGaps.{exact_gaps}
use Rattle.history.specs.declared.History.{History}
use Rattle.history.specs.History.{history_at_start, within_bounds_history}
use Rattle.taken_back.specs.TakenBack.{Follows}
use Rattle.taken_back.proofs.Starts.{starts}
use Rattle.taken_back.proofs.Calls.{bounded, taken_back}
use Rattle.taken_back.proofs.Follows.{field_now}
use Rattle.host.specs.Calls.{HostCall, spacings_of}
use Rattle.host_calls.specs.HostCalls.{left_by_all}
use Rattle.host_calls.specs.FromStart.{goes_on, all_calls_of, requests_left, FromStartExactlyOf, FromStartExactly}
use Rattle.host_calls.proofs.FromStart.{all_calls}

module _ (w : WholeLegs) (first : History) (p : T (history_at_start first)) (whole : first.now.field.legs ≡ in_miles w) (cs : List HostCall) (t : T (every goes_on cs)) where
  abbrev f : Field
  f = first.now.field

  abbrev left : History
  left = left_by_all first cs

  empty : T (empty_start f)
  empty = (starts first p).empty

  -- what is left follows the requests
  follows : Follows f left (requests_left first cs)
  follows = subst⁻¹ (λ (h : History). Follows f h (requests_left first cs)) (all_calls first cs t) (taken_back first p (all_calls_of first cs)).follows

  -- so its field is the one that they reach
  field_left : left.now.field ≡ field_after f (requests_left first cs)
  field_left = field_now f left (requests_left first cs) follows

  within_then : within_bounds_history left ≡ true
  within_then = bounded f (start_sound f empty) left (requests_left first cs) follows

  spacing_then : (n : ℕ) → T (legal_spacing n) → spacings_of left n ≡ gaps_of (field_after f (requests_left first cs)) n
  unfolding spacings_of
  spacing_then n legal = if_true _ _ (passed {b = legal_spacing n} legal) ∙ if_true _ _ within_then ∙ ap (λ (g : Field). gaps_of g n) field_left

  exactly : FromStartExactlyOf w first cs
  exactly = record {
    exact = subst⁻¹ (λ (g : Field). ExactOf w (played f (requests_left first cs)) g) field_left (exactness w f empty whole (requests_left first cs));
    spacing = spacing_then;
    gaps = λ n legal. exact_gaps w f empty whole (requests_left first cs) n legal;
  }

pub from_start_exactly : FromStartExactly
from_start_exactly w first p whole cs t = exactly w first p whole cs t
