-- The start, every request and every step back leave a history whose arrays have their places and whose floats are of 64 bits (`HistoryHeld`). Assumes nothing.
use mathlib.Core.Path.{◌≡◌, refl, ◌∙◌}
use mathlib.Core.List.{List, [], ◌∷◌, map}
use Prim.Native.Nat.{ℕ, ◌-◌}
use native.Mathlib.Omega.{arith}
use lib.Dec.{eqb, ltb}
use lib.Ieee.{binary64}
use lib.Ieee.Fits.{div-fits}
use lib.ListN.{length, drop, replicate, length-set}
use Rattle.limits.specs.Limits.{most_kept}
use Rattle.request.specs.declared.Request.{Request}
use Rattle.leg.specs.Progress.{whole}
use Rattle.field.specs.declared.Legs.{Legs}
use Rattle.field.specs.declared.Field.{Field}
use Rattle.field.specs.Airspace.{everywhere, legs_in64ths, empty_field}
use Rattle.field.proofs.TestLaws.{either_way}
use Rattle.questions.specs.Find.{numbers_in}
use Rattle.finder.specs.declared.Entry.{Entry}
use Rattle.finder.specs.declared.Indexed.{Indexed}
use Rattle.finder.specs.Finder.{unused, entry_of, put_among, put_each, index_of}
use Rattle.finder.proofs.Putting.{put_length}
use Rattle.rules.specs.Step.{step_of}
use Rattle.indexed.specs.Indexed.{with_index}
use Rattle.owners.proofs.EachOfList.{each_drop, each_append, each_set, each_at}
use Rattle.history.specs.declared.History.{History}
use Rattle.history.specs.declared.SteppedHistory.{SteppedHistory}
use Rattle.history.specs.History.{start_with, start_of, keeping, number_history, step_history, number_back, field_given_back, step_back}
use Rattle.history.proofs.MovedUp.{moved_length}
use Rattle.layout.specs.Held.{MilesHeld, LegsWith, FieldWith, IndexedWith, HistoryHeld}
use Rattle.layout.proofs.StaysHeld.{step_held, empty_field_held}

abbrev In : Indexed → Type 0
In = IndexedWith MilesHeld

-- ---- a field with its own index
put_each_length : (xs es : List Entry) → length (put_each xs es) ≡ length es
put_each_length [] es = refl
put_each_length (x ∷ xs) es = put_each_length xs (put_among x es) ∙ put_length x es

pub with_index_held : (f : Field) → FieldWith MilesHeld f → In (with_index f)
unfolding with_index index_of
with_index_held f h = record { field = h; entries = put_each_length (map (entry_of f) (numbers_in f everywhere)) (replicate 5 unused) }

-- ---- the start
pub start_with_held : (x : Indexed) → In x → HistoryHeld (start_with x)
unfolding start_with
start_with_held x h =
    let e = with_index_held (empty_field x.field.legs) (empty_field_held x.field.legs h.field.legs) in
    record { now = h; places = refl; kept = (e, (e, (e, (e, (e, (e, (e, (e, tt)))))))) }

pub start_held : (legs : Legs) → LegsWith MilesHeld legs → HistoryHeld (start_of legs)
unfolding start_of
start_held legs l = start_with_held (with_index (empty_field legs)) (with_index_held (empty_field legs) (empty_field_held legs l))

-- legs in 64ths of a mile
pub legs_in_64ths_held : (missed base intermediate final_leg : ℕ) → LegsWith MilesHeld (legs_in64ths missed base intermediate final_leg)
legs_in_64ths_held missed base intermediate final_leg = record {
  missed = div-fits binary64 (whole missed) (whole 64);
  base = div-fits binary64 (whole base) (whole 64);
  intermediate = div-fits binary64 (whole intermediate) (whole 64);
  final_leg = div-fits binary64 (whole final_leg) (whole 64);
}

-- ---- a request
keeping_held : (h : History) (next : Indexed) → HistoryHeld h → In next → HistoryHeld (keeping h next)
unfolding keeping
keeping_held h next p k =
    let n = p.places in
    either_way HistoryHeld (ltb h.count most_kept) _ _
    (λ e. record { now = k; places = length-set h.kept h.count h.now ∙ n; kept = each_set In h.kept h.count h.now p.kept p.now })
    (λ e. record {
      now = k;
      places = moved_length h.kept h.now (omega (arith, n)) ∙ n;
      kept = each_append In (drop 1 h.kept) (h.now ∷ []) (each_drop In 1 h.kept p.kept) (p.now, tt);
    })

pub step_history_held : (h : History) (r : Request) → HistoryHeld h → HistoryHeld (step_history h r).after
unfolding step_history
step_history_held h r p =
    let f = h.now.field in
    either_way (λ (s : SteppedHistory). HistoryHeld s.after) (eqb (number_history h r) 0) _ _
    (λ e. keeping_held h (with_index (step_of f r).field) p (with_index_held (step_of f r).field (step_held f r p.now.field)))
    (λ e. p)

-- ---- a step back
pub step_back_held : (h : History) (desk : ℕ) → HistoryHeld h → HistoryHeld (step_back h desk).after
unfolding step_back field_given_back
step_back_held h desk p =
    either_way (λ (s : SteppedHistory). HistoryHeld s.after) (eqb (number_back h desk) 0) _ _
    (λ e. record { now = each_at In h.kept (h.count - 1) h.now p.kept p.now; places = p.places; kept = p.kept })
    (λ e. p)
