-- Laws of the closing counts: one request counted by its kind, and the counts of a list. Assumes nothing.
use mathlib.Core.Path.{◌≡◌, refl, sym, ap, ◌∙◌}
use mathlib.Core.Bool.{Bool, true, false, cond, ◌&&◌}
use mathlib.Core.List.{List, [], ◌∷◌}
use Prim.Native.Nat.{ℕ, suc, ◌+◌, ◌≤◌, ◌<◌}
use native.Mathlib.Omega.{arith}
use lib.Dec.{eqb}
use lib.ListN.{length, get_or, drop, drop_of_length-le}
use lib.Seq.{drop-cons}
use native.Mathlib.Numerals.{add-one}
use Rattle.std.proofs.Common.{map}
use Rattle.request.specs.declared.Request.{Request}
use Rattle.request.specs.Input.{is_entry}
use Rattle.rules.specs.declared.Answer.{Answer}
use Rattle.playing.specs.Log.{log_entry, of_kinds}
use Rattle.rules.specs.Play.{let_in, taxied_off, exited_from, misses}
use Rattle.session.specs.declared.tally.Tally.{Tally}
use Rattle.session.specs.Tally.{tally_of, empty_tally, tallied, Under}
use Rattle.session.specs.Entries.{all_tallied}

-- 1 or 0 by a test
abbrev unit : Bool → ℕ
unit b = cond b 1 0

-- ---- the counts of a list

-- what is counted, and what is still to be counted, are the counts of all
pub record Adds (t : Tally) (ps all : List (Request × Answer)) : Type 0 where
  pub entries : t.entries + let_in ps ≡ let_in all
  pub taxis : t.taxis + taxied_off ps ≡ taxied_off all
  pub exits : t.exits + exited_from ps ≡ exited_from all
  pub missed : t.misses + misses ps ≡ misses all

pub adds_none : (all : List (Request × Answer)) → Adds empty_tally all all
adds_none all = record { entries = omega arith; taxis = omega arith; exits = omega arith; missed = omega arith }

pub adds_more : {t u : Tally} {p : Request × Answer} {ps all : List (Request × Answer)} → Adds t (p ∷ ps) all → u ≡ tallied t p.0.kind p.1.number → Adds u ps all
unfolding tallied
adds_more {t} {u} {p} a e =
    record {
      entries = let n = ap (λ (u : Tally). u.entries) e in omega (arith, a.entries);
      taxis = let n = ap (λ (u : Tally). u.taxis) e in omega (arith, a.taxis);
      exits = let n = ap (λ (u : Tally). u.exits) e in omega (arith, a.exits);
      missed = let n = ap (λ (u : Tally). u.misses) e in omega (arith, a.missed);
    }

pub adds_all : {t : Tally} {all : List (Request × Answer)} → Adds t [] all → t ≡ tally_of all
unfolding tally_of
adds_all {t} {all} a i =
    record {
      entries = ends t.entries (let_in all) a.entries i;
      taxis = ends t.taxis (taxied_off all) a.taxis i;
      exits = ends t.exits (exited_from all) a.exits i;
      misses = ends t.misses (misses all) a.missed i;
    }
  where
    ends : (m n : ℕ) → m + 0 ≡ n → m ≡ n
    ends m n e = omega arith

-- ---- the counts of the entries of a log

-- those of requests and their answers, where what is counted and these are the counts of all
pub all_counted : (ps : List (Request × Answer)) {t : Tally} {all : List (Request × Answer)} → Adds t ps all → all_tallied t (map log_entry ps) ≡ tally_of all
all_counted [] a = adds_all a
all_counted (p ∷ ps) a = all_counted ps (adds_more a refl)

-- those of the entries from the i-th on
pub counted_here : (t : Tally) (entries : List (List ℕ)) (i : ℕ) (d : List ℕ) → i < length entries
    → all_tallied (tallied t (get_or (get_or entries i d) 0 0) (get_or (get_or entries i d) 1 0)) (drop (i + 1) entries) ≡ all_tallied t (drop i entries)
counted_here t entries i d h = rw (add-one) (sym (ap (all_tallied t) (drop-cons entries i d h)))

pub none_counted : (t : Tally) (entries : List (List ℕ)) (i : ℕ) {all : Tally} → length entries ≤ i → all_tallied t (drop i entries) ≡ all → t ≡ all
none_counted t entries i h e = sym (ap (all_tallied t) (drop_of_length-le entries h)) ∙ e

-- each count grows by one at most
unit_low : (b : Bool) → unit b ≤ 1
unit_low true = omega arith
unit_low false = omega arith

pub few_tallied : (t : Tally) (kind number : ℕ) {n : ℕ} → Under n t → Under (suc n) (tallied t kind number)
unfolding tallied
few_tallied t kind number u =
    record {
      entries = more is_entry u.entries;
      taxis = more (λ k. eqb k 8) u.taxis;
      exits = more (λ k. eqb k 9) u.exits;
      misses = more (λ k. eqb k 10) u.misses;
    }
  where
    more : (kinds : ℕ → Bool) {n m : ℕ} → m < n → m + of_kinds kinds kind number < suc n
    more kinds h = let l = unit_low (eqb number 0 && kinds kind) in omega arith
