-- Laws of the log: the seven stores of an entry, one entry after the other, and an entry read again. Assumes nothing.
use mathlib.Core.Path.{◌≡◌, refl, ap, ◌∙◌}
use mathlib.Core.List.{List, [], ◌∷◌, ◌++◌}
use Prim.Native.Nat.{ℕ, zero, suc, ◌+◌, ◌*◌, ◌≤◌, ◌<◌}
use native.Mathlib.Omega.{arith}
use lib.ListN.{length, set, get_or, drop, length-append, length-drop, get_or-append}
use lib.Seq.{sets, sets-eq}
use Rattle.request.specs.declared.Request.{Request}
use Rattle.rules.specs.declared.Answer.{Answer}
use Rattle.playing.specs.Log.{log_entry, log_of, kind_at}

-- seven stores, one after the other
pub seven_stores : (l : List ℕ) (at a b c d e f g : ℕ)
    → set (set (set (set (set (set (set l at a) (at + 1) b) (at + 2) c) (at + 3) d) (at + 4) e) (at + 5) f) (at + 6) g ≡ sets l at (a ∷ b ∷ c ∷ d ∷ e ∷ f ∷ g ∷ [])
seven_stores l at a b c d e f g =
    let p1 : at + 1 ≡ suc at = omega arith in
    let p2 : at + 2 ≡ suc (suc at) = omega arith in
    let p3 : at + 3 ≡ suc (suc (suc at)) = omega arith in
    let p4 : at + 4 ≡ suc (suc (suc (suc at))) = omega arith in
    let p5 : at + 5 ≡ suc (suc (suc (suc (suc at)))) = omega arith in
    let p6 : at + 6 ≡ suc (suc (suc (suc (suc (suc at))))) = omega arith in
    cc

-- a run of stores in two parts
pub sets_append : (l : List ℕ) (at : ℕ) (xs ys : List ℕ) → sets l at (xs ++ ys) ≡ sets (sets l at xs) (at + length xs) ys
sets_append l at [] ys = ap (λ (k : ℕ). sets l k ys) {x = at} {y = at + 0} (omega arith)
sets_append l at (x ∷ xs) ys = sets_append (set l at x) (suc at) xs ys ∙ ap (λ (k : ℕ). sets (sets (set l at x) (suc at) xs) k ys) {x = suc at + length xs} {y = at + suc (length xs)} (omega arith)

-- seven numbers for each request
pub log_length : (ps : List (Request × Answer)) → length (log_of ps) ≡ 7 * length ps
log_length [] = refl
log_length (p ∷ ps) = let n = log_length ps in omega arith

-- a log written from the first number on
pub log_written : (log : List ℕ) (ps : List (Request × Answer)) (n : ℕ) → n ≡ length ps → 7 * n ≤ length log → sets log 0 (log_of ps) ≡ log_of ps ++ drop (7 * n) log
log_written log ps n e h =
    let l = log_length ps in
    sets-eq (log_of ps) log 0 (omega arith) ∙ ap (λ (k : ℕ). log_of ps ++ drop k log) {x = 0 + length (log_of ps)} {y = 7 * n} (omega arith)

-- the log keeps its length
pub log_kept : (log : List ℕ) (ps : List (Request × Answer)) (n : ℕ) → n ≡ length ps → 7 * n ≤ length log → length (log_of ps ++ drop (7 * n) log) ≡ length log
log_kept log ps n e h =
    let l = log_length ps in
    let a = length-append (log_of ps) (drop (7 * n) log) in
    let d = length-drop (7 * n) log in
    omega arith

-- ---- the i-th request in a log, and its answer
pub record Here (ps : List (Request × Answer)) (log : List ℕ) (i : ℕ) : Type 0 where
  pub pair : Request × Answer
  pub rest : drop i ps ≡ pair ∷ drop (suc i) ps
  pub entry : (k : ℕ) → k < 7 → get_or log (7 * i + k) 0 ≡ get_or (log_entry pair) k 0

pub here_in : (ps : List (Request × Answer)) (rest : List ℕ) (i : ℕ) → i < length ps → Here ps (log_of ps ++ rest) i
here_in [] rest i h = absurd (omega arith)
here_in (p ∷ ps) rest zero h =
    record {
      pair = p;
      rest = refl;
      entry = λ k g. ap (λ (n : ℕ). get_or (log_entry p ++ log_of ps ++ rest) n 0) {x = 7 * 0 + k} {y = k} (omega arith) ∙ get_or-append (log_entry p) (log_of ps ++ rest) 0 k g;
    }
here_in (p ∷ ps) rest (suc i) h =
    let t = here_in ps rest i (omega arith) in
    record {
      pair = t.pair;
      rest = t.rest;
      entry = λ k g. ap (λ (n : ℕ). get_or (log_entry p ++ log_of ps ++ rest) n 0) {x = 7 * suc i + k} {y = suc (suc (suc (suc (suc (suc (suc (7 * i + k)))))))} (omega arith) ∙ t.entry k g;
    }

-- its kind
pub kind_here : {ps : List (Request × Answer)} {log : List ℕ} {i : ℕ} (t : Here ps log i) → kind_at log i ≡ t.pair.0.kind
kind_here {log = log} {i} t = ap (λ (n : ℕ). get_or log n 0) {x = 7 * i} {y = 7 * i + 0} (omega arith) ∙ t.entry 0 (omega arith)
