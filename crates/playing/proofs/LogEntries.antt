-- The first entries of a log, each as a list of seven numbers, are those of the requests and their answers. Assumes nothing.
use mathlib.Core.Path.{◌≡◌, refl, sym, ap, ◌∙◌}
use mathlib.Core.List.{List, [], ◌∷◌, ◌++◌}
use Prim.Native.Nat.{ℕ, ◌*◌, ◌/◌, ◌≤◌}
use native.Mathlib.Omega.{arith}
use lib.ListN.{length, take}
use Rattle.std.proofs.Common.{map}
use Rattle.std.specs.Simd.{first_chunks}
use Rattle.request.specs.declared.Request.{Request}
use Rattle.rules.specs.declared.Answer.{Answer}
use Rattle.playing.specs.Log.{log_entry, log_of}
use Rattle.playing.proofs.Logs.{log_length}

-- a log by sevens
by_sevens : (ps : List (Request × Answer)) → first_chunks 7 (length ps) (log_of ps) ≡ map log_entry ps
by_sevens [] = refl
by_sevens (p ∷ ps) = ap (λ (es : List (List ℕ)). log_entry p ∷ es) (by_sevens ps)

-- the part of a longer log that was written
written_part : (ps : List (Request × Answer)) (rest : List ℕ) → take (length (log_of ps)) (log_of ps ++ rest) ≡ log_of ps
written_part [] rest = refl
written_part (p ∷ ps) rest = ap (λ (l : List ℕ). log_entry p ++ l) (written_part ps rest)

pub log_entries : (ps : List (Request × Answer)) (rest log : List ℕ) (n : ℕ) → log ≡ log_of ps ++ rest → n ≡ length ps
    → first_chunks 7 (length (take (7 * n) log) / 7) (take (7 * n) log) ≡ map log_entry ps
log_entries ps rest log n e h =
    let l = log_length ps in
    let cut : take (7 * n) log ≡ log_of ps =
    ap (λ (m : ℕ). take m log) {x = 7 * n} {y = length (log_of ps)} (omega arith) ∙ ap (take (length (log_of ps))) e ∙ written_part ps rest in
    let size : length (log_of ps) / 7 ≡ length ps = omega arith in
    ap (λ (w : List ℕ). first_chunks 7 (length w / 7) w) cut ∙ ap (λ (k : ℕ). first_chunks 7 k (log_of ps)) size ∙ by_sevens ps
