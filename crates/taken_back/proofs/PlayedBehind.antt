-- Requests played behind others, and as many as a number from the front. Assumes nothing.
use mathlib.Core.Path.{◌≡◌, refl}
use mathlib.Core.Bool.{Bool, true}
use mathlib.Core.List.{List, [], ◌∷◌, ◌++◌}
use Prim.Native.Nat.{ℕ, zero, suc, ◌≤◌, ◌<◌}
use native.Mathlib.Omega.{arith}
use lib.Dec.{T, eqb}
use lib.ListN.{length, get_or, take}
use lib.Ieee.Fits.{and_i, and_l, and_r}
use borrow.Author.Tests.{eq-eqb}
use Rattle.request.specs.declared.Request.{Request}
use Rattle.field.specs.declared.Field.{Field}
use Rattle.field.specs.Lists.{every}
use Rattle.field.proofs.TestLaws.{pass}
use Rattle.field.proofs.TestParts.{and_then}
use Rattle.rules.specs.Step.{step_of}
use Rattle.rules.specs.Play.{field_after, played, all_accepted}

pub after_behind : (f : Field) (rs ss : List Request) → field_after f (rs ++ ss) ≡ field_after (field_after f rs) ss
after_behind f [] ss = refl
after_behind f (r ∷ rs) ss = after_behind (step_of f r).field rs ss

pub accepted_more : (f : Field) (rs : List Request) (r : Request) → T (all_accepted (played f rs)) → (step_of (field_after f rs) r).answer.number ≡ 0 → T (all_accepted (played f (rs ++ (r ∷ []))))
accepted_more f [] r t e = and_i (eqb (step_of f r).answer.number 0) true (pass (eq-eqb _ _ e)) tt
accepted_more f (q ∷ rs) r t e =
    let here = eqb (step_of f q).answer.number 0 in
    let g = (step_of f q).field in
    and_i here (all_accepted (played g (rs ++ (r ∷ [])))) (and_l here (all_accepted (played g rs)) t) (accepted_more g rs r (and_r here (all_accepted (played g rs)) t) e)

pub accepted_fewer : (f : Field) (n : ℕ) (rs : List Request) → T (all_accepted (played f rs)) → T (all_accepted (played f (take n rs)))
accepted_fewer f zero rs t = tt
accepted_fewer f (suc n) [] t = tt
accepted_fewer f (suc n) (r ∷ rs) t =
    let here = eqb (step_of f r).answer.number 0 in
    let g = (step_of f r).field in
    and_i here (all_accepted (played g (take n rs))) (and_l here (all_accepted (played g rs)) t) (accepted_fewer g n rs (and_r here (all_accepted (played g rs)) t))

-- a test that each of the first n passes
pub every_read : {A : Type 0} (p : A → Bool) (l : List A) (n : ℕ) (d : A) → n ≤ length l → ((i : ℕ) → i < n → p (get_or l i d) ≡ true) → every p (take n l) ≡ true
every_read p l zero d h f = refl
every_read p [] (suc n) d h f = refl
every_read p (x ∷ l) (suc n) d h f = and_then (f 0 (omega arith)) (every_read p l n d (omega arith) (λ i k. f (suc i) (omega arith)))
