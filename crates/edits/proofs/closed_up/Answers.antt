-- `edits::closed_up` meets its contract: those behind index k are copied one place up, before the last. Assumes nothing.
use Rattle.std.proofs.Common.{◌≡◌, ℕ, ◌+◌, ◌-◌, suc, List, [], ◌∷◌, ◌++◌, cond, Bool, true, ltb, length, ◌≤◌, ◌<◌, ◌∙◌, sym, ap, arith, rules}
use Rattle.std.proofs.Math.ListN.{take, drop, set}
use Rattle.std.proofs.lemmas.List.{take-set-le, take_all, drop-drop, drop-set, drop_all, length-drop}
use Rattle.std.proofs.lemmas.List.{append_assoc}
use borrow.Rule.Slice.PartMut.{put_mid}
use borrow.Author.Tests.{lt-ltb, le-ltb}
use Rattle.edits.specs.Edits.{closed_up}
use Rattle.edits.proofs.closed_up.Goals as goal

copied : {A : Type 0} (row : List A) (k n : ℕ) (last : A) {behind : List A} → n < length row → length row ≤ suc n → k ≤ n → behind ≡ take (length row - (k + 1)) (drop (k + 1) row)
    → put_mid k (n - k) (set row n last) behind ≡ closed_up row k last
unfolding closed_up
copied {A = A} row k n last {behind} there short before e =
    let next : k + 1 ≡ suc k = omega arith in
    let whole : k + (n - k) ≡ n = omega arith in
    let many : length (drop (k + 1) row) ≤ length row - (k + 1) = omega (arith, length-drop (k + 1) row) in
    let rest : behind ≡ drop (suc k) row = e ∙ take_all _ (drop (k + 1) row) many ∙ ap (λ (m : ℕ). drop m row) next in
    let front = take-set-le k row n last before in
    let none : drop (n + 1) row ≡ [] = drop_all (n + 1) row (omega arith) in
    let end : drop (n - k) (drop k (set row n last)) ≡ last ∷ [] =
    drop-drop (n - k) k (set row n last) ∙ ap (λ (m : ℕ). drop m (set row n last)) whole ∙ drop-set row n last there ∙ ap (λ (l : List A). last ∷ l) none in
    let within : ltb k (length row) ≡ true = lt-ltb k (length row) (omega arith) in
    ap (λ (l : List A). take k (set row n last) ++ l) (λ i. rest i ++ end i)
    ∙ sym (append_assoc (take k (set row n last)) (drop (suc k) row) (last ∷ []))
    ∙ ap (λ (l : List A). l ++ drop (suc k) row ++ (last ∷ [])) front
    ∙ sym (ap (λ (t : Bool). cond t (take k row ++ drop (suc k) row ++ (last ∷ [])) row) within)

pub returns-then-k : goal.returns-then-k
returns-then-k g c =
    let a = c.args in
    let long : length a.row ≡ g.row.N = search rules in
    let h : a.k < length a.row = search rules in
    copied a.row a.k _ a.last (omega arith) (omega arith) (omega arith) c.copy_from_slice.ensures.after

pub returns-else-k : goal.returns-else-k
unfolding closed_up
returns-else-k g c =
    let h : length c.args.row ≤ c.args.k = search rules in
    simp (le-ltb c.args.k (length c.args.row) h)
