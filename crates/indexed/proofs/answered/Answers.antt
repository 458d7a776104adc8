-- `indexed::answered` meets its contract: a tick leaves the index, and else the answer is read by the new one. Assumes nothing.
use mathlib.Core.Path.{◌≡◌, sym, ap, ◌∙◌}
use Prim.Native.Nat.{ℕ}
use borrow.Author.Tests.{eq-eqb, ne_eqb}
use Rattle.field.proofs.TestLaws.{if_true, if_false}
use Rattle.questions.specs.declared.Place.{Place}
use Rattle.questions.specs.Find.{place_of}
use Rattle.finder.specs.declared.Index.{Index}
use Rattle.finder.specs.Finder.{found_in}
use Rattle.finder.proofs.IndexLaws.{found_as_looked}
use Rattle.rules.specs.declared.Answer.{Answer}
use Rattle.rules.specs.Step.{acceptance}
use Rattle.indexed.specs.declared.AnswerAndIndex.{AnswerAndIndex}
use Rattle.indexed.proofs.answered.Goals as goal

-- both by their parts
made : {a b : Answer} {i j : Index} → a ≡ b → i ≡ j → ◌≡◌ {A = AnswerAndIndex} (record { answer = a; index = i }) (record { answer = b; index = j })
made p q i = record { answer = p i; index = q i }

pub returns-then-r-eq12 : goal.returns-then-r-eq12
returns-then-r-eq12 c =
    let t = c.if-r-eq12.true in
    made (c.number_and_zeros.ensures ∙ sym (if_true _ _ (eq-eqb _ _ t))) (c.requires.1 t)

pub returns : goal.returns
returns c =
    let a = c.args in
    let own_index = c.kept_up-made.ensures ∙ c.requires.2 c.if-r-eq12.false in
    let looked : (n : ℕ) → found_in c.kept_up-made.result n ≡ place_of a.g n = λ n. ap (λ (k : Index). found_in k n) own_index ∙ found_as_looked a.g c.requires.0 n in
    let at = c.find.ensures ∙ looked a.r.number in
    let ahead = c.find-ahead.ensures ∙ looked c.leader_of.result ∙ ap (place_of a.g) c.leader_of.ensures in
    made
    (c.acceptance.ensures
    ∙ ap (λ (q : Place). acceptance a.g q c.find-ahead.result a.r a.along) at
    ∙ ap (λ (q : Place). acceptance a.g (place_of a.g a.r.number) q a.r a.along) ahead
    ∙ sym (if_false _ _ (ne_eqb _ _ c.if-r-eq12.false)))
    own_index
