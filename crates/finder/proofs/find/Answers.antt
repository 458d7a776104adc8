-- `finder::find` meets its contract: what is found is the first entry with the number. Assumes nothing.
use Rattle.std.proofs.Common.{◌≡◌, ℕ, Bool, true, false, cond, List, [], ◌∷◌, eqb, Option, Some, None, refl, sym, ap, ◌∙◌, rules}
use Rattle.std.proofs.lemmas.Iterator.{YieldsList-from_slice}
use Rattle.std.proofs.lemmas.Iterator.Search.{find_from_yields_List}
use Rattle.std.specs.List as list
use Rattle.std.specs.Option.{option_map}
use Rattle.field.proofs.TestLaws.{if_false}
use borrow.Author.Tests.{tests, eq-eqb, ne_eqb}
use Rattle.questions.specs.declared.Place.{Place}
use Rattle.questions.specs.Find.{nowhere}
use Rattle.finder.specs.declared.Entry.{Entry}
use Rattle.finder.specs.Finder.{found_among, found_in}
use Rattle.finder.proofs.find.Goals as goal

-- what the entry that is found says, if there is one
abbrev says : Option Entry → Place
says None = nowhere
says (Some e) = record { zone = e.zone; place = e.place }

chosen : (t : Bool) (e : Entry) (r : Option Entry) → says (cond t (Some e) r) ≡ cond t (record { zone = e.zone; place = e.place }) (says r)
chosen true e r = refl
chosen false e r = refl

said : (number : ℕ) (es : List Entry) → says (list.find (λ e. eqb e.number number) es) ≡ found_among number es
said number [] = refl
said number (e ∷ es) = chosen (eqb e.number number) e (list.find (λ x. eqb x.number number) es) ∙ ap (cond (eqb e.number number) (record { zone = e.zone; place = e.place })) (said number es)

pub returns-then-number-eq0 : goal.returns-then-number-eq0
unfolding found_in
returns-then-number-eq0 c = simp (eq-eqb _ _ c.if-number-eq0.true)

pub returns-in-Some : goal.returns-in-Some
unfolding found_in
returns-in-Some c =
    let a = c.args in
    let es = a.index.entries in
    let found = find_from_yields_List (λ e. eqb e.number a.number) _ _ _ c.find.ensures.ran (YieldsList-from_slice es c.iter.ensures.rest) (λ x b q k. search (rules, tests)) in
    ap (λ r. says (option_map (λ x. x.now) r)) (sym c.in-Some.is) ∙ ap says found ∙ said a.number es ∙ sym (if_false _ _ (ne_eqb _ _ c.if-number-eq0.false))

pub returns-in-None : goal.returns-in-None
unfolding found_in
returns-in-None c =
    let a = c.args in
    let es = a.index.entries in
    let found = find_from_yields_List (λ e. eqb e.number a.number) _ _ _ c.find.ensures.ran (YieldsList-from_slice es c.iter.ensures.rest) (λ x b q k. search (rules, tests)) in
    ap (λ r. says (option_map (λ x. x.now) r)) (sym c.in-None.is) ∙ ap says found ∙ said a.number es ∙ sym (if_false _ _ (ne_eqb _ _ c.if-number-eq0.false))
