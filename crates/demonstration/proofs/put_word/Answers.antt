-- `demonstration::put_word` meets its contract, word by word. Assumes nothing.
use mathlib.Core.Path.{◌≡◌, subst⁻¹}
use mathlib.Core.List.{List}
use Prim.Native.Nat.{ℕ}
use Rattle.text.specs.Buffer.{Put}
use Rattle.text.proofs.Texts.{put_same}
use Rattle.press.specs.declared.Ending.{Ending}
use Rattle.demonstration.specs.Demonstration.{end_word}
use Rattle.demonstration.proofs.put_word.Goals as goal

-- the word of the ending that was found
word-put : {e f : Ending} {before after : List ℕ} {at n : ℕ} → e ≡ f → Put before at (end_word f) after n → Put before at (end_word e) after n
word-put {before = before} {after = after} {at = at} {n = n} q p = subst⁻¹ (λ (e : Ending). Put before at (end_word e) after n) q p

pub shape_of-out-in-None : goal.shape_of-out-in-None
shape_of-out-in-None c = put_same c.put_text.ensures

pub returns-in-None : goal.returns-in-None
returns-in-None c = word-put c.in-None.is c.put_text.ensures

pub shape_of-out-in-Spent : goal.shape_of-out-in-Spent
shape_of-out-in-Spent c = put_same c.put_text-in-Spent.ensures

pub returns-in-Spent : goal.returns-in-Spent
returns-in-Spent c = word-put c.in-Spent.is c.put_text-in-Spent.ensures

pub shape_of-out-in-Refused : goal.shape_of-out-in-Refused
shape_of-out-in-Refused c = put_same c.put_text-in-Refused.ensures

pub returns-in-Refused : goal.returns-in-Refused
returns-in-Refused c = word-put c.in-Refused.is c.put_text-in-Refused.ensures
