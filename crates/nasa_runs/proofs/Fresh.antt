-- On every field within the bounds one of the numbers 1 to 6 is nobody's. Assumes nothing.
use mathlib.Core.Path.{◌≡◌, refl, sym, ap, ◌∙◌}
use mathlib.Core.Logic.{inl, inr}
use mathlib.Core.Bool.{true, false, cond, not, true≢false}
use mathlib.Core.List.{List, [], ◌∷◌, map}
use Prim.Native.Nat.{ℕ, ◌+◌, ◌≤◌}
use native.Mathlib.Omega.{arith}
use borrow.Author.Tests.{ne_eqb, leb-true, leb-false}
use lib.Dec.{T, eqb, leb}
use lib.ListN.{length, length-append, length-map}
use Rattle.field.specs.declared.Field.{Field}
use Rattle.field.specs.Airspace.{in_zone, everywhere}
use Rattle.field.specs.Lists.{is_in}
use Rattle.questions.specs.Counts.{total, how_many, present_on}
use Rattle.questions.specs.Find.{place_of, numbers_in}
use Rattle.bounds.specs.Bounds.{within_bounds}
use Rattle.order.specs.Model.{count}
use Rattle.field.proofs.TestLaws.{decided, if_false, each_from}
use Rattle.questions.proofs.NumbersListed.{number_of}
use Rattle.questions.proofs.FindLaws.{found_exactly}
use Rattle.laws.proofs.BoundLaws.{five_present}
use Rattle.line.proofs.Members.{absent_count}

-- how often the numbers 1 to 6 stand in a list, together
abbrev six : List ℕ → ℕ
six ms = count ms 1 + count ms 2 + count ms 3 + count ms 4 + count ms 5 + count ms 6

-- one number is at most one of them
at_most_one : (m : ℕ) → six (m ∷ []) ≤ 1
at_most_one m = elim (decided (leb m 6)) [
  | inl e ↦ let h =
      leb-true m 6 e in each_from 0 7 (λ m. six (m ∷ []) ≤ 1) (omega arith, (omega arith, (omega arith, (omega arith, (omega arith, (omega arith, (omega arith, tt))))))) m (omega arith) (omega arith)
  | inr e ↦
      let h = leb-false m 6 e in
      let other : (k : ℕ) → k ≤ 6 → ◌≡◌ {A = ℕ} (cond (eqb m k) 1 0) 0 = λ k l. if_false 1 0 (ne_eqb m k (λ q. omega arith)) in
      let a = other 1 (omega arith) in
      let b = other 2 (omega arith) in
      let c = other 3 (omega arith) in
      let d = other 4 (omega arith) in
      let f = other 5 (omega arith) in
      let g = other 6 (omega arith) in
      omega arith
]

six_within : (ms : List ℕ) → six ms ≤ length ms
six_within [] = omega arith
six_within (m ∷ ms) = let a = at_most_one m in let b = six_within ms in omega arith

stands_there : (ms : List ℕ) (n : ℕ) → is_in n ms ≡ true → 1 ≤ count ms n
stands_there ms n e = elim (decided (leb 1 (count ms n))) [
  | inl t ↦ leb-true 1 (count ms n) t
  | inr t ↦ absurd (true≢false (sym e ∙ absent_count ms n (let k = leb-false 1 (count ms n) t in omega arith)))
]

-- one of them is not in a list of at most five
pub record Free (ms : List ℕ) : Type 0 where
  pub number : ℕ
  pub low : 1 ≤ number
  pub high : number ≤ 6
  pub absent : is_in number ms ≡ false

free : (ms : List ℕ) → length ms ≤ 5 → Free ms
free ms h =
    try 1 (omega arith) (omega arith) (λ a.
    try 2 (omega arith) (omega arith) (λ b.
    try 3 (omega arith) (omega arith) (λ c.
    try 4 (omega arith) (omega arith) (λ d.
    try 5 (omega arith) (omega arith) (λ e.
    try 6 (omega arith) (omega arith) (λ f. absurd (let s = six_within ms in omega arith)))))))
  where
    try : (n : ℕ) → 1 ≤ n → n ≤ 6 → (1 ≤ count ms n → Free ms) → Free ms
    try n l u later = elim (decided (is_in n ms)) [
      | inl i ↦ later (stands_there ms n i)
      | inr i ↦ record { number = n; low = l; high = u; absent = i }
    ]

-- as many numbers as aircraft
numbers_length : (f : Field) (zs : List ℕ) → length (numbers_in f zs) ≡ total (how_many f) zs
unfolding how_many
numbers_length f [] = refl
numbers_length f (z ∷ zs) =
    let a = length-append (map number_of (in_zone f z)) (numbers_in f zs) in
    let b = length-map (in_zone f z) number_of in
    let c = numbers_length f zs in
    omega arith

pub new_number : (f : Field) → T (within_bounds f) → Free (numbers_in f everywhere)
unfolding present_on
new_number f t = free (numbers_in f everywhere) (let a = five_present f t in let b = numbers_length f everywhere in omega arith)

pub not_found : (f : Field) (n : ℕ) → is_in n (numbers_in f everywhere) ≡ false → eqb (place_of f n).zone 0 ≡ true
not_found f n i = found_exactly f n ∙ ap not i
