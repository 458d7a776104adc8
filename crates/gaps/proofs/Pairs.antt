-- The pairs of a field as the loop of `pairs_listed` finds them, two neighbours after two, in an array of three places. Assumes nothing.
use mathlib.Core.Path.{◌≡◌, refl, sym, ap, ◌∙◌}
use mathlib.Core.Bool.{Bool, true, false, cond, ◌&&◌}
use mathlib.Core.List.{List, [], ◌∷◌, ◌++◌, append_assoc, append-nil}
use Prim.Native.Nat.{ℕ, suc, ◌+◌, ◌-◌, ◌≤◌, ◌<◌}
use native.Mathlib.Omega.{arith}
use lib.ListN.{length, get_or, take, drop, set, replicate, length-append}
use lib.Seq.{set_at, append_snoc}
use Rattle.field.specs.declared.Field.{Field}
use Rattle.gaps.specs.declared.Pair.{Pair}
use Rattle.gaps.specs.declared.Spacings.{Spacings}
use Rattle.gaps.specs.Gaps.{on_approach, pair_of, pair_if_both, pairs_in, no_pair, pairs_listed}

-- the three places, of which the first hold these pairs
abbrev pub held : List Pair → List Pair
held found = found ++ replicate (3 - length found) no_pair

held_more : (found : List Pair) (p : Pair) → length found < 3 → set (held found) (length found) p ≡ held (found ++ (p ∷ []))
held_more found p h =
    let more : 3 - length found ≡ suc (2 - length found) = omega arith in
    let longer = length-append found (p ∷ []) in
    let same : 2 - length found ≡ 3 - length (found ++ (p ∷ [])) = omega arith in
    ap (λ (n : ℕ). set (found ++ replicate n no_pair) (length found) p) more
    ∙ set_at found no_pair (replicate (2 - length found) no_pair) p (length found) refl
    ∙ sym (append_snoc found p (replicate (2 - length found) no_pair))
    ∙ ap (λ (n : ℕ). (found ++ (p ∷ [])) ++ replicate n no_pair) same

module _ (f : Field) (spacing : ℕ) where
  -- what is found before the rest of the sequence: the array, the count, and that the rest gives the rest of the pairs
  pub record PairsFound (order : List ℕ) (pairs : List Pair) (count : ℕ) (rest : List ℕ) : Type 0 where
    pub found : List Pair
    pub array : pairs ≡ held found
    pub counted : count ≡ length found
    pub few : count + length rest ≤ length order
    pub more : found ++ pairs_in f spacing rest ≡ pairs_in f spacing order

  pub found_none : (order : List ℕ) {pairs : List Pair} → pairs ≡ replicate 3 no_pair → PairsFound order pairs 0 order
  found_none order e = record { found = []; array = e; counted = refl; few = omega arith; more = refl }

  -- the first two of the rest, and the rest from the second of them on
  neighbours : (rest : List ℕ) {two behind : List ℕ} → 2 ≤ length rest → two ≡ take 2 rest → behind ≡ drop 1 rest
      → (length behind + 1 ≡ length rest) × (pair_if_both f spacing (get_or two 0 0) (get_or two 1 0) ++ pairs_in f spacing behind ≡ pairs_in f spacing rest)
  neighbours [] h w e = absurd (omega arith)
  neighbours (n ∷ []) h w e = absurd (omega arith)
  neighbours (n ∷ m ∷ ns) {two} {behind} h w e =
      let k = ap length e in (
        omega arith,
        ap (λ (x : List ℕ). pair_if_both f spacing (get_or x 0 0) (get_or x 1 0) ++ pairs_in f spacing behind) w
            ∙ ap (λ (r : List ℕ). pair_if_both f spacing n m ++ pairs_in f spacing r) e,
      )

  module _ {order rest two behind : List ℕ} (low : 2 ≤ length rest) (w : two ≡ take 2 rest) (e : behind ≡ drop 1 rest) {pairs : List Pair} {count : ℕ}
      (p : PairsFound order pairs count rest) where
    abbrev l : ℕ
    l = get_or two 0 0

    abbrev m : ℕ
    m = get_or two 1 0

    -- neighbours that are no pair
    pub found_same : (on_approach f l && on_approach f m) ≡ false → PairsFound order pairs count behind
    unfolding pair_if_both
    found_same t = record {
      found = p.found;
      array = p.array;
      counted = p.counted;
      few = let k = p.few in let j = (neighbours rest low w e).0 in omega arith;
      more =
          let none : pair_if_both f spacing l m ≡ [] = ap (λ (b : Bool). cond b (pair_of f spacing l m ∷ []) []) t in
          ap (λ (r : List Pair). p.found ++ (r ++ pairs_in f spacing behind)) (sym none) ∙ ap (λ (r : List Pair). p.found ++ r) (neighbours rest low w e).1 ∙ p.more;
    }

    -- neighbours that are one
    pub found_more : (on_approach f l && on_approach f m) ≡ true → count < 3 → {q : Pair} → q ≡ pair_of f spacing l m → PairsFound order (set pairs count q) (count + 1) behind
    unfolding pair_if_both
    found_more t room {q} same = record {
      found = p.found ++ (q ∷ []);
      array =
          ap (λ (r : List Pair). set r count q) p.array
          ∙ ap (λ (n : ℕ). set (held p.found) n q) p.counted
          ∙ held_more p.found q (let c = p.counted in omega arith);
      counted = let c = p.counted in let long = length-append p.found (q ∷ []) in omega arith;
      few = let k = p.few in let j = (neighbours rest low w e).0 in omega arith;
      more =
          let others = pairs_in f spacing behind in
          let one : q ∷ [] ≡ pair_if_both f spacing l m = ap (λ (x : Pair). x ∷ []) same ∙ sym (ap (λ (b : Bool). cond b (pair_of f spacing l m ∷ []) []) t) in
          append_assoc p.found (q ∷ []) others ∙ ap (λ (r : List Pair). p.found ++ (r ++ others)) one ∙ ap (λ (r : List Pair). p.found ++ r) (neighbours rest low w e).1 ∙ p.more;
    }

  -- fewer than two have no neighbours
  alone : (order : List ℕ) → length order < 2 → pairs_in f spacing order ≡ []
  alone [] h = refl
  alone (n ∷ []) h = refl
  alone (n ∷ m ∷ ns) h = absurd (omega arith)

  -- past the last neighbours
  pub found_all : {order rest : List ℕ} {pairs : List Pair} {count : ℕ} → length rest < 2 → PairsFound order pairs count rest
      → ◌≡◌ {A = Spacings} (record { number = 0; count = count; pairs = pairs }) (pairs_listed (pairs_in f spacing order))
  unfolding pairs_listed
  found_all {order} {rest} h p =
      let all : p.found ≡ pairs_in f spacing order = sym (append-nil p.found) ∙ ap (λ (r : List Pair). p.found ++ r) (sym (alone rest h)) ∙ p.more in
      (λ t. record { number = 0; count = p.counted t; pairs = p.array t }) ∙ ap pairs_listed all
