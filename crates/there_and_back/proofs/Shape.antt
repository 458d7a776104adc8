-- The field that a list builds, zone by zone: the queue of a zone is those of the list with that location, in the list's order, as many as there
-- are places. Assumes nothing.
use mathlib.Core.Path.{◌≡◌, refl, sym, ap, ◌∙◌}
use mathlib.Core.Logic.{◌⊎◌, inl, inr}
use mathlib.Core.Bool.{Bool, true, false, cond}
use mathlib.Core.List.{List, [], ◌∷◌, ◌++◌, map, append_assoc, append-nil}
use Prim.Native.Nat.{ℕ, zero, suc, ◌+◌, ◌≤◌}
use native.Mathlib.Omega.{arith}
use lib.Dec.{T, eqb}
use lib.ListN.{length, take, length-take}
use borrow.Author.Tests.{eqb-true}
use Rattle.request.specs.Input.{within}
use Rattle.field.specs.declared.Aircraft.{Aircraft}
use Rattle.field.specs.declared.Zone.{Zone}
use Rattle.field.specs.declared.Sequence.{Sequence}
use Rattle.field.specs.declared.Legs.{Legs}
use Rattle.field.specs.declared.Field.{Field}
use Rattle.field.specs.Airspace.{right, opposite, zone_of, entering, empty_field}
use Rattle.edits.specs.Edits.{with_tail, appended, with_zone, with_sequence}
use Rattle.field.proofs.TestLaws.{decided, if_true, if_false}
use Rattle.line.proofs.Line.{zone_for, sequence_for, field_by, zone_by, with_by, by_zones}
use Rattle.dialect.specs.declared.ListEntry.{ListEntry}
use Rattle.dialect_field.specs.Coming.{fix_in, with_entry, built_on, built}

-- ---- lists

module _ {ℓ} {A : Type ℓ} where
  -- what is cut once and again is cut once
  pub cut_twice : (n : ℕ) (xs ys : List A) → take n (take n xs ++ ys) ≡ take n (xs ++ ys)
  cut_twice zero xs ys = refl
  cut_twice (suc n) [] ys = refl
  cut_twice (suc n) (x ∷ xs) ys = ap (λ (l : List A). x ∷ l) (cut_twice n xs (ys))

  -- a list that fits is not cut
  pub uncut : (n : ℕ) (xs : List A) → length xs ≤ n → take n xs ≡ xs
  uncut zero [] h = refl
  uncut zero (x ∷ xs) h = absurd (omega arith)
  uncut (suc n) [] h = refl
  uncut (suc n) (x ∷ xs) h = ap (λ (l : List A). x ∷ l) (uncut n xs (omega arith))

  pub cut_fits : (n : ℕ) (xs : List A) → length (take n xs) ≤ n
  cut_fits n xs = omega (arith, length-take n xs)

  full : (n : ℕ) (xs ys : List A) → length xs ≡ n → take n (xs ++ ys) ≡ xs
  full zero [] ys h = refl
  full zero (x ∷ xs) ys h = absurd (omega arith)
  full (suc n) [] ys h = absurd (omega arith)
  full (suc n) (x ∷ xs) ys h = ap (λ (l : List A). x ∷ l) (full n xs ys (omega arith))

-- ---- one put at a tail
tail_cut : (xs : List Aircraft) (a : Aircraft) → length xs ≤ 4 → with_tail (zone_for xs) a ≡ zone_for (take 4 (xs ++ (a ∷ [])))
unfolding with_tail
tail_cut [] a h = refl
tail_cut (x ∷ []) a h = refl
tail_cut (x ∷ y ∷ []) a h = refl
tail_cut (x ∷ y ∷ z ∷ []) a h = refl
tail_cut (x ∷ y ∷ z ∷ w ∷ []) a h = refl
tail_cut (x ∷ y ∷ z ∷ w ∷ v ∷ rest) a h = absurd (omega arith)

appended_cut : (ns : List ℕ) (n : ℕ) → length ns ≤ 4 → appended (sequence_for ns) n ≡ sequence_for (take 4 (ns ++ (n ∷ [])))
unfolding appended
appended_cut [] n h = refl
appended_cut (x ∷ []) n h = refl
appended_cut (x ∷ y ∷ []) n h = refl
appended_cut (x ∷ y ∷ z ∷ []) n h = refl
appended_cut (x ∷ y ∷ z ∷ w ∷ []) n h = refl
appended_cut (x ∷ y ∷ z ∷ w ∷ v ∷ rest) n h = absurd (omega arith)

-- ---- the list

-- one of the list as it waits
abbrev pub waiting : ℕ → ListEntry → Aircraft
waiting speed e = entering e.number (fix_in e.fix) speed 1

-- those of the list with this location
abbrev pub at_zone : ℕ → List ListEntry → List ListEntry
at_zone z [] = []
at_zone z (e ∷ es) = cond (eqb z e.location) (e ∷ at_zone z es) (at_zone z es)

-- their numbers
abbrev pub numbers_in : List ListEntry → List ℕ
numbers_in es = map (λ (e : ListEntry). e.number) es

-- the next fix behind the last of the list
abbrev pub next_from : ℕ → List ListEntry → ℕ
next_from next [] = next
next_from next (e ∷ es) = next_from (opposite (fix_in e.fix)) es

-- locations that are zones
abbrev pub Located : List ListEntry → Type 0
Located [] = Unit {0}
Located (e ∷ es) = T (within 1 13 e.location) × Located es

module _ (legs : Legs) (speed : ℕ) where
  -- the field with these queues, this sequence and next fix
  abbrev pub field_for : (ℕ → List Aircraft) → List ℕ → ℕ → Field
  field_for q ns next = field_by (λ z. zone_for (q z)) (sequence_for ns) next legs

  -- one more
  abbrev more : (ℕ → List Aircraft) → ListEntry → ℕ → List Aircraft
  more q e z = cond (eqb z e.location) (take 4 (q z ++ (waiting speed e ∷ []))) (q z)

  one_more : (q : ℕ → List Aircraft) (ns : List ℕ) (next : ℕ) (e : ListEntry) → T (within 1 13 e.location) → ((z : ℕ) → length (q z) ≤ 4) → length ns ≤ 4
      → with_entry (field_for q ns next) speed e ≡ field_for (more q e) (take 4 (ns ++ (e.number ∷ []))) (opposite (fix_in e.fix))
  unfolding with_entry with_sequence
  one_more q ns next e t few short =
      let l = e.location in
      let a = waiting speed e in
      let fix = opposite (fix_in e.fix) in
      let put : with_tail (zone_of (field_for q ns next) l) a ≡ zone_for (take 4 (q l ++ (a ∷ [])))
      = ap (λ (z : Zone). with_tail z a) (zone_by (λ z. zone_for (q z)) (sequence_for ns) next legs l t) ∙ tail_cut (q l) a (few l) in
      ap (λ (z : Zone). with_sequence (with_zone (field_for q ns next) l z) (appended (sequence_for ns) e.number) fix) put
      ∙ ap (λ (f : Field). with_sequence f (appended (sequence_for ns) e.number) fix) (with_by (λ z. zone_for (q z)) (sequence_for ns) next legs l (zone_for (take 4 (q l ++ (a ∷ [])))) t)
      ∙ ap (λ (s : Sequence). field_by (λ y. cond (eqb y l) (zone_for (take 4 (q l ++ (a ∷ [])))) (zone_for (q y))) s fix legs) (appended_cut ns e.number short)
      ∙ by_zones (λ y. cond (eqb y l) (zone_for (take 4 (q l ++ (a ∷ [])))) (zone_for (q y))) (sequence_for (take 4 (ns ++ (e.number ∷ [])))) fix legs (λ y. zone_for (more q e y))
      (λ y u. same_zone_lem y (decided (eqb y l)))
    where
      same_zone_lem : (y : ℕ) → (eqb y e.location ≡ true) ⊎ (eqb y e.location ≡ false)
          → cond (eqb y e.location) (zone_for (take 4 (q e.location ++ (waiting speed e ∷ [])))) (zone_for (q y)) ≡ zone_for (more q e y)
      same_zone_lem y (inl b) =
          if_true _ _ b ∙ ap (λ (k : ℕ). zone_for (take 4 (q k ++ (waiting speed e ∷ [])))) (sym (eqb-true y e.location b)) ∙ ap zone_for (sym (if_true _ _ b))
      same_zone_lem y (inr b) = if_false _ _ b ∙ ap zone_for (sym (if_false _ _ b))

  more_few : (q : ℕ → List Aircraft) (e : ListEntry) → ((z : ℕ) → length (q z) ≤ 4) → (z : ℕ) → length (more q e z) ≤ 4
  more_few q e few z = go (eqb z e.location)
    where
      go : (b : Bool) → length (cond b (take 4 (q z ++ (waiting speed e ∷ []))) (q z)) ≤ 4
      go true = cut_fits 4 (q z ++ (waiting speed e ∷ []))
      go false = few z

  -- all of them, on any such field
  all_on : (es : List ListEntry) (q : ℕ → List Aircraft) (ns : List ℕ) (next : ℕ) → Located es → ((z : ℕ) → length (q z) ≤ 4) → length ns ≤ 4
      → built_on (field_for q ns next) speed es
      ≡ field_for (λ z. take 4 (q z ++ map (waiting speed) (at_zone z es))) (take 4 (ns ++ numbers_in es)) (next_from next es)
  all_on [] q ns next t few short =
      ap (λ (l : List ℕ). field_for q l next) (sym (uncut 4 ns short) ∙ ap (take 4) (sym (append-nil ns)))
      ∙ by_zones (λ z. zone_for (q z)) (sequence_for (take 4 (ns ++ []))) next legs (λ z. zone_for (take 4 (q z ++ [])))
      (λ z u. ap zone_for (sym (uncut 4 (q z) (few z)) ∙ ap (take 4) (sym (append-nil (q z)))))
  all_on (e ∷ es) q ns next t few short =
      ap (λ (f : Field). built_on f speed es) (one_more q ns next e t.0 few short)
      ∙ all_on es (more q e) (take 4 (ns ++ (e.number ∷ []))) (opposite (fix_in e.fix)) t.1 (more_few q e few) (cut_fits 4 (ns ++ (e.number ∷ [])))
      ∙ ap (λ (l : List ℕ). field_for (λ z. take 4 (more q e z ++ map (waiting speed) (at_zone z es))) l (next_from next (e ∷ es)))
      (cut_twice 4 (ns ++ (e.number ∷ [])) (numbers_in es) ∙ ap (take 4) (append_assoc ns (e.number ∷ []) (numbers_in es)))
      ∙ by_zones (λ z. zone_for (take 4 (more q e z ++ map (waiting speed) (at_zone z es)))) (sequence_for (take 4 (ns ++ numbers_in (e ∷ es)))) (next_from next (e ∷ es)) legs
      (λ z. zone_for (take 4 (q z ++ map (waiting speed) (at_zone z (e ∷ es)))))
      (λ z u. ap zone_for (queue z (decided (eqb z e.location))))
    where
      queue : (z : ℕ) → (eqb z e.location ≡ true) ⊎ (eqb z e.location ≡ false)
          → take 4 (more q e z ++ map (waiting speed) (at_zone z es)) ≡ take 4 (q z ++ map (waiting speed) (at_zone z (e ∷ es)))
      queue z (inl b) =
          let rest = map (waiting speed) (at_zone z es) in
          ap (λ (l : List Aircraft). take 4 (l ++ rest)) (if_true _ _ b)
          ∙ cut_twice 4 (q z ++ (waiting speed e ∷ [])) rest
          ∙ ap (take 4) (append_assoc (q z) (waiting speed e ∷ []) rest)
          ∙ ap (λ (l : List ListEntry). take 4 (q z ++ map (waiting speed) l)) (sym (if_true (e ∷ at_zone z es) (at_zone z es) b))
      queue z (inr b) =
          ap (λ (l : List Aircraft). take 4 (l ++ map (waiting speed) (at_zone z es))) (if_false _ _ b)
          ∙ ap (λ (l : List ListEntry). take 4 (q z ++ map (waiting speed) l)) (sym (if_false (e ∷ at_zone z es) (at_zone z es) b))

  -- The field of a list.
  pub built_for : (es : List ListEntry) → Located es
      → built legs speed es ≡ field_for (λ z. take 4 (map (waiting speed) (at_zone z es))) (take 4 (numbers_in es)) (next_from right es)
  unfolding built empty_field
  built_for es t = all_on es (λ z. []) [] right t (λ z. omega arith) (omega arith)
