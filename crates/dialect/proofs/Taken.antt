-- The list of a field as the loop of `everyone` makes it, one of the sequence after the other, in an array of five places. Assumes nothing.
use mathlib.Core.Path.{◌≡◌, refl, sym, ap, ◌∙◌}
use mathlib.Core.List.{List, [], ◌∷◌, ◌++◌, append_assoc, append-nil}
use Prim.Native.Nat.{ℕ, suc, ◌+◌, ◌-◌, ◌<◌}
use native.Mathlib.Omega.{arith}
use native.Mathlib.Numerals.{add-one}
use lib.ListN.{length, get_or, drop, set, replicate, length-append, drop_of_length-le}
use lib.Seq.{set_at, append_snoc}
use Rattle.field.specs.declared.Field.{Field}
use Rattle.field.proofs.Arrays.{next_of}
use Rattle.dialect.specs.declared.ListEntry.{ListEntry}
use Rattle.dialect.specs.declared.Listing.{Listing}
use Rattle.dialect.specs.Going.{list_entry, list_entries, no_entry, entries_listed}

-- the five places, of which the first hold these
abbrev pub held : List ListEntry → List ListEntry
held found = found ++ replicate (5 - length found) no_entry

held_more : (found : List ListEntry) (e : ListEntry) → length found < 5 → set (held found) (length found) e ≡ held (found ++ (e ∷ []))
held_more found e h =
    let more : 5 - length found ≡ suc (4 - length found) = omega arith in
    let longer = length-append found (e ∷ []) in
    let same : 4 - length found ≡ 5 - length (found ++ (e ∷ [])) = omega arith in
    ap (λ (n : ℕ). set (found ++ replicate n no_entry) (length found) e) more
    ∙ set_at found no_entry (replicate (4 - length found) no_entry) e (length found) refl
    ∙ sym (append_snoc found e (replicate (4 - length found) no_entry))
    ∙ ap (λ (n : ℕ). (found ++ (e ∷ [])) ++ replicate n no_entry) same

module _ (f : Field) where
  -- what is listed before index i of the order: the array, and that the rest of the order gives the rest of the list
  pub record Taken (order : List ℕ) (entries : List ListEntry) (i : ℕ) : Type 0 where
    pub found : List ListEntry
    pub array : entries ≡ held found
    pub counted : i ≡ length found
    pub rest : found ++ list_entries f (suc i) (drop i order) ≡ list_entries f 1 order

  pub taken_none : (order : List ℕ) {entries : List ListEntry} → entries ≡ replicate 5 no_entry → Taken order entries 0
  taken_none order e = record { found = []; array = e; counted = refl; rest = refl }

  -- the next of the order, at the place after its index
  pub taken_more : (order : List ℕ) (i : ℕ) → i < length order → i < 5 → {entries : List ListEntry} → Taken order entries i → {e : ListEntry} → e ≡ list_entry f (get_or order i 0) (i + 1)
      → Taken order (set entries i e) (i + 1)
  taken_more order i h room {entries} p {e} same = record {
    found = p.found ++ (e ∷ []);
    array = ap (λ (r : List ListEntry). set r i e) p.array ∙ ap (λ (n : ℕ). set (held p.found) n e) p.counted ∙ held_more p.found e (let c = p.counted in omega arith);
    counted = let c = p.counted in let long = length-append p.found (e ∷ []) in omega arith;
    rest =
        let n = get_or order i 0 in
        let behind = list_entries f (suc (i + 1)) (drop (i + 1) order) in
        append_assoc p.found (e ∷ []) behind
        ∙ ap (λ (x : ListEntry). p.found ++ (x ∷ behind)) (same ∙ ap (list_entry f n) (add-one i))
        ∙ ap (λ (k : ℕ). p.found ++ (list_entry f n (suc i) ∷ list_entries f (suc k) (drop (i + 1) order))) (add-one i)
        ∙ ap (λ (r : List ℕ). p.found ++ list_entries f (suc i) r) (sym (next_of order i 0 h))
        ∙ p.rest;
  }

  module _ (order : List ℕ) {i : ℕ} {entries : List ListEntry} (end : i ≡ length order) (p : Taken order entries i) where
    all : p.found ≡ list_entries f 1 order
    all = sym (append-nil p.found) ∙ ap (λ (r : List ℕ). p.found ++ list_entries f (suc i) r) (sym (drop_of_length-le order {i = i} (omega arith))) ∙ p.rest

    -- past the last of the order ..
    pub taken_all : {count : ℕ} → count ≡ i → ◌≡◌ {A = Listing} (record { number = 0; count = count; entries = entries }) (entries_listed (list_entries f 1 order))
    unfolding entries_listed
    taken_all n = (λ t. record { number = 0; count = (n ∙ p.counted) t; entries = p.array t }) ∙ ap entries_listed all

    -- .. and with one more behind it
    pub taken-last : i < 5 → {e x : ListEntry} → e ≡ x → {count : ℕ} → count ≡ i
        → ◌≡◌ {A = Listing} (record { number = 0; count = count + 1; entries = set entries count e }) (entries_listed (list_entries f 1 order ++ (x ∷ [])))
    unfolding entries_listed
    taken-last room {e} same {count} n =
        let longer = length-append p.found (e ∷ []) in
        let c = p.counted in
        let counted : count + 1 ≡ length (p.found ++ (e ∷ [])) = omega arith in
        let array : set entries count e ≡ held (p.found ++ (e ∷ []))
        = ap (λ (r : List ListEntry). set r count e) p.array ∙ ap (λ (n : ℕ). set (held p.found) n e) (n ∙ p.counted) ∙ held_more p.found e (omega arith) in
        let both = ap (λ (l : List ListEntry). l ++ (e ∷ [])) all ∙ ap (λ (y : ListEntry). list_entries f 1 order ++ (y ∷ [])) same in
        (λ t. record { number = 0; count = counted t; entries = array t }) ∙ ap entries_listed both
