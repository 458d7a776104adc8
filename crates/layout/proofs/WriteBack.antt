-- Bytes whose history has no NaN are the bytes that are written for it: no state has two encodings. Assumes nothing.
use mathlib.Core.Path.{◌≡◌, refl, sym, ap, subst, ◌∙◌}
use mathlib.Core.Bool.{Bool, true, false}
use mathlib.Core.List.{List, [], ◌∷◌, ◌++◌}
use Prim.Native.Nat.{ℕ, zero, suc, ◌+◌, ◌/◌, ◌%◌, ◌<◌}
use native.Mathlib.Nat.{zero-add}
use native.Mathlib.Omega.{arith}
use lib.Dec.{eqb}
use lib.Ieee.{binary64}
use lib.Ieee.Bits.{to_bits-of_bits}
use lib.ListN.{length, get_or, length-append}
use lib.Seq.{ext_get_or}
use borrow.Author.Tests.{eqb-true}
use Rattle.practice.specs.File.{number16, number32}
use Rattle.practice.specs.Practice.{bytes16, bytes32}
use Rattle.words.specs.Words.{number64, bytes64, miles_of, bits_of}
use Rattle.leg.specs.declared.Progress.{Progress}
use Rattle.leg.specs.declared.Progress.TheVariants.{Waiting, Flying}
use Rattle.field.proofs.TestLaws.{if_true, if_false}
use Rattle.layout.specs.Read.{several, waiting, progress_of, read_aircraft, read_zone, read_sequence, read_legs, read_field, read_entry, read_indexed, read_history, state_size}
use Rattle.layout.specs.Written.{bytes_of_each, progress_bits, aircraft_bytes, zone_bytes, sequence_bytes, legs_bytes, field_bytes, index_entry_bytes, indexed_bytes, history_bytes}
use Rattle.field.specs.Lists.{Each}
use Rattle.layout.specs.Held.{NoNan, ProgressWith, AircraftWith, ZoneWith, LegsWith, FieldWith, IndexedWith, HistoryNoNan}
use Rattle.layout.proofs.PartSizes.{Any, any_each, aircraft_size_lem, zone_size_lem, sequence_size, zones_size, field_size_lem, indexed_size, kept_size, state_size_lem}
use Rattle.layout.proofs.BytesAt.{Holds, each_size}

holds_both : (b : List ℕ) (at : ℕ) (xs ys : List ℕ) → Holds b at xs → {n : ℕ} → length xs ≡ n → Holds b (at + n) ys → Holds b at (xs ++ ys)
holds_both b at [] ys p {n} e q = subst (λ (i : ℕ). Holds b i ys) (omega arith) q
holds_both b at (x ∷ xs) ys p {n} e q = (p.0, holds_both b (at + 1) xs ys p.1 refl (subst (λ (i : ℕ). Holds b i ys) (omega arith) q))

holds_at : (b : List ℕ) (at : ℕ) (xs : List ℕ) (i : ℕ) → i < length xs → Holds b at xs → get_or b (at + i) 0 ≡ get_or xs i 0
holds_at b at [] i h p = absurd (omega arith)
holds_at b at (x ∷ xs) zero h p = ap (λ (j : ℕ). get_or b j 0) (omega arith) ∙ p.0
holds_at b at (x ∷ xs) (suc i) h p =
    let e : at + suc i ≡ at + 1 + i = omega arith in
    ap (λ (j : ℕ). get_or b j 0) e ∙ holds_at b (at + 1) xs i (omega arith) p.1

-- as many bytes as there are, all of which stand there
all_held : (b xs : List ℕ) → length xs ≡ length b → Holds b 0 xs → xs ≡ b
all_held b xs e h = ext_get_or 0 xs b e (λ i l. sym (ap (λ (j : ℕ). get_or b j 0) (sym (zero-add i)) ∙ holds_at b 0 xs i l h))

-- where every byte is below 256
module _ (b : List ℕ) (small : (i : ℕ) → get_or b i 0 < 256) where
  there16 : (at : ℕ) → Holds b at (bytes16 (number16 b at))
  there16 at = let x = small at in let y = small (at + 1) in (omega (arith, x, y), (omega (arith, x, y), tt))

  below16 : (at : ℕ) → number16 b at < 65536
  below16 at = let x = small at in let y = small (at + 1) in omega (arith, x, y)

  there32 : (at : ℕ) → Holds b at (bytes32 (number32 b at))
  there32 at =
      let x = below16 at in
      let low : number16 b at ≡ number32 b at % 65536 = omega (arith, x) in
      let high : number16 b (at + 2) ≡ number32 b at / 65536 = omega (arith, x) in
      holds_both b at (bytes16 (number32 b at % 65536)) (bytes16 (number32 b at / 65536))
      (subst (λ (n : ℕ). Holds b at (bytes16 n)) low (there16 at)) refl (subst (λ (n : ℕ). Holds b (at + 2) (bytes16 n)) high (there16 (at + 2)))

  below32 : (at : ℕ) → number32 b at < 4294967296
  below32 at = let x = below16 at in let y = below16 (at + 2) in omega (arith, x, y)

  there64 : (at : ℕ) → Holds b at (bytes64 (number64 b at))
  there64 at =
      let x = below32 at in
      let low : number32 b at ≡ number64 b at % 4294967296 = omega (arith, x) in
      let high : number32 b (at + 4) ≡ number64 b at / 4294967296 = omega (arith, x) in
      holds_both b at (bytes32 (number64 b at % 4294967296)) (bytes32 (number64 b at / 4294967296))
      (subst (λ (n : ℕ). Holds b at (bytes32 n)) low (there32 at)) refl (subst (λ (n : ℕ). Holds b (at + 4) (bytes32 n)) high (there32 (at + 4)))

  below64 : (at : ℕ) → number64 b at < 18446744073709551616
  below64 at = let x = below32 at in let y = below32 (at + 4) in omega (arith, x, y)

  miles_there : (at : ℕ) → NoNan (miles_of (number64 b at)) → Holds b at (bytes64 (bits_of (miles_of (number64 b at))))
  miles_there at p = subst (λ (n : ℕ). Holds b at (bytes64 n)) (sym (to_bits-of_bits binary64 (number64 b at) (below64 at) p)) (there64 at)

  progress_there : (at : ℕ) → ProgressWith NoNan (progress_of (number64 b at)) → Holds b at (bytes64 (progress_bits (progress_of (number64 b at))))
  progress_there at p = go (eqb (number64 b at) waiting) refl
    where
      go : (t : Bool) → eqb (number64 b at) waiting ≡ t → Holds b at (bytes64 (progress_bits (progress_of (number64 b at))))
      go true e = subst (λ (n : ℕ). Holds b at (bytes64 n)) (eqb-true _ _ e ∙ sym (ap progress_bits (if_true _ _ e))) (there64 at)
      go false e =
          let flown = if_false Waiting (Flying (miles_of (number64 b at))) e in
          subst (λ (q : Progress). Holds b at (bytes64 (progress_bits q))) (sym flown) (miles_there at (subst (ProgressWith NoNan) flown p))

  each_there : {A : Type 0} (P : A → Type 0) (write : A → List ℕ) (size : ℕ) → ((x : A) → P x → length (write x) ≡ size)
      → (read : ℕ → A) → ((at : ℕ) → P (read at) → Holds b at (write (read at)))
      → (n at : ℕ) → Each P (several read size n at) → Holds b at (bytes_of_each write (several read size n at))
  each_there P write size sized read reads zero at ps = tt
  each_there P write size sized read reads (suc n) at ps =
      holds_both b at (write (read at)) (bytes_of_each write (several read size n (at + size))) (reads at ps.0) (sized (read at) ps.0)
      (each_there P write size sized read reads n (at + size) ps.1)

  aircraft_there : (at : ℕ) → AircraftWith NoNan (read_aircraft b at) → Holds b at (aircraft_bytes (read_aircraft b at))
  unfolding read_aircraft aircraft_bytes
  aircraft_there at p =
      let n = bytes16 (number16 b at) in
      let d = get_or b (at + 2) 0 ∷ get_or b (at + 3) 0 ∷ [] in
      let s = bytes16 (number16 b (at + 4)) in
      let r = bytes64 (progress_bits (progress_of (number64 b (at + 6)))) in
      let w = bytes64 (bits_of (miles_of (number64 b (at + 14)))) in
      let l = bytes64 (bits_of (miles_of (number64 b (at + 22)))) in
      let desk : at + 2 + 1 ≡ at + 3 = omega arith in
      let two : Holds b (at + 2) d = (refl, (ap (λ (i : ℕ). get_or b i 0) desk, tt)) in
      let h2 = holds_both b at n d (there16 at) refl two in
      let h3 = holds_both b at (n ++ d) s h2 refl (there16 (at + 4)) in
      let h4 = holds_both b at (n ++ d ++ s) r h3 refl (progress_there (at + 6) p.progress) in
      let h5 = holds_both b at (n ++ d ++ s ++ r) w h4 refl (miles_there (at + 14) p.waited) in
      holds_both b at (n ++ d ++ s ++ r ++ w) l h5 refl (miles_there (at + 22) p.leg)

  zone_there : (at : ℕ) → ZoneWith NoNan (read_zone b at) → Holds b at (zone_bytes (read_zone b at))
  unfolding read_zone zone_bytes
  zone_there at p =
      let four = several (read_aircraft b) 30 4 at in
      let e = each_size (AircraftWith NoNan) aircraft_bytes 30 aircraft_size_lem four p.aircraft in
      let before : length (bytes_of_each aircraft_bytes four) ≡ 120 = e in
      holds_both b at (bytes_of_each aircraft_bytes four) (bytes64 (number64 b (at + 120)))
      (each_there (AircraftWith NoNan) aircraft_bytes 30 aircraft_size_lem (read_aircraft b) aircraft_there 4 at p.aircraft) before (there64 (at + 120))

  sequence_there : (at : ℕ) → Holds b at (sequence_bytes (read_sequence b at))
  unfolding read_sequence sequence_bytes
  sequence_there at =
      let four = several (number16 b) 2 4 at in
      holds_both b at (bytes_of_each bytes16 four) (bytes64 (number64 b (at + 8))) (each_there Any bytes16 2 (λ x p. refl) (number16 b) (λ i p. there16 i) 4 at (any_each four)) refl (there64 (at + 8))

  legs_there : (at : ℕ) → LegsWith NoNan (read_legs b at) → Holds b at (legs_bytes (read_legs b at))
  unfolding read_legs legs_bytes
  legs_there at p =
      let m = bytes64 (bits_of (miles_of (number64 b at))) in
      let s = bytes64 (bits_of (miles_of (number64 b (at + 8)))) in
      let i = bytes64 (bits_of (miles_of (number64 b (at + 16)))) in
      let f = bytes64 (bits_of (miles_of (number64 b (at + 24)))) in
      let h2 = holds_both b at m s (miles_there at p.missed) refl (miles_there (at + 8) p.base) in
      let h3 = holds_both b at (m ++ s) i h2 refl (miles_there (at + 16) p.intermediate) in
      holds_both b at (m ++ s ++ i) f h3 refl (miles_there (at + 24) p.final_leg)

  field_there : (at : ℕ) → FieldWith NoNan (read_field b at) → Holds b at (field_bytes (read_field b at))
  unfolding read_field field_bytes
  field_there at p =
      let zs = several (read_zone b) 128 13 at in
      let z = bytes_of_each zone_bytes zs in
      let s = sequence_bytes (read_sequence b (at + 1664)) in
      let o = get_or b (at + 1680) 0 ∷ [] in
      let l = legs_bytes (read_legs b (at + 1681)) in
      let e1 = zones_size (read_field b at) p in
      let e2 = sequence_size (read_sequence b (at + 1664)) p.numbers in
      let a1 = length-append z s in
      let a2 = length-append (z ++ s) o in
      let two : length (z ++ s) ≡ 1680 = omega (arith, a1, e1, e2) in
      let three : length (z ++ s ++ o) ≡ 1681 = omega (arith, a2, two) in
      let h1 = holds_both b at z s (each_there (ZoneWith NoNan) zone_bytes 128 zone_size_lem (read_zone b) zone_there 13 at p.zones) e1 (sequence_there (at + 1664)) in
      let next : Holds b (at + 1680) o = (refl, tt) in
      let h2 = holds_both b at (z ++ s) o h1 two next in
      holds_both b at (z ++ s ++ o) l h2 three (legs_there (at + 1681) p.legs)

  entry_there : (at : ℕ) → Holds b at (index_entry_bytes (read_entry b at))
  entry_there at =
      let place : at + 2 + 1 ≡ at + 3 = omega arith in
      let two : Holds b (at + 2) (get_or b (at + 2) 0 ∷ get_or b (at + 3) 0 ∷ []) = (refl, (ap (λ (i : ℕ). get_or b i 0) place, tt)) in
      holds_both b at (bytes16 (number16 b at)) (get_or b (at + 2) 0 ∷ get_or b (at + 3) 0 ∷ []) (there16 at) refl two

  indexed_there : (at : ℕ) → IndexedWith NoNan (read_indexed b at) → Holds b at (indexed_bytes (read_indexed b at))
  unfolding read_indexed indexed_bytes
  indexed_there at p =
      let es = several (read_entry b) 4 5 (at + 1713) in
      holds_both b at (field_bytes (read_field b at)) (bytes_of_each index_entry_bytes es) (field_there at p.field) (field_size_lem (read_field b at) p.field)
      (each_there Any index_entry_bytes 4 (λ x p. refl) (read_entry b) (λ i p. entry_there i) 5 (at + 1713) (any_each es))

  state_there : HistoryNoNan (read_history b) → Holds b 0 (history_bytes (read_history b))
  unfolding read_history history_bytes
  state_there p =
      let ks = several (read_indexed b) 1733 8 1733 in
      let x = indexed_bytes (read_indexed b 0) in
      let k = bytes_of_each indexed_bytes ks in
      let e1 = indexed_size (read_indexed b 0) p.now in
      let e2 = kept_size (read_history b) p in
      let a = length-append x k in
      let two : length (x ++ k) ≡ 15597 = omega (arith, a, e1, e2) in
      let first = holds_both b 0 x k (indexed_there 0 p.now) e1 (each_there (IndexedWith NoNan) indexed_bytes 1733 indexed_size (read_indexed b) indexed_there 8 1733 p.kept) in
      holds_both b 0 (x ++ k) (bytes64 (number64 b 15597)) first two (there64 15597)

-- bytes below 256 each, read where there are none too
small_each : (b : List ℕ) → Each (λ (x : ℕ). x < 256) b → (i : ℕ) → get_or b i 0 < 256
small_each [] p i = omega arith
small_each (x ∷ xs) p zero = p.0
small_each (x ∷ xs) p (suc i) = small_each xs p.1 i

pub write_back : (b : List ℕ) → Each (λ (x : ℕ). x < 256) b → length b ≡ state_size → HistoryNoNan (read_history b) → history_bytes (read_history b) ≡ b
write_back b bytes long p = all_held b (history_bytes (read_history b)) (state_size_lem (read_history b) p ∙ sym long) (state_there b (small_each b bytes) p)
