-- How long the report of a field's list is, with the line of the next fix or a refusal: at most 512 bytes, which fit the caller's buffer. Assumes nothing.
use mathlib.Core.Path.{◌≡◌, subst}
use mathlib.Core.List.{List, [], ◌∷◌, ◌++◌}
use Prim.Native.Nat.{ℕ, zero, suc, ◌*◌, ◌^◌, ◌≤◌, ◌<◌}
use native.Mathlib.Omega.{arith}
use lib.Dec.{eqb}
use lib.ListN.{length, get_or, take, drop, length-append, length-take}
use Rattle.field.proofs.TestLaws.{either_way}
use Rattle.dialect.specs.declared.ListEntry.{ListEntry}
use Rattle.dialect.specs.declared.Listing.{Listing}
use Rattle.text.specs.Text.{line_of}
use Rattle.text.specs.Buffer.{Put}
use Rattle.text.proofs.Texts.{line_short, put_whole}
use Rattle.session.specs.Report.{refused_report}
use Rattle.session.proofs.LogLines.{refused_length}
use Rattle.listing.specs.Report.{entry_line, entry_lines, refusal, list_report, next_line, classroom_room}
use Rattle.listing.proofs.ListingKnown.{Small, ListingKnown}

entry_short : (e : ListEntry) → e.number < 65536 → e.location < 65536 → e.place < 65536 → e.fix < 65536 → length (entry_line e) ≤ 84
unfolding entry_line
entry_short e n l p f = line_short (e.number ∷ e.location ∷ e.place ∷ e.fix ∷ []) small
  where
    small : (i : ℕ) → get_or (e.number ∷ e.location ∷ e.place ∷ e.fix ∷ []) i 0 < 2 ^ 64
    small zero = omega arith
    small (suc zero) = omega arith
    small (suc (suc zero)) = omega arith
    small (suc (suc (suc zero))) = omega arith
    small (suc (suc (suc (suc i)))) = omega arith

small_part : (n : ℕ) (es : List ListEntry) → Small es → Small (take n es)
small_part zero es h = tt
small_part (suc n) [] h = tt
small_part (suc n) (e ∷ es) h = (h.0, h.1, h.2, h.3, small_part n es h.4)

entries_short : (es : List ListEntry) → Small es → length (entry_lines es) ≤ 84 * length es
entries_short [] h = omega arith
entries_short (e ∷ es) h =
    let one = entry_short e h.0 h.1 h.2 h.3 in
    let rest = entries_short es h.4 in
    let a = length-append (entry_line e) (entry_lines es) in
    omega arith

-- the line of a number of 64 bits
number_short : (n : ℕ) → n < 2 ^ 64 → length (line_of (n ∷ [])) ≤ 21
number_short n h = line_short (n ∷ []) small
  where
    small : (i : ℕ) → get_or (n ∷ []) i 0 < 2 ^ 64
    small zero = h
    small (suc i) = omega arith

pub refusal_short : (n : ℕ) → n < 2 ^ 64 → length (refusal n) ≤ 29
unfolding refusal
refusal_short n h = let l = number_short n h in omega arith

pub refusal_fits : (n : ℕ) → n < 2 ^ 64 → length (refusal n) ≤ 512
refusal_fits n h = let l = refusal_short n h in omega arith

pub next_short : (n : ℕ) → n < 2 ^ 64 → length (next_line n) ≤ 26
unfolding next_line
next_short n h = let l = number_short n h in omega arith

pub refused_file_short : (n : ℕ) → n < 2 ^ 64 → length (refused_report n) ≤ 512
refused_file_short n h = let l = refused_length n h in omega arith

pub list_short : (l : Listing) → ListingKnown l → length (list_report l) ≤ 420
unfolding list_report
list_short l k =
    either_way (λ (b : List ℕ). length b ≤ 420) (eqb l.number 0) (entry_lines (take l.count l.entries)) (refusal l.number)
    (λ e. let h = entries_short (take l.count l.entries) (small_part l.count l.entries k.small) in omega (arith, length-take l.count l.entries, k.places))
    (λ e. let h = refusal_short l.number (let s = k.number in omega arith) in omega arith)

pub both_short : (fix : ℕ) (l : Listing) → fix < 2 ^ 64 → ListingKnown l → length (next_line fix ++ list_report l) ≤ 512
both_short fix l h k =
    let a = length-append (next_line fix) (list_report l) in
    let n = next_short fix h in
    let m = list_short l k in
    omega arith

-- what is put is written, as a contract says it of a report that is the same
pub ends : {before after bytes report : List ℕ} {n : ℕ} → Put before 0 bytes after n → length before ≡ classroom_room → length bytes ≤ classroom_room → bytes ≡ report
    → (n ≡ length report) × ((after ≡ report ++ drop n before) × (n ≤ classroom_room))
ends {before} {after} {n = n} p l h e = subst (λ (b : List ℕ). (n ≡ length b) × ((after ≡ b ++ drop n before) × (n ≤ classroom_room))) e (put_whole classroom_room p l h)
