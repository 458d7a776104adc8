-- The number of a writing, test by test, and what is answered and written by it. Assumes nothing.
use mathlib.Core.Path.{◌≡◌, refl, sym, ap, subst, ◌∙◌}
use mathlib.Core.List.{List, [], ◌∷◌, ◌++◌}
use mathlib.Core.Bool.{Bool, true, false, cond, ◌&&◌}
use Prim.Native.Nat.{ℕ, ◌+◌, ◌*◌, ◌/◌, ◌%◌, ◌≤◌}
use native.Mathlib.Omega.{arith}
use lib.Dec.{eqb, leb}
use lib.ListN.{length, drop}
use lib.Seq.{sets, sets-eq}
use borrow.Author.Tests.{eq-eqb, ne_eqb, eqb-true, leb-true}
use Rattle.std.specs.Prelude.{Result}
use Rattle.std.specs.Result.{IsErrAnd}
use Rattle.refusals.specs.declared.Refusal.{Refusal}
use Rattle.refusals.specs.Refusals.{number_of, outcome_number}
use Rattle.refusals.proofs.Outcomes.{unmet}
use Rattle.limits.specs.Limits.{most_requests}
use Rattle.request.specs.Input.{first_refused}
use Rattle.request.proofs.InputTests.{both_left, both_right}
use Rattle.practice.specs.declared.FileLegs.{FileLegs}
use Rattle.practice.specs.File.{legs_allowed}
use Rattle.practice.specs.Requests.{requests_of}
use Rattle.practice.proofs.Requests.{count}
use Rattle.practice.proofs.FileReadBack.{size}
use Rattle.text.specs.Buffer.{put, Put}
use Rattle.text.proofs.Texts.{put_fits}
use Rattle.writer.specs.declared.Writing.{Writing}
use Rattle.writer.specs.Writer.{file_of, requests_allowed, first_offence, file_fits, writing_number, writing_of, buffer_after}

-- the file's length, from how many bytes were lent
pub file_size : (legs : FileLegs) (bytes : List ℕ) → length (file_of legs bytes) ≡ 34 + 6 * (length bytes / 6)
file_size legs bytes = size legs (requests_of bytes) ∙ ap (λ (n : ℕ). 34 + 6 * n) (count bytes)

-- the order of the numbers, from what the four tests gave
abbrev pub first_number : Bool → Bool → ℕ → Bool → ℕ
first_number legs list offence room = first_refused ((7, legs) ∷ (5, list) ∷ (offence, eqb offence 0) ∷ (28, room) ∷ [])

-- the tests of the list and of the room, from how many bytes were lent
pub list_read : (bytes : List ℕ) {l : Bool} → l ≡ (eqb (length bytes % 6) 0 && leb (length bytes / 6) most_requests) → l ≡ requests_allowed bytes
list_read bytes l = l ∙ ap (λ (n : ℕ). eqb (length bytes % 6) 0 && leb n most_requests) (sym (count bytes))

pub fits_read : (legs : FileLegs) (bytes : List ℕ) (room : ℕ) {f : Bool} → f ≡ leb (34 + 6 * (length bytes / 6)) room → f ≡ file_fits legs bytes room
fits_read legs bytes room f = f ∙ ap (λ (n : ℕ). leb n room) (sym (file_size legs bytes))

-- where no request breaks the rules, what follows decides; where one does, its number is the answer
pub offence_none : {o x y : ℕ} → 0 ≡ o → y ≡ x → y ≡ cond (eqb o 0) x o
offence_none {o} {x} e q = q ∙ sym (ap (λ (t : Bool). cond t x o) (eq-eqb o 0 (sym e)))

pub offence_some : {A : Type 0} {o : ℕ} (x : ℕ) (p : Result A Refusal) (why : Refusal) → number_of why ≡ o → IsErrAnd p (λ y. y ≡ why) → outcome_number p ≡ cond (eqb o 0) x o
offence_some {o = o} x p why h f = unmet {b = eqb o 0} {t = eqb o 0} o x p why (h ∙ go (eqb o 0) refl) refl f
  where
    go : (t : Bool) → eqb o 0 ≡ t → o ≡ cond t 0 o
    go true t = eqb-true o 0 t
    go false t = refl

-- ---- the number 0: every test is passed
pub record Allowed (legs : FileLegs) (bytes : List ℕ) (room : ℕ) : Type 0 where
  pub legal : legs_allowed legs ≡ true
  pub whole : length bytes % 6 ≡ 0
  pub few : length (requests_of bytes) ≤ most_requests
  pub kept : first_offence (requests_of bytes) ≡ 0
  pub fits : length (file_of legs bytes) ≤ room

none_applies : (a l : Bool) (o : ℕ) (f : Bool) → first_number a l o f ≡ 0 → (a ≡ true) × (l ≡ true) × (o ≡ 0) × (f ≡ true)
none_applies false l o f e = absurd (omega arith)
none_applies true false o f e = absurd (omega arith)
none_applies true true o f e = go (eqb o 0) refl f e
  where
    go : (t : Bool) → eqb o 0 ≡ t → (f : Bool) → cond t (cond f 0 28) o ≡ 0 → (◌≡◌ {A = Bool} true true) × (◌≡◌ {A = Bool} true true) × (o ≡ 0) × (f ≡ true)
    go true t true z = (refl, refl, eqb-true o 0 t, refl)
    go true t false z = absurd (omega arith)
    go false t g z = absurd (let q = sym t ∙ eq-eqb o 0 z in let w : ◌≡◌ {A = ℕ} 0 1 = cc in omega arith)

pub allowed : (legs : FileLegs) (bytes : List ℕ) (room : ℕ) → writing_number legs bytes room ≡ 0 → Allowed legs bytes room
unfolding writing_number
allowed legs bytes room e =
    let p = none_applies (legs_allowed legs) (requests_allowed bytes) (first_offence (requests_of bytes)) (file_fits legs bytes room) e in
    let s = eqb (length bytes % 6) 0 in
    let m = leb (length (requests_of bytes)) most_requests in
    record {
      legal = p.0;
      whole = eqb-true (length bytes % 6) 0 (both_left s m p.1);
      few = leb-true (length (requests_of bytes)) most_requests (both_right s m p.1);
      kept = p.2;
      fits = leb-true (length (file_of legs bytes)) room p.3;
    }

-- ---- what is answered, and what the buffer holds
pub answer_refused : (legs : FileLegs) (bytes : List ℕ) (room : ℕ) {n : ℕ} → n ≡ writing_number legs bytes room → (n ≡ 0 → ⊥)
    → ◌≡◌ {A = Writing} (record { number = n; length = 0 }) (writing_of legs bytes room)
answer_refused legs bytes room {n} e z =
    let w = writing_number legs bytes room in
    let f = ne_eqb w 0 (λ q. z (e ∙ q)) in
    λ i. record { number = e i; length = cond (sym f i) (length (file_of legs bytes)) 0 }

pub buffer_refused : (legs : FileLegs) (bytes buffer : List ℕ) {n : ℕ} → n ≡ writing_number legs bytes (length buffer) → (n ≡ 0 → ⊥) → buffer ≡ buffer_after legs bytes buffer
buffer_refused legs bytes buffer e z =
    let f = ne_eqb (writing_number legs bytes (length buffer)) 0 (λ q. z (e ∙ q)) in
    λ i. cond (sym f i) (file_of legs bytes ++ drop (length (file_of legs bytes)) buffer) buffer

pub answer_written : (legs : FileLegs) (bytes : List ℕ) (room : ℕ) {end : ℕ} → writing_number legs bytes room ≡ 0 → end ≡ length (file_of legs bytes)
    → ◌≡◌ {A = Writing} (record { number = 0; length = end }) (writing_of legs bytes room)
answer_written legs bytes room e l =
    let t = eq-eqb (writing_number legs bytes room) 0 e in
    λ i. record { number = sym e i; length = (l ∙ (λ j. cond (sym t j) (length (file_of legs bytes)) 0)) i }

pub buffer_written : (legs : FileLegs) (bytes buffer : List ℕ) {after : List ℕ} → writing_number legs bytes (length buffer) ≡ 0
    → after ≡ file_of legs bytes ++ drop (length (file_of legs bytes)) buffer → after ≡ buffer_after legs bytes buffer
buffer_written legs bytes buffer e a =
    let t = eq-eqb (writing_number legs bytes (length buffer)) 0 e in
    a ∙ (λ i. cond (sym t i) (file_of legs bytes ++ drop (length (file_of legs bytes)) buffer) buffer)

-- ---- a file that is put from the buffer's first byte on, where there is room for all of it
module _ {before bytes after : List ℕ} {end : ℕ} (file : List ℕ) (p : Put before 0 bytes after end) (e : bytes ≡ file) (h : length file ≤ length before) where
  abbrev all : Put before 0 file after end
  all = subst (λ (l : List ℕ). Put before 0 l after end) e p

  fitted : put before 0 file ≡ (sets before 0 file, 0 + length file)
  fitted = put_fits before 0 file (omega arith)

  pub put_end : end ≡ length file
  put_end = all.next ∙ ap (λ (q : List ℕ × ℕ). q.1) fitted ∙ (omega arith)

  pub put_whole : after ≡ file ++ drop (length file) before
  put_whole = all.buffer ∙ ap (λ (q : List ℕ × ℕ). q.0) fitted ∙ sets-eq file before 0 (omega arith) ∙ ap (λ (k : ℕ). file ++ drop k before) {x = 0 + length file} {y = length file} (omega arith)
