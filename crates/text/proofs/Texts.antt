-- Laws of the text: the digits of a number, one and more, and how many; bytes put one after the other. Assumes nothing.
use mathlib.Core.Path.{◌≡◌, refl, sym, ap, ◌∙◌}
use mathlib.Core.Bool.{Bool, true, false, cond}
use mathlib.Core.List.{List, [], ◌∷◌, ◌++◌, append-nil}
use Prim.Native.Nat.{ℕ, zero, suc, ◌+◌, ◌*◌, ◌/◌, ◌%◌, ◌^◌, ◌≤◌, ◌<◌}
use native.Mathlib.Nat.{pow-succ'}
use native.Mathlib.Numerals.{add-one}
use native.Mathlib.Omega.{arith}
use lib.Dec.{ltb}
use lib.ListN.{length, set, get_or, drop, length-append, length-set}
use lib.Seq.{sets, sets-eq, set_out, drop-cons, drop-nil, append_snoc}
use borrow.Author.Tests.{lt-ltb, le-ltb, ltb-true, ltb-false}
use Rattle.text.specs.Text.{digits_up_to, decimal, space, newline, mark_before, line_of}
use Rattle.text.specs.Buffer.{put, Put, room, Written}

-- ---- the digits of a number

digits_one : (k n : ℕ) → n < 10 → digits_up_to (suc k) n ≡ (48 + n) ∷ []
unfolding digits_up_to
digits_one k n h = ap (λ (t : Bool). cond t ((48 + n) ∷ []) (digits_up_to k (n / 10) ++ ((48 + n % 10) ∷ []))) (lt-ltb n 10 h)

digits_more : (k n : ℕ) → 10 ≤ n → digits_up_to (suc k) n ≡ digits_up_to k (n / 10) ++ ((48 + n % 10) ∷ [])
unfolding digits_up_to
digits_more k n h = ap (λ (t : Bool). cond t ((48 + n) ∷ []) (digits_up_to k (n / 10) ++ ((48 + n % 10) ∷ []))) (le-ltb n 10 h)

-- a bound above the number changes nothing
digits_enough : (k j n : ℕ) → n < k → n < j → digits_up_to k n ≡ digits_up_to j n
digits_enough zero j n h g = absurd (omega arith)
digits_enough (suc k) zero n h g = absurd (omega arith)
digits_enough (suc k) (suc j) n h g = go (ltb n 10) refl (λ d d'. digits_enough k j (n / 10) d d')
  where
    go : (b : Bool) → ltb n 10 ≡ b → (n / 10 < k → n / 10 < j → digits_up_to k (n / 10) ≡ digits_up_to j (n / 10)) → digits_up_to (suc k) n ≡ digits_up_to (suc j) n
    go true e rest = digits_one k n (ltb-true n 10 e) ∙ sym (digits_one j n (ltb-true n 10 e))
    go false e rest =
        let l : 10 ≤ n = ltb-false n 10 e in
        let d : n / 10 < k = omega arith in
        let d' : n / 10 < j = omega arith in
        digits_more k n l ∙ ap (λ (ds : List ℕ). ds ++ ((48 + n % 10) ∷ [])) (rest d d') ∙ sym (digits_more j n l)

pub decimal_one : (n : ℕ) → n < 10 → decimal n ≡ (48 + n) ∷ []
unfolding decimal
decimal_one n h = digits_one n n h

pub decimal_more : (n : ℕ) → 10 ≤ n → decimal n ≡ decimal (n / 10) ++ ((48 + n % 10) ∷ [])
unfolding decimal
decimal_more n h =
    let d : n / 10 < n = omega arith in
    let d' : n / 10 < suc (n / 10) = omega arith in
    digits_more n n h ∙ ap (λ (ds : List ℕ). ds ++ ((48 + n % 10) ∷ [])) (digits_enough n (suc (n / 10)) (n / 10) d d')

-- a number below 10 ^ k has at most k digits
pub decimal_short : (k n : ℕ) → n < 10 ^ suc k → length (decimal n) ≤ suc k
decimal_short zero n h = let l = ap length (decimal_one n h) in omega arith
decimal_short (suc k) n h = go (ltb n 10) refl (λ d. decimal_short k (n / 10) d)
  where
    go : (b : Bool) → ltb n 10 ≡ b → (n / 10 < 10 ^ suc k → length (decimal (n / 10)) ≤ suc k) → length (decimal n) ≤ suc (suc k)
    go true e rest = let l = ap length (decimal_one n (ltb-true n 10 e)) in omega arith
    go false e rest =
        let m = ap length (decimal_more n (ltb-false n 10 e)) in
        let a = length-append (decimal (n / 10)) ((48 + n % 10) ∷ []) in
        let p : 10 ^ suc (suc k) ≡ 10 * 10 ^ suc k = pow-succ' 10 (suc k) in
        let s = rest (omega arith) in
        omega arith

-- ---- bytes put one after the other

put_append : (b : List ℕ) (at : ℕ) (xs ys : List ℕ) → put b at (xs ++ ys) ≡ put (put b at xs).0 (put b at xs).1 ys
put_append b at [] ys = refl
put_append b at (x ∷ xs) ys = put_append (set b at x) (cond (ltb at (length b)) (suc at) at) xs ys

-- what a buffer and a place come to when more is put
after_them : {b m : List ℕ} {at e : ℕ} {xs : List ℕ} (ys : List ℕ) → Put b at xs m e → put m e ys ≡ put b at (xs ++ ys)
after_them {b} {m} {at} {e} {xs} ys p = ap (λ (l : List ℕ). put l e ys) p.buffer ∙ ap (λ (n : ℕ). put (put b at xs).0 n ys) p.next ∙ sym (put_append b at xs ys)

pub put_more : {b m a : List ℕ} {at e f : ℕ} {xs ys : List ℕ} → Put b at xs m e → Put m e ys a f → Put b at (xs ++ ys) a f
put_more {ys = ys} p q =
    let all = after_them ys p in
    record { buffer = q.buffer ∙ ap (λ (r : List ℕ × ℕ). r.0) all; next = q.next ∙ ap (λ (r : List ℕ × ℕ). r.1) all }

pub put_none : (b : List ℕ) (at : ℕ) → Put b at [] b at
put_none b at = record { buffer = refl; next = refl }

-- the buffer keeps its length
put_length : (b : List ℕ) (at : ℕ) (xs : List ℕ) → length (put b at xs).0 ≡ length b
put_length b at [] = refl
put_length b at (x ∷ xs) = put_length (set b at x) (cond (ltb at (length b)) (suc at) at) xs ∙ length-set b at x

pub put_same : {b a : List ℕ} {at e : ℕ} {xs : List ℕ} → Put b at xs a e → length a ≡ length b
put_same {b} {at = at} {xs = xs} p = ap length p.buffer ∙ put_length b at xs

-- where there is room for all of them they are a run of stores
pub put_fits : (b : List ℕ) (at : ℕ) (xs : List ℕ) → at + length xs ≤ length b → ◌≡◌ {A = List ℕ × ℕ} (put b at xs) (sets b at xs, at + length xs)
put_fits b at [] h = ap (λ (n : ℕ). (b, n)) {x = at} {y = at + 0} (omega arith)
put_fits b at (x ∷ xs) h =
    let l = length-set b at x in
    ap (λ (t : Bool). put (set b at x) (cond t (suc at) at) xs) (lt-ltb at (length b) (omega arith))
    ∙ put_fits (set b at x) (suc at) xs (omega arith)
    ∙ ap (λ (n : ℕ). (sets (set b at x) (suc at) xs, n)) {x = suc at + length xs} {y = at + suc (length xs)} (omega arith)

-- what is put from the buffer's first byte on, and fits, is written
pub put_whole : {before after bytes : List ℕ} {n : ℕ} (size : ℕ) → Put before 0 bytes after n → length before ≡ size
    → length bytes ≤ size → (n ≡ length bytes) × ((after ≡ bytes ++ drop n before) × (n ≤ size))
put_whole {before} {after} {bytes} {n} size p l h =
    let all = put_fits before 0 bytes (omega arith) in
    let long : n ≡ length bytes = let e = ap (λ (q : List ℕ × ℕ). q.1) all in omega (arith, p.next) in (
      long,
      (
        p.buffer ∙ ap (λ (q : List ℕ × ℕ). q.0) all ∙ sets-eq bytes before 0 (omega arith) ∙ ap (λ (k : ℕ). bytes ++ drop k before) {x = 0 + length bytes} {y = n} (omega arith),
        omega arith,
      ),
    )

-- so is a report
pub written : {before after bytes : List ℕ} {n : ℕ} → Put before 0 bytes after n → length before ≡ room → length bytes ≤ room → Written bytes before n after
written p l h = let w = put_whole room p l h in record { size = w.0; buffer = w.1.0; fits = w.1.1 }

-- the same, as a contract says it
pub stated : {bytes before after : List ℕ} {n : ℕ} → Written bytes before n after → (n ≡ length bytes) × ((after ≡ bytes ++ drop n before) × (n ≤ room))
stated w = (w.size, (w.buffer, w.fits))

-- ---- a loop that puts: when what is left is put, all is put
pub record Left (before : List ℕ) (at : ℕ) (all : List ℕ) (buffer : List ℕ) (end : ℕ) (rest : List ℕ) : Type 0 where
  pub same : length buffer ≡ length before
  pub whole : put buffer end rest ≡ put before at all

pub left_all : (b : List ℕ) (at : ℕ) (xs : List ℕ) → Left b at xs b at xs
left_all b at xs = record { same = refl; whole = refl }

pub left_more : {b m n all : List ℕ} {at e f : ℕ} {rest : List ℕ} (xs ys : List ℕ) → Left b at all m e rest → rest ≡ xs ++ ys → Put m e xs n f → Left b at all n f ys
left_more {m = m} {e = e} xs ys l s p = record { same = put_same p ∙ l.same; whole = after_them ys p ∙ sym (ap (put m e) s) ∙ l.whole }

pub left_none : {b m all : List ℕ} {at e : ℕ} {rest : List ℕ} → Left b at all m e rest → rest ≡ [] → Put b at all m e
left_none {m = m} {e = e} l s =
    let all = sym (ap (put m e) s) ∙ l.whole in
    record { buffer = ap (λ (q : List ℕ × ℕ). q.0) all; next = ap (λ (q : List ℕ × ℕ). q.1) all }

-- a byte that finds room, and one that finds none
pub one_put : (b : List ℕ) (at byte : ℕ) → at < length b → Put b at (byte ∷ []) (set b at byte) (at + 1)
one_put b at byte h = record { buffer = refl; next = add-one at ∙ sym (ap (λ (t : Bool). cond t (suc at) at) (lt-ltb at (length b) h)) }

pub none_put : (b : List ℕ) (at byte : ℕ) → length b ≤ at → Put b at (byte ∷ []) b at
none_put b at byte h = record { buffer = sym (set_out b at byte h); next = sym (ap (λ (t : Bool). cond t (suc at) at) (le-ltb at (length b) h)) }

-- the i-th of a list, and those behind
pub from_here : (l : List ℕ) (i : ℕ) → i < length l → drop i l ≡ get_or l i 0 ∷ drop (i + 1) l
from_here l i h = rw (add-one) (drop-cons l i 0 h)

pub past_all : (l : List ℕ) (i : ℕ) → length l ≤ i → drop i l ≡ []
past_all [] i h = drop-nil i
past_all (x ∷ l) zero h = absurd (omega arith)
past_all (x ∷ l) (suc i) h = past_all l i (omega arith)

-- ---- a line of numbers: the last one, and those before it from the i-th on
mark_between : (ns : List ℕ) (last : ℕ) → mark_before (ns ++ (last ∷ [])) ≡ space
mark_between [] last = refl
mark_between (n ∷ ns) last = refl

line_here : (ns : List ℕ) (last i : ℕ) → i < length ns
    → line_of (drop i ns ++ (last ∷ [])) ≡ (decimal (get_or ns i 0) ++ (space ∷ [])) ++ line_of (drop (i + 1) ns ++ (last ∷ []))
line_here ns last i h =
    let n = decimal (get_or ns i 0) in
    let rest = drop (i + 1) ns in
    ap (λ (l : List ℕ). line_of (l ++ (last ∷ []))) (from_here ns i h)
    ∙ ap (λ (m : ℕ). n ++ (m ∷ line_of (rest ++ (last ∷ [])))) (mark_between rest last)
    ∙ sym (append_snoc n space (line_of (rest ++ (last ∷ []))))

-- the i-th number and the space behind it are put
pub line_more : {b m n o all : List ℕ} {at e f g : ℕ} (ns : List ℕ) (last i : ℕ) → i < length ns → Left b at all m e (line_of (drop i ns ++ (last ∷ [])))
    → Put m e (decimal (get_or ns i 0)) n f → Put n f (space ∷ []) o g → Left b at all o g (line_of (drop (i + 1) ns ++ (last ∷ [])))
line_more ns last i h rest p q = left_more (decimal (get_or ns i 0) ++ (space ∷ [])) (line_of (drop (i + 1) ns ++ (last ∷ []))) rest (line_here ns last i h) (put_more p q)

-- the last number and the newline are put
pub line_end : {b m n o all : List ℕ} {at e f g : ℕ} (ns : List ℕ) (last i : ℕ) → length ns ≤ i → Left b at all m e (line_of (drop i ns ++ (last ∷ [])))
    → Put m e (decimal last) n f → Put n f (newline ∷ []) o g → Put b at all o g
line_end ns last i h rest p q = left_none (left_more (line_of (last ∷ [])) [] rest (ap (λ (l : List ℕ). line_of (l ++ (last ∷ []))) (past_all ns i h) ∙ sym (append-nil _)) (put_more p q)) refl

-- ---- how long a line is
pub line_length : (n : ℕ) (ns : List ℕ) (k : ℕ) → n < 10 ^ suc k → length (line_of (n ∷ ns)) ≤ suc (suc k) + length (line_of ns)
line_length n ns k h =
    let d = decimal_short k n h in
    let a = length-append (decimal n) (mark_before ns ∷ line_of ns) in
    omega arith

-- a line of numbers of 64 bits
pub line_short : (ns : List ℕ) → ((i : ℕ) → get_or ns i 0 < 2 ^ 64) → length (line_of ns) ≤ 21 * length ns
line_short [] w = omega arith
line_short (n ∷ ns) w =
    let first = line_length n ns 19 (let h = w 0 in omega arith) in
    let rest = line_short ns (λ i. w (suc i)) in
    omega arith
