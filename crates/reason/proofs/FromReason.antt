-- A line whose zones and fixes have the reason, and counts within the bounds, is okay in the finite model. Assumes nothing.
use mathlib.Core.Path.{◌≡◌, refl, sym, ap, ◌∙◌, subst}
use mathlib.Core.Logic.{◌⊎◌, inl, inr}
use mathlib.Core.Bool.{Bool, true, false, cond, not, ◌&&◌, ◌||◌, true≢false, false≢true}
use mathlib.Core.List.{List, [], ◌∷◌, ◌++◌, map}
use Prim.Native.Nat.{ℕ, ◌+◌, ◌%◌, ◌≤◌}
use native.Mathlib.Omega.{arith}
use lib.Dec.{T, leb, ltb, eqb, leb→le, le→leb, eqb→eq}
use lib.ListN.{length}
use lib.Ieee.Fits.{and_i, and_l, and_r}
use borrow.Author.Tests.{eqb-true, leb-false, eq-eqb, le-ltb}
use Rattle.request.specs.Input.{within}
use Rattle.field.specs.Airspace.{side_of, area, lateral}
use Rattle.field.specs.Lists.{is_in, every}
use Rattle.order.specs.Model.{Side, right_side, left_side, opp, num, count, are_in_one_area, of_area, is_lateral, one, rank, height, pass_count, may_lead, may_head, chain}
use Rattle.rules.specs.Reason.{Listed, those, is_in_area, has_fix, never_falls, each_among, from_landing, height_in, lateral_free}
use Rattle.field.proofs.TestLaws.{each_operation, passed, pass, fail, decided, if_true, same}
use Rattle.line.proofs.Line.{Placed, zones_in}
use Rattle.line.proofs.CountedOnLine.{Alternates}
use Rattle.line.proofs.Members.{absent_count}
use Rattle.reason.proofs.AlongLine.{as_listed, landing_rank, area_is, height_is}

-- ---- those of a list of zones
all_in : (p : ℕ → Bool) (zs : List ℕ) → ((w : ℕ) → is_in w zs ≡ true → T (p w)) → T (every p zs)
all_in p [] h = tt
all_in p (z ∷ zs) h = and_i (p z) (every p zs) (h z (ap (λ (b : Bool). b || is_in z zs) (same z))) (all_in p zs (λ w i. h w (ap (λ (b : Bool). eqb z w || b) i ∙ right_true (eqb z w))))
  where
    right_true : (b : Bool) → (b || true) ≡ true
    right_true true = refl
    right_true false = refl

in_all : (p : ℕ → Bool) (zs : List ℕ) → T (every p zs) → (w : ℕ) → is_in w zs ≡ true → T (p w)
in_all p [] t w i = absurd (false≢true i)
in_all p (z ∷ zs) t w i = go (decided (eqb z w)) (in_all p zs (and_r (p z) (every p zs) t) w)
  where
    go : (eqb z w ≡ true) ⊎ (eqb z w ≡ false) → (is_in w zs ≡ true → T (p w)) → T (p w)
    go (inl b) later = subst (λ (y : ℕ). T (p y)) (eqb-true z w b) (and_l (p z) (every p zs) t)
    go (inr b) later = later (sym (ap (λ (c : Bool). c || is_in w zs) b) ∙ i)

pub count_in : (zs : List ℕ) (w : ℕ) → is_in w zs ≡ true → 1 ≤ count zs w
count_in zs w i =
    elim (decided (leb 1 (count zs w))) [ inl e ↦ leb→le 1 (count zs w) (pass e) | inr e ↦ absurd (true≢false (sym i ∙ absent_count zs w (let k = leb-false 1 (count zs w) e in omega arith))) ]

number_in : (p : ℕ → Bool) (zs : List ℕ) (w : ℕ) → is_in w zs ≡ true → T (p w) → 1 ≤ pass_count p zs
number_in p [] w i t = absurd (false≢true i)
number_in p (z ∷ zs) w i t = go (decided (eqb z w)) (λ j. number_in p zs w j t)
  where
    go : (eqb z w ≡ true) ⊎ (eqb z w ≡ false) → (is_in w zs ≡ true → 1 ≤ pass_count p zs) → 1 ≤ one (p z) + pass_count p zs
    go (inl b) later = let e : one (p z) ≡ 1 = ap (λ (y : ℕ). one (p y)) (eqb-true z w b) ∙ if_true {b = p w} 1 0 (passed t) in omega arith
    go (inr b) later = let h = later (sym (ap (λ (c : Bool). c || is_in w zs) b) ∙ i) in omega arith

number_more : (p q : ℕ → Bool) → ((w : ℕ) → T (p w) → T (q w)) → (zs : List ℕ) → pass_count p zs ≤ pass_count q zs
number_more p q h [] = omega arith
number_more p q h (z ∷ zs) = go (p z) (q z) (h z) (number_more p q h zs)
  where
    go : (a b : Bool) → (T a → T b) → pass_count p zs ≤ pass_count q zs → one a + pass_count p zs ≤ one b + pass_count q zs
    go true true k m = omega arith
    go true false k m = absurd (k tt)
    go false true k m = omega arith
    go false false k m = omega arith

number_none : (zs : List ℕ) → pass_count (λ w. false) zs ≡ 0
number_none [] = refl
number_none (z ∷ zs) = let e = number_none zs in omega arith

-- a test of the zones of all that are listed
every_in_zones : (q : ℕ → Bool) (l : List Placed) → T (every (λ (a : Listed). q a.zone) (map as_listed l)) → T (every q (zones_in l))
every_in_zones q [] t = tt
every_in_zones q (e ∷ l) t =
    let later = every (λ (a : Listed). q a.zone) (map as_listed l) in
    and_i (q e.zone) (every q (zones_in l)) (and_l (q e.zone) later t) (every_in_zones q l (and_r (q e.zone) later t))

unmapped : (q : ℕ → Bool) (g : Listed → ℕ) (xs : List Listed) → T (every q (map g xs)) → T (every (λ a. q (g a)) xs)
unmapped q g [] t = tt
unmapped q g (x ∷ xs) t = and_i (q (g x)) (every (λ a. q (g a)) xs) (and_l (q (g x)) (every q (map g xs)) t) (unmapped q g xs (and_r (q (g x)) (every q (map g xs)) t))

unfiltered : (p q : Listed → Bool) (xs : List Listed) → T (every q (those p xs)) → T (every (λ a. not (p a) || q a) xs)
unfiltered p q [] t = tt
unfiltered p q (x ∷ xs) t = go (p x) t (unfiltered p q xs)
  where
    go : (b : Bool) → T (every q (cond b (x ∷ those p xs) (those p xs))) → (T (every q (those p xs)) → T (every (λ a. not (p a) || q a) xs)) → T ((not b || q x) && every (λ a. not (p a) || q a) xs)
    go true t later = and_i (q x) (every (λ a. not (p a) || q a) xs) (and_l (q x) (every q (those p xs)) t) (later (and_r (q x) (every q (those p xs)) t))
    go false t later = later t

-- ---- sides of zones
area_side : (z : ℕ) → T (within 1 12 z) → T (leb z 8) → (s : Side) × T (of_area s z)
area_side =
    each_operation (λ z. T (leb z 8) → (s : Side) × T (of_area s z)) (
      (λ t. (right_side, tt)),
      (λ t. (left_side, tt)),
      (λ t. (right_side, tt)),
      (λ t. (left_side, tt)),
      (λ t. (right_side, tt)),
      (λ t. (left_side, tt)),
      (λ t. (right_side, tt)),
      (λ t. (left_side, tt)),
      (λ t. absurd t),
      (λ t. absurd t),
      (λ t. absurd t),
      (λ t. absurd t),
    )

lateral_is : (s : Side) (z : ℕ) → T (within 1 12 z) → T (is_lateral z) → T (of_area s z) → z ≡ lateral (num s)
lateral_is right_side =
    each_operation (λ z. T (is_lateral z) → T (of_area right_side z) → z ≡ 5) (
      (λ t u. absurd t),
      (λ t u. absurd t),
      (λ t u. absurd t),
      (λ t u. absurd t),
      (λ t u. refl),
      (λ t u. absurd u),
      (λ t u. absurd t),
      (λ t u. absurd t),
      (λ t u. absurd t),
      (λ t u. absurd t),
      (λ t u. absurd t),
      (λ t u. absurd t),
    )
lateral_is left_side =
    each_operation (λ z. T (is_lateral z) → T (of_area left_side z) → z ≡ 6) (
      (λ t u. absurd t),
      (λ t u. absurd t),
      (λ t u. absurd t),
      (λ t u. absurd t),
      (λ t u. absurd u),
      (λ t u. refl),
      (λ t u. absurd t),
      (λ t u. absurd t),
      (λ t u. absurd t),
      (λ t u. absurd t),
      (λ t u. absurd t),
      (λ t u. absurd t),
    )

lateral_other : (s : Side) (z : ℕ) → T (within 1 12 z) → T (is_lateral z) → eqb (num s) (side_of z) ≡ false → of_area s z ≡ false
unfolding side_of
lateral_other right_side =
    each_operation (λ z. T (is_lateral z) → eqb 1 (side_of z) ≡ false → of_area right_side z ≡ false) (
      (λ t e. absurd t),
      (λ t e. absurd t),
      (λ t e. absurd t),
      (λ t e. absurd t),
      (λ t e. e),
      (λ t e. refl),
      (λ t e. absurd t),
      (λ t e. absurd t),
      (λ t e. absurd t),
      (λ t e. absurd t),
      (λ t e. absurd t),
      (λ t e. absurd t),
    )
lateral_other left_side =
    each_operation (λ z. T (is_lateral z) → eqb 2 (side_of z) ≡ false → of_area left_side z ≡ false) (
      (λ t e. absurd t),
      (λ t e. absurd t),
      (λ t e. absurd t),
      (λ t e. absurd t),
      (λ t e. refl),
      (λ t e. e),
      (λ t e. absurd t),
      (λ t e. absurd t),
      (λ t e. absurd t),
      (λ t e. absurd t),
      (λ t e. absurd t),
      (λ t e. absurd t),
    )

-- in the area of z's side
same_area : (s : Side) (z w : ℕ) → T (of_area s z) → T (are_in_one_area z w) → T (of_area s w)
same_area s z w u t =
    let q = eqb→eq (z % 2) (w % 2) (and_r (leb z 8 && leb w 8) (eqb (z % 2) (w % 2)) t) in
    let p = eqb→eq (z % 2) (num s % 2) (and_r (leb z 8) (eqb (z % 2) (num s % 2)) u) in
    and_i (leb w 8) (eqb (w % 2) (num s % 2)) (and_r (leb z 8) (leb w 8) (and_l (leb z 8 && leb w 8) (eqb (z % 2) (w % 2)) t)) (pass (eq-eqb (w % 2) (num s % 2) (sym q ∙ p)))

-- ---- the facts, of any end of the line
pub record Facts (f : Side) (ahead : List Listed) (l : List Placed) : Type 0 where
  pub approach : T (never_falls (map (λ (a : Listed). from_landing a.zone) (map as_listed l)))
  pub areas : (s : Side) → T (never_falls (map (λ (a : Listed). height_in (num s) a.zone) (those (is_in_area (num s)) (map as_listed l))))
  pub laterals : T (each_among lateral_free ahead (map as_listed l))
  pub alternates : Alternates f l
  pub ins : T (every (within 1 12) (zones_in l))
  pub singles : (z : ℕ) → T (within 1 6 z) → count (zones_in l) z ≤ 1
  pub crowd : (s : Side) → pass_count (of_area s) (zones_in l) ≤ 2
  pub lateral_alone : (s : Side) → 1 ≤ count (zones_in l) (lateral (num s)) → pass_count (of_area s) (zones_in l) ≤ 1

-- nobody ahead of a lateral zone has its side as fix
lateral_behind : (x : Listed) (pre ahead : List Listed) (l : List Placed) → T (each_among lateral_free (pre ++ x ∷ ahead) (map as_listed l)) → (w : ℕ)
    → is_in w (zones_in l) ≡ true → T (is_lateral w) → eqb x.fix (side_of w) ≡ false
lateral_behind x pre ahead [] t w i v = absurd (false≢true i)
lateral_behind x pre ahead (e ∷ l) t w i v =
    let here = lateral_free (pre ++ x ∷ ahead) (as_listed e) (map as_listed l) in
    let later = each_among lateral_free (as_listed e ∷ pre ++ x ∷ ahead) (map as_listed l) in
    go (decided (eqb e.zone w)) (and_l here later t) (λ j. lateral_behind x (as_listed e ∷ pre) ahead l (and_r here later t) w j v)
  where
    without : (p : Listed → Bool) (ys : List Listed) → length (those p (ys ++ x ∷ ahead)) ≡ 0 → p x ≡ false
    without p [] e = head (p x) e
      where
        head : (b : Bool) → length (cond b (x ∷ those p ahead) (those p ahead)) ≡ 0 → b ≡ false
        head true e = absurd (omega arith)
        head false e = refl
    without p (y ∷ ys) e = without p ys (rest (p y) e)
      where
        rest : (b : Bool) → length (cond b (y ∷ those p (ys ++ x ∷ ahead)) (those p (ys ++ x ∷ ahead))) ≡ 0 → length (those p (ys ++ x ∷ ahead)) ≡ 0
        rest true e = absurd (omega arith)
        rest false e = e

    none : (z : ℕ) → T (is_lateral z) → T (not (within 5 6 z) || eqb (length (those (has_fix (side_of z)) (pre ++ x ∷ ahead))) 0) → eqb x.fix (side_of z) ≡ false
    none z v t =
        without (has_fix (side_of z)) pre (eqb→eq (length (those (has_fix (side_of z)) (pre ++ x ∷ ahead))) 0
        (subst (λ (b : Bool). T (not b || eqb (length (those (has_fix (side_of z)) (pre ++ x ∷ ahead))) 0)) (passed {b = within 5 6 z} v) t))

    go : (eqb e.zone w ≡ true) ⊎ (eqb e.zone w ≡ false) → T (lateral_free (pre ++ x ∷ ahead) (as_listed e) (map as_listed l))
        → (is_in w (zones_in l) ≡ true → eqb x.fix (side_of w) ≡ false) → eqb x.fix (side_of w) ≡ false
    go (inl b) t later = none w v (subst (λ (z : ℕ). T (not (within 5 6 z) || eqb (length (those (has_fix (side_of z)) (pre ++ x ∷ ahead))) 0)) (eqb-true e.zone w b) t)
    go (inr b) t later = later (sym (ap (λ (c : Bool). c || is_in w (zones_in l)) b) ∙ i)

module _ (f : Side) (ahead : List Listed) (e : Placed) (l : List Placed) (k : Facts f ahead (e ∷ l)) where
  abbrev z : ℕ
  z = e.zone

  abbrev zs : List ℕ
  zs = zones_in l

  z_in : T (within 1 12 z)
  z_in = and_l (within 1 12 z) (every (within 1 12) zs) k.ins

  zs_in : T (every (within 1 12) zs)
  zs_in = and_r (within 1 12 z) (every (within 1 12) zs) k.ins

  -- the heights in a side's area: of z and those behind it, and of those behind it alone
  heights : (s : Side) → (b : Bool) → is_in z (area (num s)) ≡ b
      → T (never_falls (map (λ (a : Listed). height_in (num s) a.zone) (cond b (as_listed e ∷ those (is_in_area (num s)) (map as_listed l)) (those (is_in_area (num s)) (map as_listed l)))))
  heights s b h =
      subst (λ (c : Bool). T (never_falls (map (λ (a : Listed). height_in (num s) a.zone)
      (cond c (as_listed e ∷ those (is_in_area (num s)) (map as_listed l)) (those (is_in_area (num s)) (map as_listed l)))))) h (k.areas s)

  rest_heights : (s : Side) → T (never_falls (map (λ (a : Listed). height_in (num s) a.zone) (those (is_in_area (num s)) (map as_listed l))))
  rest_heights s = go (decided (is_in z (area (num s))))
    where
      later : List ℕ
      later = map (λ (a : Listed). height_in (num s) a.zone) (those (is_in_area (num s)) (map as_listed l))

      go : (is_in z (area (num s)) ≡ true) ⊎ (is_in z (area (num s)) ≡ false) → T (never_falls later)
      go (inl b) = and_r (every (leb (height_in (num s) z)) later) (never_falls later) (heights s true b)
      go (inr b) = heights s false b

  pub facts_behind : Facts (opp f) (as_listed e ∷ ahead) l
  facts_behind =
      let g : Listed → ℕ = λ a. from_landing a.zone in
      record {
        approach = and_r (every (leb (g (as_listed e))) (map g (map as_listed l))) (never_falls (map g (map as_listed l))) k.approach;
        areas = rest_heights;
        laterals = and_r (lateral_free ahead (as_listed e) (map as_listed l)) (each_among lateral_free (as_listed e ∷ ahead) (map as_listed l)) k.laterals;
        alternates = k.alternates.1;
        ins = zs_in;
        singles = λ y t. let h = k.singles y t in omega arith;
        crowd = λ s. let h = k.crowd s in omega arith;
        lateral_alone = λ s c. let h = k.lateral_alone s (omega arith) in omega arith;
      }

  module _ (w : ℕ) (i : is_in w zs ≡ true) where
    w_in : T (within 1 12 w)
    w_in = in_all (within 1 12) zs zs_in w i

    rank_behind : rank w ≤ rank z
    rank_behind =
        let g : Listed → ℕ = λ a. from_landing a.zone in
        let t = and_l (every (leb (from_landing z)) (map g (map as_listed l))) (never_falls (map g (map as_listed l))) k.approach in
        let u = every_in_zones (λ y. leb (from_landing z) (from_landing y)) l (unmapped (leb (from_landing z)) g (map as_listed l) t) in
        let h = leb→le (from_landing z) (from_landing w) (in_all (λ y. leb (from_landing z) (from_landing y)) zs u w i) in
        let a = landing_rank z z_in in
        let b = landing_rank w w_in in
        omega arith

    not_beside : (leb z 6 && eqb z w) ≡ false
    not_beside = elim (decided (leb z 6 && eqb z w)) [
      | inl t ↦
          let e₁ : z ≡ w = eqb→eq z w (and_r (leb z 6) (eqb z w) (pass t)) in
          let h = k.singles z (and_i (leb 1 z) (leb z 6) (and_l (leb 1 z) (leb z 12) z_in) (and_l (leb z 6) (eqb z w) (pass t))) in
          let c = count_in zs w i in
          let c₂ : count zs z ≡ count zs w = ap (count zs) e₁ in
          let o : one (eqb z z) ≡ 1 = if_true {b = eqb z z} 1 0 (same z) in
          absurd (omega arith)
      | inr t ↦ t
    ]

    module _ (s : Side) (u : T (of_area s z)) (v : T (of_area s w)) where
      height_behind : height z ≤ height w
      height_behind =
          let p = is_in_area (num s) in
          let g : Listed → ℕ = λ a. height_in (num s) a.zone in
          let later = map g (those p (map as_listed l)) in
          let t = and_l (every (leb (height_in (num s) z)) later) (never_falls later) (heights s true (area_is s z z_in ∙ passed u)) in
          let r = every_in_zones (λ y. not (is_in y (area (num s))) || leb (height_in (num s) z) (height_in (num s) y)) l
          (unfiltered p (λ a. leb (height_in (num s) z) (g a)) (map as_listed l) (unmapped (leb (height_in (num s) z)) g (those p (map as_listed l)) t)) in
          let q = in_all (λ y. not (is_in y (area (num s))) || leb (height_in (num s) z) (height_in (num s) y)) zs r w i in
          let h = leb→le (height_in (num s) z) (height_in (num s) w) (subst (λ (b : Bool). T (not b || leb (height_in (num s) z) (height_in (num s) w))) (area_is s w w_in ∙ passed v) q) in
          let a = height_is s z z_in u in
          let b = height_is s w w_in v in
          omega arith

      -- neither is in the lateral zone
      two_there : 2 ≤ pass_count (of_area s) (z ∷ zs)
      two_there = let a = number_in (of_area s) zs w i v in let o : one (of_area s z) ≡ 1 = if_true {b = of_area s z} 1 0 (passed u) in omega arith

      no_lateral : (y : ℕ) → 1 ≤ count (z ∷ zs) y → T (within 1 12 y) → T (of_area s y) → is_lateral y ≡ false
      no_lateral y c t a = elim (decided (is_lateral y)) [
        | inl b ↦ absurd (let e₁ = lateral_is s y t (pass b) a in let h = k.lateral_alone s (subst (λ (x : ℕ). 1 ≤ count (z ∷ zs) x) e₁ c) in let m = two_there in omega arith)
        | inr b ↦ b
      ]

    -- z may lead w
    pub may_lead_lem : T (may_lead f z w)
    may_lead_lem =
        let r = leb (rank w) (rank z) in
        let b = not (leb z 6 && eqb z w) in
        let h = not (are_in_one_area z w && (is_lateral z || is_lateral w || ltb (height w) (height z))) in
        let m = not (is_lateral w && of_area f w) in
        and_i (r && b && h) m (and_i (r && b) h (and_i r b (le→leb (rank w) (rank z) rank_behind) (fail not_beside)) (fail apart)) (fail lateral_clear)
      where
        either : (a b c : Bool) → a ≡ false → b ≡ false → c ≡ false → (a || b || c) ≡ false
        either false false c p q r = r
        either false true c p q r = absurd (true≢false q)
        either true b c p q r = absurd (true≢false p)

        together : (a b : Bool) → (T a → b ≡ false) → (a && b) ≡ false
        together true b h = h tt
        together false b h = refl

        z_count : 1 ≤ count (z ∷ zs) z
        z_count = let o : one (eqb z z) ≡ 1 = if_true {b = eqb z z} 1 0 (same z) in omega arith

        w_count : 1 ≤ count (z ∷ zs) w
        w_count = let c = count_in zs w i in omega arith

        apart : (are_in_one_area z w && (is_lateral z || is_lateral w || ltb (height w) (height z))) ≡ false
        apart =
            together (are_in_one_area z w) (is_lateral z || is_lateral w || ltb (height w) (height z))
            (λ t.
            let low = and_l (leb z 8) (leb w 8) (and_l (leb z 8 && leb w 8) (eqb (z % 2) (w % 2)) t) in
            let side = area_side z z_in low in
            let s = side.0 in
            let u = side.1 in
            let v = same_area s z w u t in
            either (is_lateral z) (is_lateral w) (ltb (height w) (height z)) (no_lateral s u v z z_count z_in u) (no_lateral s u v w w_count w_in v) (le-ltb (height w) (height z) (height_behind s u v)))

        lateral_clear : (is_lateral w && of_area f w) ≡ false
        lateral_clear =
            together (is_lateral w) (of_area f w)
            (λ t.
            let other : eqb e.aircraft.fix (side_of w) ≡ false = lateral_behind (as_listed e) [] ahead l facts_behind.laterals w i t in
            lateral_other f w w_in t (ap (λ (n : ℕ). eqb n (side_of w)) (sym k.alternates.0) ∙ other))

  -- at most one behind z is in its area
  pub few_behind : pass_count (are_in_one_area z) zs ≤ 1
  few_behind = elim (decided (leb z 8)) [
    | inl t ↦
        let side = area_side z z_in (pass t) in
        let a = number_more (are_in_one_area z) (of_area side.0) (λ w u. same_area side.0 z w side.1 u) zs in
        let o : one (of_area side.0 z) ≡ 1 = if_true {b = of_area side.0 z} 1 0 (passed side.1) in
        let c = k.crowd side.0 in
        omega arith
    | inr t ↦
        let a = number_more (are_in_one_area z) (λ w. false) (λ w u. absurd (true≢false (sym (passed (and_l (leb z 8) (leb w 8) (and_l (leb z 8 && leb w 8) (eqb (z % 2) (w % 2)) u))) ∙ t))) zs in
        let b = number_none zs in
        omega arith
  ]

-- ---- the chain of the model
pub chain_from : (f : Side) (ahead : List Listed) (l : List Placed) → Facts f ahead l → T (chain f (zones_in l))
chain_from f ahead [] k = tt
chain_from f ahead (e ∷ l) k =
    let z = e.zone in
    let zs = zones_in l in
    and_i (may_head f z zs) (chain (opp f) zs)
    (and_i (within 1 12 z && every (may_lead f z) zs) (leb (pass_count (are_in_one_area z) zs) 1)
    (and_i (within 1 12 z) (every (may_lead f z) zs) (and_l (within 1 12 z) (every (within 1 12) zs) k.ins) (all_in (may_lead f z) zs (may_lead_lem f ahead e l k)))
    (le→leb (pass_count (are_in_one_area z) zs) 1 (few_behind f ahead e l k)))
    (chain_from (opp f) (as_listed e ∷ ahead) l (facts_behind f ahead e l k))
