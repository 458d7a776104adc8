-- The five parts of the reason, on a field that an orderly line stands for: each is read off the line's zones and alternating fixes.
-- Assumes nothing.
use mathlib.Core.Path.{◌≡◌, refl, sym, ap, ◌∙◌, subst}
use mathlib.Core.Logic.{◌⊎◌, inl, inr}
use mathlib.Core.Bool.{Bool, true, false, cond, not, ◌&&◌, ◌||◌}
use mathlib.Core.List.{List, [], ◌∷◌, ◌++◌, map, append_assoc}
use Prim.Native.Nat.{ℕ, suc, ◌+◌, ◌/◌, ◌%◌, ◌≤◌}
use native.Mathlib.Omega.{arith}
use lib.Dec.{T, leb, ltb, eqb, leb→le, le→leb, nltb→le, eqb→eq}
use lib.ListN.{length}
use lib.Ieee.Fits.{and_i, and_l, and_r}
use borrow.Author.Tests.{eq-eqb}
use Rattle.field.specs.declared.Aircraft.{Aircraft}
use Rattle.field.specs.declared.Legs.{Legs}
use Rattle.field.specs.declared.Field.{Field}
use Rattle.questions.specs.declared.Place.{Place}
use Rattle.field.specs.Airspace.{side_of, area, in_zone}
use Rattle.field.specs.Lists.{is_in, every, all_different}
use Rattle.questions.specs.Find.{place_of, fix_of}
use Rattle.request.specs.Input.{within}
use Rattle.order.specs.Model.{Side, right_side, left_side, opp, num, are_in_one_area, of_area, is_lateral, one, rank, height, pass_count, may_lead, may_head, chain, okay}
use Rattle.order.specs.Model as model
use Rattle.order.proofs.Facts.{okay_zones}
use Rattle.rules.specs.Reason.{Listed, listed, sequence_listed, those, is_in_zone, is_in_area, has_fix, never_falls, each_among}
use Rattle.rules.specs.Reason.{from_landing, approach_order, height_in, area_order, has_room, room_to_miss, lateral_free, lateral_order, Reason}
use Rattle.field.proofs.TestLaws.{each_operation, pass, failed, fail, decided, or_left, or_right}
use Rattle.line.proofs.Line.{Placed, zones_in, numbers_of, inside, field_of, order_for}
use Rattle.line.proofs.CountedOnLine.{Alternates, in_line}
use Rattle.questions.proofs.FindLaws.{numbers}
use Rattle.line.proofs.Located.{located, fix_there}
use Rattle.line.proofs.Leaders.{all_at}
use Rattle.line.proofs.Orderly.{Orderly}

-- ---- the sequence of the field is the line
abbrev pub as_listed : Placed → Listed
as_listed e = record { number = e.aircraft.number; zone = e.zone; fix = e.aircraft.fix }

module _ (f : Side) (line : List Placed) (runway : List Aircraft) (legs : Legs) (o : Orderly f line runway legs) where
  abbrev F : Field
  F = field_of f line runway legs

  -- from any place of the line on
  seen_from : (a b : List Placed) → line ≡ a ++ b → map (listed F) (numbers_of b) ≡ map as_listed b
  seen_from a [] e = refl
  seen_from a (x ∷ b) e =
      let n = x.aircraft.number in
      let d = subst (λ (l : List Placed). T (all_different (numbers_of l ++ numbers runway))) e o.different in
      let t = all_at (within 1 12) (λ (p : Placed). p.zone) a x b (subst (λ (l : List Placed). T (every (within 1 12) (zones_in l))) e (okay_zones f (zones_in line) o.okay_line)) in
      let z : (place_of F n).zone ≡ x.zone = ap (λ (l : List Placed). (place_of (field_of f l runway legs) n).zone) e ∙ ap (λ (p : Place). p.zone) (located f a x b runway legs d t) in
      let s : fix_of F n ≡ x.aircraft.fix = ap (λ (l : List Placed). fix_of (field_of f l runway legs) n) e ∙ fix_there f a x b runway legs d t in
      let h : listed F n ≡ as_listed x = λ i. record { number = n; zone = z i; fix = s i } in
      ap (λ (y : Listed). y ∷ map (listed F) (numbers_of b)) h ∙ ap (λ (l : List Listed). as_listed x ∷ l) (seen_from (a ++ (x ∷ [])) b (e ∙ sym (append_assoc a (x ∷ []) b)))

  pub along_line : sequence_listed F ≡ map as_listed line
  unfolding sequence_listed field_of
  along_line = ap (map (listed F)) (order_for (numbers_of line)) ∙ seen_from [] line refl

  -- ---- the queues
  pub queues_line : (z : ℕ) → T (within 1 12 z) → map (λ (a : Aircraft). a.number) (in_zone F z) ≡ map (λ (a : Listed). a.number) (those (is_in_zone z) (sequence_listed F))
  queues_line z t =
      ap (map (λ (a : Aircraft). a.number)) (in_line f line runway legs z t)
      ∙ go line
      ∙ ap (λ (l : List Listed). map (λ (a : Listed). a.number) (those (is_in_zone z) l)) (sym along_line)
    where
      go : (l : List Placed) → map (λ (a : Aircraft). a.number) (inside z l) ≡ map (λ (a : Listed). a.number) (those (is_in_zone z) (map as_listed l))
      go [] = refl
      go (e ∷ l) = by (eqb e.zone z) (go l)
        where
          by : (b : Bool) → map (λ (a : Aircraft). a.number) (inside z l) ≡ map (λ (a : Listed). a.number) (those (is_in_zone z) (map as_listed l))
              → map (λ (a : Aircraft). a.number) (cond b (e.aircraft ∷ inside z l) (inside z l)) ≡ map (λ (a : Listed). a.number)
              (cond b (as_listed e ∷ those (is_in_zone z) (map as_listed l)) (those (is_in_zone z) (map as_listed l)))
          by true h = ap (λ (ns : List ℕ). e.aircraft.number ∷ ns) h
          by false h = h

-- ---- zones of the model and of the field

pub landing_rank : (z : ℕ) → T (within 1 12 z) → from_landing z + rank z ≡ 3
landing_rank = each_operation (λ z. from_landing z + rank z ≡ 3) (refl, refl, refl, refl, refl, refl, refl, refl, refl, refl, refl, refl)

pub area_is : (s : Side) (z : ℕ) → T (within 1 12 z) → is_in z (area (num s)) ≡ of_area s z
area_is right_side = each_operation (λ z. is_in z (area 1) ≡ of_area right_side z) (refl, refl, refl, refl, refl, refl, refl, refl, refl, refl, refl, refl)
area_is left_side = each_operation (λ z. is_in z (area 2) ≡ of_area left_side z) (refl, refl, refl, refl, refl, refl, refl, refl, refl, refl, refl, refl)

pub height_is : (s : Side) (z : ℕ) → T (within 1 12 z) → T (of_area s z) → height_in (num s) z ≡ height z
height_is right_side =
    each_operation (λ z. T (of_area right_side z) → height_in 1 z ≡ height z)
    ((λ t. refl), (λ t. absurd t), (λ t. refl), (λ t. absurd t), (λ t. refl), (λ t. absurd t), (λ t. refl), (λ t. absurd t), (λ t. absurd t), (λ t. absurd t), (λ t. absurd t), (λ t. absurd t))
height_is left_side =
    each_operation (λ z. T (of_area left_side z) → height_in 2 z ≡ height z)
    ((λ t. absurd t), (λ t. refl), (λ t. absurd t), (λ t. refl), (λ t. absurd t), (λ t. refl), (λ t. absurd t), (λ t. refl), (λ t. absurd t), (λ t. absurd t), (λ t. absurd t), (λ t. absurd t))

lateral_side : (s : Side) (z : ℕ) → T (within 1 12 z) → T (is_lateral z) → of_area s z ≡ false → eqb (num s) (side_of z) ≡ false
unfolding side_of
lateral_side right_side =
    each_operation (λ z. T (is_lateral z) → of_area right_side z ≡ false → eqb 1 (side_of z) ≡ false) (
      (λ t e. absurd t),
      (λ t e. absurd t),
      (λ t e. absurd t),
      (λ t e. absurd t),
      (λ t e. e),
      (λ t e. refl),
      (λ t e. absurd t),
      (λ t e. absurd t),
      (λ t e. absurd t),
      (λ t e. absurd t),
      (λ t e. absurd t),
      (λ t e. absurd t),
    )
lateral_side left_side =
    each_operation (λ z. T (is_lateral z) → of_area left_side z ≡ false → eqb 2 (side_of z) ≡ false) (
      (λ t e. absurd t),
      (λ t e. absurd t),
      (λ t e. absurd t),
      (λ t e. absurd t),
      (λ t e. refl),
      (λ t e. e),
      (λ t e. absurd t),
      (λ t e. absurd t),
      (λ t e. absurd t),
      (λ t e. absurd t),
      (λ t e. absurd t),
      (λ t e. absurd t),
    )

-- ---- who may lead whom
record Leads (f : Side) (z w : ℕ) : Type 0 where
  ranks : rank w ≤ rank z
  heights : (s : Side) → T (of_area s z) → T (of_area s w) → height z ≤ height w
  laterals : T (is_lateral w) → of_area f w ≡ false

leads : (f : Side) (z w : ℕ) → T (may_lead f z w) → Leads f z w
leads f z w t =
    let r = leb (rank w) (rank z) in
    let a = not (leb z 6 && eqb z w) in
    let h = not (are_in_one_area z w && (is_lateral z || is_lateral w || ltb (height w) (height z))) in
    let l = not (is_lateral w && of_area f w) in
    let t₁ = and_l (r && a && h) l t in
    record {
      ranks = leb→le (rank w) (rank z) (and_l r a (and_l (r && a) h t₁));
      heights = λ s u v. low (are_in_one_area z w) (is_lateral z) (is_lateral w) (and_r (r && a) h t₁) (same_side_lem s u v);
      laterals = λ u. beside (is_lateral w) (of_area f w) (and_r (r && a && h) l t) u;
    }
  where
    low : (a b c : Bool) → T (not (a && (b || c || ltb (height w) (height z)))) → T a → height z ≤ height w
    low true false false t u = nltb→le (height w) (height z) t
    low true false true t u = absurd t
    low true true c t u = absurd t
    low false b c t u = absurd u

    same_side_lem : (s : Side) → T (of_area s z) → T (of_area s w) → T (are_in_one_area z w)
    same_side_lem s u v =
        let p = eqb→eq (z % 2) (num s % 2) (and_r (leb z 8) (eqb (z % 2) (num s % 2)) u) in
        let q = eqb→eq (w % 2) (num s % 2) (and_r (leb w 8) (eqb (w % 2) (num s % 2)) v) in
        and_i (leb z 8 && leb w 8) (eqb (z % 2) (w % 2)) (and_i (leb z 8) (leb w 8) (and_l (leb z 8) (eqb (z % 2) (num s % 2)) u) (and_l (leb w 8) (eqb (w % 2) (num s % 2)) v))
        (pass (eq-eqb (z % 2) (w % 2) (p ∙ sym q)))

    beside : (a b : Bool) → T (not (a && b)) → T a → b ≡ false
    beside true b t u = failed t
    beside false b t u = absurd u

-- what holds of each one that z may lead holds of all behind it
follow : (f : Side) (z : ℕ) (p : Listed → Bool) (l : List Placed) → T (every (may_lead f z) (zones_in l)) → T (every (within 1 12) (zones_in l))
    → ((e : Placed) → T (within 1 12 e.zone) → Leads f z e.zone → T (p (as_listed e))) → T (every p (map as_listed l))
follow f z p [] m t h = tt
follow f z p (e ∷ l) m t h =
    let mays = every (may_lead f z) (zones_in l) in
    let ins = every (within 1 12) (zones_in l) in
    and_i (p (as_listed e)) (every p (map as_listed l))
    (h e (and_l (within 1 12 e.zone) ins t) (leads f z e.zone (and_l (may_lead f z e.zone) mays m)))
    (follow f z p l (and_r (may_lead f z e.zone) mays m) (and_r (within 1 12 e.zone) ins t) h)

every_map : (q : ℕ → Bool) (g : Listed → ℕ) (xs : List Listed) → T (every (λ a. q (g a)) xs) → T (every q (map g xs))
every_map q g [] t = tt
every_map q g (x ∷ xs) t = and_i (q (g x)) (every q (map g xs)) (and_l (q (g x)) (every (λ a. q (g a)) xs) t) (every_map q g xs (and_r (q (g x)) (every (λ a. q (g a)) xs) t))

every_those : (p q : Listed → Bool) (xs : List Listed) → T (every (λ a. not (p a) || q a) xs) → T (every q (those p xs))
every_those p q [] t = tt
every_those p q (x ∷ xs) t =
    go (p x) (and_l (not (p x) || q x) (every (λ a. not (p a) || q a) xs) t) (every_those p q xs (and_r (not (p x) || q x) (every (λ a. not (p a) || q a) xs) t))
  where
    go : (b : Bool) → T (not b || q x) → T (every q (those p xs)) → T (every q (cond b (x ∷ those p xs) (those p xs)))
    go true h k = and_i (q x) (every q (those p xs)) h k
    go false h k = k

-- the chain at its first
record Link (f : Side) (z : ℕ) (zs : List ℕ) : Type 0 where
  here : T (within 1 12 z)
  leading : T (every (may_lead f z) zs)
  rest : T (chain (opp f) zs)

link : (f : Side) (z : ℕ) (zs : List ℕ) → T (chain f (z ∷ zs)) → Link f z zs
link f z zs t =
    let b = within 1 12 z in
    let m = every (may_lead f z) zs in
    let n = leb (pass_count (are_in_one_area z) zs) 1 in
    let h = and_l (b && m) n (and_l (may_head f z zs) (chain (opp f) zs) t) in
    record { here = and_l b m h; leading = and_r b m h; rest = and_r (may_head f z zs) (chain (opp f) zs) t }

chained : (f : Side) (zs : List ℕ) → T (chain f zs) → T (every (within 1 12) zs)
chained f [] t = tt
chained f (z ∷ zs) t = let k = link f z zs t in and_i (within 1 12 z) (every (within 1 12) zs) k.here (chained (opp f) zs k.rest)

-- ---- 1
pub approach_line : (f : Side) (l : List Placed) → T (chain f (zones_in l)) → T (never_falls (map (λ (a : Listed). from_landing a.zone) (map as_listed l)))
approach_line f [] t = tt
approach_line f (e ∷ l) t =
    let k = link f e.zone (zones_in l) t in
    let g : Listed → ℕ = λ a. from_landing a.zone in
    and_i (every (leb (from_landing e.zone)) (map g (map as_listed l))) (never_falls (map g (map as_listed l)))
    (every_map (leb (from_landing e.zone)) g (map as_listed l)
    (follow f e.zone (λ a. leb (from_landing e.zone) (from_landing a.zone)) l k.leading (chained (opp f) (zones_in l) k.rest)
    (λ d u m. let a = landing_rank e.zone k.here in let b = landing_rank d.zone u in let c = m.ranks in le→leb (from_landing e.zone) (from_landing d.zone) (omega arith))))
    (approach_line (opp f) l k.rest)

-- ---- 2
pub area_line : (s f : Side) (l : List Placed) → T (chain f (zones_in l)) → T (never_falls (map (λ (a : Listed). height_in (num s) a.zone) (those (is_in_area (num s)) (map as_listed l))))
area_line s f [] t = tt
area_line s f (e ∷ l) t = go (decided (is_in e.zone (area (num s)))) (area_line s (opp f) l k.rest)
  where
    k : Link f e.zone (zones_in l)
    k = link f e.zone (zones_in l) t

    p : Listed → Bool
    p = is_in_area (num s)

    g : Listed → ℕ
    g a = height_in (num s) a.zone

    behind : T (of_area s e.zone) → T (every (leb (height_in (num s) e.zone)) (map g (those p (map as_listed l))))
    behind v =
        every_map (leb (height_in (num s) e.zone)) g (those p (map as_listed l))
        (every_those p (λ a. leb (height_in (num s) e.zone) (g a)) (map as_listed l)
        (follow f e.zone (λ a. not (p a) || leb (height_in (num s) e.zone) (g a)) l k.leading (chained (opp f) (zones_in l) k.rest) (λ d u m. either d u m (decided (p (as_listed d))))))
      where
        either : (d : Placed) → T (within 1 12 d.zone) → Leads f e.zone d.zone → (p (as_listed d) ≡ true) ⊎ (p (as_listed d) ≡ false)
            → T (not (p (as_listed d)) || leb (height_in (num s) e.zone) (height_in (num s) d.zone))
        either d u m (inl b) =
            let w = pass (sym (area_is s d.zone u) ∙ b) in
            let c = height_is s e.zone k.here v in
            let h = height_is s d.zone u w in
            let n = m.heights s v w in
            or_right (not (p (as_listed d))) (leb (height_in (num s) e.zone) (height_in (num s) d.zone)) (le→leb (height_in (num s) e.zone) (height_in (num s) d.zone) (omega arith))
        either d u m (inr b) = or_left (not (p (as_listed d))) (leb (height_in (num s) e.zone) (height_in (num s) d.zone)) (fail b)

    go : (is_in e.zone (area (num s)) ≡ true) ⊎ (is_in e.zone (area (num s)) ≡ false) → T (never_falls (map g (those p (map as_listed l))))
        → T (never_falls (map g (cond (is_in e.zone (area (num s))) (as_listed e ∷ those p (map as_listed l)) (those p (map as_listed l)))))
    go (inl b) h =
        subst (λ (c : Bool). T (never_falls (map g (cond c (as_listed e ∷ those p (map as_listed l)) (those p (map as_listed l)))))) (sym b)
        (and_i (every (leb (g (as_listed e))) (map g (those p (map as_listed l)))) (never_falls (map g (those p (map as_listed l)))) (behind (pass (sym (area_is s e.zone k.here) ∙ b))) h)
    go (inr b) h = subst (λ (c : Bool). T (never_falls (map g (cond c (as_listed e ∷ those p (map as_listed l)) (those p (map as_listed l)))))) (sym b) h

-- ---- 3
area_number : (s : Side) (l : List Placed) → T (every (within 1 12) (zones_in l)) → length (those (is_in_area (num s)) (map as_listed l)) ≡ pass_count (of_area s) (zones_in l)
area_number s [] t = refl
area_number s (e ∷ l) t =
    ap (λ (b : Bool). length (cond b (as_listed e ∷ those (is_in_area (num s)) (map as_listed l)) (those (is_in_area (num s)) (map as_listed l))))
    (area_is s e.zone (and_l (within 1 12 e.zone) (every (within 1 12) (zones_in l)) t))
    ∙ go (of_area s e.zone) (area_number s l (and_r (within 1 12 e.zone) (every (within 1 12) (zones_in l)) t))
  where
    go : (b : Bool) → length (those (is_in_area (num s)) (map as_listed l)) ≡ pass_count (of_area s) (zones_in l)
        → length (cond b (as_listed e ∷ those (is_in_area (num s)) (map as_listed l)) (those (is_in_area (num s)) (map as_listed l))) ≡ one b + pass_count (of_area s) (zones_in l)
    go true h = omega arith
    go false h = omega arith

-- how many of those ahead have the side as fix, with one more ahead
ahead_more : (s g : Side) (e : Placed) (ahead : List Listed) → e.aircraft.fix ≡ num g
    → length (those (has_fix (num s)) (as_listed e ∷ ahead)) ≡ one (eqb (num g) (num s)) + length (those (has_fix (num s)) ahead)
ahead_more s g e ahead h =
    ap (λ (n : ℕ). length (cond (eqb n (num s)) (as_listed e ∷ those (has_fix (num s)) ahead) (those (has_fix (num s)) ahead))) h ∙ go (eqb (num g) (num s))
  where
    go : (b : Bool) → length (cond b (as_listed e ∷ those (has_fix (num s)) ahead) (those (has_fix (num s)) ahead)) ≡ one b + length (those (has_fix (num s)) ahead)
    go true = omega arith
    go false = omega arith

same_fix : (f : Side) → one (eqb (num f) (num f)) ≡ 1
same_fix right_side = refl
same_fix left_side = refl

other_fix : (f : Side) → one (eqb (num f) (num (opp f))) ≡ 0
other_fix right_side = refl
other_fix left_side = refl

opp_opp : (f : Side) → opp (opp f) ≡ f
opp_opp right_side = refl
opp_opp left_side = refl

-- with k ahead in turn, k / 2 have the fix of the next one: room to miss is that of the model
pub room_same : (k : ℕ) (f : Side) (ahead : List Listed) (l : List Placed) → length (those (has_fix (num f)) ahead) ≡ k / 2 → length (those (has_fix (num (opp f))) ahead) ≡ suc k / 2
    → Alternates f l → T (every (within 1 12) (zones_in l)) → each_among has_room ahead (map as_listed l) ≡ model.room_in_order k f (zones_in l)
room_same k f ahead [] p q a t = refl
room_same k f ahead (e ∷ l) p q a t =
    let ins = and_r (within 1 12 e.zone) (every (within 1 12) (zones_in l)) t in
    let n = pass_count (of_area f) (zones_in l) in
    let c = area_number f l ins in
    let both : length (those (is_in_area (num f)) (map as_listed l)) + length (those (has_fix (num f)) ahead) ≡ n + k / 2 = omega arith in
    let room : has_room ahead (as_listed e) (map as_listed l) ≡ leb (n + k / 2) 1 =
    ap (λ (s : ℕ). leb (length (those (is_in_area s) (map as_listed l)) + length (those (has_fix s) ahead)) 1) a.0 ∙ ap (λ (m : ℕ). leb m 1) both in
    let same = ahead_more f f e ahead a.0 in
    let other = ahead_more (opp f) f e ahead a.0 in
    let one_more = same_fix f in
    let no_more = other_fix f in
    let p₂ : length (those (has_fix (num (opp f))) (as_listed e ∷ ahead)) ≡ suc k / 2 = omega arith in
    let q₁ : length (those (has_fix (num f)) (as_listed e ∷ ahead)) ≡ suc (suc k) / 2 = omega arith in
    let q₂ : length (those (has_fix (num (opp (opp f)))) (as_listed e ∷ ahead)) ≡ suc (suc k) / 2 =
    subst (λ (g : Side). length (those (has_fix (num g)) (as_listed e ∷ ahead)) ≡ suc (suc k) / 2) (sym (opp_opp f)) q₁ in
    ap (λ (b : Bool). b && each_among has_room (as_listed e ∷ ahead) (map as_listed l)) room
    ∙ ap (λ (b : Bool). leb (n + k / 2) 1 && b) (room_same (suc k) (opp f) (as_listed e ∷ ahead) l p₂ q₂ a.1 ins)

-- ---- 4
-- nobody of those ahead has the side of a lateral zone w as fix
abbrev clear : List Listed → ℕ → Bool
clear ahead w = not (within 5 6 w) || eqb (length (those (has_fix (side_of w)) ahead)) 0

clear_more : (f : Side) (e : Placed) (ahead : List Listed) (w : ℕ) → e.aircraft.fix ≡ num f → T (within 1 12 w) → Leads f e.zone w → T (clear ahead w) → T (clear (as_listed e ∷ ahead) w)
clear_more f e ahead w h u m t = go (decided (within 5 6 w))
  where
    go : (within 5 6 w ≡ true) ⊎ (within 5 6 w ≡ false) → T (clear (as_listed e ∷ ahead) w)
    go (inl b) =
        let other : eqb e.aircraft.fix (side_of w) ≡ false = ap (λ (n : ℕ). eqb n (side_of w)) h ∙ lateral_side f w u (pass b) (m.laterals (pass b)) in
        subst (λ (c : Bool). T (not (within 5 6 w) || eqb (length (cond c (as_listed e ∷ those (has_fix (side_of w)) ahead) (those (has_fix (side_of w)) ahead))) 0)) (sym other) t
    go (inr b) = or_left (not (within 5 6 w)) (eqb (length (those (has_fix (side_of w)) (as_listed e ∷ ahead))) 0) (fail b)

clear_behind : (f : Side) (e : Placed) (ahead : List Listed) (zs : List ℕ) → e.aircraft.fix ≡ num f → T (every (within 1 12) zs) → T (every (may_lead f e.zone) zs)
    → T (every (clear ahead) zs) → T (every (clear (as_listed e ∷ ahead)) zs)
clear_behind f e ahead [] h u m t = tt
clear_behind f e ahead (w ∷ zs) h u m t =
    and_i (clear (as_listed e ∷ ahead) w) (every (clear (as_listed e ∷ ahead)) zs)
    (clear_more f e ahead w h (and_l (within 1 12 w) (every (within 1 12) zs) u)
    (leads f e.zone w (and_l (may_lead f e.zone w) (every (may_lead f e.zone) zs) m)) (and_l (clear ahead w) (every (clear ahead) zs) t))
    (clear_behind f e ahead zs h (and_r (within 1 12 w) (every (within 1 12) zs) u)
    (and_r (may_lead f e.zone w) (every (may_lead f e.zone) zs) m) (and_r (clear ahead w) (every (clear ahead) zs) t))

pub lateral_line : (f : Side) (ahead : List Listed) (l : List Placed) → Alternates f l → T (chain f (zones_in l))
    → T (every (clear ahead) (zones_in l)) → T (each_among lateral_free ahead (map as_listed l))
lateral_line f ahead [] a t c = tt
lateral_line f ahead (e ∷ l) a t c =
    let k = link f e.zone (zones_in l) t in
    and_i (lateral_free ahead (as_listed e) (map as_listed l)) (each_among lateral_free (as_listed e ∷ ahead) (map as_listed l))
    (and_l (clear ahead e.zone) (every (clear ahead) (zones_in l)) c)
    (lateral_line (opp f) (as_listed e ∷ ahead) l a.1 k.rest
    (clear_behind f e ahead (zones_in l) a.0 (chained (opp f) (zones_in l) k.rest) k.leading (and_r (clear ahead e.zone) (every (clear ahead) (zones_in l)) c)))

-- nobody is ahead of the first
none_ahead : (zs : List ℕ) → T (every (clear []) zs)
none_ahead [] = tt
none_ahead (z ∷ zs) = and_i (clear [] z) (every (clear []) zs) (or_right (not (within 5 6 z)) true tt) (none_ahead zs)

-- ---- the five together
pub orderly_reason : (f : Side) (line : List Placed) (runway : List Aircraft) (legs : Legs) → Orderly f line runway legs → Reason (field_of f line runway legs)
unfolding okay approach_order area_order room_to_miss lateral_order
orderly_reason f line runway legs o =
    let zs = zones_in line in
    let is = along_line f line runway legs o in
    let ok = and_l (leb (length zs) 4 && chain f zs) (model.room_in_order 0 f zs) o.okay_line in
    let chains = and_r (leb (length zs) 4) (chain f zs) ok in
    let ins = okay_zones f zs o.okay_line in
    let side : (s : Side) → T (area_order (field_of f line runway legs) (num s)) =
    λ s. subst (λ (l : List Listed). T (never_falls (map (λ (a : Listed). height_in (num s) a.zone) (those (is_in_area (num s)) l)))) (sym is) (area_line s f line chains) in
    record {
      approach_order_is = subst (λ (l : List Listed). T (never_falls (map (λ (a : Listed). from_landing a.zone) l))) (sym is) (approach_line f line chains);
      area_order_is = and_i (area_order (field_of f line runway legs) 1) (area_order (field_of f line runway legs) 2) (side right_side) (side left_side);
      room_to_miss_is =
          subst (λ (l : List Listed). T (each_among has_room [] l)) (sym is)
          (subst T (sym (room_same 0 f [] line refl refl o.alternates ins)) (and_r (leb (length zs) 4 && chain f zs) (model.room_in_order 0 f zs) o.okay_line));
      lateral_entry_is = subst (λ (l : List Listed). T (each_among lateral_free [] l)) (sym is) (lateral_line f [] line o.alternates chains (none_ahead zs));
      queues_agree = queues_line f line runway legs o;
    }
