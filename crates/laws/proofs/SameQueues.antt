-- Two fields that differ at most in places past the lengths: each edit and a tick keep them so, and they are alike in all that the rules and the bounds ask. So what is past a length, zero and
-- waiting, does not matter, though a zero of a float there may have either sign (02, 2.2). Assumes nothing.
use mathlib.Core.Path.{◌≡◌, refl, sym, ap, ◌∙◌, subst, fun_ext}
use mathlib.Core.Logic.{◌⊎◌, inl, inr}
use mathlib.Core.Bool.{Bool, true, false, ◌&&◌}
use mathlib.Core.List.{List, [], ◌∷◌, ◌++◌, map}
use Prim.Native.Nat.{ℕ, zero, suc, ◌+◌, ◌-◌, ◌≤◌, ◌<◌}
use native.Mathlib.Omega.{arith}
use borrow.Author.Tests.{eqb-true, eqb-false, ltb-true, leb-true, leb-false}
use lib.Dec.{T, eqb, leb, ltb, le→leb}
use lib.Ieee.{eq, of_int}
use lib.Ieee.Fits.{and_i, and_r}
use lib.ListN.{length, drop, set, length-map, length-set}
use Rattle.leg.specs.Ticks.{Between}
use Rattle.field.specs.declared.Aircraft.{Aircraft}
use Rattle.field.specs.declared.Zone.{Zone}
use Rattle.field.specs.declared.Legs.{Legs}
use Rattle.field.specs.declared.Sequence.{Sequence}
use Rattle.field.specs.declared.Field.{Field}
use Rattle.field.specs.Airspace.{nobody, empty_zone, is_side, everywhere, zone_of, queue_of, in_zone}
use Rattle.edits.specs.Edits.{without_head, with_tail, with_zone, with_sequence}
use Rattle.field.specs.Lists.{every}
use Rattle.bounds.specs.Bounds.{is_nobody, zone_kept, sequence_kept, bound_e, within_bounds}
use Rattle.fits.specs.Fits.{fits_zone, legal_legs, bound_g}
use Rattle.tick.specs.Tick.{ticked}
use Rattle.tick.proofs.Tick.{ticked_in, length_ticked}
use Rattle.field.proofs.TestLaws.{passed, decided, either_way, if_true, if_false}
use Rattle.questions.proofs.NumbersListed.{number_of}
use Rattle.laws.proofs.EditLaws.{ShapedZone, no_zone_empty, shaped_empty_zone, head_taken, tail_put_lem, shaped_without_head, shaped_with_tail, zone_replaced, zone_kept_lem}
use Rattle.laws.proofs.Alike.{fix_of_one, Alike, a_alike, b_alike, c_alike, d_alike, differ_alike, exact_alike, first_alike, f_alike}
use Rattle.laws.proofs.BoundLaws.{within_each, each_within}
use Rattle.laws.proofs.TickLaws.{ticked_at, places_ticked, length_kept, queue_of_ticked, zone_kept_ticked, zone_ticked}

-- ---- zones with the same queue

-- a zone with its places, its length and what is past it as bound e asks
pub record KeptZone (q : Zone) : Type 0 where
  pub shaped : ShapedZone q
  pub kept : T (zone_kept q)

pub record SameZone (q p : Zone) : Type 0 where
  pub one : KeptZone q
  pub other : KeptZone p
  pub count : q.length ≡ p.length
  pub queue : queue_of q ≡ queue_of p

pub kept_empty : KeptZone empty_zone
unfolding zone_kept is_nobody eq of_int
kept_empty = record { shaped = shaped_empty_zone; kept = tt }

pub same_zone_lem : (q : Zone) → KeptZone q → SameZone q q
same_zone_lem q k = record { one = k; other = k; count = refl; queue = refl }

-- the head taken off
nobody_last : (xs : List Aircraft) (n : ℕ) → length xs ≡ 4 → n ≤ 4 → T (every is_nobody (drop n xs)) → T (every is_nobody (drop (n - 1) (drop 1 xs ++ (nobody ∷ []))))
unfolding is_nobody eq of_int
nobody_last [] n e h t = absurd (omega arith)
nobody_last (a ∷ []) n e h t = absurd (omega arith)
nobody_last (a ∷ b ∷ []) n e h t = absurd (omega arith)
nobody_last (a ∷ b ∷ c ∷ []) n e h t = absurd (omega arith)
nobody_last (a ∷ b ∷ c ∷ d ∷ []) zero e h t = and_r (is_nobody a) (every is_nobody (b ∷ c ∷ d ∷ [])) t
nobody_last (a ∷ b ∷ c ∷ d ∷ []) (suc zero) e h t = t
nobody_last (a ∷ b ∷ c ∷ d ∷ []) (suc (suc zero)) e h t = t
nobody_last (a ∷ b ∷ c ∷ d ∷ []) (suc (suc (suc zero))) e h t = t
nobody_last (a ∷ b ∷ c ∷ d ∷ []) (suc (suc (suc (suc zero)))) e h t = t
nobody_last (a ∷ b ∷ c ∷ d ∷ []) (suc (suc (suc (suc (suc n))))) e h t = absurd (omega arith)
nobody_last (a ∷ b ∷ c ∷ d ∷ x ∷ xs) n e h t = absurd (omega arith)

pub kept_head : (q : Zone) → KeptZone q → KeptZone (without_head q)
unfolding without_head zone_kept
kept_head q k = record { shaped = shaped_without_head q k.shaped; kept = either_way (λ (p : Zone). T (zone_kept p)) (eqb q.length 0) q _ (λ e. k.kept) closed }
  where
    closed : eqb q.length 0 ≡ false → T (zone_kept (record { aircraft = drop 1 q.aircraft ++ (nobody ∷ []); length = q.length - 1 }))
    closed e =
        let t = and_r (leb q.length 4) (every is_nobody (drop q.length q.aircraft)) k.kept in
        and_i (leb (q.length - 1) 4) (every is_nobody (drop (q.length - 1) (drop 1 q.aircraft ++ (nobody ∷ []))))
        (le→leb (q.length - 1) 4 (let h = k.shaped.fits in omega arith))
        (nobody_last q.aircraft q.length k.shaped.places k.shaped.fits t)

pub same_head : (q p : Zone) → SameZone q p → SameZone (without_head q) (without_head p)
unfolding without_head
same_head q p s =
    let fits : (x : Zone) → KeptZone x → x.length ≤ length x.aircraft = λ x k. let a = k.shaped.places in let b = k.shaped.fits in omega arith in
    record {
      one = kept_head q s.one;
      other = kept_head p s.other;
      count = length_head q ∙ ap (λ (n : ℕ). n - 1) s.count ∙ sym (length_head p);
      queue = head_taken q (fits q s.one) ∙ ap (drop 1) s.queue ∙ sym (head_taken p (fits p s.other));
    }
  where
    length_head : (q : Zone) → (without_head q).length ≡ q.length - 1
    length_head q = either_way (λ (p : Zone). p.length ≡ q.length - 1) (eqb q.length 0) q _ (λ e. let h = eqb-true q.length 0 e in omega arith) (λ e. refl)

-- one put at the tail
fewer_nobody : (xs : List Aircraft) (n : ℕ) (x : Aircraft) → length xs ≡ 4 → n < 4 → T (every is_nobody (drop n xs)) → T (every is_nobody (drop (n + 1) (set xs n x)))
fewer_nobody [] n x e h t = absurd (omega arith)
fewer_nobody (a ∷ []) n x e h t = absurd (omega arith)
fewer_nobody (a ∷ b ∷ []) n x e h t = absurd (omega arith)
fewer_nobody (a ∷ b ∷ c ∷ []) n x e h t = absurd (omega arith)
fewer_nobody (a ∷ b ∷ c ∷ d ∷ []) zero x e h t = and_r (is_nobody a) (every is_nobody (b ∷ c ∷ d ∷ [])) t
fewer_nobody (a ∷ b ∷ c ∷ d ∷ []) (suc zero) x e h t = and_r (is_nobody b) (every is_nobody (c ∷ d ∷ [])) t
fewer_nobody (a ∷ b ∷ c ∷ d ∷ []) (suc (suc zero)) x e h t = and_r (is_nobody c) (every is_nobody (d ∷ [])) t
fewer_nobody (a ∷ b ∷ c ∷ d ∷ []) (suc (suc (suc zero))) x e h t = tt
fewer_nobody (a ∷ b ∷ c ∷ d ∷ []) (suc (suc (suc (suc n)))) x e h t = absurd (omega arith)
fewer_nobody (a ∷ b ∷ c ∷ d ∷ y ∷ ys) n x e h t = absurd (omega arith)

pub kept_tail : (q : Zone) (a : Aircraft) → KeptZone q → KeptZone (with_tail q a)
unfolding with_tail zone_kept
kept_tail q a k = record { shaped = shaped_with_tail q a k.shaped; kept = either_way (λ (p : Zone). T (zone_kept p)) (ltb q.length 4) _ q longer (λ e. k.kept) }
  where
    longer : ltb q.length 4 ≡ true → T (zone_kept (record { aircraft = set q.aircraft q.length a; length = q.length + 1 }))
    longer e =
        let h = ltb-true q.length 4 e in
        let t = and_r (leb q.length 4) (every is_nobody (drop q.length q.aircraft)) k.kept in
        and_i (leb (q.length + 1) 4) (every is_nobody (drop (q.length + 1) (set q.aircraft q.length a))) (le→leb (q.length + 1) 4 (omega arith))
        (fewer_nobody q.aircraft q.length a k.shaped.places h t)

-- a queue with room is one longer, and a full one stays as it is
record Put (q : Zone) (a : Aircraft) (length-after : ℕ) (queue-after : List Aircraft) : Type 0 where
  count_is : (with_tail q a).length ≡ length-after
  queue_is : queue_of (with_tail q a) ≡ queue-after

longer_by_one : (q : Zone) (a : Aircraft) → KeptZone q → ltb q.length 4 ≡ true → Put q a (q.length + 1) (queue_of q ++ (a ∷ []))
unfolding with_tail
longer_by_one q a k e = record { count_is = ap (λ (p : Zone). p.length) (if_true _ q e); queue_is = tail_put_lem q a k.shaped.places (ltb-true q.length 4 e) }

full_stays : (q : Zone) (a : Aircraft) → ltb q.length 4 ≡ false → Put q a q.length (queue_of q)
unfolding with_tail
full_stays q a e = let same = if_false _ q e in record { count_is = ap (λ (p : Zone). p.length) same; queue_is = ap queue_of same }

pub same_tail : (q p : Zone) (a b : Aircraft) → a ≡ b → SameZone q p → SameZone (with_tail q a) (with_tail p b)
same_tail q p a b e s = subst (λ (x : Aircraft). SameZone (with_tail q a) (with_tail p x)) e (go (decided (ltb q.length 4)))
  where
    like : {t : Bool} → ltb q.length 4 ≡ t → ltb p.length 4 ≡ t
    like h = ap (λ (n : ℕ). ltb n 4) (sym s.count) ∙ h

    go : (ltb q.length 4 ≡ true) ⊎ (ltb q.length 4 ≡ false) → SameZone (with_tail q a) (with_tail p a)
    go (inl h) =
        let u = longer_by_one q a s.one h in
        let v = longer_by_one p a s.other (like h) in
        record {
          one = kept_tail q a s.one;
          other = kept_tail p a s.other;
          count = u.count_is ∙ ap (λ (n : ℕ). n + 1) s.count ∙ sym v.count_is;
          queue = u.queue_is ∙ ap (λ (l : List Aircraft). l ++ (a ∷ [])) s.queue ∙ sym v.queue_is;
        }
    go (inr h) =
        let u = full_stays q a h in
        let v = full_stays p a (like h) in
        record { one = kept_tail q a s.one; other = kept_tail p a s.other; count = u.count_is ∙ s.count ∙ sym v.count_is; queue = u.queue_is ∙ s.queue ∙ sym v.queue_is }

-- a tick
kept_tick : (amount z : ℕ) (q : Zone) → KeptZone q → KeptZone (ticked_in amount z q)
kept_tick amount z q k =
    record {
      shaped = record {
        places = ap length (places_ticked amount z q) ∙ length-map q.aircraft (ticked_at amount z) ∙ k.shaped.places;
        fits = let h = length_kept amount z q in let g = k.shaped.fits in omega arith;
      };
      kept = subst T (sym (zone_kept_ticked amount z q)) k.kept;
    }

pub same_tick : (amount z : ℕ) (q p : Zone) → SameZone q p → SameZone (ticked_in amount z q) (ticked_in amount z p)
same_tick amount z q p s =
    record {
      one = kept_tick amount z q s.one;
      other = kept_tick amount z p s.other;
      count = length_kept amount z q ∙ s.count ∙ sym (length_kept amount z p);
      queue = queue_of_ticked amount z q ∙ ap (map (ticked_at amount z)) s.queue ∙ sym (queue_of_ticked amount z p);
    }

-- ---- fields with the same queues
pub record Same (f g : Field) : Type 0 where
  pub zones : length f.zones ≡ 13
  pub zones_too : length g.zones ≡ 13
  pub zone : (z : ℕ) → SameZone (zone_of f z) (zone_of g z)
  pub sequence : f.sequence ≡ g.sequence
  pub next : f.next ≡ g.next
  pub legs : f.legs ≡ g.legs

-- a zone replaced in both
long_with : (f : Field) (z : ℕ) (q : Zone) → length f.zones ≡ 13 → length (with_zone f z q).zones ≡ 13
unfolding with_zone
long_with f zero q e = e
long_with f (suc i) q e = length-set f.zones i q ∙ e

pub same_with : (f g : Field) (z : ℕ) (q p : Zone) → Same f g → SameZone q p → Same (with_zone f z q) (with_zone g z p)
unfolding with_zone
same_with f g z q p s t =
    record {
      zones = long_with f z q s.zones;
      zones_too = long_with g z p s.zones_too;
      zone = λ w. each w (decided (eqb w z)) (decided (leb 1 z)) (decided (leb z 13));
      sequence = s.sequence;
      next = s.next;
      legs = s.legs;
    }
  where
    none : (w : ℕ) → (w ≡ 0) ⊎ (13 < w) → SameZone (zone_of (with_zone f z q) w) (zone_of (with_zone g z p) w)
    none w h = rw (no_zone_empty (with_zone f z q) (long_with f z q s.zones) w h, no_zone_empty (with_zone g z p) (long_with g z p s.zones_too) w h) (same_zone_lem empty_zone kept_empty)

    each : (w : ℕ) → (eqb w z ≡ true) ⊎ (eqb w z ≡ false) → (leb 1 z ≡ true) ⊎ (leb 1 z ≡ false) → (leb z 13 ≡ true) ⊎ (leb z 13 ≡ false)
        → SameZone (zone_of (with_zone f z q) w) (zone_of (with_zone g z p) w)
    each w (inr e) a b = let d = eqb-false w z e in subst (λ (x : Zone). SameZone x (zone_of (with_zone g z p) w))
        (sym (zone_kept_lem f z q w d)) (subst (SameZone (zone_of f w)) (sym (zone_kept_lem g z p w d)) (s.zone w))
    each w (inl e) (inl a) (inl b) =
        let in-range : Between 1 13 z = record { least = leb-true 1 z a; most = leb-true z 13 b } in
        let here = eqb-true w z e in
        subst (λ (v : ℕ). SameZone (zone_of (with_zone f z q) v) (zone_of (with_zone g z p) v)) (sym here)
        (subst (λ (x : Zone). SameZone x (zone_of (with_zone g z p) z)) (sym (zone_replaced f z q in-range s.zones)) (subst (SameZone q) (sym (zone_replaced g z p in-range s.zones_too)) t))
    each w (inl e) (inr a) b = none w (inl (let h = leb-false 1 z a in let i = eqb-true w z e in omega arith))
    each w (inl e) (inl a) (inr b) = none w (inr (let h = leb-false z 13 b in let i = eqb-true w z e in omega arith))

-- another sequence and next fix in both
pub same_sequence : (f g : Field) {s t : Sequence} {m n : ℕ} → Same f g → s ≡ t → m ≡ n → Same (with_sequence f s m) (with_sequence g t n)
unfolding with_sequence zone_of
same_sequence f g r e h = record { zones = r.zones; zones_too = r.zones_too; zone = r.zone; sequence = e; next = h; legs = r.legs }

-- a tick
pub same_ticked : (f g : Field) (amount : ℕ) → Same f g → Same (ticked f amount) (ticked g amount)
unfolding ticked
same_ticked f g amount s =
    record {
      zones = length_ticked amount 1 f.zones ∙ s.zones;
      zones_too = length_ticked amount 1 g.zones ∙ s.zones_too;
      zone =
          λ z.
          subst (λ (x : Zone). SameZone x (zone_of (ticked g amount) z)) (sym (zone_ticked f amount z))
          (subst (SameZone (ticked_in amount z (zone_of f z))) (sym (zone_ticked g amount z)) (same_tick amount z (zone_of f z) (zone_of g z) (s.zone z)));
      sequence = s.sequence;
      next = s.next;
      legs = s.legs;
    }

-- ---- what is asked of them is the same
module _ (f g : Field) (s : Same f g) where
  pub queues_same : in_zone f ≡ in_zone g
  unfolding in_zone
  queues_same = fun_ext (λ z. (s.zone z).queue)

  pub alike : Alike f g
  alike =
      record {
        numbers = λ z. ap (λ (h : ℕ → List Aircraft). map number_of (h z)) queues_same;
        fixes = λ z. ap (λ (h : ℕ → List Aircraft). map fix_of_one (h z)) queues_same;
        sequence = s.sequence;
        next = s.next;
      }

  -- Within the bounds is the one where the other is.
  pub within_same : T (within_bounds f) → T (within_bounds g)
  unfolding bound_e bound_g
  within_same t =
      let w = within_each f t in
      each_within g
      (record {
        bound_a_is = subst T (a_alike f g alike) w.bound_a_is;
        bound_b_is = subst T (b_alike f g alike) w.bound_b_is;
        bound_c_is = subst T (c_alike f g alike) w.bound_c_is;
        bound_d_is = subst T (d_alike f g alike) w.bound_d_is;
        bound_e_is = subst T e_same w.bound_e_is;
        bound_f_is = subst T (f_alike f g alike) w.bound_f_is;
        bound_g_is = subst T g_same w.bound_g_is;
      })
    where
      zones_same : every (λ z. zone_kept (zone_of f z)) everywhere ≡ every (λ z. zone_kept (zone_of g z)) everywhere
      zones_same =
          let each : (z : ℕ) → zone_kept (zone_of f z) ≡ zone_kept (zone_of g z) =
          λ z. passed {b = zone_kept (zone_of f z)} (s.zone z).one.kept ∙ sym (passed {b = zone_kept (zone_of g z)} (s.zone z).other.kept) in
          ap (λ (p : ℕ → Bool). every p everywhere) (fun_ext each)

      e_same : bound_e f ≡ bound_e g
      e_same =
          let a = differ_alike f g alike in
          let b = exact_alike f g alike in
          let c = first_alike f g alike in
          let d = zones_same in
          let e = ap sequence_kept s.sequence in
          cc (a, b, c, d, e)

      g_same : bound_g f ≡ bound_g g
      g_same =
          ap (λ (l : Legs). every (λ z. every (fits_zone l z) (in_zone f z)) everywhere && is_side f.next && legal_legs l) s.legs
          ∙ ap (λ (n : ℕ). every (λ z. every (fits_zone g.legs z) (in_zone f z)) everywhere && is_side n && legal_legs g.legs) s.next
          ∙ ap (λ (h : ℕ → List Aircraft). every (λ z. every (fits_zone g.legs z) (h z)) everywhere && is_side g.next && legal_legs g.legs) queues_same
