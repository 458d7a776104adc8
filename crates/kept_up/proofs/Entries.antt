-- Entries after a move or a descent, without that of a number, and with one more put among them: they are in order, each used one has a zone, and what is found among them. Assumes nothing.
use mathlib.Core.Path.{◌≡◌, refl, sym, ap, ◌∙◌, subst}
use mathlib.Core.Logic.{◌≢◌, inl, inr}
use mathlib.Core.Bool.{Bool, true, false, cond, ◌&&◌}
use mathlib.Core.List.{List, [], ◌∷◌, ◌++◌, map}
use Prim.Native.Nat.{ℕ, suc, ◌+◌, ◌-◌, ◌≤◌, ◌<◌}
use native.Mathlib.Numerals.{add-one}
use native.Mathlib.Omega.{arith}
use borrow.Author.Tests.{eqb-true, eq-eqb, ne_eqb}
use lib.Dec.{eqb, ltb}
use lib.ListN.{length, length-append}
use Rattle.field.proofs.TestParts.{and_cut}
use Rattle.field.proofs.TestLaws.{if_true, if_false, either_way}
use Rattle.questions.specs.declared.Place.{Place}
use Rattle.questions.specs.Find.{nowhere}
use Rattle.finder.specs.declared.Entry.{Entry}
use Rattle.finder.specs.Finder.{unused, put_among, Unused, InOrder, found_among}
use Rattle.finder.proofs.Found.{free, before_unused, put_before, put_zero, put_by}
use Rattle.finder.proofs.Determined.{HasZone, HaveZones, absent}
use Rattle.kept_up.specs.KeptUp.{moved_entry, descended_entry, without}

-- a place after the head of a zone has left it, of one that is not that head
abbrev pub moved_up : ℕ → Place → Place
moved_up from p = cond (eqb p.zone from && ltb 1 p.place) (record { zone = p.zone; place = p.place - 1 }) p

-- ---- a move; where `to` is unused, only those behind the head move up
module _ (from : ℕ) (to : Entry) (start : 1 ≤ from) (blank : to.number ≡ 0 → to ≡ unused) (zoned : HasZone to) where
  abbrev step : Entry → Entry
  step = moved_entry from to

  -- no number changes
  number_stays : (e : Entry) → (step e).number ≡ e.number
  unfolding moved_entry
  number_stays e =
      either_way (λ (x : Entry). x.number ≡ e.number) (eqb e.number to.number) to _ (λ t. sym (eqb-true e.number to.number t))
      (λ t. either_way (λ (x : Entry). x.number ≡ e.number) (eqb e.zone from && ltb 1 e.place) _ e (λ s. refl) (λ s. refl))

  -- an unused one stays so
  unused_stays : (e : Entry) → e ≡ unused → step e ≡ unused
  unfolding moved_entry
  unused_stays e h =
      ap step h
      ∙ either_way (λ (x : Entry). x ≡ unused) (eqb 0 to.number) to _ (λ t. blank (sym (eqb-true 0 to.number t)))
      (λ t. if_false _ _ (and_cut (ltb 1 0) (ne_eqb 0 from (λ t. omega (arith, t, start)))))

  all_unused_stay : (es : List Entry) → Unused es → Unused (map step es)
  all_unused_stay [] u = tt
  all_unused_stay (e ∷ es) u = (unused_stays e u.0, all_unused_stay es u.1)

  -- Entries in order stay in order.
  pub moved_in_order : (k : ℕ) (es : List Entry) → InOrder k es → InOrder k (map step es)
  moved_in_order k [] o = tt
  moved_in_order k (e ∷ es) (inl u) = inl (all_unused_stay (e ∷ es) u)
  moved_in_order k (e ∷ es) (inr p) = rw (number_stays e) (inr (p.0, moved_in_order e.number es p.1))

  zone_stays : (e : Entry) → HasZone e → HasZone (step e)
  unfolding moved_entry
  zone_stays e h =
      either_way HasZone (eqb e.number to.number) to _ (λ t u. zoned u)
      (λ t. either_way HasZone (eqb e.zone from && ltb 1 e.place) _ e (λ s. h) (λ s. h))

  -- Each used one has a zone.
  pub moved_zoned : (es : List Entry) → HaveZones es → HaveZones (map step es)
  moved_zoned [] h = tt
  moved_zoned (e ∷ es) h = (zone_stays e h.0, moved_zoned es h.1)

  says : Entry → Place
  says e = record { zone = e.zone; place = e.place }

  says_moved : (e : Entry) → eqb e.number to.number ≡ false → says (step e) ≡ moved_up from (says e)
  unfolding moved_entry says
  says_moved e t =
      ap says (if_false _ _ t)
      ∙ go (eqb e.zone from && ltb 1 e.place)
    where
      go : (b : Bool) → says (cond b (record { number = e.number; zone = e.zone; place = e.place - 1 }) e) ≡ cond b (record { zone = e.zone; place = e.place - 1 }) (says e)
      go true = refl
      go false = refl

  -- Another number than the one that moved is found where it was, or a place further ahead; ..
  pub other_found : (n : ℕ) → n ≢ to.number → (es : List Entry) → found_among n (map step es) ≡ moved_up from (found_among n es)
  unfolding says
  other_found n h [] = sym (if_false _ _ (and_cut (ltb 1 0) (ne_eqb 0 from (λ t. omega (arith, t, start)))))
  other_found n h (e ∷ es) = go (other_found n h es) (eqb e.number n) refl
    where
      go : found_among n (map step es) ≡ moved_up from (found_among n es) → (b : Bool) → eqb e.number n ≡ b → found_among n (map step (e ∷ es)) ≡ moved_up from (found_among n (e ∷ es))
      go later true t =
          let other = ne_eqb e.number to.number (λ s. h (sym (eqb-true e.number n t) ∙ s)) in
          if_true _ _ (ap (λ (k : ℕ). eqb k n) (number_stays e) ∙ t) ∙ says_moved e other ∙ ap (moved_up from) (sym (if_true _ _ t))
      go later false t =
          if_false _ _ (ap (λ (k : ℕ). eqb k n) (number_stays e) ∙ t) ∙ later ∙ ap (moved_up from) (sym (if_false _ _ t))

  -- .. and that one where it has moved to, if it was there.
  pub own_found : (es : List Entry) → (found_among to.number es).zone ≢ 0 → found_among to.number (map step es) ≡ record { zone = to.zone; place = to.place }
  unfolding moved_entry
  own_found [] h = absurd (h refl)
  own_found (e ∷ es) h = go (own_found es) (eqb e.number to.number) refl
    where
      go : ((found_among to.number es).zone ≢ 0 → found_among to.number (map step es) ≡ record { zone = to.zone; place = to.place })
          → (b : Bool) → eqb e.number to.number ≡ b → found_among to.number (map step (e ∷ es)) ≡ record { zone = to.zone; place = to.place }
      go later true t =
          if_true _ _ (ap (λ (k : ℕ). eqb k to.number) (number_stays e) ∙ t)
          ∙ ap (λ (x : Entry). record { zone = x.zone; place = x.place }) (if_true _ _ t)
      go later false t =
          if_false _ _ (ap (λ (k : ℕ). eqb k to.number) (number_stays e) ∙ t)
          ∙ later (λ z. h (ap (λ (p : Place). p.zone) (if_false _ _ t) ∙ z))

-- ---- the entry of a number left out

-- unused places stay so with one more behind them, ..
unused_last : (es : List Entry) → Unused es → Unused (es ++ (unused ∷ []))
unused_last [] u = (refl, tt)
unused_last (e ∷ es) u = (u.0, unused_last es u.1)

-- .. and so do entries in order
ordered_last : (j k : ℕ) → k ≤ j → (es : List Entry) → InOrder j es → InOrder k (es ++ (unused ∷ []))
ordered_last j k h [] o = inl (refl, tt)
ordered_last j k h (e ∷ es) (inl u) = inl (unused_last (e ∷ es) u)
ordered_last j k h (e ∷ es) (inr p) = let above = p.0 in inr (omega (arith, above, h), ordered_last e.number e.number (omega arith) es p.1)

zoned_last : (es : List Entry) → HaveZones es → HaveZones (es ++ (unused ∷ []))
zoned_last [] h = (λ u. absurd (u refl), tt)
zoned_last (e ∷ es) h = (h.0, zoned_last es h.1)

found_last : (m : ℕ) → m ≢ 0 → (es : List Entry) → found_among m (es ++ (unused ∷ [])) ≡ found_among m es
found_last m h [] = if_false _ _ (ne_eqb 0 m (λ e. h (sym e)))
found_last m h (e ∷ es) = ap (cond (eqb e.number m) (record { zone = e.zone; place = e.place })) (found_last m h es)

module _ (n : ℕ) (h : n ≢ 0) where
  -- There are as many places.
  pub without_length : (es : List Entry) → length (without n es) ≡ length es
  without_length [] = refl
  without_length (e ∷ es) =
      either_way (λ (l : List Entry). length l ≡ suc (length es)) (eqb e.number n) (es ++ (unused ∷ [])) (e ∷ without n es)
      (λ t. length-append es (unused ∷ []) ∙ add-one (length es)) (λ t. ap suc (without_length es))

  -- unused ones are left as they are
  without_unused : (es : List Entry) → Unused es → without n es ≡ es
  without_unused [] u = refl
  without_unused (e ∷ es) u =
      if_false _ _ (ne_eqb e.number n (λ t. h (sym t ∙ ap (λ (x : Entry). x.number) u.0))) ∙ ap (λ (l : List Entry). e ∷ l) (without_unused es u.1)

  -- Entries in order stay in order, ..
  pub without_in_order : (k : ℕ) (es : List Entry) → InOrder k es → InOrder k (without n es)
  without_in_order k [] o = tt
  without_in_order k (e ∷ es) (inl u) = subst (InOrder k) (sym (without_unused (e ∷ es) u)) (inl u)
  without_in_order k (e ∷ es) (inr p) =
      let above = p.0 in
      either_way (InOrder k) (eqb e.number n) (es ++ (unused ∷ [])) (e ∷ without n es) (λ t. ordered_last e.number k (omega (arith, above)) es p.1)
      (λ t. inr (p.0, without_in_order e.number es p.1))

  -- .. each used one has a zone, ..
  pub without_zoned : (es : List Entry) → HaveZones es → HaveZones (without n es)
  without_zoned [] z = tt
  without_zoned (e ∷ es) z =
      either_way HaveZones (eqb e.number n) (es ++ (unused ∷ [])) (e ∷ without n es) (λ t. zoned_last es z.1) (λ t. (z.0, without_zoned es z.1))

  -- .. another number is found as before, ..
  pub other_without : (m : ℕ) → m ≢ 0 → m ≢ n → (es : List Entry) → found_among m (without n es) ≡ found_among m es
  other_without m u other [] = refl
  other_without m u other (e ∷ es) =
      either_way (λ (l : List Entry). found_among m l ≡ found_among m (e ∷ es)) (eqb e.number n) (es ++ (unused ∷ [])) (e ∷ without n es)
      (λ t. found_last m u es ∙ sym (if_false _ _ (ne_eqb e.number m (λ s. other (sym s ∙ eqb-true e.number n t)))))
      (λ t. ap (cond (eqb e.number m) (record { zone = e.zone; place = e.place })) (other_without m u other es))

  -- .. and that one nowhere.
  pub own_without : (k : ℕ) (es : List Entry) → InOrder k es → found_among n (without n es) ≡ nowhere
  own_without k [] o = refl
  own_without k (e ∷ es) (inl u) = ap (found_among n) (without_unused (e ∷ es) u) ∙ absent n n h (omega arith) (e ∷ es) (inl u)
  own_without k (e ∷ es) (inr p) =
      either_way (λ (l : List Entry). found_among n l ≡ nowhere) (eqb e.number n) (es ++ (unused ∷ [])) (e ∷ without n es)
      (λ t.
      let own = eqb-true e.number n t in
      found_last n h es ∙ absent e.number n h (omega (arith, own)) es p.1)
      (λ t. if_false _ _ t ∙ own_without e.number es p.1)

-- ---- who was at 3000 has descended
-- a place after that
abbrev pub descended_place : ℕ → Place → Place
descended_place side p = cond (eqb p.zone side) (record { zone = 2 + side; place = 1 }) p

module _ (side : ℕ) (start : 1 ≤ side) where
  abbrev down : Entry → Entry
  down = descended_entry side

  down_number : (e : Entry) → (down e).number ≡ e.number
  unfolding descended_entry
  down_number e = either_way (λ (x : Entry). x.number ≡ e.number) (eqb e.zone side) _ e (λ t. refl) (λ t. refl)

  down_unused : (e : Entry) → e ≡ unused → down e ≡ unused
  unfolding descended_entry
  down_unused e h = ap down h ∙ if_false _ _ (ne_eqb 0 side (λ t. omega (arith, t, start)))

  all_down_unused : (es : List Entry) → Unused es → Unused (map down es)
  all_down_unused [] u = tt
  all_down_unused (e ∷ es) u = (down_unused e u.0, all_down_unused es u.1)

  pub down_in_order : (k : ℕ) (es : List Entry) → InOrder k es → InOrder k (map down es)
  down_in_order k [] o = tt
  down_in_order k (e ∷ es) (inl u) = inl (all_down_unused (e ∷ es) u)
  down_in_order k (e ∷ es) (inr p) = rw (down_number e) (inr (p.0, down_in_order e.number es p.1))

  down_zone : (e : Entry) → HasZone e → HasZone (down e)
  unfolding descended_entry
  down_zone e h = either_way HasZone (eqb e.zone side) _ e (λ t u z. omega (arith, z)) (λ t. h)

  pub down_zoned : (es : List Entry) → HaveZones es → HaveZones (map down es)
  down_zoned [] h = tt
  down_zoned (e ∷ es) h = (down_zone e h.0, down_zoned es h.1)

  pub down_free : (es : List Entry) → free (map down es) ≡ free es
  down_free [] = refl
  down_free (e ∷ es) = ap (λ (n : ℕ). cond (eqb n 0) 1 0 + free (map down es)) (down_number e) ∙ ap (λ (n : ℕ). cond (eqb e.number 0) 1 0 + n) (down_free es)

  down_says : (e : Entry) → record { zone = (down e).zone; place = (down e).place } ≡ descended_place side (record { zone = e.zone; place = e.place })
  unfolding descended_entry
  down_says e = go (eqb e.zone side)
    where
      go : (b : Bool) → (let d : Entry = cond b (record { number = e.number; zone = 2 + side; place = 1 }) e in
          ◌≡◌ {A = Place} (record { zone = d.zone; place = d.place }) (cond b (record { zone = 2 + side; place = 1 }) (record { zone = e.zone; place = e.place })))
      go true = refl
      go false = refl

  -- Every number is found where it was, or at 2000.
  pub down_found : (n : ℕ) (es : List Entry) → found_among n (map down es) ≡ descended_place side (found_among n es)
  down_found n [] = sym (if_false _ _ (ne_eqb 0 side (λ t. omega (arith, t, start))))
  down_found n (e ∷ es) =
      ap (λ (k : ℕ). cond (eqb k n) (record { zone = (down e).zone; place = (down e).place }) (found_among n (map down es))) (down_number e)
      ∙ ap (λ (p : Place). cond (eqb e.number n) p (found_among n (map down es))) (down_says e)
      ∙ ap (cond (eqb e.number n) (descended_place side (record { zone = e.zone; place = e.place }))) (down_found n es)
      ∙ joined (eqb e.number n)
    where
      joined : (b : Bool) → cond b (descended_place side (record { zone = e.zone; place = e.place })) (descended_place side (found_among n es))
          ≡ descended_place side (cond b (record { zone = e.zone; place = e.place }) (found_among n es))
      joined true = refl
      joined false = refl

-- ---- one more is put among them
-- what is found then, where its number was not among them and a place was unused
pub put_found : (k : ℕ) (e : Entry) → k < e.number → (es : List Entry) → InOrder k es → HaveZones es → (found_among e.number es).zone ≡ 0 → 1 ≤ free es → (n : ℕ) → n ≢ 0
    → found_among n (put_among e es) ≡ cond (eqb e.number n) (record { zone = e.zone; place = e.place }) (found_among n es)
put_found k e h [] o z a room n u = absurd (omega arith)
put_found k e h (x ∷ xs) (inl o) z a room n u =
    let none : x.number ≡ 0 = ap (λ (y : Entry). y.number) o.0 in
    ap (found_among n) (put_before e x xs (before_unused e x (λ t. omega (arith, t, h)) none) ∙ ap (λ (l : List Entry). e ∷ l) (put_zero x none xs))
    ∙ ap (cond (eqb e.number n) (record { zone = e.zone; place = e.place })) (sym (if_false _ _ (ne_eqb x.number n (λ t. u (sym t ∙ none)))))
put_found k e h (x ∷ xs) (inr p) z a room n u =
    let above = p.0 in
    let x-used : x.number ≢ 0 = λ t. omega (arith, t, above) in
    let e_used : e.number ≢ 0 = λ t. omega (arith, t, h) in
    let no = if_false {A = ℕ} 1 0 (ne_eqb x.number 0 x-used) in
    let left : 1 ≤ free xs = omega (arith, no, room) in
    let behind = ap (λ (q : Place). q.zone) (absent x.number x.number x-used (omega arith) xs p.1) in
    put_by (λ (l : List Entry). found_among n l ≡ cond (eqb e.number n) (record { zone = e.zone; place = e.place }) (found_among n (x ∷ xs))) e x xs e_used x-used
    (λ g. ap (cond (eqb e.number n) (record { zone = e.zone; place = e.place })) (put_found e.number x g xs (raised e x g xs p.1) z.1 behind left n u))
    (λ g. absurd (z.0 x-used (sym (ap (λ (q : Place). q.zone) (if_true _ _ (eq-eqb x.number e.number (sym g)))) ∙ a)))
    (λ g.
    let other = ne_eqb x.number e.number (λ t. omega (arith, t, g)) in
    ap (cond (eqb x.number n) (record { zone = x.zone; place = x.place }))
    (put_found x.number e g xs p.1 z.1 (sym (ap (λ (q : Place). q.zone) (if_false _ _ other)) ∙ a) left n u)
    ∙ swapped e x (λ t. omega (arith, t, g)) (found_among n xs) n (eqb x.number n) (eqb e.number n) refl refl)
  where
    raised : (e x : Entry) → e.number < x.number → (ys : List Entry) → InOrder x.number ys → InOrder e.number ys
    raised e x g [] o = tt
    raised e x g (y ∷ ys) (inl u) = inl u
    raised e x g (y ∷ ys) (inr q) = let over = q.0 in inr (omega (arith, over, g), q.1)

    swapped : (e x : Entry) → x.number ≢ e.number → (q : Place) (n : ℕ) (b c : Bool) → eqb x.number n ≡ b → eqb e.number n ≡ c
        → cond b (record { zone = x.zone; place = x.place }) (cond c (record { zone = e.zone; place = e.place }) q)
        ≡ cond c (record { zone = e.zone; place = e.place }) (cond b (record { zone = x.zone; place = x.place }) q)
    swapped e x g q n true true s t = absurd (g (eqb-true x.number n s ∙ sym (eqb-true e.number n t)))
    swapped e x g q n true false s t = refl
    swapped e x g q n false c s t = refl
