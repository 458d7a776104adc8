-- The index kept up by an accepted request is the new field's own. Assumes nothing.
use mathlib.Core.Path.{◌≡◌, refl, sym, ap, ◌∙◌}
use mathlib.Core.Logic.{◌≢◌, ◌⊎◌, inl, inr}
use mathlib.Core.Bool.{true, false, cond}
use mathlib.Core.List.{List, []}
use Prim.Native.Nat.{ℕ, suc, ◌+◌, ◌≤◌, ◌<◌}
use native.Mathlib.Omega.{arith}
use native.Mathlib.Numerals.{add-one}
use borrow.Author.Tests.{eqb-true, eqb-false, eq-eqb, ne_eqb, lt-ltb, le-ltb}
use lib.Dec.{T, eqb, ltb}
use lib.ListN.{length, length-map}
use Rattle.request.specs.Input.{within}
use Rattle.request.specs.declared.Request.{Request}
use Rattle.field.specs.declared.Field.{Field}
use Rattle.field.specs.Airspace.{in_zone}
use Rattle.field.proofs.TestParts.{and_cut}
use Rattle.field.proofs.TestLaws.{decided, pass, if_true, if_false}
use Rattle.questions.specs.declared.Place.{Place}
use Rattle.questions.specs.Counts.{how_many, present_on}
use Rattle.questions.specs.Find.{nowhere, place_of}
use Rattle.questions.proofs.FindLaws.{at}
use Rattle.bounds.specs.Bounds.{within_bounds}
use Rattle.laws.proofs.EditLaws.{Shaped}
use Rattle.laws.proofs.BoundLaws.{numbers_different, five_present}
use Rattle.finder.specs.declared.Entry.{Entry}
use Rattle.finder.specs.declared.Index.{Index}
use Rattle.finder.specs.Finder.{unused, put_among, index_of, InOrder, found_among, found_in}
use Rattle.finder.proofs.Found.{free}
use Rattle.finder.proofs.Putting.{put_length}
use Rattle.finder.proofs.Ordered.{index_in_order, put_ordered}
use Rattle.finder.proofs.IndexLaws.{found_as_looked, index_free}
use Rattle.finder.proofs.Determined.{HaveZones, put_zoned, index_zoned, index_length, index_determined}
use Rattle.rules.specs.Kinds.{place_before, zone_before, made_room}
use Rattle.rules.specs.Step.{effect_of, number_of}
use Rattle.rules.proofs.Refusals.{passes}
use Rattle.kept_up.specs.KeptUp.{place_in, led_to, moved_entry, moved_entries, descended_entry, descended_entries, without, arrived_at, kept_up}
use Rattle.kept_up.proofs.Entries.{moved_up, descended_place, moved_in_order, moved_zoned, other_found, own_found}
use Rattle.kept_up.proofs.Entries.{without_length, without_in_order, without_zoned, other_without, own_without, down_in_order, down_zoned, down_free, down_found, put_found}
use Rattle.kept_up.proofs.Moved.{Left, Come, others_left, was_head, own_left, others_come, own_come, come_total}
use Rattle.kept_up.proofs.Queues.{Led, MayMakeRoom, room_made}
use Rattle.rules.proofs.HeadOfRequest.{bounded}
use Rattle.kept_up.proofs.FiveWays.{AcceptedRequest, to, Leaves, Moves, Rises, Comes, ComesAbove}
use Rattle.kept_up.proofs.Told.{told}

-- ---- an index, and the field after
-- nobody has the number 0
none_zero : (h : Field) → T (within_bounds h) → place_of h 0 ≡ nowhere
unfolding found_in
none_zero h w = sym (found_as_looked h w 0)

-- five entries in order that say of every number where it is on a field
record Ready (h : Field) (xs : List Entry) : Type 0 where
  pub long : length xs ≡ 5
  pub order : InOrder 0 xs
  pub zoned : HaveZones xs
  pub says : (n : ℕ) → n ≢ 0 → found_among n xs ≡ place_of h n

-- are its index
own_index : (g : Field) → T (within_bounds g) → (xs : List Entry) → Ready g xs → record { entries = xs } ≡ index_of g
unfolding found_in
own_index g after xs ready = index_determined g after (record { entries = xs }) ready.long ready.order ready.zoned all
  where
    all : (n : ℕ) → found_in (record { entries = xs }) n ≡ place_of g n
    all n =
        elim (decided (eqb n 0)) [
          | inl a ↦ if_true _ _ a ∙ sym (none_zero g after) ∙ ap (place_of g) (sym (eqb-true n 0 a))
          | inr a ↦ if_false _ _ a ∙ ready.says n (eqb-false n 0 a)
        ]

-- ---- a request
module _ {f : Field} {r : Request} (a : AcceptedRequest f r) where
  abbrev g : Field
  g = effect_of f r

  abbrev from : ℕ
  from = zone_before f r

  abbrev n : ℕ
  n = r.number

  abbrev w : ℕ
  w = to f r r.kind

  abbrev es : List Entry
  es = (index_of f).entries

  -- the field after it is within the bounds
  after : T (within_bounds g)
  after = pass a.passed.after

  -- the index finds every number where look-up finds it
  looked : (n : ℕ) → n ≢ 0 → found_among n es ≡ place_of f n
  unfolding found_in
  looked n u = sym (if_false _ _ (ne_eqb n 0 u)) ∙ found_as_looked f (bounded a.passed) n

  -- the index of the field before, ..
  ready_same : Ready f es
  ready_same = record { long = index_length f; order = index_in_order f; zoned = index_zoned f; says = looked }

  -- .. and with 3000 of a side made empty
  ready_down : {side : ℕ} → MayMakeRoom f side → Ready (made_room f side) (descended_entries side es)
  ready_down {side} m =
      record {
        long = length-map es (descended_entry side) ∙ index_length f;
        order = down_in_order side m.low 0 es (index_in_order f);
        zoned = down_zoned side m.low es (index_zoned f);
        says = λ n u. down_found side m.low n es ∙ ap (descended_place side) (looked n u) ∙ sym ((room_made a.shaped (bounded a.passed) m).looked n);
      }

  -- who is found on the field after has a number
  named : {w p : ℕ} → 1 ≤ w → place_of g n ≡ at w p → n ≢ 0
  named {w} low found e =
      let none : 0 ≡ w = ap (λ (q : Place). q.zone) (sym (none_zero g after) ∙ ap (place_of g) (sym e) ∙ found) in
      omega (arith, none, low)

  -- its entry at a place of a zone
  abbrev entry_at : ℕ → ℕ → Entry
  entry_at zone place = record { number = n; zone = zone; place = place }

  -- from a field h with the entries xs, to a place in zone w
  module _ {h : Field} {xs : List Entry} (ready : Ready h xs) {w place : ℕ} where
    -- Somebody has moved from zone to zone.
    moved_own : {z : ℕ} (l : Led h g n z w) → place_of h n ≡ at z 1 → place ≡ suc (how_many l.between w) → record { entries = moved_entries z (entry_at w place) xs } ≡ index_of g
    moved_own {z} l was there =
        own_index g after (moved_entries z (entry_at w place) xs)
        (record {
          long = length-map xs (moved_entry z (entry_at w place)) ∙ ready.long;
          order = moved_in_order z (entry_at w place) start blank (λ u. zoned) 0 xs ready.order;
          zoned = moved_zoned z (entry_at w place) start blank (λ u. zoned) xs ready.zoned;
          says = λ m u. says m u (decided (eqb m n));
        })
      where
        start : 1 ≤ z
        start = l.left.zone.least

        own : place_of g n ≡ at w (suc (how_many l.between w))
        own = own_come l.come (numbers_different g after)

        used : n ≢ 0
        used = named l.come.zone.least own

        blank : n ≡ 0 → entry_at w place ≡ unused
        blank e = absurd (used e)

        zoned : w ≢ 0
        zoned e = let low = l.come.zone.least in omega (arith, e, low)

        was_there : (found_among n xs).zone ≢ 0
        was_there e =
            let none : z ≡ 0 = sym (ap (λ (p : Place). p.zone) (ready.says n used ∙ was)) ∙ e in
            let low = start in
            omega (arith, none, low)

        says : (m : ℕ) → m ≢ 0 → (eqb m n ≡ true) ⊎ (eqb m n ≡ false) → found_among m (moved_entries z (entry_at w place) xs) ≡ place_of g m
        says m u (inl b) =
            let e = eqb-true m n b in
            ap (λ (k : ℕ). found_among k (moved_entries z (entry_at w place) xs)) e
            ∙ own_found z (entry_at w place) start blank (λ u. zoned) xs was_there
            ∙ ap (at w) there
            ∙ sym own
            ∙ ap (place_of g) (sym e)
        says m u (inr b) =
            let other = eqb-false m n b in
            other_found z (entry_at w place) start blank (λ u. zoned) m other xs
            ∙ ap (moved_up z) (ready.says m u)
            ∙ sym (others_left l.left m other)
            ∙ sym (others_come l.come m other)

    -- Somebody has come onto the field.
    put_own : Come h g w n → (place_of h n).zone ≡ 0 → 1 ≤ free xs → place ≡ suc (how_many h w) → record { entries = put_among (entry_at w place) xs } ≡ index_of g
    put_own c absent room there =
        own_index g after (put_among (entry_at w place) xs)
        (record {
          long = put_length (entry_at w place) xs ∙ ready.long;
          order = put_ordered 0 (entry_at w place) some xs ready.order;
          zoned = put_zoned (entry_at w place) (λ u. zoned) xs ready.zoned;
          says = λ m u. put_found 0 (entry_at w place) some xs ready.order ready.zoned (ap (λ (p : Place). p.zone) (ready.says n used) ∙ absent) room m u ∙ says m u (decided (eqb n m));
        })
      where
        own : place_of g n ≡ at w (suc (how_many h w))
        own = own_come c (numbers_different g after)

        used : n ≢ 0
        used = named c.zone.least own

        some : 0 < n
        some = let u = used in omega (arith, u)

        zoned : w ≢ 0
        zoned e = let low = c.zone.least in omega (arith, e, low)

        says : (m : ℕ) → m ≢ 0 → (eqb n m ≡ true) ⊎ (eqb n m ≡ false) → cond (eqb n m) (at w place) (found_among m xs) ≡ place_of g m
        says m u (inl b) = if_true _ _ b ∙ ap (at w) there ∙ sym own ∙ ap (place_of g) (eqb-true n m b)
        says m u (inr b) = if_false _ _ b ∙ ready.says m u ∙ sym (others_come c m (λ e. eqb-false n m b (sym e)))

  -- Somebody has left the field.
  module _ {z : ℕ} (l : Left f g z n) where
    start : 1 ≤ z
    start = l.zone.least

    used : n ≢ 0
    used e =
        let none : 0 ≡ z = ap (λ (p : Place). p.zone) (sym (none_zero f (bounded a.passed)) ∙ ap (place_of f) (sym e) ∙ was_head l (numbers_different f (bounded a.passed))) in
        let low = start in
        omega (arith, none, low)

    gone_own : record { entries = moved_entries z unused (without n es) } ≡ index_of g
    gone_own =
        own_index g after (moved_entries z unused (without n es))
        (record {
          long = length-map (without n es) (moved_entry z unused) ∙ without_length n used es ∙ index_length f;
          order = moved_in_order z unused start (λ e. refl) (λ e. absurd (e refl)) 0 (without n es) (without_in_order n used 0 es (index_in_order f));
          zoned = moved_zoned z unused start (λ e. refl) (λ e. absurd (e refl)) (without n es) (without_zoned n used es (index_zoned f));
          says = λ m v. other_found z unused start (λ e. refl) (λ e. absurd (e refl)) m v (without n es) ∙ says m v (decided (eqb m n));
        })
      where
        stays : moved_up z nowhere ≡ nowhere
        stays = let low = start in if_false _ _ (and_cut (ltb 1 0) (ne_eqb 0 z (λ e. omega (arith, e, low))))

        says : (m : ℕ) → m ≢ 0 → (eqb m n ≡ true) ⊎ (eqb m n ≡ false) → moved_up z (found_among m (without n es)) ≡ place_of g m
        says m u (inl b) =
            let own = eqb-true m n b in
            ap (λ (k : ℕ). moved_up z (found_among k (without n es))) own
            ∙ ap (moved_up z) (own_without n used 0 es (index_in_order f))
            ∙ stays
            ∙ sym (own_left l (numbers_different f (bounded a.passed)))
            ∙ ap (place_of g) (sym own)
        says m u (inr b) =
            let other = eqb-false m n b in
            ap (moved_up z) (other_without n used m u other es ∙ looked m u) ∙ sym (others_left l m other)

  -- ---- in each of the five ways
  abbrev Goal : Type 0
  Goal = kept_up from (led_to r.kind n w (how_many f w + 1)) (index_of f) ≡ index_of g

  leaving : Leaves f r → Goal
  unfolding kept_up led_to
  leaving p = ap (λ (x : Entry). kept_up from x (index_of f)) (if_true _ _ p.leaving) ∙ gone_own p.left

  -- of one that stays on the field: the entry that it has, and the index by that
  not_above : 3 ≤ w → within 8 9 r.kind ≡ false → {xs : Index} → record { entries = arrived_at from (entry_at w (how_many f w + 1)) es } ≡ xs
      → kept_up from (led_to r.kind n w (how_many f w + 1)) (index_of f) ≡ xs
  unfolding kept_up led_to place_in
  not_above low stays p =
      let high = le-ltb w 3 low in
      ap (λ (x : Entry). kept_up from x (index_of f)) (if_false _ _ stays ∙ ap (entry_at w) (if_false 1 (how_many f w + 1) high))
      ∙ if_false _ _ (ne_eqb w 0 (λ z. omega (arith, z, low)))
      ∙ if_false _ _ high
      ∙ p

  above : MayMakeRoom f w → within 8 9 r.kind ≡ false → {xs : Index} → record { entries = arrived_at from (entry_at w 1) (descended_entries w es) } ≡ xs
      → kept_up from (led_to r.kind n w (how_many f w + 1)) (index_of f) ≡ xs
  unfolding kept_up led_to place_in
  above m stays p =
      let low = m.low in
      let three = lt-ltb w 3 (omega arith) in
      ap (λ (x : Entry). kept_up from x (index_of f)) (if_false _ _ stays ∙ ap (entry_at w) (if_true 1 (how_many f w + 1) three))
      ∙ if_false _ _ (ne_eqb w 0 (λ z. omega (arith, z, low)))
      ∙ if_true _ _ three
      ∙ p

  -- one that was on the field
  came_from : 1 ≤ from → eqb from 0 ≡ false
  came_from low = ne_eqb from 0 (λ z. omega (arith, z, low))

  moving : Moves f r → Goal
  unfolding how_many
  moving p =
      let l = p.led in
      not_above p.not_above p.staying
      (ap (λ (xs : List Entry). record { entries = xs }) (if_false _ _ (came_from l.left.zone.least))
      ∙ moved_own ready_same l (was_head l.left (numbers_different f (bounded a.passed))) (add-one (how_many f w) ∙ ap suc (as_many l)))
    where
      as_many : (l : Led f g n from w) → how_many f w ≡ how_many l.between w
      as_many l = sym (ap length (l.left.elsewhere w l.apart))

  rising : Rises f r w → Goal
  unfolding how_many
  rising p =
      let l = p.led in
      let m = p.above in
      let room = room_made a.shaped (bounded a.passed) m in
      let zone = p.start in
      above m p.staying
      (ap (λ (xs : List Entry). record { entries = xs }) (if_false _ _ (came_from l.left.zone.least))
      ∙ moved_own (ready_down m) l (room.looked n ∙ ap (descended_place w) p.head ∙ if_false _ _ (ne_eqb from w (λ t. omega (arith, t, zone)))) (ap suc (sym (none l room.none))))
    where
      none : (l : Led (made_room f w) g n from w) → in_zone (made_room f w) w ≡ [] → how_many l.between w ≡ 0
      none l h = ap length (l.left.elsewhere w l.apart ∙ h)

  -- an entry finds an unused place
  spare : {h : Field} → Come h g w n → present_on h ≡ present_on f → 1 ≤ free es
  spare c same =
      let more = come_total c in
      let most = five_present g after in
      let places = index_free f (bounded a.passed) in
      omega (arith, more, most, places, same)

  coming : Comes f r w → Goal
  coming p =
      not_above p.not_above p.staying
      (ap (λ (xs : List Entry). record { entries = xs }) (if_true _ _ (eq-eqb from 0 p.absent))
      ∙ put_own ready_same p.come p.absent (spare p.come refl) (add-one (how_many f w)))

  coming_above : ComesAbove f r w → Goal
  unfolding how_many
  coming_above p =
      let m = p.above in
      let room = room_made a.shaped (bounded a.passed) m in
      let many = down_free w m.low es in
      let left = spare p.come room.present in
      let gone = p.absent in
      let zone : (descended_place w (place_before f r)).zone ≡ 0 = ap (λ (q : Place). q.zone) (if_false _ _ (ne_eqb from w (λ t. omega (arith, t, gone)))) ∙ p.absent in
      above m p.staying
      (ap (λ (xs : List Entry). record { entries = xs }) (if_true _ _ (eq-eqb from 0 p.absent))
      ∙ put_own (ready_down m) p.come (ap (λ (q : Place). q.zone) (room.looked n) ∙ zone) (omega (arith, many, left)) (ap suc (sym (none room.none))))
    where
      none : in_zone (made_room f w) w ≡ [] → how_many (made_room f w) w ≡ 0
      none h = ap length h

-- The index kept up by the request is that of the field after it.
pub kept_up_own : (f : Field) → Shaped f → (r : Request) → number_of f r ≡ 0 → r.kind ≢ 12
    → let w = to f r r.kind in kept_up (zone_before f r) (led_to r.kind r.number w (how_many f w + 1)) (index_of f) ≡ index_of (effect_of f r)
kept_up_own f sh r e no_tick =
    let a : AcceptedRequest f r = record { shaped = sh; passed = passes f r e } in
    elim (told f sh r e no_tick) [
      | inl p ↦ leaving a p
      | inr (inl p) ↦ moving a p
      | inr (inr (inl p)) ↦ rising a p
      | inr (inr (inr (inl p))) ↦ coming a p
      | inr (inr (inr (inr p))) ↦ coming_above a p
    ]
