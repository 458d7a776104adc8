-- Two states are equal where their queues and what comes next are; and what a move from one zone to another does to the state of any field with its places.
-- Assumes nothing.
use mathlib.Core.Path.{◌≡◌, refl, sym, ap, ◌∙◌, fun_ext}
use mathlib.Core.Logic.{◌≢◌, ◌⊎◌, inl, inr}
use mathlib.Core.Bool.{Bool, true, false, cond}
use mathlib.Core.List.{List, [], ◌∷◌, ◌++◌, map, map-append}
use Prim.Native.Nat.{ℕ, suc, ◌≤◌, ◌<◌}
use native.Mathlib.Omega.{arith}
use borrow.Author.Tests.{ne_eqb, eqb-true, eqb-false}
use lib.Dec.{eqb}
use lib.ListN.{length, drop, get_or}
use Rattle.leg.specs.Ticks.{Between}
use Rattle.field.specs.declared.Aircraft as field
use Rattle.field.specs.declared.Field.{Field}
use Rattle.field.specs.Airspace.{nobody, zone_of, in_zone, order_of, arrived, on_leg}
use Rattle.edits.specs.Edits.{before, without_head, with_tail, with_zone}
use Rattle.questions.specs.Counts.{how_many}
use Rattle.questions.specs.Find.{aircraft_at}
use Rattle.rules.specs.Kinds.{head_gone, tail_put, moved}
use Rattle.order.specs.Model.{right_side, left_side}
use Rattle.field.proofs.TestLaws.{decided, if_true, if_false}
use Rattle.rules.proofs.MovedShapes.{gone_shaped, put_shaped}
use Rattle.laws.proofs.EditLaws.{Shaped, queue_kept, queue_taken, queue_put}
use Rattle.nasa.specs.Definitions.{ScaAircraft, ScaZone, holding3, holding2, lez, maz, base, intermediate, final, runway, SCA}
use Rattle.nasa.specs.Rules.{zone_number, with_queue, add}
use Rattle.nasa.specs.Stands.{side_named, seen, state_of}

-- ---- equal states
pub same_state : {s t : SCA} → ((z : ScaZone) → s.queue z ≡ t.queue z) → s.nextmahf ≡ t.nextmahf → s.nextseq ≡ t.nextseq → s ≡ t
same_state {s} {t} q m n i = record { queue = fun_ext q i; nextmahf = m i; nextseq = n i }

-- an aircraft of the model with this sequence number, and the side of this fix
abbrev pub as_seen : ℕ → ℕ → ScaAircraft
as_seen seq fix = record { seq = seq; mahf = side_named fix }

-- ---- zones
pub zone_number_lem : (z : ScaZone) → Between 1 13 (zone_number z)
zone_number_lem (holding3 right_side) = record { least = omega arith; most = omega arith }
zone_number_lem (holding3 left_side) = record { least = omega arith; most = omega arith }
zone_number_lem (holding2 right_side) = record { least = omega arith; most = omega arith }
zone_number_lem (holding2 left_side) = record { least = omega arith; most = omega arith }
zone_number_lem (lez right_side) = record { least = omega arith; most = omega arith }
zone_number_lem (lez left_side) = record { least = omega arith; most = omega arith }
zone_number_lem (maz right_side) = record { least = omega arith; most = omega arith }
zone_number_lem (maz left_side) = record { least = omega arith; most = omega arith }
zone_number_lem (base right_side) = record { least = omega arith; most = omega arith }
zone_number_lem (base left_side) = record { least = omega arith; most = omega arith }
zone_number_lem intermediate = record { least = omega arith; most = omega arith }
zone_number_lem final = record { least = omega arith; most = omega arith }
zone_number_lem runway = record { least = omega arith; most = omega arith }

-- ---- the first of a zone

-- x is the first of zone z, and the rest are behind it
pub record First (f : Field) (z : ScaZone) : Type 0 where
  pub x : field.Aircraft
  pub rest : List field.Aircraft
  pub here : in_zone f (zone_number z) ≡ x ∷ rest

-- the field without the head of a zone has the other queues
pub gone_there : (f : Field) (z y : ℕ) → y ≢ z → in_zone (head_gone f z) y ≡ in_zone f y
unfolding head_gone
gone_there f z y h = queue_kept f z (without_head (zone_of f z)) y h

module _ {f : Field} {z : ScaZone} (F : First f z) where
  abbrev n : ℕ
  n = zone_number z

  -- somebody is there
  pub someone : 1 ≤ how_many f n
  unfolding how_many
  someone = let m = ap length F.here in omega arith

  -- it stands at place 1
  pub head_first : aircraft_at f n 1 ≡ F.x
  unfolding aircraft_at
  head_first = ap (λ (l : List field.Aircraft). get_or (nobody ∷ l) 1 nobody) F.here

  -- without it the queue is the rest, ..
  pub gone_here : Shaped f → in_zone (head_gone f n) n ≡ F.rest
  unfolding head_gone
  gone_here k = queue_taken f k n (zone_number_lem z) ∙ ap (drop 1) F.here

  -- .. and so is the state's
  pub gone_state : Shaped f → state_of (head_gone f n) ≡ with_queue (state_of f) z (map (seen f n) F.rest)
  unfolding state_of with_queue head_gone with_zone
  gone_state k = same_state queues refl refl
    where
      queues : (y : ScaZone) → (state_of (head_gone f n)).queue y ≡ (with_queue (state_of f) z (map (seen f n) F.rest)).queue y
      queues y = elim (decided (eqb (zone_number y) n)) [
        | inl e ↦ ap (λ (m : ℕ). map (seen f m) (in_zone (head_gone f n) m)) (eqb-true (zone_number y) n e) ∙ ap (map (seen f n)) (gone_here k) ∙ sym (if_true _ _ e)
        | inr e ↦ ap (map (seen f (zone_number y))) (gone_there f n (zone_number y) (eqb-false (zone_number y) n e)) ∙ sym (if_false _ _ e)
      ]

  -- the state with it at the end of zone w
  abbrev pub there : ScaZone → SCA
  there w = add (with_queue (state_of f) z (map (seen f n) F.rest)) w (seen f n F.x)

-- what a queue is by its zone: w, z or another
by_zone : {A : Type 0} {l p q o : A} (y z w : ℕ) → (y ≡ w → l ≡ p) → (y ≡ z → l ≡ q) → (y ≢ z → y ≢ w → l ≡ o) → l ≡ cond (eqb y w) p (cond (eqb y z) q o)
by_zone {A} {l} {p} {q} {o} y z w a b c = go (decided (eqb y w)) (decided (eqb y z))
  where
    go : (eqb y w ≡ true) ⊎ (eqb y w ≡ false) → (eqb y z ≡ true) ⊎ (eqb y z ≡ false) → l ≡ cond (eqb y w) p (cond (eqb y z) q o)
    go (inl h) j = a (eqb-true y w h) ∙ sym (if_true p (cond (eqb y z) q o) h)
    go (inr h) (inl j) = b (eqb-true y z j) ∙ sym (if_false p (cond (eqb y z) q o) h ∙ if_true q o j)
    go (inr h) (inr j) = c (eqb-false y z j) (eqb-false y w h) ∙ sym (if_false p (cond (eqb y z) q o) h ∙ if_false q o j)

-- ---- the first of zone z goes to the end of another, w, which has room
pub record Move (f : Field) (z w : ScaZone) : Type 0 where
  pub shaped : Shaped f
  pub first : First f z
  pub apart : zone_number w ≢ zone_number z
  pub room : how_many f (zone_number w) < 4

module _ {f : Field} {z w : ScaZone} (m : Move f z w) where
  abbrev zn : ℕ
  zn = zone_number z

  abbrev wn : ℕ
  wn = zone_number w

  -- the field without it
  abbrev gone : Field
  gone = head_gone f zn

  -- the field after it keeps its places
  pub moved_shaped : Shaped (moved f zn wn)
  unfolding moved
  moved_shaped = put_shaped (gone_shaped m.shaped (zone_number_lem z)) (zone_number_lem w) (arrived f.legs wn (aircraft_at f zn 1))

  -- where one is put at the end of zone w of the field without it: the queue there, ..
  pub put_there : (a : field.Aircraft) → in_zone (tail_put gone wn a) wn ≡ in_zone f wn ++ (a ∷ [])
  unfolding tail_put how_many
  put_there a =
      let kept = gone_there f zn wn m.apart in
      let few : how_many gone wn < 4 = let e = ap length kept in let l = m.room in omega arith in
      queue_put gone (gone_shaped m.shaped (zone_number_lem z)) wn a (zone_number_lem w) few ∙ ap (λ (l : List field.Aircraft). l ++ (a ∷ [])) kept

  -- .. that of zone z, ..
  pub put_here : (a : field.Aircraft) → in_zone (tail_put gone wn a) zn ≡ m.first.rest
  unfolding tail_put
  put_here a = queue_kept gone wn (with_tail (zone_of gone wn) a) zn (λ e. m.apart (sym e)) ∙ gone_here m.first m.shaped

  -- .. and any other
  pub put_elsewhere : (a : field.Aircraft) (y : ℕ) → y ≢ zn → y ≢ wn → in_zone (tail_put gone wn a) y ≡ in_zone f y
  unfolding tail_put
  put_elsewhere a y h j = queue_kept gone wn (with_tail (zone_of gone wn) a) y j ∙ gone_there f zn y h

  -- not on the runway before or after, it has the same sequence number and fix as it arrives, ..
  seen_there : eqb zn 13 ≡ eqb wn 13 → seen f wn (arrived f.legs wn m.first.x) ≡ seen f zn m.first.x
  unfolding arrived on_leg
  seen_there alike = ap (λ (b : Bool). as_seen (cond b 1 (suc (before m.first.x.number (order_of f.sequence)))) m.first.x.fix) (sym alike)

  -- .. and the state has it there
  pub moved_state : eqb zn 13 ≡ eqb wn 13 → state_of (moved f zn wn) ≡ there m.first w
  unfolding moved state_of add with_queue tail_put head_gone with_zone
  moved_state alike = same_state queues refl refl
    where
      a : field.Aircraft
      a = arrived f.legs wn (aircraft_at f zn 1)

      left : List ScaAircraft
      left = map (seen f zn) m.first.rest

      own : (y : ℕ) → List ScaAircraft
      own y = map (seen f y) (in_zone f y)

      arrives : seen f wn a ≡ seen f zn m.first.x
      arrives = ap (λ (c : field.Aircraft). seen f wn (arrived f.legs wn c)) (head_first m.first) ∙ seen_there alike

      at_end : map (seen f wn) (in_zone (moved f zn wn) wn) ≡ cond (eqb wn zn) left (own wn) ++ (seen f zn m.first.x ∷ [])
      at_end =
          ap (map (seen f wn)) (put_there a)
          ∙ map-append (seen f wn) (in_zone f wn) (a ∷ [])
          ∙ ap (λ (c : ScaAircraft). own wn ++ (c ∷ [])) arrives
          ∙ ap (λ (l : List ScaAircraft). l ++ (seen f zn m.first.x ∷ [])) (sym (if_false left (own wn) (ne_eqb wn zn m.apart)))

      queues : (y : ScaZone) → (state_of (moved f zn wn)).queue y ≡ (there m.first w).queue y
      queues y =
          by_zone (zone_number y) zn wn
          (λ e. ap (λ (n : ℕ). map (seen f n) (in_zone (moved f zn wn) n)) e ∙ at_end)
          (λ e. ap (λ (n : ℕ). map (seen f n) (in_zone (moved f zn wn) n)) e ∙ ap (map (seen f zn)) (put_here a))
          (λ h j. ap (map (seen f (zone_number y))) (put_elsewhere a (zone_number y) h j))
