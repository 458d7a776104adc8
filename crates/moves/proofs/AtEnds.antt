-- The kinds that take an aircraft out of the sequence, into it, or to its end: 7, 8, 9, 10, 1 and 2; and the tick. Assumes nothing.
use mathlib.Core.Path.{◌≡◌, refl, sym, ap, ◌∙◌, subst}
use mathlib.Core.Bool.{Bool, true, false, not, ◌&&◌, ◌||◌, true≢false}
use mathlib.Core.List.{List, [], ◌∷◌, ◌++◌, map}
use Prim.Native.Nat.{ℕ, ◌+◌, ◌≤◌, ◌<◌}
use native.Mathlib.Omega.{arith}
use lib.Dec.{T, leb, eqb, leb→le}
use lib.ListN.{length, length-append}
use lib.Ieee.Fits.{and_l, and_r}
use borrow.Author.Tests.{ne_eqb}
use Rattle.request.specs.Input.{within, is_entry}
use Rattle.request.specs.declared.Request.{Request}
use Rattle.request.proofs.ByKind.{EntryKnown}
use Rattle.limits.specs.Limits.{longest_tick}
use Rattle.leg.specs.Ticks.{Between}
use Rattle.field.specs.declared.Aircraft.{Aircraft}
use Rattle.field.specs.declared.Legs.{Legs}
use Rattle.field.specs.declared.Field.{Field}
use Rattle.field.specs.Airspace.{is_flying_zone, missed, entering, arrived, arrived_by_miss, given_fix}
use Rattle.field.specs.Lists.{is_in, every, Each}
use Rattle.fits.specs.Fits.{fits_zone}
use Rattle.order.specs.Model.{Side, right_side, left_side, opp, num, okay, first_fix, weight, one}
use Rattle.order.proofs.Facts.{okay_length, first_leaves, misses, exit_lighter, landing_lighter}
use Rattle.rules.specs.Step.{effect_of}
use Rattle.rules.specs.Kinds.{entered}
use Rattle.rules.specs.Play.{adds_moves}
use Rattle.field.proofs.ArrivalLaws.{into_arrived, into_arrived_by_miss}
use Rattle.laws.proofs.Fits.{arrived_fits, arrived_by_miss_fits, refixed_fits, entering_fits}
use Rattle.field.proofs.TestLaws.{passed, failed, fail}
use Rattle.field.proofs.NumberLists.{absent_left, absent_right}
use Rattle.line.proofs.Line.{Placed, zones_in, numbers_of, field_of}
use Rattle.questions.proofs.FindLaws.{numbers}
use Rattle.line.proofs.Leaders.{nonzero}
use Rattle.line.proofs.Orderly.{Orderly, length_zones}
use Rattle.moves.proofs.Leaves.{taxied, first_exits, first_lands}
use Rattle.moves.proofs.Enters.{entry_fix, entrant, enters, misser, misses_approach}
use Rattle.moves.proofs.TickOnLine.{tick_placed, ticks, zones_same}
use Rattle.moves.proofs.Owners.{passing, owners, one_more, desks_ticked}
use Rattle.moves.proofs.StaysOrderly.{side_fits, first_gone_lem, landed_on, runway_left, come, ticked_orderly}
use Rattle.moves.proofs.Carried.{each_append, on_runway, onward_into, Turned, Entered, Came, went, turned, came_in, stay_all, stay_runway, apart_in}
use Rattle.moves.proofs.AfterAccepted.{After, leaves, one_le, zone_in, room_for, fit_here}
use Rattle.moves.proofs.Heads.{AtHead}
use Rattle.rules.proofs.Checks.{effect_at}

-- ---- the missed zone of a side
missed_zone : (f : Side) → (eqb (missed (num f)) 7 || eqb (missed (num f)) 8) ≡ true
missed_zone right_side = refl
missed_zone left_side = refl

-- ---- the first of the line leaves the sequence
module _ {f : Side} {e : Placed} {b : List Placed} {runway : List Aircraft} {legs : Legs} {r : Request} (m : AtHead f [] e b runway legs r) where
  abbrev o : Orderly f (e ∷ b) runway legs
  o = m.orderly

  abbrev F : Field
  F = field_of f (e ∷ b) runway legs

  room : length b < 4
  room = let p = room_for f [] e b runway legs o in omega arith

  rest_okay : T (okay (opp f) (zones_in b))
  rest_okay = first_leaves f e.zone (zones_in b) o.okay_line

  -- the others of the line and of the runway stay where they are
  behind_absent : is_in r.number (numbers_of b ++ numbers runway) ≡ false
  behind_absent = ap (λ (m : ℕ). is_in m (numbers_of b ++ numbers runway)) m.named ∙ (apart_in [] e b runway o.different).behind

  behind_all : (Q : Placed → Type 0) → Each Q (e ∷ b) → Each (Came legs r Q) b
  behind_all Q p = stay_all legs r Q b (absent_left r.number (numbers_of b) (numbers runway) behind_absent) p.1

  runway_all : (Q : Placed → Type 0) → Each Q (map on_runway runway) → Each (Came legs r Q) (map on_runway runway)
  runway_all Q = stay_runway legs r Q runway (absent_right r.number (numbers_of b) (numbers runway) behind_absent)

  -- kind 9
  pub after_9 : r.kind ≡ 9 → e.zone ≡ 11 → After f (e ∷ b) runway legs r
  after_9 h z =
      record {
        first_after = opp f;
        line_after = b;
        runway_after = runway;
        effect = effect_at F r h ∙ first_exits f e b runway legs (zone_in f [] e b runway legs o) room z r m.named;
        orderly = first_gone_lem f e b runway legs o rest_okay;
        balance =
            λ who.
            let n = owners who b runway in
            let t = ap (λ (d : ℕ). one (who d)) m.owned_by in
            subst (λ (k : ℕ). n + one (leaves k && who r.desk) ≡ owners who (e ∷ b) runway + one (is_entry k && who r.desk)) (sym h) (omega arith);
        lighter = λ u. let w = exit_lighter f e.zone (zones_in b) z o.okay_line in let x = one_le (within 3 11 r.kind) in omega arith;
        carried = λ u. record { carry = λ Q p q. (behind_all Q p, runway_all Q q) };
        ticked_on = λ u. absurd (let n : 12 ≡ 9 = sym u ∙ h in omega arith);
        runway_on = λ u. absurd (let n : 12 ≡ 9 = sym u ∙ h in omega arith);
      }

  -- kind 10
  pub after_10 : r.kind ≡ 10 → e.zone ≡ 12 → After f (e ∷ b) runway legs r
  unfolding given_fix
  after_10 h z =
      let w = missed (num f) in
      let fix = o.alternates.0 in
      let g = misser f e b runway legs r z room fix m.named o.different in
      let al = apart_in [] e b runway o.different in
      let gone = first_gone_lem f e b runway legs o rest_okay in
      let same = (into_arrived_by_miss legs w e.aircraft).number in
      record {
        first_after = first_fix f (opp f) (zones_in b);
        line_after = b ++ (g ∷ []);
        runway_after = runway;
        effect = effect_at F r h ∙ misses_approach f e b runway legs r z room fix m.named o.different;
        orderly =
            come f (opp f) b g runway legs gone (misses f (zones_in b) (subst (λ (v : ℕ). T (okay f (v ∷ zones_in b))) z o.okay_line)) refl
            (subst (λ (n : ℕ). T (nonzero n)) (sym same) (and_l (nonzero e.aircraft.number) (every nonzero (numbers_of b ++ numbers runway)) o.nonzeros))
            (ap (λ (n : ℕ). is_in n (numbers_of b ++ numbers runway)) same ∙ al.behind)
            (refixed_fits legs w (num (entry_fix f (opp f) (zones_in b))) (arrived_by_miss legs w e.aircraft) (side_fits (entry_fix f (opp f) (zones_in b)))
            (arrived_by_miss_fits legs o.legal w e.aircraft (missed_zone f) (subst (λ (v : ℕ). T (fits_zone legs v e.aircraft)) z (fit_here f [] e b runway legs o))));
        balance =
            λ who.
            let p = one_more who b g in
            let t = ap (λ (d : ℕ). one (who d)) (into_arrived_by_miss legs w e.aircraft).desk in
            subst (λ (k : ℕ). owners who (b ++ (g ∷ [])) runway + one (leaves k && who r.desk) ≡ owners who (e ∷ b) runway + one (is_entry k && who r.desk)) (sym h) (omega arith);
        lighter = λ u. absurd (true≢false (ap adds_moves (sym h) ∙ u));
        carried =
            let i = into_arrived_by_miss legs w e.aircraft in
            let to : Turned legs e g =
            record { turned_number = i.number; turned_speed = i.speed; turned_waited = i.waited; begins_anew = i.progress; from_final = z; to_missed = missed_zone f; leg_ahead = i.leg_is } in
            λ u. record { carry = λ Q p q. (each_append (Came legs r Q) b (g ∷ []) (behind_all Q p) (turned e p.0 to (sym m.named) h, tt), runway_all Q q) };
        ticked_on = λ u. absurd (let n : 12 ≡ 10 = sym u ∙ h in omega arith);
        runway_on = λ u. absurd (let n : 12 ≡ 10 = sym u ∙ h in omega arith);
      }

-- kind 7
pub after_7 : {f : Side} {e : Placed} {b : List Placed} {legs : Legs} {r : Request} (m : AtHead f [] e b [] legs r) → r.kind ≡ 7 → e.zone ≡ 12 → After f (e ∷ b) [] legs r
after_7 {f} {e} {b} {legs} {r} m h z =
    let o = m.orderly in
    let x = arrived legs 13 e.aircraft in
    let same = (into_arrived legs 13 e.aircraft).number in
    let n = e.aircraft.number in
    let al = apart_in [] e b [] o.different in
    record {
      first_after = opp f;
      line_after = b;
      runway_after = x ∷ [];
      effect = effect_at (field_of f (e ∷ b) [] legs) r h ∙ first_lands f e b legs z (room m) o.different r m.named;
      orderly =
          landed_on (opp f) b x legs (first_gone_lem f e b [] legs o (rest_okay m))
          (subst (λ (m : ℕ). T (nonzero m)) (sym same) (and_l (nonzero n) (every nonzero (numbers_of b ++ [])) o.nonzeros))
          (ap (λ (m : ℕ). is_in m (numbers_of b)) same ∙ absent_left n (numbers_of b) [] al.behind)
          (arrived_fits legs o.legal e.zone 13 e.aircraft (fit_here f [] e b [] legs o));
      balance =
          λ who.
          let t = ap (λ (d : ℕ). one (who d)) (into_arrived legs 13 e.aircraft).desk in
          subst (λ (k : ℕ). owners who b (x ∷ []) + one (leaves k && who r.desk) ≡ owners who (e ∷ b) [] + one (is_entry k && who r.desk)) (sym h) (omega arith);
      lighter = λ u. let w = landing_lighter f e.zone (zones_in b) z o.okay_line in let y = one_le (within 3 11 r.kind) in omega arith;
      carried = λ u. record { carry = λ Q p q. (behind_all m Q p, (went e p.0 (onward_into legs 13 e) (sym m.named) (ap adds_moves h), tt)) };
      ticked_on = λ u. absurd (let n : 12 ≡ 7 = sym u ∙ h in omega arith);
      runway_on = λ u. absurd (let n : 12 ≡ 7 = sym u ∙ h in omega arith);
    }

-- kind 8
pub after_8 : {f : Side} {line : List Placed} {x : Aircraft} {legs : Legs} (o : Orderly f line (x ∷ []) legs) (r : Request) → r.number ≡ x.number → r.kind ≡ 8
    → r.desk ≡ x.desk → After f line (x ∷ []) legs r
after_8 {f} {line} {x} {legs} o r named h own =
    record {
      first_after = f;
      line_after = line;
      runway_after = [];
      effect = effect_at (field_of f line (x ∷ []) legs) r h ∙ taxied f line x legs;
      orderly = runway_left f line (x ∷ []) legs o;
      balance =
          λ who.
          let t = ap (λ (d : ℕ). one (who d)) own in
          subst (λ (k : ℕ). owners who line [] + one (leaves k && who r.desk) ≡ owners who line (x ∷ []) + one (is_entry k && who r.desk)) (sym h) (omega arith);
      lighter = λ u. let y = one_le (within 3 11 r.kind) in omega arith;
      carried = λ u. record { carry = λ Q p q. (stay_all legs r Q line (ap (λ (m : ℕ). is_in m (numbers_of line)) named ∙ not_in_line) p, tt) };
      ticked_on = λ u. absurd (let n : 12 ≡ 8 = sym u ∙ h in omega arith);
      runway_on = λ u. absurd (let n : 12 ≡ 8 = sym u ∙ h in omega arith);
    }
  where
    not_in_line : is_in x.number (numbers_of line) ≡ false
    not_in_line = (Rattle.field.proofs.NumberLists.alone (numbers_of line) x.number [] o.different).ahead

-- ---- kinds 1 and 2, by side s into zone w
pub record MayCome (s f : Side) (line : List Placed) (runway : List Aircraft) (legs : Legs) (r : Request) (w : ℕ) : Type 0 where
  pub orderly : Orderly f line runway legs
  pub entry : T (is_entry r.kind)
  pub known : EntryKnown r
  pub side_is : r.side ≡ num s
  pub new_number : is_in r.number (numbers_of line ++ numbers runway) ≡ false
  pub inside : T (within 1 12 w)
  pub not_flown : T (not (is_flying_zone w))
  pub effect : effect_of (field_of f line runway legs) r ≡ entered (field_of f line runway legs) r w
  pub okay_after : T (okay (first_fix s f (zones_in line)) (zones_in line ++ (w ∷ [])))

-- an entry is neither a taxi nor an exit
entry_only : (k : ℕ) → T (is_entry k) → leaves k ≡ false
entry_only k t =
    let low = leb→le 1 k (and_l (leb 1 k) (leb k 2) t) in
    let high = leb→le k 2 (and_r (leb 1 k) (leb k 2) t) in
    ap (λ (b : Bool). b || eqb k 9) (ne_eqb k 8 (λ q. omega arith)) ∙ ne_eqb k 9 (λ q. omega arith)

pub after_entry : {s f : Side} {line : List Placed} {runway : List Aircraft} {legs : Legs} {r : Request} {w : ℕ} → MayCome s f line runway legs r w → After f line runway legs r
unfolding entering
after_entry {s} {f} {line} {runway} {legs} {r} {w} m =
    let room = let p = okay_length (first_fix s f (zones_in line)) (zones_in line ++ (w ∷ [])) m.okay_after in let q = length-append (zones_in line) (w ∷ []) in
    let v = length_zones line in let g : length line < 4 = omega arith in g in
    let e = entrant s f line runway legs r w m.inside room m.side_is in
    let entry = passed {b = is_entry r.kind} m.entry in
    let waits = failed {b = is_flying_zone w} m.not_flown in
    let known = m.known in
    let tick : r.kind ≡ 12 → ⊥ = λ h. subst (λ (k : ℕ). T (is_entry k)) h m.entry in
    record {
      first_after = first_fix s f (zones_in line);
      line_after = line ++ (e ∷ []);
      runway_after = runway;
      effect = m.effect ∙ enters s f line runway legs r w m.inside room m.side_is;
      orderly =
          come s f line e runway legs m.orderly m.okay_after refl (fail (ne_eqb r.number 0 (λ q. let l = known.number in omega arith))) m.new_number
          (entering_fits legs w r.number (num (entry_fix s f (zones_in line))) r.amount r.desk
          (side_fits (entry_fix s f (zones_in line))) (record { least = known.speed_low; most = known.speed_high }) (record { least = known.desk.low; most = known.desk.high }) waits);
      balance =
          λ who.
          let p = one_more who line e in
          let q = ap (λ (b : Bool). one (b && who r.desk)) entry in
          let v = ap (λ (b : Bool). one (b && who r.desk)) (entry_only r.kind m.entry) in
          omega arith;
      lighter = λ v. absurd (true≢false (sym (ap (λ (b : Bool). b || eqb r.kind 10) entry) ∙ v));
      carried =
          let new : Entered r e =
          record { an_entry = entry; new_number = refl; new_speed = refl; none_waited = refl; no_leg = refl; not_flown = waits } in
          λ v.
          record {
            carry =
                λ Q p q. (
                  each_append (Came legs r Q) line (e ∷ []) (stay_all legs r Q line (absent_left r.number (numbers_of line) (numbers runway) m.new_number) p) (came_in new, tt),
                  stay_runway legs r Q runway (absent_right r.number (numbers_of line) (numbers runway) m.new_number) q,
                );
          };
      ticked_on = λ v. absurd (tick v);
      runway_on = λ v. absurd (tick v);
    }

-- kind 12
pub after_12 : {f : Side} {line : List Placed} {runway : List Aircraft} {legs : Legs} (o : Orderly f line runway legs) (r : Request) → r.kind ≡ 12
    → Between 1 longest_tick r.amount → After f line runway legs r
after_12 {f} {line} {runway} {legs} o r h amount =
    let four = let p = okay_length f (zones_in line) o.okay_line in let q = length_zones line in let g : length line ≤ 4 = omega arith in g in
    record {
      first_after = f;
      line_after = map (tick_placed r.amount) line;
      runway_after = runway;
      effect = effect_at (field_of f line runway legs) r h ∙ ticks r.amount f line runway legs four;
      orderly = ticked_orderly f line runway legs r.amount amount o;
      balance =
          λ who.
          let p = ap (passing who) (desks_ticked r.amount line) in
          subst (λ (k : ℕ). owners who (map (tick_placed r.amount) line) runway + one (leaves k && who r.desk) ≡ owners who line runway + one (is_entry k && who r.desk)) (sym h) (omega arith);
      lighter =
          λ u.
          let p = ap weight (zones_same r.amount line) in
          let q : one (within 3 11 r.kind) ≡ 0 = ap (λ (k : ℕ). one (within 3 11 k)) h in
          omega arith;
      carried = λ u. absurd (u h);
      ticked_on = λ u. refl;
      runway_on = λ u. refl;
    }
