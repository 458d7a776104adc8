-- Ticks on any leg from 1/64 of a mile to a bound, from any miles within it: those whose speed * amount are n 4096ths of a mile together have brought the aircraft n / 4096 miles along, or to the end.
-- Rounding keeps the order, so it never falls behind the grid. For change 2.6 of document 02. Assumes nothing.
use mathlib.Core.Path.{◌≡◌, refl, sym, ap, ◌∙◌, subst}
use mathlib.Core.Logic.{◌⊎◌, inl, inr}
use mathlib.Core.List.{List, [], ◌∷◌}
use Prim.Native.Nat.{ℕ, zero, suc, ◌+◌, ◌*◌, ◌^◌, ◌≤◌, ◌<◌}
use native.Mathlib.Nat.{le_trans, le_of_eq, lt_of_not-le, not-le_of_lt, zero-mul, mul-one, mul-add, mul_assoc, add_assoc, add_comm, suc-mul, zero-add, mul-pos, mul-le-mul_right, add-mul}
use native.Mathlib.Omega.{arith}
use mathlib.Core.Bool.{Bool, true, false, true≢false}
use lib.ListN.{replicate}
use lib.Dec.{T, lit<}
use lib.Ieee.{Float, binary64, round, of_int, lt, le, eq}
use lib.Ieee.Fits.{and_l, and_r}
use lib.Ieee.Order.{round_mono}
use lib.Ieee.Positive.{num, den, den_pos, positive}
use Rattle.limits.specs.Limits.{longest_tick, fastest}
use Rattle.leg.specs.declared.Progress.{Progress}
use Rattle.leg.specs.declared.Progress.TheVariants.{Flying}
use Rattle.leg.specs.Progress.{whole, up_to, advanced, within_leg, leg_up_to, flown_out}
use Rattle.leg.specs.Ticks.{Between, TickAmounts, added_up, after_ticks}
use Rattle.leg.proofs.Floats.{Worth, lt_false, eq_self, le_up, worth_of_le}
use Rattle.leg.proofs.Grid.{parts, parts_value, up_to_yes, up_to_no, advanced_is}
use Rattle.leg.proofs.Bounds.{most_above, at_most, leg_positive, miles_worth, flying_within, end_kept}

ahead : (n t b c : ℕ) → n * c ≤ b * 4096 → (n + t) * (c * 4096) ≤ (b * 4096 + t * c) * 4096
ahead n t b c h =
    let k : n * c + t * c ≤ b * 4096 + t * c = omega arith in
    le_trans (le_of_eq (sym (mul_assoc (n + t) c 4096) ∙ ap (λ (z : ℕ). z * 4096) (add-mul n t c))) (mul-le-mul_right 4096 k)

none : (n s : ℕ) → n ≡ n + s * 0
none n s = omega arith

joined : (n s a t : ℕ) → n + s * a + s * t ≡ n + s * (a + t)
joined n s a t = add_assoc n (s * a) (s * t) ∙ ap (λ (z : ℕ). n + z) (sym (mul-add s a t))

module _ (most : ℕ) (few : most < 2 ^ 41) (leg : Float) (l : T (leg_up_to most leg)) {speed : ℕ} (s : Between 1 fastest speed) where
  above : T (positive leg)
  above = leg_positive most few leg l

  -- the bound's miles and more are no less than the leg
  far : (n : ℕ) → most * 4096 ≤ n → T (le leg (parts n))
  unfolding of_int
  far n h = le_up leg (whole most) (parts n) above (at_most most few leg l) (round_mono binary64 most 1 n 4096 (lit< tt) (lit< tt) (le_trans h (le_of_eq (sym (mul-one n)))))

  -- at the end of the leg, or at n / 4096 miles or past them, short of the bound
  abbrev Along : ℕ → Float → Type 0
  Along n x = T (eq x leg) ⊎ ((n < most * 4096) × T (le (parts n) x))

  along_tick : (n : ℕ) (x : Float) {amount : ℕ} → Between 1 longest_tick amount → T (within_leg (Flying x) leg) → Along n x → Along (n + speed * amount) (advanced x speed amount leg)
  along_tick n x a w (inl e) = inl (rw (end_kept most few x leg l s a e) (eq_self leg above))
  along_tick n x {amount} a w (inr h) = subst (Along (n + speed * amount)) (sym is) (go (lt y leg) refl)
    where
      y : Float
      y = round binary64 false (num x * 4096 + speed * amount * den x) (den x * 4096)

      worth : Worth x (num x) (den x)
      worth = miles_worth x leg above (and_l (le (whole 0) x) (le x leg) w) (and_r (le (whole 0) x) (le x leg) w)

      is : advanced x speed amount leg ≡ up_to leg y
      is = advanced_is s a x leg (num x) (den x) (den_pos x) worth

      behind : n * den x ≤ num x * 4096
      behind = worth_of_le (parts n) x n 4096 (num x) (den x) (parts_value n (omega arith)) worth h.1

      on : T (le (parts (n + speed * amount)) y)
      on =
          round_mono binary64 (n + speed * amount) 4096 (num x * 4096 + speed * amount * den x) (den x * 4096) (lit< tt) (mul-pos (den_pos x) (lit< tt))
          (ahead n (speed * amount) (num x) (den x) behind)

      -- had the ticks flown the bound's miles, y would not be below the leg
      short : lt y leg ≡ true → n + speed * amount < most * 4096
      short e = lt_of_not-le (λ (g : most * 4096 ≤ n + speed * amount). true≢false (sym e ∙ lt_false y leg above (le_up leg (parts (n + speed * amount)) y above (far (n + speed * amount) g) on)))

      go : (b : Bool) → lt y leg ≡ b → Along (n + speed * amount) (up_to leg y)
      go true e = inr (short e, rw (up_to_yes leg y e) on)
      go false e = inl (rw (up_to_no leg y e) (eq_self leg above))

  along_ticks : (n : ℕ) (x : Float) (amounts : List ℕ) → TickAmounts amounts → T (within_leg (Flying x) leg) → Along n x
      → (y : Float) × (after_ticks (Flying x) speed amounts leg ≡ Flying y) × Along (n + speed * added_up amounts) y
  along_ticks n x [] r w h = (x, refl, subst (λ (z : ℕ). Along z x) (none n speed) h)
  along_ticks n x (amount ∷ amounts) r w h =
      let rest = along_ticks (n + speed * amount) (advanced x speed amount leg) amounts r.1 (flying_within x leg above s r.0 w) (along_tick n x r.0 w h) in
      (rest.0, rest.1, subst (λ (z : ℕ). Along z rest.0) (joined n speed amount (added_up amounts)) rest.2)

  -- the bound's miles of ticks end the leg
  pub arrives : (miles : Float) (amounts : List ℕ) → TickAmounts amounts → T (within_leg (Flying miles) leg)
      → most * 4096 ≤ speed * added_up amounts → T (flown_out (after_ticks (Flying miles) speed amounts leg) leg)
  unfolding of_int
  arrives miles amounts r w h =
      let ends = along_ticks 0 miles amounts r w (inr (mul-pos (most_above most few leg l) (lit< tt), and_l (le (whole 0) miles) (le miles leg) w)) in
      subst (λ (q : Progress). T (flown_out q leg)) (sym ends.1)
      (elim ends.2 [ inl e ↦ e | inr k ↦ absurd (not-le_of_lt k.0 (le_trans h (le_of_eq (sym (zero-add (speed * added_up amounts)))))) ])

-- ---- equal ticks
pub added_same : (n a : ℕ) → added_up (replicate n a) ≡ n * a
added_same zero a = sym (zero-mul a)
added_same (suc n) a = ap (λ (z : ℕ). a + z) (added_same n a) ∙ add_comm a (n * a) ∙ sym (suc-mul n a)

pub all_same : (n : ℕ) {amount : ℕ} → Between 1 longest_tick amount → TickAmounts (replicate n amount)
all_same zero r = tt
all_same (suc n) r = (r, all_same n r)
