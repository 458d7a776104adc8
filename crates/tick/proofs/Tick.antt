-- The zones after a tick, one by one. Assumes nothing.
use mathlib.Core.Path.{◌≡◌, refl, sym, ap, ◌∙◌}
use mathlib.Core.Bool.{cond}
use mathlib.Core.List.{List, [], ◌∷◌, ◌++◌, map}
use Prim.Native.Nat.{ℕ, zero, suc, ◌+◌, ◌≤◌, ◌<◌}
use native.Mathlib.Nat.{zero-add}
use native.Mathlib.Omega.{arith}
use lib.ListN.{length, get_or, set, take, drop, length-map}
use borrow.Rule.Slice.PartMut.{put_mid}
use Rattle.field.specs.declared.Zone.{Zone}
use Rattle.field.specs.Airspace.{is_flying_zone}
use Rattle.field.proofs.Arrays.{filled_at, filled_more, filled_all, get_d_map}
use Rattle.tick.specs.Tick.{ticked_zone, ticked_from}

-- zone z after a tick
abbrev pub ticked_in : ℕ → ℕ → Zone → Zone
ticked_in amount z q = cond (is_flying_zone z) (ticked_zone amount q) q

module _ (amount : ℕ) where
  pub length_ticked : (z : ℕ) (qs : List Zone) → length (ticked_from amount z qs) ≡ length qs
  length_ticked z [] = refl
  length_ticked z (q ∷ qs) = ap suc (length_ticked (suc z) qs)

  pub get_d_ticked : (z : ℕ) (qs : List Zone) (i : ℕ) (d : Zone) → i < length qs
      → get_or (ticked_from amount z qs) i d ≡ ticked_in amount (i + z) (get_or qs i d)
  get_d_ticked z [] i d h = absurd (omega arith)
  get_d_ticked z (q ∷ qs) zero d h = ap (λ (n : ℕ). ticked_in amount n q) (sym (zero-add z))
  get_d_ticked z (q ∷ qs) (suc i) d h =
      let next : i + suc z ≡ suc i + z = omega arith in
      get_d_ticked (suc z) qs i d (omega arith) ∙ ap (λ (n : ℕ). ticked_in amount n (get_or qs i d)) next

  -- the six zones that are flown in stand behind six that stay, and one stays behind them
  pub six_written : (qs : List Zone) → length qs ≡ 13 → put_mid 6 6 qs (map (ticked_zone amount) (take 6 (drop 6 qs))) ≡ ticked_from amount 1 qs
  unfolding is_flying_zone
  six_written [] p = refl
  six_written (a ∷ []) p = refl
  six_written (a ∷ b ∷ []) p = refl
  six_written (a ∷ b ∷ c ∷ []) p = refl
  six_written (a ∷ b ∷ c ∷ d ∷ []) p = refl
  six_written (a ∷ b ∷ c ∷ d ∷ e ∷ []) p = refl
  six_written (a ∷ b ∷ c ∷ d ∷ e ∷ f ∷ []) p = refl
  six_written (a ∷ b ∷ c ∷ d ∷ e ∷ f ∷ g ∷ []) p = refl
  six_written (a ∷ b ∷ c ∷ d ∷ e ∷ f ∷ g ∷ h ∷ []) p = refl
  six_written (a ∷ b ∷ c ∷ d ∷ e ∷ f ∷ g ∷ h ∷ i ∷ []) p = refl
  six_written (a ∷ b ∷ c ∷ d ∷ e ∷ f ∷ g ∷ h ∷ i ∷ j ∷ []) p = refl
  six_written (a ∷ b ∷ c ∷ d ∷ e ∷ f ∷ g ∷ h ∷ i ∷ j ∷ k ∷ []) p = refl
  six_written (a ∷ b ∷ c ∷ d ∷ e ∷ f ∷ g ∷ h ∷ i ∷ j ∷ k ∷ l ∷ []) p = refl
  six_written (a ∷ b ∷ c ∷ d ∷ e ∷ f ∷ g ∷ h ∷ i ∷ j ∷ k ∷ l ∷ m ∷ []) p = refl
  six_written (a ∷ b ∷ c ∷ d ∷ e ∷ f ∷ g ∷ h ∷ i ∷ j ∷ k ∷ l ∷ m ∷ n ∷ qs) p = absurd (omega arith)

-- a row of which each before place i is as g makes it, and each from there on as it was
pub record Ticking {A : Type 0} (g : A → A) (first row : List A) (i : ℕ) : Type 0 where
  pub so_far : row ≡ take i (map g first) ++ drop i first

module _ {A : Type 0} (g : A → A) (first row : List A) (i : ℕ) (h : Ticking g first row i) where
  pub ticking_more : (d y : A) → i < length first → y ≡ g (get_or row i d) → Ticking g first (set row i y) (i + 1)
  ticking_more d y k e =
      let many = length-map first g in
      let made = e ∙ ap g (filled_at row (map g first) first i d d k many h.so_far) ∙ sym (get_d_map g first i d d k) in
      record { so_far = filled_more row (map g first) first i d y k many h.so_far made }

  pub ticking_all : length first ≤ i → row ≡ map g first
  ticking_all k = filled_all row (map g first) first i k (length-map first g) h.so_far
