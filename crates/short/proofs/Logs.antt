-- The setting that a power of two makes with a width.
use Rattle.std.proofs.Common.{◌≡◌, ℕ, zero, suc, ◌-◌, ◌*◌, ◌^◌, ◌<◌, ◌≤◌, count_ones, Bool, true, false, ltb, refl, sym, ap, ◌∙◌, arith, pow_mono}
use Rattle.std.specs.Int.{is_power_of_two}
use Rattle.std.specs.Bool.{then_some}
use Rattle.std.proofs.lemmas.Nat.{pow_below}
use Rattle.std.proofs.lemmas.Bool.{eqb-true, eq-eqb, ltb-true, ltb-false, true≢false}
use Rattle.codes.proofs.Powers.{exponent, one_digit, digit_of_power}
use Rattle.short.specs.Setting.{Setting, Logarithm}

-- the logarithm k of h, which is a setting exactly where it is below the width
module _ (w h : ℕ) (least : 2 ≤ h) (most : h ≤ 128) where
  few : (k : ℕ) → 2 ^ k ≤ h → k ≤ 7
  few k lo = let p = λ (l : 7 < k). pow_mono l in grind arith

  some : (k : ℕ) → h < 2 * 2 ^ k → 1 ≤ k
  some zero hi = absurd (omega arith)
  some (suc k) hi = omega arith

  module _ (k : ℕ) (top : w ≤ 16) (lo : 2 ^ k ≤ h) (hi : h < 2 * 2 ^ k) where
    pub logarithm : is_power_of_two h ≡ true → Logarithm w h (then_some (ltb k w) k)
    logarithm one =
        let p = one_digit h h (omega arith) (eqb-true (count_ones h) 1 one) in
        let e = exponent k p.0 h lo hi p.1 in by (ltb k w) refl (p.1 ∙ ap (λ (n : ℕ). 2 ^ n) e)
      where
        by : (b : Bool) → ltb k w ≡ b → h ≡ 2 ^ k → Logarithm w h (then_some b k)
        by true t power =
            let room = ltb-true k w t in
            let m = pow_mono (let z : k ≤ w - 1 = omega arith in z) in
            let l = some k hi in
            (record { narrowest = omega arith; widest = top; power = power; shortest = least; room = omega arith; longest = most }, l, room, few k lo)
        by false t power = λ j s.
            let above = ltb-false k w t in
            let m = pow_below (w - 1) k (omega (arith, s.narrowest)) in absurd (omega (arith, s.room))

pub no_setting : (w h k : ℕ) → is_power_of_two h ≡ false → Setting w h k → ⊥
no_setting w h k none s = true≢false (sym (eq-eqb (count_ones h) 1 (ap count_ones s.power ∙ digit_of_power k)) ∙ none)
