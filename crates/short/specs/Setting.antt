-- Which settings there is a short code for.
use Rattle.std.specs.Prelude.{◌≡◌, ℕ, ◌-◌, ◌^◌, ◌<◌, ◌≤◌, Some, None, Ok, Err, Option, Result}
use Rattle.ternary.specs.declared.refusal.Refusal.{Refusal}
use Rattle.ternary.specs.Refusals.{report, told}

-- widths 2 to 16, and h = 2^k from 2 to 2^(w − 1) and at most 128
pub record Setting (w h k : ℕ) : Type 0 where
  pub narrowest : 2 ≤ w
  pub widest : w ≤ 16
  pub power : h ≡ 2 ^ k
  pub shortest : 2 ≤ h
  pub room : h ≤ 2 ^ (w - 1)
  pub longest : h ≤ 128

-- the code has the setting that was asked for; or there is none of that setting, and it is refused by 2
abbrev pub Made : {C : Type 0} → (C → ℕ) → (C → ℕ) → ℕ → ℕ → Result C Refusal → Type 0
Made width log w h (Ok c) = (width c ≡ w) × Setting w h (log c)
Made width log w h (Err e) = (told e ≡ report 2 0 1) × ((k : ℕ) → Setting w h k → ⊥)

-- the logarithm of h, with the bounds that the code's type keeps; or none, where there is no such setting
abbrev pub Logarithm : ℕ → ℕ → Option ℕ → Type 0
Logarithm w h (Some k) = Setting w h k × (1 ≤ k) × (k < w) × (k ≤ 7)
Logarithm w h None = (k : ℕ) → Setting w h k → ⊥
