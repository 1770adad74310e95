-- What a code's constructor answers to a width.
use Rattle.std.specs.Prelude.{◌≡◌, ℕ, ◌≤◌, Ok, Err, Result}
use Rattle.ternary.specs.declared.refusal.Refusal.{Refusal}
use Rattle.ternary.specs.Refusals.{report, told}

-- a width from `least` to `most` is taken as it is, and any other is refused by 2
abbrev pub Setting : {C : Type 0} → (C → ℕ) → ℕ → ℕ → ℕ → Result C Refusal → Type 0
Setting width least most w (Ok c) = (width c ≡ w) × (least ≤ w) × (w ≤ most)
Setting width least most w (Err e) = (told e ≡ report 2 0 1) × (least ≤ w → w ≤ most → ⊥)
