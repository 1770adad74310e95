-- Digits that a call tells one by one.
use Rattle.std.specs.Prelude.{◌≡◌, ℕ, ◌<◌, List, length, slice_index_or}
use Rattle.ternary.specs.declared.digit.Digit.{Digit}
use Rattle.ternary.specs.declared.digit.Digit.TheVariants.{Any}

-- whatever a call answers at i, below the count, is f i
abbrev pub Gives : (ℕ → Digit → Type 0) → ℕ → (ℕ → Digit) → Type 0
Gives answers count f = (i : ℕ) (d : Digit) → i < count → answers i d → d ≡ f i

-- whatever a call answers at i is digit i of the run
abbrev pub Tells : (ℕ → Digit → Type 0) → List Digit → Type 0
Tells answers run = Gives answers (length run) (λ i. slice_index_or run i Any)
