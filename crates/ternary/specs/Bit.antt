-- The binary digits of a number, and lists of 64-bit numbers.
use Rattle.std.specs.Prelude.{ℕ, ◌/◌, ◌%◌, ◌^◌, ◌<◌, Bool, true, false, not, ◌==◌, List, slice_index}

-- bit i of n
unfoldable pub bit : ℕ → ℕ → Bool
bit n i = n / 2 ^ i % 2 == 1

-- one of two bits is set, and not both
abbrev pub differs : Bool → Bool → Bool
differs false b = b
differs true b = not b

-- each of the four limbs of a plane is a number of 64 bits
abbrev pub Fitting : List ℕ → Type 0
Fitting xs = (k : ℕ) → k < 4 → slice_index xs k < 2 ^ 64
