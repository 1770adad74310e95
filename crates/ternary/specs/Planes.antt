-- The bits of a plane, and what a word's two planes keep.
use Rattle.std.specs.Prelude.{◌≡◌, ℕ, ◌/◌, ◌%◌, ◌<◌, Bool, false, not, ◌&&◌, slice_index}
use Rattle.ternary.specs.declared.plane.Plane.{Plane}
use Rattle.ternary.specs.Bit.{bit}

-- bit p of a plane: bit p mod 64 of limb p / 64
unfoldable pub plane_bit : Plane → ℕ → Bool
plane_bit x p = bit (slice_index x.limbs (p / 64)) (p % 64)

-- each of a plane's 256 bits is what f tells
abbrev pub HasBits : Plane → (ℕ → Bool) → Type 0
HasBits x f = (p : ℕ) → p < 256 → plane_bit x p ≡ f p

-- a digit that is marked as 1 is not *
abbrev pub Within : Plane → Plane → Type 0
Within care ones = (p : ℕ) → p < 256 → (plane_bit ones p && not (plane_bit care p)) ≡ false
