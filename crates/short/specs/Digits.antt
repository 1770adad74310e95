-- How a program finds single digits of the short code's words. Nothing above this crate cites it.
use Rattle.std.specs.Prelude.{ℕ, ◌+◌, ◌-◌, ◌%◌, ◌^◌, ◌<◌, ◌≤◌, Bool, ◌==◌}
use Rattle.std.specs.Bool.{beq}
use Rattle.std.specs.Coded.{×_prop, le_prop}
use Rattle.ternary.specs.declared.digit.Digit.{Digit}
use Rattle.ternary.specs.Words.{digit_of}
use Rattle.short.specs.declared.code.digits.FullSpan.{FullSpan}
use Rattle.short.specs.declared.column.Column.{Column}
use Rattle.short.specs.declared.column.Column.TheVariants.{Lead, Layer}
use Rattle.short.specs.Short.{lead, stays, answer_of}

-- a column that the code of width w and h = 2^k has
abbrev pub HasColumn : ℕ → ℕ → Column → Type 0
HasColumn w k (Lead b) = (k ≤ b + 1) × (b < w)
HasColumn w k (Layer i) = (1 ≤ i) × (i < 2 ^ k)

pub HasColumn-prop : (w k : ℕ) (c : Column) → IsProp (HasColumn w k c)
HasColumn-prop w k (Lead b) = ×_prop le_prop le_prop
HasColumn-prop w k (Layer i) = ×_prop le_prop le_prop

-- the digit of the span of length h from s
abbrev pub full_digit : ℕ → ℕ → ℕ → Column → Digit
full_digit w k s c = digit_of (stays w k s c) (answer_of k s c)

-- that span, by its first value and its last one
abbrev pub full_span : ℕ → ℕ → ℕ → FullSpan
full_span w k s = record { first = s; last = (s + (2 ^ k - 1)) % 2 ^ w }

-- what the two tell: whether the digit stays, and which it is
abbrev pub ends_stay : ℕ → FullSpan → Column → Bool
ends_stay k s (Lead b) = beq (lead s.last b) (lead s.first b)
ends_stay k s (Layer i) = i == s.first % 2 ^ k

abbrev pub ends_digit : ℕ → FullSpan → Column → Digit
ends_digit k s c = digit_of (ends_stay k s c) (answer_of k s.first c)
