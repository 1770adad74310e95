-- Widths, spans, and when a span holds a value.
use Rattle.std.specs.Prelude.{ℕ, ◌+◌, ◌-◌, ◌%◌, ◌^◌, min, Bool, true, ◌&&◌, Some, None, Option, nat_le, nat_lt}
use Rattle.codes.specs.declared.width.Width.{Width}
use Rattle.codes.specs.declared.span.Span.{Span}

-- the count of bits of a width
abbrev pub bits_of : Width → ℕ
bits_of w = w.bits

abbrev pub span : ℕ → ℕ → Span
span s n = record { low = s; len = n }

-- In a box, None stands for "any".
-- At width w a span (s, n) holds v exactly when (v − s) mod 2^w is below n.
abbrev pub holds : ℕ → Option Span → ℕ → Bool
holds w None v = true
holds w (Some s) v = nat_lt ((v + (2 ^ w - s.low % 2 ^ w)) % 2 ^ w) s.len

-- a span that stands in a field of width w: its low end is a value, and its length is from 1 to 2^w
abbrev pub in_field : ℕ → Option Span → Bool
in_field w None = true
in_field w (Some s) = nat_lt s.low (2 ^ w) && (nat_le 1 s.len && nat_le s.len (2 ^ w))

-- the span from max(0, q − r) to min(2^w − 1, q + r)
abbrev pub around : ℕ → ℕ → ℕ → Span
around w q r = span (q - r) (min (2 ^ w - 1) (q + r) + 1 - (q - r))
