-- The plain code: the w binary digits of a value, highest first.
use Rattle.std.specs.Prelude.{ℕ, zero, suc, ◌-◌, ◌%◌, ◌^◌, Bool, true, not, ◌&&◌, ◌||◌, List, [], ◌∷◌, map, Some, None, Option, ◌==◌, nat_lt, slice_index, slice_index_or}
use Rattle.std.specs.List.{range_with_len}
use Rattle.ternary.specs.declared.digit.Digit.{Digit}
use Rattle.ternary.specs.declared.digit.Digit.TheVariants.{Any}
use Rattle.ternary.specs.Bit.{bit}
use Rattle.ternary.specs.Words.{digit_of}
use Rattle.codes.specs.declared.span.Span.{Span}
use Rattle.codes.specs.Meaning.{Field, Meaning}

-- n is 2^j for some j up to w
unfoldable pub power : ℕ → ℕ → Bool
power zero n = n == 1
power (suc w) n = n == 2 ^ suc w || power w n

-- w digits, that of bit w − 1 first and that of bit 0 last
unfoldable pub highest : (ℕ → Digit) → ℕ → List Digit
highest f w = map (λ p. f (w - 1 - p)) (range_with_len 0 w)

-- the digit of bit b of a value
abbrev pub plain_digit : ℕ → ℕ → Digit
plain_digit v b = digit_of true (bit v b)

-- the digit of bit b of a span of length 2^j: * at the lowest j, and the low end's at the others
abbrev pub plain_side : Option Span → ℕ → Digit
plain_side None b = Any
plain_side (Some s) b = digit_of (not (nat_lt (2 ^ b) s.len)) (bit s.low b)

-- spans of length 2^j with a low end that is a multiple of 2^j; the reach is 0
abbrev pub plain_field : ℕ → Field
plain_field w = record { width = w; accepts = λ s. power w s.len && (s.low % s.len == 0); reach = 0 }

abbrev pub plain : ℕ → Meaning
plain w = record {
  fields = plain_field w ∷ [];
  size = w;
  value_word = λ vs. highest (plain_digit (slice_index vs 0)) w;
  box_word = λ bs. highest (plain_side (slice_index_or bs 0 None)) w;
}
