-- The fence code: digit i, from 1 to 2^w − 1, tells whether the value is at least i.
use Rattle.std.specs.Prelude.{ℕ, ◌+◌, ◌-◌, ◌^◌, cond, List, [], ◌∷◌, map, Some, None, Option, nat_le, slice_index, slice_index_or}
use Rattle.std.specs.List.{range_with_len}
use Rattle.ternary.specs.declared.digit.Digit.{Digit}
use Rattle.ternary.specs.declared.digit.Digit.TheVariants.{Zero, One, Any}
use Rattle.codes.specs.declared.span.Span.{Span}
use Rattle.codes.specs.Meaning.{Field, Meaning}

-- digit i of a value: 1 if the value is at least i
abbrev pub fence_digit : ℕ → ℕ → Digit
fence_digit v i = cond (nat_le i v) One Zero

-- digit i of a span from s to t: 1 up to s, 0 above t, * between
abbrev pub fence_side : Option Span → ℕ → Digit
fence_side None i = Any
fence_side (Some s) i = cond (nat_le i s.low) One (cond (nat_le (s.low + s.len) i) Zero Any)

-- the digits 1 to 2^w − 1
unfoldable pub fenced : (ℕ → Digit) → ℕ → List Digit
fenced f w = map f (range_with_len 1 (2 ^ w - 1))

-- spans that do not wrap; the reach is 2^w − 1
abbrev pub fence_field : ℕ → Field
fence_field w = record { width = w; accepts = λ s. nat_le (s.low + s.len) (2 ^ w); reach = 2 ^ w - 1 }

abbrev pub fence : ℕ → Meaning
fence w = record {
  fields = fence_field w ∷ [];
  size = 2 ^ w - 1;
  value_word = λ vs. fenced (fence_digit (slice_index vs 0)) w;
  box_word = λ bs. fenced (fence_side (slice_index_or bs 0 None)) w;
}
