-- The short code of width w, for spans of up to h = 2^k values.
--
-- Each digit of a word stands in a column, and each column asks one yes-or-no question of a value: a bit of its Gray code, or
-- on which side of a layer's steps it lies. A value answers them all; a span answers those that its values answer alike.
use Rattle.std.specs.Prelude.{ℕ, zero, suc, ◌+◌, ◌-◌, ◌/◌, ◌%◌, ◌^◌, Bool, true, cond, not, ◌&&◌, List, [], ◌∷◌, ◌++◌, map, Some, None, filter, Option, ◌==◌, bit_xor, nat_le, slice_index, slice_index_or}
use Rattle.std.specs.Bool.{beq}
use Rattle.std.proofs.Math.IntN.{sub_ℕ}
use Rattle.std.specs.List.{range_with_len}
use Rattle.ternary.specs.declared.digit.Digit.{Digit}
use Rattle.ternary.specs.declared.digit.Digit.TheVariants.{Any}
use Rattle.ternary.specs.Bit.{bit}
use Rattle.ternary.specs.Words.{digit_of, joining}
use Rattle.codes.specs.declared.span.Span.{Span}
use Rattle.codes.specs.Meaning.{Field, Meaning}
use Rattle.short.specs.declared.column.Column.{Column}
use Rattle.short.specs.declared.column.Column.TheVariants.{Lead, Layer}
use Rattle.short.specs.Floor.{floor, odd}

-- bit b of v xor floor(v / 2)
unfoldable pub lead : ℕ → ℕ → Bool
lead v b = bit (bit_xor v (v / 2)) b

-- floor((v − i) / h) mod 2 is 1; `sub_ℕ v i` is the integer v − i
unfoldable pub layer : ℕ → ℕ → ℕ → Bool
layer h v i = odd (floor (sub_ℕ v i) h)

-- the layers 1 to h − 1, rising, without h / 2
unfoldable pub layers : ℕ → List ℕ
layers h = filter (λ i. not (i == h / 2)) (range_with_len 1 (h - 1))

-- the columns: the top w − k + 1 bits, highest first, then the layers
unfoldable pub columns : ℕ → ℕ → List Column
columns w k = map (λ j. Lead (w - 1 - j)) (range_with_len 0 (w - k + 1)) ++ map Layer (layers (2 ^ k))

-- how many there are
abbrev pub word_size : ℕ → ℕ → ℕ
word_size w k = w - k + 2 ^ k - 1

-- what a value answers to a column
abbrev pub answer_of : ℕ → ℕ → Column → Bool
answer_of k v (Lead b) = lead v b
answer_of k v (Layer i) = layer (2 ^ k) v i

-- the word of a value: its answers
unfoldable pub value_word : ℕ → ℕ → ℕ → List Digit
value_word w k v = map (λ c. digit_of true (answer_of k v c)) (columns w k)

-- the n values from s on, modulo N, have the same bit b
unfoldable pub agreeing : ℕ → ℕ → ℕ → ℕ → Bool
agreeing N s b zero = true
agreeing N s b (suc n) = beq (lead ((s + n) % N) b) (lead s b) && agreeing N s b n

-- whether the span of length h from s keeps its first value's answer: a leading one where its values agree, and that of layer s mod h
abbrev pub stays : ℕ → ℕ → ℕ → Column → Bool
stays w k s (Lead b) = agreeing (2 ^ w) s b (2 ^ k)
stays w k s (Layer i) = i == s % 2 ^ k

-- the word of the span of length h from s: what stays, and * elsewhere
unfoldable pub full_word : ℕ → ℕ → ℕ → List Digit
full_word w k s = map (λ c. digit_of (stays w k s c) (answer_of k s c)) (columns w k)

-- where the span of length h begins that ends with the span (s, n): s + n − h modulo 2^w
abbrev pub ending : ℕ → ℕ → ℕ → ℕ → ℕ
ending w k s n = (s + n + (2 ^ w - 2 ^ k)) % 2 ^ w

-- the word of a span: where it is shorter than h, the join of the span of length h that starts with it and the one that ends with it
unfoldable pub span_word : ℕ → ℕ → ℕ → ℕ → List Digit
span_word w k s n = cond (n == 2 ^ k) (full_word w k s) (joining (full_word w k s) (full_word w k (ending w k s n)))

-- the word of "any"
unfoldable pub any_word : ℕ → ℕ → List Digit
any_word w k = map (λ _. Any) (columns w k)

-- the word of a side of a box
abbrev pub side_word : ℕ → ℕ → Option Span → List Digit
side_word w k None = any_word w k
side_word w k (Some s) = span_word w k s.low s.len

-- spans of 1 to h values are accepted, wherever they start; the reach is h / 2 − 1
abbrev pub short_field : ℕ → ℕ → Field
short_field w k = record { width = w; accepts = λ s. nat_le 1 s.len && nat_le s.len (2 ^ k); reach = 2 ^ k / 2 - 1 }

abbrev pub short : ℕ → ℕ → Meaning
short w k = record {
  fields = short_field w k ∷ [];
  size = word_size w k;
  value_word = λ vs. value_word w k (slice_index vs 0);
  box_word = λ bs. side_word w k (slice_index_or bs 0 None);
}
