-- The span from one value of a field to another.
use Rattle.std.specs.Prelude.{◌≡◌, ℕ, ◌+◌, ◌-◌, ◌^◌, ◌<◌, ◌≤◌, min, Bool, cond, ◌&&◌, ◌||◌, ◌⊎◌, List, length, Some, None, Option, nat_le, nat_lt, slice_index_or}
use Rattle.codes.specs.declared.span.Span.{Span}
use Rattle.codes.specs.Spans.{holds}
use Rattle.codes.specs.Meaning.{Field, no_field}

-- The span from l to h, in a field whose highest value is `top`: its low end is l, and it has h − l + 1 values,
-- or where h is below l as many as come from l to the top and from 0 to h. None exactly when an end exceeds the top.
abbrev pub Between : ℕ → ℕ → ℕ → Option Span → Type 0
Between top l h None = (top < l) ⊎ (top < h)
Between top l h (Some s) =
    (l ≤ top) × (h ≤ top) × (s.low ≡ l) × (s.len ≡ cond (nat_le l h) (h - l + 1) (h + (top + 1) - l + 1))

-- v lies from l to h, or where h is below l it is l or more, or h or less
abbrev pub lies : ℕ → ℕ → ℕ → Bool
lies l h v = cond (nat_le l h) (nat_le l v && nat_le v h) (nat_le l v || nat_le v h)

-- at width w the span from l to h holds the values that lie there, and no other
abbrev pub BetweenLaw : Type 0
BetweenLaw =
    (w l h v : ℕ) (s : Span) → Between (2 ^ w - 1) l h (Some s) → v < 2 ^ w → holds w (Some s) v ≡ lies l h v

-- the highest value of field i; behind the last field, and from field 65,535 on, that of width 16
abbrev pub top_at : List Field → ℕ → ℕ
top_at fs i = cond (nat_lt i (min 65535 (length fs))) (2 ^ (slice_index_or fs i no_field).width - 1) 65535
