-- What the two halves of a side are read as.
use Rattle.std.specs.Prelude.{ℕ, ◌⊎◌, List, Some, None, Ok, Err, Result}
use Rattle.codes.specs.declared.span.Span.{Span}
use Rattle.listing.specs.declared.side.SideFault.{SideFault}
use Rattle.listing.specs.declared.side.SideFault.TheVariants.{Unread, Leaves}
use Rattle.listing.specs.Numbers.{Decimal}
use Rattle.listing.specs.Sides.{Between}

-- the span from one number to another in a field whose highest value is `top`, or why there is none
abbrev pub RangeRead : ℕ → List ℕ → List ℕ → Result Span SideFault → Type 0
RangeRead top low high (Ok s) = (l : ℕ) × (h : ℕ) × Decimal 16 low (Some l) × Decimal 16 high (Some h) × Between top l h (Some s)
RangeRead top low high (Err Leaves) = (l : ℕ) × (h : ℕ) × Decimal 16 low (Some l) × Decimal 16 high (Some h) × Between top l h None
RangeRead top low high (Err Unread) = Decimal 16 low None ⊎ Decimal 16 high None

-- the span of a low end and a length, or that one of the two is no number
abbrev pub RunRead : List ℕ → List ℕ → Result Span SideFault → Type 0
RunRead low len (Ok s) = Decimal 16 low (Some s.low) × Decimal 32 len (Some s.len)
RunRead low len (Err Leaves) = ⊥
RunRead low len (Err Unread) = Decimal 16 low None ⊎ Decimal 32 len None
