-- The rows of a memory, slot by slot.
use Rattle.std.proofs.Common.{◌≡◌, ℕ, ◌<◌, min, List, Option, map, length, take, drop, set, arith}
use Rattle.std.proofs.Math.Seq.{take-set-lt}
use Rattle.std.proofs.lemmas.List.{length-take, length-map, take-map, take_min, map-set, drop-set-lt}
use Rattle.chips.specs.declared.row.Row.{Row}
use Rattle.chips.specs.Chip.{meaning}
use Rattle.chips.specs.Lent.{rows_over}

module _ (xs : List (Option Row)) where
  pub rows_count : length (rows_over xs) ≡ min 256 (length xs)
  rows_count = simp (length-take, length-map)

  -- the front of the memory holds what the rows do
  pub rows_in_front : (n : ℕ) → n ≡ min (length xs) 256 → map meaning (take n xs) ≡ rows_over xs
  rows_in_front n e = let q : n ≡ min 256 (length xs) = omega arith in rw (q, take_min, take-map)

  -- a write to a row's slot is one to the row, and leaves the slots behind the rows
  pub rows_after_set : (i : ℕ) (x : Option Row) → i < length (rows_over xs) → rows_over (set xs i x) ≡ set (rows_over xs) i (meaning x)
  rows_after_set i x h = let l : i < 256 = omega (arith, rows_count) in rw map-set (take-set-lt 256 (map meaning xs) i (meaning x) l)

  pub past_after_set : (i : ℕ) (x : Option Row) → i < length (rows_over xs) → drop 256 (set xs i x) ≡ drop 256 xs
  past_after_set i x h = let l : i < 256 = omega (arith, rows_count) in drop-set-lt 256 xs i x l

pub ruleset written = (rows_count, rows_after_set, past_after_set)
