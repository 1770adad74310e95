use Rattle.std.proofs.Common.{◌≡◌}
use Rattle.ternary.specs.Words.{digits}
use Rattle.chips.specs.Chip.{first_match}
use Rattle.chips.specs.Lent.{rows_of}
use Rattle.chips.proofs.Steps.{first_on}
use Rattle.chips.proofs.rows.RowChipChip.find.Given as goal

-- the rows not yet looked at decide
abbrev pub invariant-loop-i : goal.invariant-loop-i
invariant-loop-i l = first_on l.held-items (digits l.key) l.i ≡ first_match (rows_of l.self) (digits l.key)
