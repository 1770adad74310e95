-- A chip over memory that its caller lends, one slot a row.
use Rattle.std.specs.Borrow.{GName}
use Rattle.std.specs.Prelude.{◌≤◌, List, [], ◌∷◌, Option, map, length, take, drop}
use Rattle.std.proofs.Common.{arith}
use Rattle.std.proofs.lemmas.List.{length-take}
use Rattle.chips.specs.declared.row.Row.{Row}
use Rattle.chips.specs.declared.rows.RowChip.{RowChip}
use Rattle.chips.specs.Chip.{Holding, meaning}

-- the rows of a memory: its first 256 slots, or all where it has fewer
abbrev pub rows_over : List (Option Row) → List Holding
rows_over slots = take 256 (map meaning slots)

abbrev pub rows_of : RowChip → List Holding
rows_of c = rows_over c.rows.now

-- no more than any chip may have
pub few_rows : (c : RowChip) → length (rows_of c) ≤ 4096
few_rows c = omega (arith, length-take {A = Holding})

-- the slots behind the rows
abbrev pub behind : RowChip → List (Option Row)
behind c = drop 256 c.rows.now

-- the one loan that the chip works through
abbrev pub loans_of : RowChip → List GName
loans_of c = c.rows.ghost_name ∷ []
