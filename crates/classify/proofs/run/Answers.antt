use Rattle.std.proofs.Common.{arith}
use Rattle.classify.proofs.Placing.{fresh_held}
use Rattle.classify.proofs.run.Goals as goal

pub place_rules-requires : goal.place_rules-requires
place_rules-requires c =
    fresh_held _ c.from.result c.over-chip.result.rows.now c.over-chip.ensures.all (omega (arith, c.from.ensures, c.rows.ensures.few))
