use Rattle.std.proofs.Common.{◌≡◌, length}
use Rattle.classify.proofs.Placing.{Filled}
use Rattle.classify.proofs.steps.place_rules.Given as goal

abbrev pub invariant-loop-rule : goal.invariant-loop-rule
invariant-loop-rule g l = record {
  kept : l.board.code ≡ l.initial.board.code;
  filled :
      Filled (g.F.FieldCode.meaning l.initial.board.code) (length (g.C.Chip.rows l.initial.board.chip)) l.rules l.rule-index
      (g.C.Chip.rows l.board.chip) l.row;
}
