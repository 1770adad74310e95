use Rattle.std.proofs.Common.{ap, ◌∙◌, subst, Ok, Err, arith}
use Rattle.codes.specs.Meaning.{Meaning}
use Rattle.classify.specs.Placed.{Step}
use Rattle.classify.proofs.Placing.{filled_done, filled_same}
use Rattle.classify.proofs.steps.place_rules.Goals as goal
use Rattle.classify.proofs.steps.place_rules.Goals.{in-Ok+in_ok-println-in-Ok, in-Err+in_ok-println-in-Err}

pub loop-rule-preserved : goal.loop-rule-preserved
loop-rule-preserved g c =
    let code = ap g.F.FieldCode.meaning c.loop-rule.invariant.kept in
    let r = c.rule-item.result in
    let old = g.C.Chip.rows c.loop-rule.board.chip in
    let new = g.C.Chip.rows c.place.new.board.chip in
    let row = c.loop-rule.row in
    record {
      kept = c.place.ensures.kept ∙ c.loop-rule.invariant.kept;
      filled =
          elim c.match-place.branch [
            | in-Ok+in_ok-println-in-Ok w ↦
                let step = subst (λ (m : Meaning). Step m r row old new (Ok w.in-Ok.word)) code w.in-Ok.ensures.step in
                filled_done _ _ _ _ r c.loop-rule-test.true c.rule-item.is old new row c.match-place.row c.loop-rule.invariant.filled w.in-Ok.word step
                (omega (arith, w.row-is, w.saturating_add-row.ensures, step.1, g.met.C.Chip.few c.loop-rule.board.chip))
            | in-Err+in_ok-println-in-Err w ↦
                let step = subst (λ (m : Meaning). Step m r row old new (Err w.in-Err.refusal)) code w.in-Err.ensures.step in
                filled_same _ _ _ _ r c.loop-rule-test.true c.rule-item.is old new row c.match-place.row c.loop-rule.invariant.filled w.in-Err.refusal step
                w.row-is
          ];
    }
