use Rattle.std.proofs.Common.{◌≡◌, drop, Bool, List, length}
use Rattle.codes.specs.Meaning.{Field}
use Rattle.codes.specs.Coding.{first_bad, Tests}
use Rattle.codes.proofs.coding.check_each.Given as goal

abbrev pub invariant-loop-i : goal.invariant-loop-i
invariant-loop-i g l = (ok : Field → g.row.T.Denot → Bool) (fs : List Field) → length fs ≡ length l.elements → Tests (goal.P-post g l.passes) ok fs
    → first_bad ok 0 fs l.elements ≡ first_bad ok l.i (drop l.i fs) (drop l.i l.elements)
