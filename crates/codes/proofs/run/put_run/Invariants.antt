use Rattle.std.proofs.Common.{◌≡◌, List, length}
use lib.Seq.{paste}
use Rattle.ternary.specs.declared.digit.Digit.{Digit}
use Rattle.ternary.specs.Words.{digits}
use Rattle.codes.specs.Runs.{Tells}
use Rattle.codes.proofs.run.put_run.Given as goal

abbrev pub invariant-loop-i : goal.invariant-loop-i
invariant-loop-i g l = (run : List Digit) → length run ≡ l.count → Tells (goal.F-post g l.digit) run → digits l.out ≡ paste (digits l.initial.out) l.at run l.i
