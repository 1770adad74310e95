use Rattle.std.proofs.Common.{arith}
use Rattle.ternary.proofs.Planes.{clash_digits}
use Rattle.ternary.proofs.word.Word.clashes.Goals as goal

pub returns : goal.returns
returns c = clash_digits _ _ _ (grind arith)
