use Rattle.std.proofs.Common.{refl}
use Rattle.ternary.specs.Bit.{bit}
use Rattle.short.specs.Short.{lead, layer, layers, columns, value_word, agreeing, full_word, span_word}
use Rattle.short.proofs.laws.worked_examples.Goals as goal

pub returns : goal.returns
unfolding bit lead layer layers columns value_word agreeing full_word span_word
returns c = refl
