use Rattle.short.specs.Lawful.{join_law}
use Rattle.short.proofs.laws.join_law.Goals as goal

pub returns : goal.returns
returns c = join_law
