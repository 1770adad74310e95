use Rattle.listing.proofs.Spans.{between_holds}
use Rattle.listing.proofs.side.between_law.Goals as goal

pub returns : goal.returns
returns c = between_holds
