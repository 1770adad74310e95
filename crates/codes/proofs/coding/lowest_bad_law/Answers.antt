use Rattle.std.proofs.Common.{ℕ, Option}
use Rattle.codes.specs.declared.span.Span.{Span}
use Rattle.codes.proofs.Checks.{lowest_bad_law}
use Rattle.codes.proofs.coding.lowest_bad_law.Goals as goal

pub returns : goal.returns
returns c = (lowest_bad_law ℕ, lowest_bad_law (Option Span))
