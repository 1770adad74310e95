-- What adding a rule to a list leaves.
use Rattle.std.specs.Prelude.{◌≡◌, List, Ok, Err, Result}
use Rattle.listing.specs.declared.fault.Cause.{Cause}
use Rattle.listing.specs.declared.fault.Cause.TheVariants.{UnknownWord, RuleShort, NotANumber, NotASide, LeavesField, BadRows, RowsTwice, NumberInUse, NoMemory}
use Rattle.listing.specs.declared.rule.Rule.{Rule}
use Rattle.listing.specs.Order.{Unused, Used, Joined}

-- A rule joins a list where its number is free. Else the fault names a line whose rule has the number, and the list
-- stays; it stays too where there is no memory. There is no other fault.
abbrev pub Added : List Rule → Rule → List Rule → Result (Unit {0}) Cause → Type 0
Added old r new (Ok _) = Unused r.number old × Joined old r new
Added old r new (Err (NumberInUse n l)) = (n ≡ r.number) × Used n l old × (new ≡ old)
Added old r new (Err NoMemory) = Unused r.number old × (new ≡ old)
Added old r new (Err (UnknownWord _)) = ⊥
Added old r new (Err RuleShort) = ⊥
Added old r new (Err (NotANumber _)) = ⊥
Added old r new (Err (NotASide _)) = ⊥
Added old r new (Err (LeavesField _ _)) = ⊥
Added old r new (Err BadRows) = ⊥
Added old r new (Err RowsTwice) = ⊥
