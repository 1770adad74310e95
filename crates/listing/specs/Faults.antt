-- What is printed of a fault.
use Rattle.std.specs.Prelude.{ℕ, List, ◌++◌, string_bytes, codes, decimal}
use Rattle.listing.specs.declared.fault.Cause.{Cause}
use Rattle.listing.specs.declared.fault.Cause.TheVariants.{UnknownWord, RuleShort, NotANumber, NotASide, LeavesField, BadRows, RowsTwice, NumberInUse, NoMemory}

abbrev pub cause_text : Cause → List ℕ
cause_text (UnknownWord w) = codes "'" ++ (string_bytes w ++ codes "' is not rows, rule or telegram")
cause_text RuleShort = codes "a rule has a number, a rank, a class and a side for each field"
cause_text (NotANumber w) = codes "'" ++ (string_bytes w ++ codes "' is not a number from 0 to 65535")
cause_text (NotASide w) = codes "'" ++ (string_bytes w ++ codes "' is not a side: any, V, L..H or L+N")
cause_text (LeavesField w h) = codes "'" ++ (string_bytes w ++ (codes "' leaves the field, whose highest value is " ++ decimal h))
cause_text BadRows = codes "rows is 1 to 256"
cause_text RowsTwice = codes "rows stands twice"
cause_text (NumberInUse n l) = codes "number " ++ (decimal n ++ (codes " is in use already, in line " ++ decimal l))
cause_text NoMemory = codes "there is no memory for it"
