-- What is printed of a refusal.
use Rattle.std.specs.Prelude.{ℕ, List, ◌++◌, codes, decimal}
use Rattle.ternary.specs.declared.refusal.Refusal.{Refusal}
use Rattle.ternary.specs.declared.refusal.Refusal.TheVariants.{NoSuchRow, BadSetting, CodeTooLarge, WrongFieldCount, OutsideField, SpanNotTaken}
use Rattle.ternary.specs.Refusals.{told}

abbrev pub reason_text : Refusal → List ℕ
reason_text (NoSuchRow _) = codes "the row is not on the chip"
reason_text BadSetting = codes "a setting is outside its limits"
reason_text CodeTooLarge = codes "the code has more than 8 fields or 255 digits"
reason_text WrongFieldCount = codes "the count of fields is not the code's"
reason_text (OutsideField _) = codes "a value or low end exceeds the field, or a length is 0 or above its count of values"
reason_text (SpanNotTaken _) = codes "the code does not accept the span"

-- the refusal's number, place and layer, and what the number stands for
abbrev pub refused_text : Refusal → List ℕ
refused_text r =
    codes "refused by " ++ (decimal (told r).number ++ (codes ", place " ++ (decimal (told r).place ++ (codes ", layer " ++ (decimal (told r).layer ++ (codes ": " ++ reason_text r))))))
