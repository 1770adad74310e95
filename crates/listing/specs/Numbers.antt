-- What a text of digits is read as.
use Rattle.std.specs.Prelude.{ℕ, ◌^◌, ◌<◌, List, Option}
use Rattle.std.specs.Option.{SomeIff}
use Rattle.std.specs.Str.Parse.{IsNumeral, digits_value}

-- the number that the text writes, where it is digits alone and the number has at most k bits; else none
abbrev pub Decimal : ℕ → List ℕ → Option ℕ → Type 0
Decimal k bs r = SomeIff r (IsNumeral 10 bs × (digits_value 10 bs < 2 ^ k)) (digits_value 10 bs)
