-- What a line holds.
use Rattle.std.specs.Prelude.{◌≡◌, ℕ}
use Rattle.reading.specs.declared.line.Line.{Line}
use Rattle.reading.specs.declared.line.Line.TheVariants.{Blank, Rows, Rule, Telegram}

-- what was read from line n: a rule or a telegram is marked with n
abbrev pub FromLine : ℕ → Line → Type 0
FromLine n Blank = Unit {0}
FromLine n (Rows _) = Unit {0}
FromLine n (Rule r) = r.line ≡ n
FromLine n (Telegram t) = t.line ≡ n
