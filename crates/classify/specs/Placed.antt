-- The rules of a list that get a row.
use Rattle.std.specs.Prelude.{◌≡◌, ℕ, ◌<◌, ◌≤◌, Bool, true, false, not, ◌⊎◌, List, [], ◌∷◌, ◌++◌, map, length, take, is_some, Ok, Err, vec_items, filter, Result}
use Rattle.ternary.specs.declared.refusal.Refusal.{Refusal}
use Rattle.ternary.specs.declared.word.Word.{Word}
use Rattle.ternary.specs.Words.{digits}
use Rattle.codes.specs.Meaning.{Meaning}
use Rattle.codes.specs.Coding.{box_refusal}
use Rattle.chips.specs.Chip.{Holding}
use Rattle.listing.specs.declared.rule.Rule.{Rule}
use Rattle.rules.specs.Rules.{rule, row_digits, Held}
use Rattle.rules.specs.Rules.{Rule as RowRule}

-- a rule as its row holds it
abbrev pub as_row : Rule → RowRule
as_row r = rule r.number r.class (vec_items r.sides)

-- the code takes the rule's box
abbrev pub taken : Meaning → Rule → Bool
taken m r = not (is_some (box_refusal m (vec_items r.sides)))

-- the rules that get one of n rows: in their order those that the code takes, until the rows are full
abbrev pub placed : Meaning → ℕ → List Rule → List RowRule
placed m n rs = take n (map as_row (filter (taken m) rs))

-- One rule is put into a row, and w is its word. Rows that hold a list up to that row then hold it with the rule at its end; or the code
-- does not take the rule or the row is not there, and the rows stay.
abbrev pub Step : Meaning → Rule → ℕ → List Holding → List Holding → Result Word Refusal → Type 0
Step m r row old new (Ok w) =
    (taken m r ≡ true) × (row < length old) × (length new ≡ length old) × ((rs : List RowRule) → Held m rs old → row ≡ length rs → Held m (rs ++ as_row r ∷ []) new) × (digits w ≡ row_digits (m.box_word (vec_items r.sides)))
Step m r row old new (Err e) = (new ≡ old) × ((taken m r ≡ false) ⊎ (length old ≤ row))
