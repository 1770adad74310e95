-- What a chip's calls answer and leave, by the list of its rows.
use Rattle.std.specs.Prelude.{◌≡◌, ℕ, ◌+◌, ◌<◌, ◌≤◌, Bool, true, false, cond, ◌≢◌, List, [], ◌∷◌, length, get_or, Some, None, Ok, Err, Option, Result, nat_lt, slice_index_or, slice_set}
use Rattle.ternary.specs.declared.digit.Digit.{Digit}
use Rattle.ternary.specs.declared.refusal.Refusal.{Refusal}
use Rattle.ternary.specs.Words.{digits, fits}
use Rattle.ternary.specs.Refusals.{Report, report, told}
use Rattle.chips.specs.declared.row.Row.{Row}

-- what a row holds, as promises tell it: nothing, or its word's digits and its tag
abbrev pub Holding : Type 0
Holding = Option (List Digit × ℕ)

abbrev pub empty_row : Holding
empty_row = None

abbrev pub full_row : List Digit → ℕ → Holding
full_row w t = Some (w, t)

-- a word stands for its digits
abbrev pub meaning : Option Row → Holding
meaning None = empty_row
meaning (Some r) = full_row (digits r.word) r.tag

-- what the refusal of a row that is not on the chip tells: number 1, the row, layer 0
abbrev pub no_row : ℕ → Report
no_row row = report 1 row 0

-- a read's answer, with a word as its digits and a refusal as what it tells
abbrev pub read_told : Result (Option Row) Refusal → Result Holding Report
read_told (Ok h) = Ok (meaning h)
read_told (Err e) = Err (told e)

-- what a read answers: what the row holds, or a refusal where it is not on the chip
abbrev pub read_answer : List Holding → ℕ → Result Holding Report
read_answer rs row = cond (nat_lt row (length rs)) (Ok (slice_index_or rs row empty_row)) (Err (no_row row))

-- what a write or an erase answers: done, or a refusal where the row is not on the chip
abbrev pub put_answer : List Holding → ℕ → Result Unit Report
put_answer rs row = cond (nat_lt row (length rs)) (Ok tt) (Err (no_row row))

-- the row's word matches the key; an empty row matches nothing
abbrev pub row_matches : Holding → List Digit → Bool
row_matches None key = false
row_matches (Some (w, t)) key = fits w key

-- the tag of a row whose word matches the key
abbrev pub hit_tag : Holding → List Digit → Option ℕ
hit_tag None key = None
hit_tag (Some (w, t)) key = cond (fits w key) (Some t) None

-- the first row whose word matches the key, counted from i, with its tag
abbrev pub first_from : ℕ → List Holding → List Digit → Option (ℕ × ℕ)
first_from i [] key = None
first_from i (None ∷ rs) key = first_from (i + 1) rs key
first_from i (Some (w, t) ∷ rs) key = cond (fits w key) (Some (i, t)) (first_from (i + 1) rs key)

-- what `find` answers
abbrev pub first_match : List Holding → List Digit → Option (ℕ × ℕ)
first_match rs key = first_from 0 rs key

-- an accepted put of a row: only that row differs
pub record Accepted (rs after : List Holding) (row : ℕ) (new : Holding) : Type 0 where
  pub answer : put_answer rs row ≡ Ok tt
  pub placed : get_or after row empty_row ≡ new
  pub others : (s : ℕ) → s ≢ row → slice_index_or after s empty_row ≡ slice_index_or rs s empty_row
  pub long : length after ≡ length rs

-- a refused put: nothing differs
pub record Refused (rs after : List Holding) (row : ℕ) : Type 0 where
  pub answer : put_answer rs row ≡ Err (no_row row)
  pub same : after ≡ rs

-- a put is accepted for a row of the chip, and refused for any other
pub record PutLaw : Type 0 where
  pub accepted : (rs : List Holding) (row : ℕ) (new : Holding) → row < length rs → Accepted rs (slice_set rs row new) row new
  pub refused : (rs : List Holding) (row : ℕ) (new : Holding) → length rs ≤ row → Refused rs (slice_set rs row new) row

-- the row is on the chip, holds a word that matches the key, and the tag; no lower row matches
pub record Lowest (rs : List Holding) (key : List Digit) (row tag : ℕ) : Type 0 where
  pub on_chip : row < length rs
  pub word : List Digit
  pub holds : get_or rs row empty_row ≡ full_row word tag
  pub matches : fits word key ≡ true
  pub before : (s : ℕ) → s < row → row_matches (slice_index_or rs s empty_row) key ≡ false

-- a right answer to a key: the lowest row that matches with its tag, or none where no row does
abbrev pub Right : List Holding → List Digit → Option (ℕ × ℕ) → Type 0
Right rs key None = (s : ℕ) → s < length rs → row_matches (slice_index_or rs s empty_row) key ≡ false
Right rs key (Some (row, tag)) = Lowest rs key row tag

-- `first_match` is a right answer, and the only one
pub record FindLaw : Type 0 where
  pub right : (rs : List Holding) (key : List Digit) → Right rs key (first_match rs key)
  pub only : (rs : List Holding) (key : List Digit) (o : Option (ℕ × ℕ)) → Right rs key o → o ≡ first_match rs key
