-- The order of rules, and what a list of them keeps.
use Rattle.std.specs.Prelude.{◌≡◌, ℕ, ◌<◌, ◌≤◌, Bool, true, false, cond, List, length, get_or, ◌==◌, ◌≢◌, nat_lt, slice_index_or}
use Rattle.std.specs.List.{All, AllPairs, insert}
use Rattle.listing.specs.declared.rule.Rule.{Rule}

-- a lower rank goes first, and of one rank the lower number
abbrev pub before : Rule → Rule → Bool
before a b = cond (a.rank == b.rank) (nat_lt a.number b.number) (nat_lt a.rank b.rank)

-- strictly rising: of any two rules the one in front comes before the one behind it
abbrev pub Ordered : List Rule → Type 0
Ordered rs = AllPairs (λ a b. before a b ≡ true) rs

-- no two rules have one number
abbrev pub Apart : List Rule → Type 0
Apart rs = AllPairs (λ a b. a.number ≢ b.number) rs

-- no rule has the number n
abbrev pub Unused : ℕ → List Rule → Type 0
Unused n rs = All (λ r. r.number ≢ n) rs

-- a rule that stands in line l has the number n
abbrev pub Used : ℕ → ℕ → List Rule → Type 0
Used n l rs = (i : ℕ) × (i < length rs) × ((d : Rule) → ((get_or rs i d).number ≡ n) × ((get_or rs i d).line ≡ l))

-- the rules below place k come before r, and the one at k does not
pub record Place (rs : List Rule) (r : Rule) (k : ℕ) : Type 0 where
  pub within : k ≤ length rs
  pub below : (i : ℕ) (d : Rule) → i < k → before (slice_index_or rs i d) r ≡ true
  pub stops : (d : Rule) → k < length rs → before (slice_index_or rs k d) r ≡ false

-- the new list is the old one with r at one place
pub record Joined (old : List Rule) (r : Rule) (new : List Rule) : Type 0 where
  pub place : ℕ
  pub within : place ≤ length old
  pub is : new ≡ insert old place r

-- what r's number is free for: a list in order stays so, and one with no two numbers alike stays so
abbrev pub Stays : (List Rule → Type 0) → List Rule → Rule → List Rule → Type 0
Stays P old r new = P old → Unused r.number old → P new
