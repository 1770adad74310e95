-- What the definitions of the short code's words come to.
use Rattle.std.specs.Prelude.{◌≡◌, ℕ, ◌+◌, ◌-◌, ◌%◌, ◌^◌, ◌<◌, ◌≤◌, true}
use Rattle.std.specs.Bool.{beq}
use Rattle.ternary.specs.Words.{fits, joining}
use Rattle.short.specs.Short.{lead, agreeing, full_word, ending}

-- the two words that a span's word is joined from never disagree at a digit, so it doesn't matter which one is the first
abbrev pub JoinLaw : Type 0
JoinLaw = (w k s n : ℕ) → 1 ≤ k → k < w → s < 2 ^ w → 1 ≤ n → n ≤ 2 ^ k
    → (fits (full_word w k s) (full_word w k (ending w k s n)) ≡ true)
    × (joining (full_word w k s) (full_word w k (ending w k s n)) ≡ joining (full_word w k (ending w k s n)) (full_word w k s))

-- the values of a span of length h agree on a leading digit exactly when its first and its last value do
abbrev pub EndsLaw : Type 0
EndsLaw = (w k s b : ℕ) → 1 ≤ k → k < w → s < 2 ^ w → k ≤ b + 1
    → agreeing (2 ^ w) s b (2 ^ k) ≡ beq (lead ((s + (2 ^ k - 1)) % 2 ^ w) b) (lead s b)
