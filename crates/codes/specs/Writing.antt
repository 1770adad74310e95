-- What a word holds after a code's digits are written into it: `paste before at ds n` is the list `before` with its
-- n elements from index `at` on replaced by the first n of ds.
use Rattle.std.specs.Prelude.{◌≡◌, ℕ, List, Option}
use Rattle.std.proofs.Math.Seq.{paste}
use Rattle.ternary.specs.declared.word.Word.{Word}
use Rattle.ternary.specs.Words.{digits}
use Rattle.codes.specs.declared.span.Span.{Span}
use Rattle.codes.specs.Meaning.{Meaning}

-- the word of a value list stands from digit `at` on, and every other digit is as it was
abbrev pub ValuesPut : Meaning → List ℕ → ℕ → Word → Word → Type 0
ValuesPut m vs at before after = digits after ≡ paste (digits before) at (m.value_word vs) m.size

-- the word of a box stands from digit `at` on, and every other digit is as it was
abbrev pub BoxPut : Meaning → List (Option Span) → ℕ → Word → Word → Type 0
BoxPut m bs at before after = digits after ≡ paste (digits before) at (m.box_word bs) m.size
