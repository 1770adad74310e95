-- Words that are made digit by digit from an index.
use Rattle.std.proofs.Common.{◌≡◌, ℕ, ◌+◌, ◌-◌, ◌<◌, ◌≤◌, Bool, true, false, List, [], ◌∷◌, map, Decides, sym, refl, ◌∙◌, ap₂, arith}
use Rattle.std.specs.List.{range_with_len, AllByRecursion}
use Rattle.std.proofs.lemmas.List.FromFn.{get_or-map-range_with_len, length-map-range_with_len}
use Rattle.ternary.specs.declared.digit.Digit.{Digit}
use Rattle.ternary.specs.declared.digit.Digit.TheVariants.{Any}
use Rattle.std.proofs.lemmas.Bool.{and_parts, and_from}
use Rattle.ternary.specs.Words.{digit_of, agree, fits}
use Rattle.codes.specs.Meaning.{sharp}
use Rattle.ternary.proofs.Digits.{fits_at, fits_from}

-- two such words match exactly when their digits agree at each index
pub fits_map : (f g : ℕ → Digit) (a n : ℕ) → Decides (fits (map f (range_with_len a n)) (map g (range_with_len a n))) ((i : ℕ) → a ≤ i → i < a + n → agree (f i) (g i) ≡ true)
fits_map f g a n = (
  (λ e i lo hi.
      let k : i - a < n = omega arith in
      let j : a + (i - a) ≡ i = omega arith in
      sym (ap₂ agree (get_or-map-range_with_len f a n (i - a) i Any k j) (get_or-map-range_with_len g a n (i - a) i Any k j))
      ∙ fits_at (map f (range_with_len a n)) (map g (range_with_len a n)) e (i - a)),
  (λ all. fits_from (map f (range_with_len a n)) (map g (range_with_len a n)) (λ i h.
      let k : i < n = omega (arith, length-map-range_with_len f a n) in
      ap₂ agree (get_or-map-range_with_len f a n i (a + i) Any k refl) (get_or-map-range_with_len g a n i (a + i) Any k refl) ∙ all (a + i) (omega arith) (omega arith))),
)

-- what holds of f at every index holds of every element
pub all_map : (P : Digit → Type 0) (f : ℕ → Digit) → ((i : ℕ) → P (f i)) → (xs : List ℕ) → AllByRecursion P (map f xs)
all_map P f h [] = tt
all_map P f h (x ∷ xs) = (h x, all_map P f h xs)

-- two words that are made column by column match exactly when their digits agree in each
pub fits_each : {X : Type 0} (f g : X → Digit) (xs : List X) → Decides (fits (map f xs) (map g xs)) (AllByRecursion (λ x. agree (f x) (g x) ≡ true) xs)
fits_each f g [] = (λ _. tt, λ _. refl)
fits_each f g (x ∷ xs) = (
  (λ e. let p = and_parts (agree (f x) (g x)) (fits (map f xs) (map g xs)) e in (p.0, (fits_each f g xs).0 p.1)),
  (λ all. and_from (agree (f x) (g x)) (fits (map f xs) (map g xs)) all.0 ((fits_each f g xs).1 all.1)),
)

pub sharp_of : (b : Bool) → sharp (digit_of true b) ≡ true
sharp_of true = refl
sharp_of false = refl
