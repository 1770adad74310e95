-- The first match is the one right answer.
use Rattle.std.proofs.Common.{◌≡◌, ℕ, zero, suc, ◌+◌, ◌<◌, true, false, List, [], ◌∷◌, length, get_or, Some, None, Option, sym, refl, subst, ⊎_elim, arith}
use Rattle.std.proofs.lemmas.Bool.{cases_Bool}
use Rattle.ternary.specs.declared.digit.Digit.{Digit}
use Rattle.ternary.specs.Words.{fits}
use Rattle.chips.specs.Chip.{Holding, row_matches, first_from, first_match, Right, FindLaw}

-- one row more in front, which does not match
below : (r : Holding) (rs : List Holding) (key : List Digit) (n : ℕ) → row_matches r key ≡ false → ((s : ℕ) → s < n → row_matches (get_or rs s None) key ≡ false)
    → (s : ℕ) → s < suc n → row_matches (get_or (r ∷ rs) s None) key ≡ false
below r rs key n e f zero h = e
below r rs key n e f (suc s) h = f s (omega arith)

-- the row that a right answer names, told from the rows in front of it
first_is : (rs : List Holding) (key : List Digit) (b i : ℕ) (w : List Digit) (t : ℕ) → get_or rs i None ≡ Some (w, t) → fits w key ≡ true
    → ((s : ℕ) → s < i → row_matches (get_or rs s None) key ≡ false) → i < length rs → first_from b rs key ≡ Some (b + i, t)
first_is [] key b i w t e m f h = absurd (omega arith)
first_is (None ∷ rs) key b zero w t e m f h = cc
first_is (None ∷ rs) key b (suc i) w t e m f h = let ih = first_is rs key (b + 1) i w t e m (λ s l. f (suc s) (omega arith)) (omega arith) in grind arith
first_is (Some (v, u) ∷ rs) key b zero w t e m f h = grind arith
first_is (Some (v, u) ∷ rs) key b (suc i) w t e m f h =
    let ih = first_is rs key (b + 1) i w t e m (λ s l. f (suc s) (omega arith)) (omega arith) in let n = f 0 (omega arith) in grind arith

first_none : (rs : List Holding) (key : List Digit) (b : ℕ) → ((s : ℕ) → s < length rs → row_matches (get_or rs s None) key ≡ false) → first_from b rs key ≡ None
first_none [] key b f = refl
first_none (None ∷ rs) key b f = first_none rs key (b + 1) (λ s l. f (suc s) (omega arith))
first_none (Some (w, t) ∷ rs) key b f = let ih = first_none rs key (b + 1) (λ s l. f (suc s) (omega arith)) in let n = f 0 (omega arith) in grind arith

only_one : (rs : List Holding) (key : List Digit) (o : Option (ℕ × ℕ)) → Right rs key o → o ≡ first_match rs key
only_one rs key None f = sym (first_none rs key 0 f)
only_one rs key (Some (i, t)) l = let e = first_is rs key 0 i l.word t l.holds l.matches l.before l.on_chip in grind arith

front : (r : Holding) (rs : List Holding) (key : List Digit) → row_matches r key ≡ false → ((o : Option (ℕ × ℕ)) × Right rs key o) → (o : Option (ℕ × ℕ)) × Right (r ∷ rs) key o
front r rs key e (None, f) = (None, below r rs key (length rs) e f)
front r rs key e (Some (i, t), l) = (
  Some (suc i, t),
  record {
    on_chip = omega (arith, l.on_chip);
    word = l.word;
    holds = l.holds;
    matches = l.matches;
    before = below r rs key i e l.before;
  },
)

matched : (r : Holding) (rs : List Holding) (key : List Digit) → row_matches r key ≡ true → (o : Option (ℕ × ℕ)) × Right (r ∷ rs) key o
matched None rs key e = absurd (cc)
matched (Some (w, t)) rs key e = (Some (0, t), record { on_chip = omega arith; word = w; holds = refl; matches = e; before = λ s h. absurd (omega arith) })

some_right : (rs : List Holding) (key : List Digit) → (o : Option (ℕ × ℕ)) × Right rs key o
some_right [] key = (None, λ s h. absurd (omega arith))
some_right (r ∷ rs) key = ⊎_elim
    (λ (e : row_matches r key ≡ true). matched r rs key e)
    (λ (e : row_matches r key ≡ false). front r rs key e (some_right rs key))
    (cases_Bool (row_matches r key))

first_right : (rs : List Holding) (key : List Digit) → Right rs key (first_match rs key)
first_right rs key =
    let o = some_right rs key in
    let P : Option (ℕ × ℕ) → Type 0 = Right rs key in
    subst P (only_one rs key o.0 o.1) o.1

pub find_law : FindLaw
find_law = record { right = first_right; only = only_one }
