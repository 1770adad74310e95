-- The columns of a word: how many there are, which stands where, and what holds of all of them.
use Rattle.std.specs.Prelude.{◌≡◌, ℕ, zero, suc, ◌+◌, ◌-◌, ◌*◌, ◌/◌, ◌^◌, ◌<◌, ◌≤◌, Bool, true, cond, not, ◌⊎◌, List, ◌∷◌, ◌++◌, map, length, get_or, filter, ◌==◌, ◌≢◌, nat_lt, slice_index, slice_index_or, refl}
use Rattle.std.proofs.Common.{sym, ap₂, subst, ◌∙◌, inl, inr, ⊎_elim, arith, pow_pos}
use Rattle.std.proofs.Math.Path.{ap}
use Rattle.std.specs.List.{range_with_len, AllByRecursion}
use Rattle.std.proofs.lemmas.List.FromFn.{length-range_with_len, get_or-range_with_len, length-map-range_with_len, get_or-map-range_with_len}
use Rattle.std.proofs.lemmas.List.Elements.{filter-append}
use Rattle.std.proofs.ByRecursion.{All-get_or, All-append, All-map}
use Rattle.std.proofs.lemmas.List.{length-append, length-map, get_or-map, get_or_append_left, get_or-append_right}
use Rattle.std.proofs.lemmas.Bool.Decides.{nat_tests}
use Rattle.std.proofs.lemmas.Bool.{eq-eqb, ne_eqb, not_from_true, not_from_false, cond-false, cases_lt}
use Rattle.codes.proofs.Powers.{even_power}
use Rattle.short.specs.declared.column.Column.{Column}
use Rattle.short.specs.declared.column.Column.TheVariants.{Lead, Layer}
use Rattle.short.specs.Short.{layers, columns}

counting_plus : (a m n : ℕ) → range_with_len a (m + n) ≡ range_with_len a m ++ range_with_len (a + m) n
counting_plus a zero n = ap₂ range_with_len (let e : a ≡ a + 0 = omega arith in e) (omega arith)
counting_plus a (suc m) n =
    ap (range_with_len a) (let e : suc m + n ≡ suc (m + n) = omega arith in e)
    ∙ ap (λ (xs : List ℕ). a ∷ xs) (counting_plus (a + 1) m n ∙ ap (λ (b : ℕ). range_with_len (a + 1) m ++ range_with_len b n) (omega arith))

kept_all : (p : ℕ → Bool) (a n : ℕ) → ((i : ℕ) → a ≤ i → i < a + n → p i ≡ true) → filter p (range_with_len a n) ≡ range_with_len a n
kept_all p a zero all = refl
kept_all p a (suc n) all =
    let h = all a (omega arith) (omega arith) in
    let r = kept_all p (a + 1) n (λ i lo hi. all i (omega arith) (omega arith)) in
    grind arith

all_counting : (P : ℕ → Type 0) (a n : ℕ) → ((i : ℕ) → a ≤ i → i < a + n → P i) → AllByRecursion P (range_with_len a n)
all_counting P a zero all = tt
all_counting P a (suc n) all = (all a (omega arith) (omega arith), all_counting P (a + 1) n (λ i lo hi. all i (omega arith) (omega arith)))

-- the layers below the middle one c, and those above it
layers_split : (h c : ℕ) → h ≡ c * 2 → 1 ≤ c → layers h ≡ range_with_len 1 (c - 1) ++ range_with_len (c + 1) (c - 1)
unfolding layers
layers_split h c e one =
    let p = λ (i : ℕ). not (i == h / 2) in
    let m : h / 2 ≡ c = omega arith in
    let x : 1 + (c - 1) ≡ c = omega arith in
    ap (λ (n : ℕ). filter (λ i. not (i == h / 2)) (range_with_len 1 n)) (let z : h - 1 ≡ c - 1 + suc (c - 1) = omega arith in z)
    ∙ ap (filter (λ i. not (i == h / 2))) (counting_plus 1 (c - 1) (suc (c - 1)))
    ∙ filter-append (λ i. not (i == h / 2)) (range_with_len 1 (c - 1)) (range_with_len (1 + (c - 1)) (suc (c - 1)))
    ∙ ap₂ (λ (xs ys : List ℕ). xs ++ ys)
    (kept_all (λ i. not (i == h / 2)) 1 (c - 1) (λ i lo hi. not_from_false (i == h / 2) (ne_eqb i (h / 2) (λ z. omega arith))))
    (cond-false (not (1 + (c - 1) == h / 2)) _ _ (not_from_true (1 + (c - 1) == h / 2) (eq-eqb (1 + (c - 1)) (h / 2) (omega arith)))
    ∙ kept_all (λ i. not (i == h / 2)) (1 + (c - 1) + 1) (c - 1) (λ i lo hi. not_from_false (i == h / 2) (ne_eqb i (h / 2) (λ z. omega arith)))
    ∙ ap (λ (n : ℕ). range_with_len n (c - 1)) (let z : 1 + (c - 1) + 1 ≡ c + 1 = omega arith in z))

module _ (w k : ℕ) (lo : 1 ≤ k) (hi : k < w) where
  eh : 2 ^ k ≡ 2 ^ (k - 1) * 2
  eh = even_power k lo

  -- the leading columns, and the layers on either side of the middle
  split : columns w k
      ≡ map (λ j. Lead (w - 1 - j)) (range_with_len 0 (w - k + 1)) ++ map Layer (range_with_len 1 (2 ^ (k - 1) - 1) ++ range_with_len (2 ^ (k - 1) + 1) (2 ^ (k - 1) - 1))
  unfolding columns
  split =
      ap (λ (xs : List ℕ). map (λ j. Lead (w - 1 - j)) (range_with_len 0 (w - k + 1)) ++ map Layer xs)
      (layers_split (2 ^ k) (2 ^ (k - 1)) eh (pow_pos (k - 1)))

  leads_length : length (map (λ j. Lead (w - 1 - j)) (range_with_len 0 (w - k + 1))) ≡ w - k + 1
  leads_length = length-map-range_with_len (λ j. Lead (w - 1 - j)) 0 (w - k + 1)

  pub columns_length : length (columns w k) ≡ w - k + 2 ^ k - 1
  columns_length =
      let e = eh in
      let p = pow_pos (k - 1) in
      ap length split ∙ simp (length-append, length-map, length-range_with_len) (omega arith)

  pub column_lead : (j : ℕ) → j < w - k + 1 → slice_index_or (columns w k) j (Lead 0) ≡ Lead (w - 1 - j)
  unfolding columns
  column_lead j h =
      get_or_append_left (map (λ j. Lead (w - 1 - j)) (range_with_len 0 (w - k + 1))) (map Layer (layers (2 ^ k))) (Lead 0) j
      (subst (λ (n : ℕ). j < n) (sym leads_length) h)
      ∙ get_or-map-range_with_len (λ j. Lead (w - 1 - j)) 0 (w - k + 1) j j (Lead 0) h (omega arith)

  -- the layer at a place counted from 1
  layers_at : (p i : ℕ) → 1 ≤ p → p ≤ 2 ^ k - 2 → ((p < 2 ^ (k - 1)) × (i ≡ p)) ⊎ ((2 ^ (k - 1) ≤ p) × (i ≡ p + 1))
      → slice_index (range_with_len 1 (2 ^ (k - 1) - 1) ++ range_with_len (2 ^ (k - 1) + 1) (2 ^ (k - 1) - 1)) (p - 1) ≡ i
  layers_at p i p1 p2 c =
      let e = eh in
      let g = pow_pos (k - 1) in
      let xs = range_with_len 1 (2 ^ (k - 1) - 1) in
      let ys = range_with_len (2 ^ (k - 1) + 1) (2 ^ (k - 1) - 1) in
      let l = length-range_with_len 1 (2 ^ (k - 1) - 1) in
      let below = λ (h : p - 1 < length xs). get_or_append_left xs ys 0 (p - 1) h in
      let above = λ (h : 2 ^ (k - 1) - 1 ≤ p - 1). get_or-append_right xs ys (2 ^ (k - 1) - 1) (p - 1) 0 l h in
      let first = get_or-range_with_len 1 (2 ^ (k - 1) - 1) (p - 1) 0 in
      let second = get_or-range_with_len (2 ^ (k - 1) + 1) (2 ^ (k - 1) - 1) (p - 1 - (2 ^ (k - 1) - 1)) 0 in
      grind arith

  column_layer : (j p i : ℕ) → j ≡ w - k + p → 1 ≤ p → p ≤ 2 ^ k - 2 → ((p < 2 ^ (k - 1)) × (i ≡ p)) ⊎ ((2 ^ (k - 1) ≤ p) × (i ≡ p + 1))
      → slice_index_or (columns w k) j (Lead 0) ≡ Layer i
  column_layer j p i e p1 p2 c =
      let xs = range_with_len 1 (2 ^ (k - 1) - 1) in
      let ys = range_with_len (2 ^ (k - 1) + 1) (2 ^ (k - 1) - 1) in
      let f = eh in
      let g = pow_pos (k - 1) in
      let l : length (xs ++ ys) ≡ 2 ^ k - 2 =
      length-append xs ys ∙ ap₂ (λ (m n : ℕ). m + n) (length-range_with_len 1 (2 ^ (k - 1) - 1)) (length-range_with_len (2 ^ (k - 1) + 1) (2 ^ (k - 1) - 1))
      ∙ (let z : 2 ^ (k - 1) - 1 + (2 ^ (k - 1) - 1) ≡ 2 ^ k - 2 = omega arith in z) in
      ap (λ (cs : List Column). get_or cs j (Lead 0)) split
      ∙ get_or-append_right (map (λ j. Lead (w - 1 - j)) (range_with_len 0 (w - k + 1))) (map Layer (xs ++ ys)) (w - k + 1) j (Lead 0) leads_length (omega arith)
      ∙ ap (λ (n : ℕ). get_or (map Layer (xs ++ ys)) n (Lead 0)) (let z : j - (w - k + 1) ≡ p - 1 = omega arith in z)
      ∙ get_or-map Layer (xs ++ ys) (p - 1) 0 (Lead 0) (omega arith)
      ∙ ap Layer (layers_at p i p1 p2 c)

  -- the same, of a layer that is not the middle one and that its place and the skipped layer below it count
  pub column_counted : (j i : ℕ) → w - k + 1 ≤ j → j < w - k + 2 ^ k - 1 → (i ≢ 2 ^ k / 2) → i ≡ j - (w - k + 1) + 1 + cond (nat_lt (2 ^ k / 2) i) 1 0
      → (slice_index_or (columns w k) j (Lead 0) ≡ Layer i) × (1 ≤ i) × (i < 2 ^ k)
  column_counted j i ge lt ne e =
      let f = eh in
      let l = column_layer j (j - (w - k + 1) + 1) i in
      grind (arith, nat_tests)

  pub all_columns : (P : Column → Type 0) → ((b : ℕ) → k ≤ b + 1 → b < w → P (Lead b)) → ((i : ℕ) → 1 ≤ i → i < 2 ^ k → (i ≢ 2 ^ (k - 1)) → P (Layer i))
      → AllByRecursion P (columns w k)
  all_columns P leads layers =
      let e = eh in
      let g = pow_pos (k - 1) in
      let xs = range_with_len 1 (2 ^ (k - 1) - 1) in
      let ys = range_with_len (2 ^ (k - 1) + 1) (2 ^ (k - 1) - 1) in
      subst (AllByRecursion P) (sym split)
      (All-append P (map (λ j. Lead (w - 1 - j)) (range_with_len 0 (w - k + 1))) (map Layer (xs ++ ys))
      (All-map P (λ j. Lead (w - 1 - j)) (range_with_len 0 (w - k + 1)) (all_counting (λ j. P (Lead (w - 1 - j))) 0 (w - k + 1) (λ j l u. leads (w - 1 - j) (omega arith) (omega arith))))
      (All-map P Layer (xs ++ ys)
      (All-append (λ i. P (Layer i)) xs ys
      (all_counting (λ i. P (Layer i)) 1 (2 ^ (k - 1) - 1) (λ i l u. layers i l (omega arith) (λ z. omega arith)))
      (all_counting (λ i. P (Layer i)) (2 ^ (k - 1) + 1) (2 ^ (k - 1) - 1) (λ i l u. layers i (omega arith) (omega arith) (λ z. omega arith))))))

  pub each_lead : (P : Column → Type 0) → AllByRecursion P (columns w k) → (b : ℕ) → k ≤ b + 1 → b < w → P (Lead b)
  each_lead P all b l u =
      let n = columns_length in
      let e = eh in
      let g = pow_pos (k - 1) in
      subst P (column_lead (w - 1 - b) (omega arith) ∙ ap Lead (let z : w - 1 - (w - 1 - b) ≡ b = omega arith in z))
      (All-get_or P (columns w k) (w - 1 - b) (Lead 0) (omega arith) all)

  pub each_layer : (P : Column → Type 0) → AllByRecursion P (columns w k) → (i : ℕ) → 1 ≤ i → i < 2 ^ k → (i ≢ 2 ^ (k - 1)) → P (Layer i)
  each_layer P all i l u ne =
      let n = columns_length in
      let e = eh in
      ⊎_elim
      (λ (x : i < 2 ^ (k - 1)).
      subst P (column_layer (w - k + i) i i refl l (omega arith) (inl (x, refl))) (All-get_or P (columns w k) (w - k + i) (Lead 0) (omega arith) all))
      (λ (x : 2 ^ (k - 1) ≤ i).
      subst P (column_layer (w - k + (i - 1)) (i - 1) i refl (omega (arith, ne, pow_pos (k - 1))) (omega arith) (inr (omega (arith, ne), omega arith)))
      (All-get_or P (columns w k) (w - k + (i - 1)) (Lead 0) (omega arith) all))
      (cases_lt i (2 ^ (k - 1)))
