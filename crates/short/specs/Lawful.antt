-- The short code keeps the law of field codes, for every width and every h.
use Rattle.std.specs.Prelude.{◌≡◌, ℕ, ◌+◌, ◌-◌, ◌*◌, ◌%◌, ◌^◌, ◌<◌, ◌≤◌, min, true, ◌&&◌, ◌⊎◌, List, [], ◌∷◌, map, length, get_or, Some, None, Decides, Option, ◌==◌, nat_le, nat_lt, slice_index, slice_index_or, refl}
use Rattle.std.proofs.Math.Path.{sym, ap}
use Rattle.std.proofs.Common.{ap₂, ◌∙◌, mod-lt, pow_pos, pow_mono}
use Rattle.std.proofs.Math.Bool.{and-true}
use Rattle.std.proofs.Math.Logic.{⊎_elim}
use Rattle.std.proofs.Math.Nat.{mod-eq_of_lt, add-mod_right}
use native.Mathlib.Omega.{arith}
use Rattle.std.specs.List.{AllByRecursion}
use Rattle.std.proofs.lemmas.List.{length-map, get_or-map}
use Rattle.std.proofs.lemmas.Bool.{cases_eq, and_parts, and_from, leb-true, le-leb, ltb-true, lt-ltb, eq-eqb, ne_eqb, cond-true, cond-false}
use Rattle.std.proofs.lemmas.Bool.Decides.{same_from_decides, Decides-ltb}
use Rattle.ternary.specs.declared.digit.Digit.{Digit}
use Rattle.ternary.specs.declared.digit.Digit.TheVariants.{Any}
use Rattle.ternary.specs.Words.{digit_of, agree, fits, over, joining}
use Rattle.ternary.proofs.Digits.{agree_any, joining_length, joining_at}
use Rattle.codes.specs.declared.span.Span.{Span}
use Rattle.codes.specs.Spans.{holds}
use Rattle.codes.specs.Meaning.{Lawful, Values, Boxes, in_box, sharp}
use Rattle.codes.proofs.Maps.{fits_each, sharp_of}
use Rattle.codes.proofs.Offsets.{offset_above, offset_below, in_field_parts}
use Rattle.codes.proofs.Powers.{even_power}
use Rattle.short.specs.declared.column.Column.{Column}
use Rattle.short.specs.declared.column.Column.TheVariants.{Lead}
use Rattle.short.specs.Short.{columns, word_size, answer_of, value_word, stays, full_word, ending, span_word, any_word, side_word, short_field, short}
use Rattle.short.specs.Digits.{full_digit}
use Rattle.short.specs.Laws.{JoinLaw}
use Rattle.short.specs.Circle.{gap}
use Rattle.short.specs.Columns.{columns_length}
use Rattle.short.specs.Full.{full_law}
use Rattle.short.specs.Joined.{fits_both, fits_join, joining_self}

-- ---- offsets from a start u that lies j before s

-- an offset is a difference, or one that goes round
abbrev Offset : ℕ → ℕ → ℕ → ℕ → Type 0
Offset N s v x = ((x ≡ v - s) × (s ≤ v)) ⊎ ((x ≡ v + N - s) × (v < s))

gap_cases : (N s v : ℕ) → s < N → v < N → Offset N s v (gap N s v)
gap_cases N s v hs hv = let a = offset_above N s v in let b = offset_below N s v in grind arith

move : (N s u v j x y : ℕ) → s < N → u < N → v < N → j < N → (u + j ≡ s) ⊎ (u + j ≡ s + N) → Offset N s v x → Offset N u v y → (y ≡ x + j) ⊎ (y + N ≡ x + j)
move N s u v j x y hs hu hv hj r p q = grind arith

-- an offset x is below n exactly when it is below h, and so is the offset y from a start j = h − n before
both_below : (N h n j x y : ℕ) → 2 * h ≤ N → n + j ≡ h → (y ≡ x + j) ⊎ (y + N ≡ x + j) → Decides (nat_lt x h && nat_lt y h) (x < n)
both_below N h n j x y big e c = (
  (λ t. let p = and_parts (nat_lt x h) (nat_lt y h) t in let a = ltb-true x h p.0 in let b = ltb-true y h p.1 in grind arith),
  (λ lt. and_from (nat_lt x h) (nat_lt y h) (lt-ltb x h (omega arith)) (lt-ltb y h (grind arith))),
)

module _ (w k : ℕ) (lo : 1 ≤ k) (hi : k < w) where
  pub big : 2 * 2 ^ k ≤ 2 ^ w
  big =
      let e = even_power w (omega arith) in
      let m = pow_mono (let z : k ≤ w - 1 = omega arith in z) in
      omega arith

  -- ---- how long the words are, and that a value's has no *

  map_length : (f : Column → Digit) → length (map f (columns w k)) ≡ word_size w k
  map_length f = length-map (columns w k) f ∙ columns_length w k lo hi

  pub value_length : (v : ℕ) → length (value_word w k v) ≡ word_size w k
  unfolding value_word
  value_length v = map_length (λ c. digit_of true (answer_of k v c))

  full_length : (s : ℕ) → length (full_word w k s) ≡ word_size w k
  unfolding full_word
  full_length s = map_length (λ c. digit_of (stays w k s c) (answer_of k s c))

  pub any_length : length (any_word w k) ≡ word_size w k
  unfolding any_word
  any_length = map_length (λ _. Any)

  -- ---- single digits

  pub value_at : (v i : ℕ) → i < word_size w k → slice_index_or (value_word w k v) i Any ≡ digit_of true (answer_of k v (slice_index_or (columns w k) i (Lead 0)))
  unfolding value_word
  value_at v i h = get_or-map (λ c. digit_of true (answer_of k v c)) (columns w k) i (Lead 0) Any (omega (arith, columns_length w k lo hi))

  full_at : (s i : ℕ) → i < word_size w k → slice_index_or (full_word w k s) i Any ≡ full_digit w k s (slice_index_or (columns w k) i (Lead 0))
  unfolding full_word
  full_at s i h = get_or-map (λ c. digit_of (stays w k s c) (answer_of k s c)) (columns w k) i (Lead 0) Any (omega (arith, columns_length w k lo hi))

  pub any_at : (i : ℕ) → i < word_size w k → slice_index_or (any_word w k) i Any ≡ Any
  unfolding any_word
  any_at i h = get_or-map (λ _. Any) (columns w k) i (Lead 0) Any (omega (arith, columns_length w k lo hi))

  sharp_each : (v : ℕ) (cs : List Column) → AllByRecursion (λ d. sharp d ≡ true) (map (λ c. digit_of true (answer_of k v c)) cs)
  sharp_each v [] = tt
  sharp_each v (c ∷ cs) = (sharp_of (answer_of k v c), sharp_each v cs)

  value_sharp : (v : ℕ) → AllByRecursion (λ d. sharp d ≡ true) (value_word w k v)
  unfolding value_word
  value_sharp v = sharp_each v (columns w k)

  -- ---- spans of any accepted length

  full_fits : (v s : ℕ) → v < 2 ^ w → s < 2 ^ w → fits (value_word w k v) (full_word w k s) ≡ nat_lt (gap (2 ^ w) s v) (2 ^ k)
  full_fits v s hv hs = same_from_decides (fits (value_word w k v) (full_word w k s)) (nat_lt (gap (2 ^ w) s v) (2 ^ k)) (full_law w k lo hi s hs v hv) (Decides-ltb (gap (2 ^ w) s v) (2 ^ k))

  module _ (s n : ℕ) (hs : s < 2 ^ w) (least : 1 ≤ n) (most : n ≤ 2 ^ k) where
    pub ending_within : ending w k s n < 2 ^ w
    ending_within = mod-lt (s + n + (2 ^ w - 2 ^ k)) (pow_pos w)

    -- it lies h − n before s
    ending_place : (ending w k s n + (2 ^ k - n) ≡ s) ⊎ (ending w k s n + (2 ^ k - n) ≡ s + 2 ^ w)
    ending_place =
        let b = big in
        let less = λ (l : s + n + (2 ^ w - 2 ^ k) < 2 ^ w). mod-eq_of_lt l in
        let more : 2 ^ w ≤ s + n + (2 ^ w - 2 ^ k) → ending w k s n ≡ s + n - 2 ^ k = λ g.
        ap (λ (x : ℕ). x % 2 ^ w) (let z : s + n + (2 ^ w - 2 ^ k) ≡ (s + n - 2 ^ k) + 2 ^ w = omega arith in z) ∙ add-mod_right (s + n - 2 ^ k) (2 ^ w)
        ∙ mod-eq_of_lt (let z : s + n - 2 ^ k < 2 ^ w = omega arith in z) in
        grind arith

    both : (v : ℕ) → v < 2 ^ w → Decides (nat_lt (gap (2 ^ w) s v) (2 ^ k) && nat_lt (gap (2 ^ w) (ending w k s n) v) (2 ^ k)) (gap (2 ^ w) s v < n)
    both v hv =
        both_below (2 ^ w) (2 ^ k) n (2 ^ k - n) (gap (2 ^ w) s v) (gap (2 ^ w) (ending w k s n) v) big (omega arith)
        (move (2 ^ w) s (ending w k s n) v (2 ^ k - n) (gap (2 ^ w) s v) (gap (2 ^ w) (ending w k s n) v) hs ending_within hv (let b = big in omega (arith, pow_pos k)) ending_place
        (gap_cases (2 ^ w) s v hs hv) (gap_cases (2 ^ w) (ending w k s n) v ending_within hv))

    -- the span's own low end has a word without * that matches both
    pub no_clash : (fits (full_word w k s) (full_word w k (ending w k s n)) ≡ true) × (joining (full_word w k s) (full_word w k (ending w k s n)) ≡ joining (full_word w k (ending w k s n)) (full_word w k s))
    no_clash =
        let own : gap (2 ^ w) s s < n = let o = offset_above (2 ^ w) s s (omega arith) hs in omega arith in
        let two = and_parts (nat_lt (gap (2 ^ w) s s) (2 ^ k)) (nat_lt (gap (2 ^ w) (ending w k s n) s) (2 ^ k)) ((both s hs).1 own) in
        fits_both (value_word w k s) (full_word w k s) (full_word w k (ending w k s n)) (full_length s ∙ sym (value_length s))
        (full_length (ending w k s n) ∙ sym (value_length s)) (value_sharp s) (full_fits s s hs hs ∙ two.0) (full_fits s (ending w k s n) hs ending_within ∙ two.1)

    joined_fits : (v : ℕ) → v < 2 ^ w → fits (value_word w k v) (joining (full_word w k s) (full_word w k (ending w k s n))) ≡ nat_lt (gap (2 ^ w) s v) n
    joined_fits v hv =
        fits_join (value_word w k v) (full_word w k s) (full_word w k (ending w k s n)) (full_length s ∙ sym (value_length v))
        (full_length (ending w k s n) ∙ sym (value_length v)) no_clash.0
        ∙ ap₂ (λ a b. a && b) (full_fits v s hv hs) (full_fits v (ending w k s n) hv ending_within)
        ∙ same_from_decides (nat_lt (gap (2 ^ w) s v) (2 ^ k) && nat_lt (gap (2 ^ w) (ending w k s n) v) (2 ^ k)) (nat_lt (gap (2 ^ w) s v) n) (both v hv) (Decides-ltb (gap (2 ^ w) s v) n)

    -- a span of length h is the join of itself with itself
    span_joined : span_word w k s n ≡ joining (full_word w k s) (full_word w k (ending w k s n))
    unfolding span_word
    span_joined =
        let b = big in
        ⊎_elim
        (λ (e : n ≡ 2 ^ k).
        let same : ending w k s n ≡ s =
        ap (λ (x : ℕ). x % 2 ^ w) (let z : s + n + (2 ^ w - 2 ^ k) ≡ s + 2 ^ w = omega arith in z) ∙ add-mod_right s (2 ^ w) ∙ mod-eq_of_lt hs in
        cond-true (n == 2 ^ k) (full_word w k s) (joining (full_word w k s) (full_word w k (ending w k s n))) (eq-eqb n (2 ^ k) e)
        ∙ sym (ap (λ (x : ℕ). joining (full_word w k s) (full_word w k x)) same ∙ joining_self (full_word w k s)))
        (λ ne. cond-false (n == 2 ^ k) (full_word w k s) (joining (full_word w k s) (full_word w k (ending w k s n))) (ne_eqb n (2 ^ k) ne))
        (cases_eq n (2 ^ k))

    span_fits : (v : ℕ) → v < 2 ^ w → fits (value_word w k v) (span_word w k s n) ≡ nat_lt (gap (2 ^ w) s v) n
    span_fits v hv = ap (fits (value_word w k v)) span_joined ∙ joined_fits v hv

    pub span_at : (i : ℕ) → i < word_size w k
        → slice_index_or (span_word w k s n) i Any ≡ over (full_digit w k s (slice_index_or (columns w k) i (Lead 0))) (full_digit w k (ending w k s n) (slice_index_or (columns w k) i (Lead 0)))
    span_at i h =
        ap (λ (ds : List Digit). get_or ds i Any) span_joined ∙ joining_at (full_word w k s) (full_word w k (ending w k s n)) i (omega (arith, full_length s))
        ∙ ap₂ over (full_at s i h) (full_at (ending w k s n) i h)

    pub span_length : length (span_word w k s n) ≡ word_size w k
    span_length = ap length span_joined ∙ joining_length (full_word w k s) (full_word w k (ending w k s n)) ∙ full_length s

  any_fits : (v : ℕ) → fits (value_word w k v) (any_word w k) ≡ true
  unfolding value_word any_word
  any_fits v = (fits_each (λ c. digit_of true (answer_of k v c)) (λ _. Any) (columns w k)).1 (each (columns w k))
    where
      each : (cs : List Column) → AllByRecursion (λ c. agree (digit_of true (answer_of k v c)) Any ≡ true) cs
      each [] = tt
      each (c ∷ cs) = (agree_any (digit_of true (answer_of k v c)), each cs)

  -- ---- the law

  accepted : (n : ℕ) → (nat_le 1 n && nat_le n (2 ^ k)) ≡ true → (1 ≤ n) × (n ≤ 2 ^ k)
  accepted n e = let p = and_parts (nat_le 1 n) (nat_le n (2 ^ k)) e in (leb-true 1 n p.0, leb-true n (2 ^ k) p.1)

  matching : (vs : List ℕ) (bs : List (Option Span)) → Values (short_field w k ∷ []) vs → Boxes (short_field w k ∷ []) bs
      → fits (value_word w k (slice_index vs 0)) (side_word w k (slice_index_or bs 0 None)) ≡ in_box (short_field w k ∷ []) vs bs
  matching [] bs t u = absurd t
  matching (v ∷ vs) [] t u = absurd u
  matching (v ∷ vs) (None ∷ bs) t u = any_fits v
  matching (v ∷ vs) (Some s ∷ bs) t u =
      let a = accepted s.len u.0.1 in
      span_fits s.low s.len (in_field_parts w s u.0.0).0 a.0 a.1 v t.0 ∙ sym (and-true (holds w (Some s) v))

  side_length : (bs : List (Option Span)) → Boxes (short_field w k ∷ []) bs → length (side_word w k (slice_index_or bs 0 None)) ≡ word_size w k
  side_length [] u = absurd u
  side_length (None ∷ bs) u = any_length
  side_length (Some s ∷ bs) u = let a = accepted s.len u.0.1 in span_length s.low s.len (in_field_parts w s u.0.0).0 a.0 a.1

  pub short_lawful : w ≤ 16 → Lawful (short w k)
  short_lawful top = record {
    some = omega arith;
    each = (
      record {
        least = omega arith;
        most = top;
        single = λ s lt. and_from (nat_le 1 1) (nat_le 1 (2 ^ k)) refl (le-leb 1 (2 ^ k) (pow_pos k));
        reaches = λ q r lt le.
            let e = even_power k lo in
            let g = pow_pos (k - 1) in
            let n = min (2 ^ w - 1) (q + r) + 1 - (q - r) in
            and_from (nat_le 1 n) (nat_le n (2 ^ k)) (le-leb 1 n (omega arith)) (le-leb n (2 ^ k) (omega arith));
      },
      tt,
    );
    value_size = λ vs t. value_length (slice_index vs 0);
    box_size = λ bs t. side_length bs t;
    no_any = λ vs t. value_sharp (slice_index vs 0);
    matching = λ small vs bs t u. matching vs bs t u;
  }

pub join_law : JoinLaw
join_law w k s n lo hi hs least most = no_clash w k lo hi s n hs least most
