-- The values of a span of length h agree on a leading digit exactly when its first and its last value do, so that a program
-- compares two values and not h.
use Rattle.std.proofs.Common.{◌≡◌, ℕ, ◌+◌, ◌-◌, ◌*◌, ◌/◌, ◌%◌, ◌^◌, ◌<◌, ◌≤◌, ◌⊎◌, Bool, slice_index_or, refl, sym, ap, ap₂, ◌∙◌, subst, inl, inr, ⊎_elim, mod-lt, add-mul, div-add-mod', arith, pow_pos, pow_mono}
use mathlib.Core.Bool.{beq}
use Rattle.std.specs.Cmp.{booleans_Decides}
use Rattle.std.proofs.ByRecursion.{All-get_or}
use Rattle.std.proofs.lemmas.Bool.{cases_eq}
use Rattle.std.proofs.lemmas.Bool.Decides.{same_from_decides}
use Rattle.codes.proofs.Offsets.{offset_above, offset_below}
use Rattle.codes.proofs.Powers.{even_power, power_parts}
use Rattle.ternary.specs.declared.digit.Digit.TheVariants.{Any}
use Rattle.ternary.specs.Words.{digit_of, over}
use Rattle.short.specs.declared.column.Column.TheVariants.{Lead}
use Rattle.short.specs.Short.{lead, columns, word_size, answer_of, agreeing, stays, ending, span_word}
use Rattle.short.specs.Digits.{full_digit, full_span, ends_stay, ends_digit}
use Rattle.short.specs.Columns.{columns_length, all_columns}
use Rattle.short.specs.Lawful.{ending_within, span_at}
use Rattle.short.specs.Gray.{gray, gray_high, gray_from_lead, lead_from_gray, Next}
use Rattle.short.specs.Circle.{gap, lay, up, down, forth, Way, here, next, round}
use Rattle.short.specs.Full.{agreeing_at, agreeing_from, middle_from_gray, gray_from_middle, next_same, way_block, way_start, walk, walk_keeps, block_within, value_within}

-- s and the last value v of the span, h − 1 past it, in a circle of N = B * h numbers, where B and h are even
module _ (h g B C N s v : ℕ) (hp : 0 < g) (eh : h ≡ g * 2) (even : B ≡ C * 2) (e_n : N ≡ B * h) (hs : s < N) (hv : v < N) (last : gap N s v ≡ h - 1) (way : Way h B s v) where
  positive : 0 < h
  positive = omega arith

  -- where s lies inside its block, the last value is in the next one, a place before that of s
  end_inside : (s % h ≡ 0 → ⊥) → Next B (s / h) (v / h) × (v % h + 1 ≡ s % h)
  end_inside ne =
      let p = positive in
      let bs = div-add-mod' s h in
      let bv = div-add-mod' v h in
      let hr : v % h < h = mod-lt v p in
      let hi : s % h < h = mod-lt s p in
      let d = add-mul (s / h) 1 h in
      let one : 1 * h ≡ h = omega arith in
      elim way [
        | here e r ↦
            let qh : v / h * h ≡ s / h * h = ap (λ (n : ℕ). n * h) e in
            let o = offset_above N s v (omega arith) hv in
            absurd (ne (omega arith))
        | next e r ↦
            let qh : v / h * h ≡ (s / h + 1) * h = ap (λ (n : ℕ). n * h) e in
            let o = offset_above N s v (omega arith) hv in
            (inl e, omega arith)
        | round e q r ↦
            let qh : v / h * h ≡ 0 * h = ap (λ (n : ℕ). n * h) e in
            let sh : (s / h + 1) * h ≡ B * h = ap (λ (n : ℕ). n * h) q in
            let o = offset_below N s v (omega arith) hs in
            (inr (q, e), omega arith)
      ]

  -- where s begins its block, the last value ends it
  end_whole : s % h ≡ 0 → (v / h ≡ s / h) × (v % h ≡ h - 1)
  end_whole z =
      let p = positive in
      let e = way_start z way in
      let qh : v / h * h ≡ s / h * h = ap (λ (n : ℕ). n * h) e in
      let bs = div-add-mod' s h in
      let bv = div-add-mod' v h in
      let o = offset_above N s v (omega arith) hv in
      (e, omega arith)

  -- the ends agree on the last leading digit, which is the middle layer's, only where s lies in the middle of its block
  pub middle_start : lay h v g % 2 ≡ lay h s g % 2 → s % h ≡ g
  middle_start e =
      let p = positive in
      let hi : s % h < h = mod-lt s p in
      let hr : v % h < h = mod-lt v p in
      let w = end_whole in let i = end_inside in
      let su = up h s g p in let sd = down h s g p in let vu = up h v g p in let vd = down h v g p in
      grind arith

  -- every value of the span lies in the block of s or in that of the last value
  pub block_of_end : (u : ℕ) → u / h < B → v / h < B → Way h B s u → (u / h ≡ s / h) ⊎ (u / h ≡ v / h)
  block_of_end u hu hl on =
      let e = λ (ne : s % h ≡ 0 → ⊥) (n : Next B (s / h) (u / h)). next_same B (s / h) (u / h) (v / h) hu hl n (end_inside ne).0 in
      let b = way_block on in let z = λ (z : s % h ≡ 0). way_start z on in
      grind arith

module _ (w k : ℕ) (lo : 1 ≤ k) (hi : k < w) (s : ℕ) (hs : s < 2 ^ w) where
  eh : 2 ^ k ≡ 2 ^ (k - 1) * 2
  eh = even_power k lo

  end : ℕ
  end = (s + (2 ^ k - 1)) % 2 ^ w

  short_enough : 2 ^ k - 1 < 2 ^ w
  short_enough = let m = pow_mono (let z : k ≤ w = omega arith in z) in omega (arith, pow_pos k)

  end_gap : gap (2 ^ w) s end ≡ 2 ^ k - 1
  unfolding end
  end_gap = forth (2 ^ w) s (2 ^ k - 1) hs short_enough

  end_way : Way (2 ^ k) (2 ^ (w - k)) s end
  unfolding end
  end_way = walk w k lo hi s hs (2 ^ k - 1) (omega (arith, pow_pos k))

  end_within : end < 2 ^ w
  unfolding end
  end_within = value_within w k lo hi s hs (2 ^ k - 1)

  -- the bits above: those of a block
  high : (b : ℕ) → gray (end / 2 ^ k) b ≡ gray (s / 2 ^ k) b → (t : ℕ) → t < 2 ^ k → gray ((s + t) % 2 ^ w / 2 ^ k) b ≡ gray (s / 2 ^ k) b
  high b e t ht =
      ⊎_elim (λ x. ap (λ (n : ℕ). gray n b) x) (λ x. ap (λ (n : ℕ). gray n b) x ∙ e)
      (block_of_end (2 ^ k) (2 ^ (k - 1)) (2 ^ (w - k)) (2 ^ (w - k - 1)) (2 ^ w) s end (pow_pos (k - 1)) eh (even_power (w - k) (omega arith))
      (power_parts w k (omega arith)) hs end_within end_gap end_way ((s + t) % 2 ^ w)
      (block_within w k lo hi s hs ((s + t) % 2 ^ w) (value_within w k lo hi s hs t)) (block_within w k lo hi s hs end end_within)
      (walk w k lo hi s hs t ht))

  -- the last leading bit
  low : lead end (k - 1) ≡ lead s (k - 1) → (t : ℕ) → t < 2 ^ k → lead ((s + t) % 2 ^ w) (k - 1) ≡ lead s (k - 1)
  low e t ht =
      let g : s % 2 ^ k ≡ 2 ^ (k - 1) =
      middle_start (2 ^ k) (2 ^ (k - 1)) (2 ^ (w - k)) (2 ^ (w - k - 1)) (2 ^ w) s end (pow_pos (k - 1)) eh (even_power (w - k) (omega arith))
      (power_parts w k (omega arith)) hs end_within end_gap end_way
      (middle_from_gray (k - 1) (2 ^ k) end s eh (gray_from_lead end s (k - 1) e)) in
      lead_from_gray ((s + t) % 2 ^ w) s (k - 1)
      (gray_from_middle (k - 1) (2 ^ k) ((s + t) % 2 ^ w) s eh
      (subst (λ (j : ℕ). lay (2 ^ k) ((s + t) % 2 ^ w) j % 2 ≡ lay (2 ^ k) s j % 2) g (walk_keeps w k lo hi s hs t ht)))

  all_from_ends : (b : ℕ) → k ≤ b + 1 → lead end b ≡ lead s b → (t : ℕ) → t < 2 ^ k → lead ((s + t) % 2 ^ w) b ≡ lead s b
  all_from_ends b l e t ht =
      ⊎_elim
      (λ (x : b ≡ k - 1).
      subst (λ (c : ℕ). lead ((s + t) % 2 ^ w) c ≡ lead s c) (sym x) (low (subst (λ (c : ℕ). lead end c ≡ lead s c) x e) t ht))
      (λ ne.
      let c = b - k in
      let x : k + (b - k) ≡ b = omega (arith, ne) in
      subst (λ (c : ℕ). lead ((s + t) % 2 ^ w) c ≡ lead s c) x
      (lead_from_gray ((s + t) % 2 ^ w) s (k + c)
      (gray_high ((s + t) % 2 ^ w) k c
      ∙ high c (sym (gray_high end k c) ∙ gray_from_lead end s (k + c) (subst (λ (c : ℕ). lead end c ≡ lead s c) (sym x) e) ∙ gray_high s k c) t ht
      ∙ sym (gray_high s k c))))
      (cases_eq b (k - 1))

  pub agreeing_ends : (b : ℕ) → k ≤ b + 1 → agreeing (2 ^ w) s b (2 ^ k) ≡ beq (lead ((s + (2 ^ k - 1)) % 2 ^ w) b) (lead s b)
  unfolding end
  agreeing_ends b l =
      let z = (s + (2 ^ k - 1)) % 2 ^ w in
      same_from_decides {P = lead ((s + (2 ^ k - 1)) % 2 ^ w) b ≡ lead s b} (agreeing (2 ^ w) s b (2 ^ k)) (beq (lead z b) (lead s b)) (
        (λ e. agreeing_at (2 ^ w) s b (2 ^ k) e (2 ^ k - 1) (omega (arith, pow_pos k))),
        (λ e. agreeing_from (2 ^ w) s b (2 ^ k) (all_from_ends b l e)),
      )
      (booleans_Decides (lead z b) (lead s b))

  -- a digit of the span of length h from s is what its first and its last value tell
  pub digit_from_ends : (j : ℕ) → j < word_size w k
      → full_digit w k s (slice_index_or (columns w k) j (Lead 0)) ≡ ends_digit k (full_span w k s) (slice_index_or (columns w k) j (Lead 0))
  digit_from_ends j h =
      ap (λ (b : Bool). digit_of b (answer_of k s (slice_index_or (columns w k) j (Lead 0))))
      (All-get_or (λ c. stays w k s c ≡ ends_stay k (full_span w k s) c) (columns w k) j (Lead 0) (omega (arith, columns_length w k lo hi))
      (all_columns w k lo hi (λ c. stays w k s c ≡ ends_stay k (full_span w k s) c) (λ b l u. agreeing_ends b l) (λ i l u ne. refl)))

-- a digit of the word of a span is joined from what the ends of the two spans of length h tell
pub span_from_ends : (w k : ℕ) (lo : 1 ≤ k) (hi : k < w) (s n : ℕ) → s < 2 ^ w → 1 ≤ n → n ≤ 2 ^ k → (j : ℕ) → j < word_size w k
    → slice_index_or (span_word w k s n) j Any
    ≡ over (ends_digit k (full_span w k s) (slice_index_or (columns w k) j (Lead 0)))
    (ends_digit k (full_span w k (ending w k s n)) (slice_index_or (columns w k) j (Lead 0)))
span_from_ends w k lo hi s n hs least most j h =
    span_at w k lo hi s n hs least most j h
    ∙ ap₂ over (digit_from_ends w k lo hi s hs j h) (digit_from_ends w k lo hi (ending w k s n) (ending_within w k lo hi s n hs least most) j h)
