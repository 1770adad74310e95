-- The law of the spans of length h: a value's word matches the word of the span from s exactly when the value lies less than
-- h past s. For every width w and every h = 2^k.
use Rattle.std.specs.Prelude.{◌≡◌, ℕ, zero, suc, ◌+◌, ◌-◌, ◌*◌, ◌/◌, ◌%◌, ◌^◌, ◌<◌, ◌≤◌, true, ◌⊎◌, Decides, ◌==◌, ◌≢◌, refl}
use Rattle.std.proofs.Math.Path.{sym, subst}
use Rattle.std.proofs.Common.{ap, ◌∙◌, inl, inr, arith, pow_pos}
use Rattle.std.specs.Bool.{beq}
use Rattle.std.specs.Cmp.{booleans_Decides}
use Rattle.std.proofs.Math.Logic.{⊎_elim}
use Rattle.std.proofs.Math.Nat.{add-div_right, div-div-eq-div-mul, mod-lt}
use Rattle.std.proofs.lemmas.Bool.{eqb-true, eq-eqb, cases_eq, and_parts, and_from}
use Rattle.ternary.specs.Words.{digit_of, agree, fits}
use Rattle.ternary.proofs.Digits.{sharp_agree, agree_sharp}
use Rattle.codes.proofs.Maps.{fits_each}
use Rattle.codes.proofs.Powers.{even_power, power_parts}
use Rattle.short.specs.declared.column.Column.{Column}
use Rattle.short.specs.Short.{lead, layer, columns, answer_of, value_word, agreeing, stays, full_word}
use Rattle.short.specs.Gray.{gray, gray_high, gray_from_lead, lead_from_gray, gray_apart, gray_pair, Next}
use Rattle.short.specs.Circle.{gap, lay, lay_from_layer, layer_from_lay, back, Way, here, next, round, go, block_lt, layer_keeps, layer_tells, block_tells}
use Rattle.short.specs.Columns.{all_columns, each_lead, each_layer}

pub agreeing_at : (N s b n : ℕ) → agreeing N s b n ≡ true → (t : ℕ) → t < n → lead ((s + t) % N) b ≡ lead s b
unfolding agreeing
agreeing_at N s b zero e t h = absurd (omega arith)
agreeing_at N s b (suc n) e t h =
    let p = and_parts (beq (lead ((s + n) % N) b) (lead s b)) (agreeing N s b n) e in
    ⊎_elim
    (λ (q : t ≡ n). ap (λ (k : ℕ). lead ((s + k) % N) b) q ∙ (booleans_Decides (lead ((s + n) % N) b) (lead s b)).0 p.0)
    (λ ne. agreeing_at N s b n p.1 t (omega (arith, ne))) (cases_eq t n)

pub agreeing_from : (N s b n : ℕ) → ((t : ℕ) → t < n → lead ((s + t) % N) b ≡ lead s b) → agreeing N s b n ≡ true
unfolding agreeing
agreeing_from N s b zero all = refl
agreeing_from N s b (suc n) all =
    and_from (beq (lead ((s + n) % N) b) (lead s b)) (agreeing N s b n) ((booleans_Decides (lead ((s + n) % N) b) (lead s b)).1 (all n (omega arith)))
    (agreeing_from N s b n (λ t h. all t (omega arith)))

-- ---- the middle layer, which the last leading digit tells: they turn over at the same values

middle : (g h v : ℕ) → 0 < g → h ≡ g * 2 → lay h v g ≡ (v / g + 1) / 2 + 1
unfolding lay
middle g h v gp eh =
    ap (λ (n : ℕ). n / h) (let z : v + 2 * h - g ≡ (v + g) + h = omega arith in z) ∙ add-div_right (v + g) (let z : 0 < h = omega arith in z)
    ∙ ap (λ (n : ℕ). n + 1)
    (ap (λ (n : ℕ). (v + g) / n) eh ∙ sym (div-div-eq-div-mul (v + g) g 2) ∙ ap (λ (n : ℕ). n / 2) (add-div_right v gp))

pub middle_from_gray : (b h v s : ℕ) → h ≡ 2 ^ b * 2 → gray v b ≡ gray s b → lay h v (2 ^ b) % 2 ≡ lay h s (2 ^ b) % 2
unfolding gray
middle_from_gray b h v s eh e =
    let p = middle (2 ^ b) h v (pow_pos b) eh in let q = middle (2 ^ b) h s (pow_pos b) eh in omega arith

pub gray_from_middle : (b h v s : ℕ) → h ≡ 2 ^ b * 2 → lay h v (2 ^ b) % 2 ≡ lay h s (2 ^ b) % 2 → gray v b ≡ gray s b
unfolding gray
gray_from_middle b h v s eh e =
    let p = middle (2 ^ b) h v (pow_pos b) eh in let q = middle (2 ^ b) h s (pow_pos b) eh in omega arith

-- ---- neighbours among the blocks

pub next_same : (p q a b : ℕ) → a < p → b < p → Next p q a → Next p q b → a ≡ b
next_same p q a b ha hb m n = grind arith

some_next : (p q : ℕ) → q < p → (r : ℕ) × (r < p) × Next p q r
some_next p q h = ⊎_elim (λ (e : q + 1 ≡ p). (0, omega arith, inr (e, refl))) (λ ne. (q + 1, omega (arith, ne), inl refl)) (cases_eq (q + 1) p)

pub way_block : {h B s u : ℕ} → Way h B s u → (u / h ≡ s / h) ⊎ Next B (s / h) (u / h)
way_block way = elim way [ here e r ↦ inl e | next e r ↦ inr (inl e) | round e q r ↦ inr (inr (q, e)) ]

pub way_start : {h B s u : ℕ} → s % h ≡ 0 → Way h B s u → u / h ≡ s / h
way_start z way = elim way [ here e r ↦ e | next e r ↦ absurd (omega arith) | round e q r ↦ absurd (omega arith) ]

-- ---- the law

module _ (w k : ℕ) (lo : 1 ≤ k) (hi : k < w) (s : ℕ) (hs : s < 2 ^ w) where
  eh : 2 ^ k ≡ 2 ^ (k - 1) * 2
  eh = even_power k lo

  e_b : 2 ^ (w - k) ≡ 2 ^ (w - k - 1) * 2
  e_b = even_power (w - k) (omega arith)

  e_n : 2 ^ w ≡ 2 ^ (w - k) * 2 ^ k
  e_n = power_parts w k (omega arith)

  -- value number t of the span
  pub walk : (t : ℕ) → t < 2 ^ k → Way (2 ^ k) (2 ^ (w - k)) s ((s + t) % 2 ^ w)
  walk t ht = go (2 ^ k) (2 ^ (w - k)) (2 ^ (w - k - 1)) (2 ^ w) (pow_pos k) e_b e_n s t hs ht

  pub block_within : (v : ℕ) → v < 2 ^ w → v / 2 ^ k < 2 ^ (w - k)
  block_within = block_lt (2 ^ k) (2 ^ (w - k)) (2 ^ (w - k - 1)) (2 ^ w) (pow_pos k) e_b e_n

  pub value_within : (t : ℕ) → (s + t) % 2 ^ w < 2 ^ w
  value_within t = mod-lt (s + t) (pow_pos w)

  pub walk_keeps : (t : ℕ) → t < 2 ^ k → lay (2 ^ k) ((s + t) % 2 ^ w) (s % 2 ^ k) % 2 ≡ lay (2 ^ k) s (s % 2 ^ k) % 2
  walk_keeps t ht = layer_keeps (2 ^ k) (2 ^ (w - k)) (2 ^ (w - k - 1)) (2 ^ w) (pow_pos k) e_b e_n s ((s + t) % 2 ^ w) (walk t ht)

  -- v gives the answers that the span keeps
  Matched : ℕ → Type 0
  Matched v =
      ((b : ℕ) → k ≤ b + 1 → b < w → agreeing (2 ^ w) s b (2 ^ k) ≡ true → lead v b ≡ lead s b)
      × ((i : ℕ) → 1 ≤ i → i < 2 ^ k → (i ≢ 2 ^ (k - 1)) → (i == s % 2 ^ k) ≡ true → layer (2 ^ k) v i ≡ layer (2 ^ k) s i)

  -- a bit of the block's code on which all values of the span agree
  block_bit : (v : ℕ) → Matched v → (b : ℕ) → b < w - k → ((t : ℕ) → t < 2 ^ k → gray ((s + t) % 2 ^ w / 2 ^ k) b ≡ gray (s / 2 ^ k) b)
      → gray (v / 2 ^ k) b ≡ gray (s / 2 ^ k) b
  unfolding Matched
  block_bit v m b lt all =
      sym (gray_high v k b)
      ∙ gray_from_lead v s (k + b)
      (m.0 (k + b) (omega arith) (omega arith)
      (agreeing_from (2 ^ w) s (k + b) (2 ^ k) (λ t ht.
      lead_from_gray ((s + t) % 2 ^ w) s (k + b) (gray_high ((s + t) % 2 ^ w) k b ∙ all t ht ∙ sym (gray_high s k b)))))
      ∙ gray_high s k b

  -- inside a block: v lies on the same side of the layer of s
  side : (v : ℕ) → Matched v → (s % 2 ^ k ≢ 0) → lay (2 ^ k) v (s % 2 ^ k) % 2 ≡ lay (2 ^ k) s (s % 2 ^ k) % 2
  unfolding Matched
  side v m ne =
      let hr : s % 2 ^ k < 2 ^ k = mod-lt s (pow_pos k) in
      ⊎_elim
      (λ (e : s % 2 ^ k ≡ 2 ^ (k - 1)).
      subst (λ (j : ℕ). lay (2 ^ k) v j % 2 ≡ lay (2 ^ k) s j % 2) (sym e)
      (middle_from_gray (k - 1) (2 ^ k) v s eh
      (gray_from_lead v s (k - 1)
      (m.0 (k - 1) (omega arith) (omega arith)
      (agreeing_from (2 ^ w) s (k - 1) (2 ^ k) (λ t ht.
      lead_from_gray ((s + t) % 2 ^ w) s (k - 1)
      (gray_from_middle (k - 1) (2 ^ k) ((s + t) % 2 ^ w) s eh
      (subst (λ (j : ℕ). lay (2 ^ k) ((s + t) % 2 ^ w) j % 2 ≡ lay (2 ^ k) s j % 2) e (walk_keeps t ht)))))))))
      (λ other.
      lay_from_layer (2 ^ k) v s (s % 2 ^ k) hr
      (m.1 (s % 2 ^ k) (omega (arith, ne)) hr other (eq-eqb (s % 2 ^ k) (s % 2 ^ k) refl)))
      (cases_eq (s % 2 ^ k) (2 ^ (k - 1)))

  within_from_matched : (v : ℕ) → v < 2 ^ w → Matched v → gap (2 ^ w) s v < 2 ^ k
  within_from_matched v hv m =
      let hq = block_within s hs in
      let hx = block_within v hv in
      ⊎_elim
      (λ (z : s % 2 ^ k ≡ 0).
      block_tells (2 ^ k) (2 ^ (w - k)) (2 ^ (w - k - 1)) (2 ^ w) (pow_pos k) e_b e_n s v hv z
      (gray_apart (w - k) (v / 2 ^ k) (s / 2 ^ k) hx hq (λ b lt. block_bit v m b lt (λ t ht. ap (λ (x : ℕ). gray x b) (way_start z (walk t ht))))))
      (λ ne.
      let r = some_next (2 ^ (w - k)) (s / 2 ^ k) hq in
      layer_tells (2 ^ k) (2 ^ (w - k)) (2 ^ (w - k - 1)) (2 ^ w) (pow_pos k) e_b e_n s v hs hv
      (⊎_elim (λ e. inl e) (λ e. inr (subst (Next (2 ^ (w - k)) (s / 2 ^ k)) (sym e) r.2))
      (gray_pair (w - k) (s / 2 ^ k) r.0 (v / 2 ^ k) hq r.1 hx r.2
      (λ b lt agrees. block_bit v m b lt (λ t ht.
      ⊎_elim (λ e. ap (λ (x : ℕ). gray x b) e)
      (λ n.
      ap (λ (x : ℕ). gray x b)
      (next_same (2 ^ (w - k)) (s / 2 ^ k) ((s + t) % 2 ^ w / 2 ^ k) r.0 (block_within ((s + t) % 2 ^ w) (value_within t)) r.1 n r.2)
      ∙ sym agrees)
      (way_block (walk t ht))))))
      (side v m ne))
      (cases_eq (s % 2 ^ k) 0)

  matched_from_within : (v : ℕ) → v < 2 ^ w → gap (2 ^ w) s v < 2 ^ k → Matched v
  unfolding Matched
  matched_from_within v hv lt =
      let t = gap (2 ^ w) s v in
      let e = back (2 ^ w) s v hs hv in (
        (λ b l u c. subst (λ (x : ℕ). lead x b ≡ lead s b) e (agreeing_at (2 ^ w) s b (2 ^ k) c t lt)),
        (λ i l u ne c.
            let is = eqb-true i (s % 2 ^ k) c in
            layer_from_lay (2 ^ k) v s i u
            (subst (λ (x : ℕ). lay (2 ^ k) x i % 2 ≡ lay (2 ^ k) s i % 2) e
            (subst (λ (j : ℕ). lay (2 ^ k) ((s + t) % 2 ^ w) j % 2 ≡ lay (2 ^ k) s j % 2) (sym is) (walk_keeps t lt)))),
      )

  pub full_law : (v : ℕ) → v < 2 ^ w → Decides (fits (value_word w k v) (full_word w k s)) (gap (2 ^ w) s v < 2 ^ k)
  unfolding value_word full_word Matched
  full_law v hv =
      let f = λ (c : Column). digit_of true (answer_of k v c) in
      let g = λ (c : Column). digit_of (stays w k s c) (answer_of k s c) in
      let P = λ (c : Column). agree (digit_of true (answer_of k v c)) (digit_of (stays w k s c) (answer_of k s c)) ≡ true in
      let d = fits_each f g (columns w k) in (
        (λ e.
            let all = d.0 e in
            within_from_matched v hv (
              (λ b l u. agree_sharp (lead v b) (agreeing (2 ^ w) s b (2 ^ k)) (lead s b) (each_lead w k lo hi P all b l u)),
              (λ i l u ne. agree_sharp (layer (2 ^ k) v i) (i == s % 2 ^ k) (layer (2 ^ k) s i) (each_layer w k lo hi P all i l u ne)),
            )),
        (λ lt.
            let m = matched_from_within v hv lt in
            d.1
            (all_columns w k lo hi P (λ b l u. sharp_agree (lead v b) (agreeing (2 ^ w) s b (2 ^ k)) (lead s b) (m.0 b l u))
            (λ i l u ne. sharp_agree (layer (2 ^ k) v i) (i == s % 2 ^ k) (layer (2 ^ k) s i) (m.1 i l u ne)))),
      )
