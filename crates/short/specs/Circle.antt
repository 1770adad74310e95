-- A circle of N = B * h numbers in B blocks of h, where B is even: where the h numbers from s on lie, and what the layer of
-- s tells of them.
use Rattle.std.specs.Prelude.{◌≡◌, ℕ, ◌+◌, ◌-◌, ◌*◌, ◌/◌, ◌%◌, ◌<◌, ◌≤◌, ◌⊎◌, ◌==◌, nat_eq}
use Rattle.std.proofs.Common.{sym, ap, subst, ◌∙◌, ⊎_elim, mul-le-mul_right, div-add-mod', mod-lt, mod-eq_of_lt}
use Rattle.std.proofs.Math.Nat.{add-mul, add-mod_right, add-div_right}
use native.Mathlib.Omega.{arith}
use Rattle.std.proofs.Math.Arith.{digits_div, digits_mod}
use Rattle.std.proofs.lemmas.Nat.{div_below}
use Rattle.std.proofs.lemmas.Bool.Decides.{nat_tests}
use Rattle.std.proofs.lemmas.Bool.{cases_lt}
use Rattle.codes.proofs.Offsets.{offset_above, offset_below}
use Rattle.short.specs.Short.{layer}
use Rattle.short.specs.Floors.{layer_from, layer_under}
use Rattle.short.specs.Gray.{Next, ones_same}

div_is : (x q r h : ℕ) → x ≡ q * h + r → r < h → x / h ≡ q
div_is x q r h e lt = ap (λ (n : ℕ). n / h) e ∙ digits_div q lt

-- how far v lies past s, modulo N
abbrev pub gap : ℕ → ℕ → ℕ → ℕ
gap N s v = (v + (N - s % N)) % N

-- floor((v − i) / h), two more, so that it is a natural number
unfoldable pub lay : ℕ → ℕ → ℕ → ℕ
lay h v i = (v + 2 * h - i) / h

layer_lay : (h v i : ℕ) → i < h → layer h v i ≡ (lay h v i % 2 == 1)
unfolding lay
layer_lay h v i lt =
    let hp : 0 < h = omega arith in
    let u = layer_under h v i in let f = layer_from h v i in
    let one : v < i → (v + 2 * h - i) / h ≡ 1 = λ l. div_is (v + 2 * h - i) 1 (v + h - i) h (omega arith) (omega arith) in
    let two : i ≤ v → (v + 2 * h - i) / h ≡ (v - i) / h + 2 = λ l.
    ap (λ (n : ℕ). n / h) (let e : v + 2 * h - i ≡ (v - i + h) + h = omega arith in e) ∙ add-div_right (v - i + h) hp
    ∙ ap (λ (n : ℕ). n + 1) (add-div_right (v - i) hp) ∙ (let z : (v - i) / h + 1 + 1 ≡ (v - i) / h + 2 = omega arith in z) in
    grind (arith, nat_tests)

pub lay_from_layer : (h v s i : ℕ) → i < h → layer h v i ≡ layer h s i → lay h v i % 2 ≡ lay h s i % 2
lay_from_layer h v s i lt e =
    ones_same (lay h v i % 2) (lay h s i % 2) (omega arith) (omega arith) (sym (layer_lay h v i lt) ∙ e ∙ layer_lay h s i lt)

pub layer_from_lay : (h v s i : ℕ) → i < h → lay h v i % 2 ≡ lay h s i % 2 → layer h v i ≡ layer h s i
layer_from_lay h v s i lt e = layer_lay h v i lt ∙ ap (λ (n : ℕ). nat_eq n 1) e ∙ sym (layer_lay h s i lt)

module _ (h v q r i : ℕ) (ev : v ≡ q * h + r) (hr : r < h) where
  lay_up : i ≤ r → lay h v i ≡ q + 2
  unfolding lay
  lay_up le = let d = add-mul q 2 h in div_is (v + 2 * h - i) (q + 2) (r - i) h (omega arith) (omega arith)

  lay_down : r < i → i < h → lay h v i ≡ q + 1
  unfolding lay
  lay_down lt hi =
      let d = add-mul q 1 h in let o : 1 * h ≡ h = omega arith in
      div_is (v + 2 * h - i) (q + 1) (h + r - i) h (omega arith) (omega arith)

-- a layer at the block and the place of v
module _ (h v i : ℕ) (hp : 0 < h) where
  pub up : i ≤ v % h → lay h v i ≡ v / h + 2
  up = lay_up h v (v / h) (v % h) i (sym (div-add-mod' v h)) (mod-lt v hp)

  pub down : v % h < i → i < h → lay h v i ≡ v / h + 1
  down = lay_down h v (v / h) (v % h) i (sym (div-add-mod' v h)) (mod-lt v hp)

-- the value that lies that far past s is v, and (s + t) mod N lies t past s
pub back : (N s v : ℕ) → s < N → v < N → (s + gap N s v) % N ≡ v
back N s v hs hv =
    let a = offset_above N s v in let b = offset_below N s v in
    let m = mod-eq_of_lt hv in let r = add-mod_right v N in
    grind arith

pub forth : (N s t : ℕ) → s < N → t < N → gap N s ((s + t) % N) ≡ t
forth N s t hs ht =
    let m = mod-lt (s + t) (let z : 0 < N = omega arith in z) in
    let below = λ (l : s + t < N). mod-eq_of_lt l in
    let past : N ≤ s + t → (s + t) % N ≡ s + t - N = λ l.
    ap (λ (n : ℕ). n % N) (let z : s + t ≡ (s + t - N) + N = omega arith in z) ∙ add-mod_right (s + t - N) N
    ∙ mod-eq_of_lt (let z : s + t - N < N = omega arith in z) in
    let a = offset_above N s ((s + t) % N) in let b = offset_below N s ((s + t) % N) in
    grind arith

-- the ways in which the numbers go on from s: in its block, in the next one, or past the end in the first of B blocks
pub data Way (h B s v : ℕ) : Type 0 where
  here : v / h ≡ s / h → s % h ≤ v % h → Way h B s v
  next : v / h ≡ s / h + 1 → v % h < s % h → Way h B s v
  round : v / h ≡ 0 → s / h + 1 ≡ B → v % h < s % h → Way h B s v

module _ (h B C N : ℕ) (hp : 0 < h) (even : B ≡ C * 2) (e_n : N ≡ B * h) where
  pub block_lt : (v : ℕ) → v < N → v / h < B
  block_lt v lt = div_below v h B hp (subst (λ (n : ℕ). v < n) e_n lt)

  last : (q b j : ℕ) → q < b → b * h ≤ q * h + j → j < h + h → q + 1 ≡ b
  last q b j lt le hj = let l = λ (two : q + 2 ≤ b). mul-le-mul_right h two in let d = add-mul q 2 h in grind arith

  pub go : (s t : ℕ) → s < N → t < h → Way h B s ((s + t) % N)
  go s t hs ht =
      let b : s / h * h + s % h ≡ s = div-add-mod' s h in
      let hi : s % h < h = mod-lt s hp in
      let d = add-mul (s / h) 1 h in
      let o : 1 * h ≡ h = omega arith in
      ⊎_elim
      (λ (below : s + t < N).
      let e : (s + t) % N ≡ s + t = mod-eq_of_lt below in
      ⊎_elim
      (λ (k : s % h + t < h).
      let x : s + t ≡ s / h * h + (s % h + t) = omega arith in
      subst (Way h B s) (sym e)
      (here (div_is (s + t) (s / h) (s % h + t) h x k) (let y : (s + t) % h ≡ s % h + t = ap (λ (n : ℕ). n % h) x ∙ digits_mod (s / h) k in omega arith)))
      (λ (k : h ≤ s % h + t).
      let x : s + t ≡ (s / h + 1) * h + (s % h + t - h) = omega arith in
      let lt : s % h + t - h < h = omega arith in
      subst (Way h B s) (sym e)
      (next (div_is (s + t) (s / h + 1) (s % h + t - h) h x lt)
      (let y : (s + t) % h ≡ s % h + t - h = ap (λ (n : ℕ). n % h) x ∙ digits_mod (s / h + 1) lt in omega arith)))
      (cases_lt (s % h + t) h))
      (λ (past : N ≤ s + t).
      let q : s / h + 1 ≡ B = last (s / h) B (s % h + t) (block_lt s hs) (omega arith) (omega arith) in
      let qh : (s / h + 1) * h ≡ B * h = ap (λ (n : ℕ). n * h) q in
      let lt : s % h + t - h < h = omega arith in
      let e : (s + t) % N ≡ s % h + t - h =
      ap (λ (n : ℕ). n % N) (let z : s + t ≡ (s % h + t - h) + N = omega arith in z) ∙ add-mod_right (s % h + t - h) N
      ∙ mod-eq_of_lt (let z : s % h + t - h < N = omega arith in z) in
      subst (Way h B s) (sym e)
      (round (div_is (s % h + t - h) 0 (s % h + t - h) h (omega arith) lt) q (let y : (s % h + t - h) % h ≡ s % h + t - h = mod-eq_of_lt lt in omega arith)))
      (cases_lt (s + t) N)

  -- the layer of s has one parity at the values from s on
  pub layer_keeps : (s v : ℕ) → Way h B s v → lay h v (s % h) % 2 ≡ lay h s (s % h) % 2
  layer_keeps s v way =
      let hi : s % h < h = mod-lt s hp in
      let ls = up h s (s % h) hp (omega arith) in
      elim way [
        | here e r ↦ let l = up h v (s % h) hp r in omega arith
        | next e r ↦ let l = down h v (s % h) hp r hi in omega arith
        | round e q r ↦ let l = down h v (s % h) hp r hi in omega arith
      ]

  -- and at the other values of these two blocks it has the other
  pub layer_tells : (s v : ℕ) → s < N → v < N → (v / h ≡ s / h) ⊎ Next B (s / h) (v / h) → lay h v (s % h) % 2 ≡ lay h s (s % h) % 2 → gap N s v < h
  layer_tells s v hs hv blocks e =
      let hi : s % h < h = mod-lt s hp in
      let hr : v % h < h = mod-lt v hp in
      let bs = div-add-mod' s h in
      let bv = div-add-mod' v h in
      let ls = up h s (s % h) hp (omega arith) in
      let lu = up h v (s % h) hp in
      let ld = down h v (s % h) hp in
      let d = add-mul (s / h) 1 h in
      let one : 1 * h ≡ h = omega arith in
      let z : 0 * h ≡ 0 = omega arith in
      let oa = offset_above N s v in
      let ob = offset_below N s v in
      let on = λ (x y : ℕ) (t : x ≡ y). ap (λ (n : ℕ). n * h) t in
      grind (arith, on (v / h) (s / h), on (v / h) (s / h + 1), on (v / h) 0, on (s / h + 1) B)

  -- where s begins a block, the block is the span
  pub block_tells : (s v : ℕ) → v < N → s % h ≡ 0 → v / h ≡ s / h → gap N s v < h
  block_tells s v hv z same =
      let hr : v % h < h = mod-lt v hp in
      let bs = div-add-mod' s h in
      let bv = div-add-mod' v h in
      let qh : v / h * h ≡ s / h * h = ap (λ (n : ℕ). n * h) same in
      let o = offset_above N s v (omega arith) hv in
      omega arith
