-- Sums of four samples in the halves of a number: a field cannot borrow, and it does not reach beyond its 32 bits.
use mathlib.Core.Path.{◌≡◌, sym, ◌∙◌, ap, subst}
use mathlib.Core.List.{[], ◌∷◌}
use Prim.Native.Nat.{ℕ, zero, suc, ◌+◌, ◌*◌, ◌-◌, ◌/◌, ◌%◌, ◌^◌, ◌≤◌, ◌<◌}
use native.Mathlib.Nat.{mul-le-mul_left}
use native.Mathlib.Omega.{arith}
use lib.IntN.{ℤ, pos, neg_ℤ, nat_abs, ◌+ℤ◌, ◌-ℤ◌, ◌*ℤ◌}
use Rattle.arithmetic.proofs.Ring.{Expr, var, con, ◌⊕◌, ◌⊗◌, ◌⊝◌, ⊖, solve}
use Rattle.taps.specs.declared.sizes.Sizes.{Sizes}
use Rattle.taps.specs.TapWeights.{TapWeights, four, Balanced, IsSizes, weighed, row_sum, grid_sum}
use Rattle.taps.specs.Fields.{sample_in, Packed12, evens, odds, by_sizes, Pair, field, fields, of_fields}
use Rattle.taps.proofs.TapSums.{grid-exchanged}

-- ---- the halves of a number

record Halves (n x y : ℕ) : Type 0 where
  low : n % 4294967296 ≡ x
  high : n / 4294967296 ≡ y

pair : {n x y : ℕ} → Halves n x y → x < 4096 → y < 4096 → Pair n
pair h k l = record { low_small = omega (arith, h.low); high_small = omega (arith, h.high) }

halves : (x y : ℕ) → x < 4096 → Halves (x + 4294967296 * y) x y
halves x y h = record { low = omega arith; high = omega arith }

module _ (x : ℕ) (p : Packed12 x) where
  evens-are : Halves (evens x) (sample_in x 0) (sample_in x 2)
  evens-are = halves (sample_in x 0) (sample_in x 2) p.first-ok

  odds-are : Halves (odds x) (sample_in x 1) (sample_in x 3)
  odds-are = halves (sample_in x 1) (sample_in x 3) p.second-ok

  sample-small : (i : ℕ) → sample_in x i < 4096
  sample-small zero = p.first-ok
  sample-small (suc zero) = p.second-ok
  sample-small (suc (suc zero)) = p.third-ok
  sample-small (suc (suc (suc i))) = p.fourth-ok

-- ---- a field

module _ (z : Sizes) (p : IsSizes z.s0 z.s1 z.s2 z.s3) (a b c d : ℕ) (ha : a < 4096) (hb : b < 4096) (hc : c < 4096)
    (hd : d < 4096) where
  -- what is taken away is less than 2^28
  taken-most : z.s0 * a + z.s3 * d ≤ 268369920
  taken-most = omega (
    arith,
    mul-le-mul_left {m = a} {n = 4095} z.s0 (omega arith),
    mul-le-mul_left {m = d} {n = 4095} z.s3 (omega arith),
    p.outer-small,
  )

  added-most : z.s1 * b + z.s2 * c ≤ 2415329280
  added-most = omega (
    arith,
    mul-le-mul_left {m = b} {n = 4095} z.s1 (omega arith),
    mul-le-mul_left {m = c} {n = 4095} z.s2 (omega arith),
    p.adds,
    p.outer-small,
  )

  -- a field is the sum, and 2^28
  field_is : pos (field z a b c d) ≡ by_sizes z (pos a) (pos b) (pos c) (pos d) +ℤ pos (2 ^ 28)
  field_is = go (field z a b c d) (omega (arith, taken-most))
    where
      go : (v : ℕ) → v + (z.s0 * a + z.s3 * d) ≡ 2 ^ 28 + z.s1 * b + z.s2 * c
          → pos v ≡ by_sizes z (pos a) (pos b) (pos c) (pos d) +ℤ pos (2 ^ 28)
      go v e =
          solve (pos v ∷ pos (z.s0 * a + z.s3 * d) ∷ []) (var 0) (var 0 ⊕ var 1 ⊝ var 1) tt
          ∙ ap (λ m. pos m -ℤ pos (z.s0 * a + z.s3 * d)) e
          ∙ solve (pos z.s0 ∷ pos z.s1 ∷ pos z.s2 ∷ pos z.s3 ∷ pos a ∷ pos b ∷ pos c ∷ pos d ∷ [])
          (con (pos (2 ^ 28)) ⊕ var 1 ⊗ var 5 ⊕ var 2 ⊗ var 6 ⊝ (var 0 ⊗ var 4 ⊕ var 3 ⊗ var 7))
          (⊖ (var 0) ⊗ var 4 ⊕ var 1 ⊗ var 5 ⊕ var 2 ⊗ var 6 ⊕ ⊖ (var 3) ⊗ var 7 ⊕ con (pos (2 ^ 28))) tt

-- ---- two fields in one number

-- a product by its halves
times-halves : (s x : ℕ) → s * x ≡ s * (x % 4294967296) + 4294967296 * (s * (x / 4294967296))
times-halves s x = ap (λ m. s * m) halves ∙ omega arith
  where
    halves : x ≡ x % 4294967296 + 4294967296 * (x / 4294967296)
    halves = omega arith

module _ (z : Sizes) (p : IsSizes z.s0 z.s1 z.s2 z.s3) (a b c d : ℕ) (ha : Pair a) (hb : Pair b) (hc : Pair c)
    (hd : Pair d) where
  low-taken : z.s0 * (a % 4294967296) + z.s3 * (d % 4294967296) ≤ 268369920
  low-taken = taken-most z p (a % 4294967296) (b % 4294967296) (c % 4294967296) (d % 4294967296)
      ha.low_small hb.low_small hc.low_small hd.low_small

  high_taken : z.s0 * (a / 4294967296) + z.s3 * (d / 4294967296) ≤ 268369920
  high_taken = taken-most z p (a / 4294967296) (b / 4294967296) (c / 4294967296) (d / 4294967296)
      ha.high_small hb.high_small hc.high_small hd.high_small

  low-added : z.s1 * (b % 4294967296) + z.s2 * (c % 4294967296) ≤ 2415329280
  low-added = added-most z p (a % 4294967296) (b % 4294967296) (c % 4294967296) (d % 4294967296)
      ha.low_small hb.low_small hc.low_small hd.low_small

  high-added : z.s1 * (b / 4294967296) + z.s2 * (c / 4294967296) ≤ 2415329280
  high-added = added-most z p (a / 4294967296) (b / 4294967296) (c / 4294967296) (d / 4294967296)
      ha.high_small hb.high_small hc.high_small hd.high_small

  pub added-fits : 1152921504875282432 + z.s1 * b + z.s2 * c < 2 ^ 64
  added-fits = omega (arith, low-added, high-added, times-halves z.s1 b, times-halves z.s2 c)

  -- neither borrows
  pub fields-are : (1152921504875282432 + z.s1 * b + z.s2 * c) - (z.s0 * a + z.s3 * d) ≡ fields z a b c d
  fields-are = omega (
    arith,
    low-taken,
    high_taken,
    times-halves z.s0 a,
    times-halves z.s1 b,
    times-halves z.s2 c,
    times-halves z.s3 d,
  )

  -- and each is in its half
  fields-halves : Halves (fields z a b c d) (field z (a % 4294967296) (b % 4294967296) (c % 4294967296) (d % 4294967296))
      (field z (a / 4294967296) (b / 4294967296) (c / 4294967296) (d / 4294967296))
  fields-halves = record { low = omega (arith, low-added, high-added); high = omega (arith, low-added, high-added) }

-- of equal numbers
pub fields-cong : (z : Sizes) {n a b c d k l m o : ℕ} → n ≡ fields z a b c d → a ≡ k → b ≡ l → c ≡ m → d ≡ o → n ≡ fields z k l m o
fields-cong z e p q r t = e ∙ (λ i. fields z (p i) (q i) (r i) (t i))

-- ---- sums of sums

-- four fields by weights that add up to 2^19: what was added to them comes to 2^47
module _ (z : Sizes) (p : IsSizes z.s0 z.s1 z.s2 z.s3) {a b c d : ℕ} (A B C D : ℤ) where
  less-added : pos a ≡ A +ℤ pos (2 ^ 28) → pos b ≡ B +ℤ pos (2 ^ 28) → pos c ≡ C +ℤ pos (2 ^ 28) → pos d ≡ D +ℤ pos (2 ^ 28)
      → pos (z.s1 * b + z.s2 * c) -ℤ pos (z.s0 * a + z.s3 * d) -ℤ pos (2 ^ 47) ≡ by_sizes z A B C D
  less-added ea eb ec ed =
      (λ k. (pos z.s1 *ℤ eb k +ℤ pos z.s2 *ℤ ec k) -ℤ (pos z.s0 *ℤ ea k +ℤ pos z.s3 *ℤ ed k) -ℤ pos (2 ^ 47))
      ∙ solve (pos z.s0 ∷ pos z.s1 ∷ pos z.s2 ∷ pos z.s3 ∷ A ∷ B ∷ C ∷ D ∷ [])
      (var 1 ⊗ (var 5 ⊕ K) ⊕ var 2 ⊗ (var 6 ⊕ K) ⊝ (var 0 ⊗ (var 4 ⊕ K) ⊕ var 3 ⊗ (var 7 ⊕ K)) ⊝ con (pos (2 ^ 47)))
      (sum ⊕ (var 1 ⊕ var 2) ⊗ K ⊝ (var 0 ⊕ var 3 ⊕ con (pos 524288)) ⊗ K) tt
      ∙ ap (λ m. by_sizes z A B C D +ℤ pos m *ℤ pos (2 ^ 28) -ℤ pos (z.s0 + z.s3 + 524288) *ℤ pos (2 ^ 28)) p.adds
      ∙ solve (by_sizes z A B C D ∷ pos (z.s0 + z.s3 + 524288) ∷ []) (var 0 ⊕ var 1 ⊗ K ⊝ var 1 ⊗ K) (var 0) tt
    where
      K : Expr
      K = con (pos (2 ^ 28))

      sum : Expr
      sum = ⊖ (var 0) ⊗ var 4 ⊕ var 1 ⊗ var 5 ⊕ var 2 ⊗ var 6 ⊕ ⊖ (var 3) ⊗ var 7

-- ---- weights and their sizes

abbrev SizesOf : TapWeights → Sizes → Type 0
SizesOf w z = (z.s0 ≡ nat_abs w.w0) × (z.s1 ≡ nat_abs w.w1) × (z.s2 ≡ nat_abs w.w2) × (z.s3 ≡ nat_abs w.w3)

-- the weights of these sizes
abbrev signed : Sizes → TapWeights
signed z = four (neg_ℤ (pos z.s0)) (pos z.s1) (pos z.s2) (neg_ℤ (pos z.s3))

signed_is : {w : TapWeights} (z : Sizes) → Balanced w → SizesOf w z → signed z ≡ w
signed_is z p q = λ k. four
    ((ap (λ n. neg_ℤ (pos n)) q.0 ∙ sym p.first) k)
    ((ap pos q.1 ∙ sym p.second) k)
    ((ap pos q.2 ∙ sym p.third) k)
    ((ap (λ n. neg_ℤ (pos n)) q.3 ∙ sym p.fourth) k)

-- ---- sixteen samples, in rows a, b, c, d

module _ (z y : Sizes) (p : IsSizes z.s0 z.s1 z.s2 z.s3) (q : IsSizes y.s0 y.s1 y.s2 y.s3) (a b c d : ℕ)
    (ha : Packed12 a) (hb : Packed12 b) (hc : Packed12 c) (hd : Packed12 d) where
  -- the field of column i, and its sum
  abbrev column : ℕ → ℕ
  column i = field z (sample_in a i) (sample_in b i) (sample_in c i) (sample_in d i)

  abbrev sum : ℕ → ℤ
  sum i = by_sizes z (pos (sample_in a i)) (pos (sample_in b i)) (pos (sample_in c i)) (pos (sample_in d i))

  column-is : (i : ℕ) → pos (column i) ≡ sum i +ℤ pos (2 ^ 28)
  column-is i = field_is z p (sample_in a i) (sample_in b i) (sample_in c i) (sample_in d i)
      (sample-small a ha i) (sample-small b hb i) (sample-small c hc i) (sample-small d hd i)

  -- two fields in each number
  both-are : {k l m n : ℕ} (i j : ℕ) → Halves k (sample_in a i) (sample_in a j) → Halves l (sample_in b i) (sample_in b j)
      → Halves m (sample_in c i) (sample_in c j) → Halves n (sample_in d i) (sample_in d j) → Halves (fields z k l m n) (column i) (column j)
  both-are {k} {l} {m} {n} i j hk hl hm hn =
      let w = fields-halves z p k l m n (pair hk (sample-small a ha i) (sample-small a ha j)) (pair hl (sample-small b hb i) (sample-small b hb j))
      (pair hm (sample-small c hc i) (sample-small c hc j)) (pair hn (sample-small d hd i) (sample-small d hd j)) in
      record {
        low = w.low ∙ (λ t. field z (hk.low t) (hl.low t) (hm.low t) (hn.low t));
        high = w.high ∙ (λ t. field z (hk.high t) (hl.high t) (hm.high t) (hn.high t));
      }

  evens-both : Halves (fields z (evens a) (evens b) (evens c) (evens d)) (column 0) (column 2)
  evens-both = both-are 0 2 (evens-are a ha) (evens-are b hb) (evens-are c hc) (evens-are d hd)

  odds-both : Halves (fields z (odds a) (odds b) (odds c) (odds d)) (column 1) (column 3)
  odds-both = both-are 1 3 (odds-are a ha) (odds-are b hb) (odds-are c hc) (odds-are d hd)

  abbrev rows : ℕ → ℕ → ℕ
  rows zero = sample_in a
  rows (suc zero) = sample_in b
  rows (suc (suc zero)) = sample_in c
  rows (suc (suc (suc j))) = sample_in d

  by_rows : {e o : ℕ} → e ≡ fields z (evens a) (evens b) (evens c) (evens d) → o ≡ fields z (odds a) (odds b) (odds c) (odds d)
      → of_fields y e o ≡ grid_sum (signed z) (signed y) rows
  by_rows {e} {o} f g =
      let h : Halves e (column 0) (column 2) = subst (λ n. Halves n (column 0) (column 2)) (sym f) evens-both in
      let k : Halves o (column 1) (column 3) = subst (λ n. Halves n (column 1) (column 3)) (sym g) odds-both in
      less-added y q (sum 0) (sum 1) (sum 2) (sum 3)
      (ap pos h.low ∙ column-is 0) (ap pos k.low ∙ column-is 1) (ap pos h.high ∙ column-is 2) (ap pos k.high ∙ column-is 3)
      ∙ grid-exchanged (signed z) (signed y) rows

pub sixteen-are : {w u : TapWeights} (z y : Sizes) {a b c d e o : ℕ} → Balanced w → Balanced u → SizesOf w z
    → SizesOf u y
    → Packed12 a → Packed12 b → Packed12 c → Packed12 d
    → e ≡ fields z (evens a) (evens b) (evens c) (evens d) → o ≡ fields z (odds a) (odds b) (odds c) (odds d)
    → of_fields y e o ≡ weighed w (row_sum u (sample_in a)) (row_sum u (sample_in b)) (row_sum u (sample_in c)) (row_sum u (sample_in d))
sixteen-are z y {a} {b} {c} {d} p q zs ys ha hb hc hd f g =
    by_rows z y z.is_sizes y.is_sizes a b c d ha hb hc hd f g
    ∙ (λ k. grid_sum (signed_is z p zs k) (signed_is y q ys k) (rows z y z.is_sizes y.is_sizes a b c d ha hb hc hd))
