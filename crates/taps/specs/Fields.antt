-- Four samples in one number, and two sums of four samples in another.
use Rattle.std.specs.Prelude.{◌≡◌, ℕ, zero, suc, ◌+◌, ◌*◌, ◌-◌, ◌/◌, ◌%◌, ◌^◌, ◌<◌, ℤ, pos, neg_ℤ, ◌+ℤ◌, ◌-ℤ◌, ◌*ℤ◌}
use Rattle.taps.specs.declared.sizes.Sizes.{Sizes}

-- ---- four samples in one number, 16 bits each

abbrev pub sample_in : ℕ → ℕ → ℕ
sample_in x zero = x % 65536
sample_in x (suc zero) = x / 65536 % 65536
sample_in x (suc (suc zero)) = x / 4294967296 % 65536
sample_in x (suc (suc (suc i))) = x / 281474976710656

-- a number that holds these four samples
pub record Packed (x : ℕ) (s : ℕ → ℕ) : Type 0 where
  pub first : sample_in x 0 ≡ s 0
  pub second : sample_in x 1 ≡ s 1
  pub third : sample_in x 2 ≡ s 2
  pub fourth : sample_in x 3 ≡ s 3

-- all four are below 2^12
pub record Packed12 (x : ℕ) : Type 0 where
  pub first-ok : sample_in x 0 < 4096
  pub second-ok : sample_in x 1 < 4096
  pub third-ok : sample_in x 2 < 4096
  pub fourth-ok : sample_in x 3 < 4096

-- the first and the third of them, 32 bits apart, and the second and the fourth
abbrev pub evens : ℕ → ℕ
evens x = sample_in x 0 + 4294967296 * sample_in x 2

abbrev pub odds : ℕ → ℕ
odds x = sample_in x 1 + 4294967296 * sample_in x 3

-- ---- weights by their sizes

-- four numbers by the weights of these sizes
abbrev pub by_sizes : Sizes → ℤ → ℤ → ℤ → ℤ → ℤ
by_sizes z a b c d = neg_ℤ (pos z.s0) *ℤ a +ℤ pos z.s1 *ℤ b +ℤ pos z.s2 *ℤ c +ℤ neg_ℤ (pos z.s3) *ℤ d

-- ---- sums in fields of 32 bits

-- two samples, 32 bits apart
pub record Pair (x : ℕ) : Type 0 where
  pub low_small : x % 4294967296 < 4096
  pub high_small : x / 4294967296 < 4096

-- the sum of four samples, with 2^28 added
abbrev pub field : Sizes → ℕ → ℕ → ℕ → ℕ → ℕ
field z a b c d = 2 ^ 28 + z.s1 * b + z.s2 * c - (z.s0 * a + z.s3 * d)

-- two of them
abbrev pub fields : Sizes → ℕ → ℕ → ℕ → ℕ → ℕ
fields z a b c d =
    field z (a % 4294967296) (b % 4294967296) (c % 4294967296) (d % 4294967296)
    + 4294967296 * field z (a / 4294967296) (b / 4294967296) (c / 4294967296) (d / 4294967296)

-- four fields, two in each of two numbers, by weights that add up to 2^19: what was added to them comes to 2^47
abbrev pub of_fields : Sizes → ℕ → ℕ → ℤ
of_fields z e o =
    pos (z.s1 * (o % 4294967296) + z.s2 * (e / 4294967296)) -ℤ pos (z.s0 * (e % 4294967296) + z.s3 * (o / 4294967296)) -ℤ pos (2 ^ 47)
