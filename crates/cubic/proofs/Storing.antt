-- Values stored one after the other, each at the index that is its number.
use mathlib.Core.Path.{◌≡◌, sym, ◌∙◌, ap, ap₂}
use mathlib.Core.List.{List}
use Prim.Native.Nat.{ℕ, ◌+◌, ◌*◌, ◌-◌, ◌≤◌, ◌<◌}
use native.Mathlib.Omega.{arith}
use lib.ListN.{length}
use lib.Seq.{sets}
use Rattle.cubemap.specs.Interface.{little_endian}
use Rattle.cubemap.specs.Frames.{framed}
use Rattle.cubemap.proofs.Framed.{framed-cong}
use Rattle.frame.specs.Placing.{placed}
use Rattle.frame.proofs.Placing.{placed-none, placed-length, placed-next, placed-run, placed-cong, placed-all}
use Rattle.cubic.specs.InsideTaps.{Stored}

-- none yet
pub stored-none : (g : ℕ → ℕ) (from : ℕ) (bytes : List ℕ) → 2 * from ≤ length bytes → Stored g from from bytes bytes
stored-none g from bytes h = record {
  from_on = omega arith;
  fits = h;
  holds = sym (ap (placed 2 bytes from (λ j. g (from + j))) none ∙ placed-none 2 bytes from (λ j. g (from + j)));
}
  where
    none : from - from ≡ 0
    none = omega arith

module _ {g : ℕ → ℕ} {from j : ℕ} {before now : List ℕ} (w : Stored g from j before now) where
  -- the length stays
  pub stored-length : length now ≡ length before
  stored-length =
      ap length w.holds
      ∙ placed-length 2 before from (λ j. g (from + j)) (j - from) (omega (arith, w.from_on, w.fits))

  -- one more
  pub stored_next : {after : List ℕ} {v : ℕ} → 2 * (j + 1) ≤ length before → v ≡ g j
      → after ≡ sets now (2 * j) (little_endian 2 v) → Stored g from (j + 1) before after
  stored_next {after} {v} l e d = record {
    from_on = omega (arith, w.from_on);
    fits = l;
    holds = d
        ∙ ap₂ (λ bytes n. sets bytes (2 * j) (little_endian 2 n)) w.holds (e ∙ ap g number)
        ∙ ap (λ i. sets (placed 2 before from rest (j - from)) (2 * i) (little_endian 2 (rest (j - from)))) number
        ∙ placed-next 2 before from rest (j - from) (omega (arith, w.from_on))
        ∙ ap (placed 2 before from rest) count;
  }
    where
      rest : ℕ → ℕ
      rest i = g (from + i)

      number : j ≡ from + (j - from)
      number = omega (arith, w.from_on)

      count : j - from + 1 ≡ j + 1 - from
      count = omega (arith, w.from_on)

  -- another run
  pub stored-run : {k : ℕ} {after : List ℕ} → Stored g j k now after → Stored g from k before after
  stored-run {k} {after} v = record {
    from_on = omega (arith, w.from_on, v.from_on);
    fits = omega (arith, v.fits, stored-length);
    holds = v.holds
        ∙ ap (λ bytes. placed 2 bytes j (λ i. g (j + i)) (k - j)) w.holds
        ∙ placed-cong 2 (placed 2 before from rest (j - from)) j (λ i. g (j + i)) further (k - j)
        (λ i n. ap g (number i))
        ∙ ap (λ i. placed 2 (placed 2 before from rest (j - from)) i further (k - j)) index
        ∙ placed-run 2 before from rest (j - from) (k - j)
        (omega (arith, w.from_on, v.from_on, v.fits, stored-length))
        ∙ ap (placed 2 before from rest) count;
  }
    where
      rest : ℕ → ℕ
      rest i = g (from + i)

      further : ℕ → ℕ
      further i = rest (j - from + i)

      number : (i : ℕ) → j + i ≡ from + (j - from + i)
      number i = omega (arith, w.from_on)

      index : j ≡ from + (j - from)
      index = omega (arith, w.from_on)

      count : j - from + (k - j) ≡ k - from
      count = omega (arith, w.from_on, v.from_on)

  -- with other values that are the same
  pub stored-cong : (f : ℕ → ℕ) → ((i : ℕ) → from ≤ i → i < j → g i ≡ f i) → Stored f from j before now
  stored-cong f h = record {
    from_on = w.from_on;
    fits = w.fits;
    holds = w.holds ∙ placed-cong 2 before from (λ i. g (from + i)) (λ i. f (from + i)) (j - from)
        (λ i l. h (from + i) (omega arith) (omega (arith, w.from_on)));
  }

-- the first j of n values are stored, whatever the bytes were before
pub record FirstStored (g : ℕ → ℕ) (n j : ℕ) (now : List ℕ) : Type 0 where
  pub before : List ℕ
  pub whole : length before ≡ 2 * n
  pub stored : Stored g 0 j before now

pub first-none : {g : ℕ → ℕ} {n : ℕ} {bytes : List ℕ} → length bytes ≡ 2 * n → FirstStored g n 0 bytes
first-none {g} {bytes = bytes} e = record { before = bytes; whole = e; stored = stored-none g 0 bytes (omega arith) }

module _ {g : ℕ → ℕ} {n j : ℕ} {now : List ℕ} (w : FirstStored g n j now) where
  pub first-length : length now ≡ 2 * n
  first-length = stored-length w.stored ∙ w.whole

  -- one more, and another run
  pub first_next : {v : ℕ} {after : List ℕ} → j < n → v ≡ g j → after ≡ sets now (2 * j) (little_endian 2 v)
      → FirstStored g n (j + 1) after
  first_next l e d =
      record { before = w.before; whole = w.whole; stored = stored_next w.stored (omega (arith, w.whole)) e d }

  pub first_run : {k : ℕ} {after : List ℕ} → Stored g j k now after → FirstStored g n k after
  first_run r = record { before = w.before; whole = w.whole; stored = stored-run w.stored r }

  -- all of them
  pub first-all : n ≤ j → now ≡ framed 2 g n
  first-all l =
      w.stored.holds ∙ ap (placed 2 w.before 0 (λ i. g (0 + i))) last
      ∙ placed-all 2 w.before (λ i. g (0 + i)) n w.whole
      ∙ framed-cong 2 (λ i. g (0 + i)) g n (λ i h. ap g (number i))
    where
      number : (i : ℕ) → 0 + i ≡ i
      number i = omega arith

      last : j - 0 ≡ n
      last = omega (arith, w.stored.fits, w.whole)
