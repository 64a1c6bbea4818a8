-- A part of a stretch, and a part of a table that is lent and put back.
use mathlib.Core.Path.{◌≡◌, refl, sym, ◌∙◌, ap, subst}
use mathlib.Core.Bool.{Bool, true, false}
use mathlib.Core.List.{List, ◌++◌}
use Prim.Native.Nat.{ℕ, ◌+◌, ◌-◌, ◌≤◌, ◌<◌}
use native.Mathlib.Omega.{arith}
use lib.Dec.{ltb, ltb→lt, nltb→le}
use lib.IntN.{ℤ, pos, nat_abs, ◌-ℤ◌}
use lib.ListN.{length, get_or, take, drop, get_or-append}
use lib.Seq.{length-take-le, get_or-append-add, get_or-take, get_or-drop}
use borrow.Rule.Slice.PartMut.{post_of, put_mid}
use Rattle.arithmetic.specs.ListParts.{part}
use Rattle.arithmetic.proofs.ListParts.{part_length, part_at}
use Rattle.arithmetic.proofs.Tests.{passes}
use Rattle.cubemap.specs.declared.Format.{Format}
use Rattle.cubemap.specs.RayToPlace.{position64}
use Rattle.positions.specs.declared.Line.{Line}
use Rattle.positions.specs.RayLines.{line_at, sum_line, coordinate_at, position_at, Positioned}
use Rattle.stretches.specs.Numbers.{Numbers}

-- ---- a part of a stretch

-- the entries before a do not matter
pub numbers-part : (coordinates : List ℤ) (a b : ℕ) → a ≤ b → b ≤ length coordinates → {line : Line} (table : List ℕ)
    → ((j : ℕ) → a ≤ j → j < length coordinates
    → get_or table j 0 ≡ nat_abs (line_at line (coordinate_at coordinates j)))
    → Numbers line (part a b coordinates) (part a b table)
numbers-part coordinates a b h l {line} table n = record {
  entry = λ j q.
      let i : j < b - a = omega (arith, part_length a b coordinates h l) in
      part_at a b table j 0 i ∙ n (a + j) (omega arith) (omega (arith, l))
      ∙ ap (λ z. nat_abs (line_at line z)) (sym (part_at a b coordinates j (pos 0) i));
}

-- ---- a part of a table, put back

module _ (a k : ℕ) (table new : List ℕ) (h : a ≤ length table) where
  abbrev whole : List ℕ
  whole = put_mid a k table new

  put-before : {j : ℕ} → j < a → get_or whole j 0 ≡ get_or table j 0
  put-before {j} l =
      get_or-append (take a table) (new ++ post_of a k table) 0 j (omega (arith, l, length-take-le a table h))
      ∙ get_or-take a table j 0 l

  from-part : (j : ℕ) → get_or whole (a + j) 0 ≡ get_or (new ++ post_of a k table) j 0
  from-part j =
      subst (λ n. get_or whole (n + j) 0 ≡ get_or (new ++ post_of a k table) j 0) (length-take-le a table h)
      (get_or-append-add (take a table) (new ++ post_of a k table) j 0)

  put-inside : {j : ℕ} → j < length new → get_or whole (a + j) 0 ≡ get_or new j 0
  put-inside {j} l = from-part j ∙ get_or-append new (post_of a k table) 0 j l

  put-after : length new ≡ k → (j : ℕ) → get_or whole (a + (k + j)) 0 ≡ get_or table (a + (k + j)) 0
  put-after e j =
      from-part (k + j)
      ∙ subst (λ n. get_or (new ++ post_of a k table) (n + j) 0 ≡ get_or (post_of a k table) j 0) e
      (get_or-append-add new (post_of a k table) j 0)
      ∙ get_or-drop k (drop a table) j 0 ∙ get_or-drop a table (k + j) 0

-- ---- part by part, each in the place of its sums

module _ (A : ℕ) (line distance : Line) (coordinates : List ℤ) where
  -- the positions before j are there, and the sums from j on
  pub record PartsDone (j : ℕ) (table : List ℕ) : Type 0 where
    pub done : (i : ℕ) → i < j → i < length coordinates
        → position_at Format.Acp A line distance coordinates i ≡ pos (get_or table i 0) -ℤ pos 32
    pub left : (i : ℕ) → j ≤ i → i < length coordinates
        → get_or table i 0 ≡ nat_abs (line_at (sum_line line distance) (coordinate_at coordinates i))

  -- one part more, from j on and before k, which is the end or no less than n
  pub part-done : (j k n : ℕ) (table new : List ℕ) → PartsDone j table → j ≤ k → k ≤ length coordinates
      → length coordinates ≤ length table → length new ≡ k - j
      → ((i : ℕ) → i < n → i < length coordinates → i < k) → k ≤ n
      → Positioned Format.Acp A line distance (part j k coordinates) new → PartsDone n (put_mid j (k - j) table new)
  part-done j k n table new f h l room as_many before past p = record {
    done = λ i m q. at-column i (before i m q) (ltb i j) refl;
    left = λ i g q. after (i - k) i (omega (arith, g, h, past)) ∙ f.left i (omega (arith, g, h, past)) q;
  }
    where
      inside : j ≤ length table
      inside = omega (arith, h, l, room)

      there : ℕ → Type 0
      there i =
          position_at Format.Acp A line distance coordinates i ≡ pos (get_or (put_mid j (k - j) table new) i 0) -ℤ pos 32

      new-column : (m i : ℕ) → j + m ≡ i → i < k → there i
      new-column m i is b =
          let q : m < k - j = omega (arith, is, b) in
          subst there is
          (ap (λ z. position64 Format.Acp A (line_at line z) (nat_abs (line_at distance z)))
          (sym (part_at j k coordinates m (pos 0) q))
          ∙ p.entry m (omega (arith, q, part_length j k coordinates h l))
          ∙ ap (λ n. pos n -ℤ pos 32) (sym (put-inside j (k - j) table new inside (omega (arith, q, as_many)))))

      at-column : (i : ℕ) → i < k → (t : Bool) → ltb i j ≡ t → there i
      at-column i m true u =
          let b = ltb→lt i j (passes u) in
          f.done i b (omega (arith, m, l)) ∙ ap (λ n. pos n -ℤ pos 32) (sym (put-before j (k - j) table new inside b))
      at-column i m false u =
          let g : j ≤ i = nltb→le i j (rw u tt) in
          new-column (i - j) i (omega (arith, g)) m

      after : (m i : ℕ) → j + (k - j + m) ≡ i → get_or (put_mid j (k - j) table new) i 0 ≡ get_or table i 0
      after m i is =
          subst (λ i. get_or (put_mid j (k - j) table new) i 0 ≡ get_or table i 0) is
          (put-after j (k - j) table new inside as_many m)
