-- The lines of a stretch: the distance and the sum of a line and the distance are never negative, and along evenly
-- spaced columns they are walks.
use mathlib.Core.Path.{◌≡◌, sym, ◌∙◌, ap, ap₂, subst, subst₂}
use mathlib.Core.List.{List, [], ◌∷◌}
use Prim.Native.Nat.{ℕ, ◌*◌, ◌≤◌, ◌<◌}
use native.Mathlib.Omega.{arith}
use lib.IntN.{ℤ, pos, nat_abs, ◌+ℤ◌, ◌-ℤ◌, ◌*ℤ◌}
use lib.ListN.{length}
use Rattle.arithmetic.proofs.Sizes.{nat_abs-add, nat_abs_mul, Lifted, lifted}
use Rattle.arithmetic.proofs.Ring.{var, con, ◌⊕◌, ◌⊗◌, ◌⊝◌, solve}
use Rattle.cubemap.specs.declared.Format.{Format}
use Rattle.cubemap.specs.RayToPlace.{position64}
use Rattle.plain.specs.Walks.{walk, walk_at, Forward, Walks, Plain}
use Rattle.positions.specs.declared.Line.{Line}
use Rattle.positions.specs.RayLines.{line_at, sum_line, coordinate_at, LineInRange, Stretch, Positioned}
use Rattle.stretches.specs.Numbers.{Wide, Ahead, Evenly}

in-range-wide : (l : Line) → LineInRange l → Wide l
in-range-wide l e = record {
  start_small = omega (arith, e.start_small);
  slope-small = omega (arith, e.slope-small);
}

sum-wide : (a b : Line) → LineInRange a → LineInRange b → Wide (sum_line a b)
sum-wide a b e f = record {
  start_small = omega (arith, nat_abs-add a.start b.start, e.start_small, f.start_small);
  slope-small = omega (arith, nat_abs-add a.slope b.slope, e.slope-small, f.slope-small);
}

sum-at : (a b : Line) (z : ℤ) → line_at (sum_line a b) z ≡ line_at a z +ℤ line_at b z
sum-at a b z =
    solve (a.start ∷ a.slope ∷ b.start ∷ b.slope ∷ z ∷ [])
    (var 0 ⊕ var 2 ⊕ var 4 ⊗ (var 1 ⊕ var 3)) (var 0 ⊕ var 4 ⊗ var 1 ⊕ (var 2 ⊕ var 4 ⊗ var 3)) tt

module _ {A : ℕ} {line distance : Line} {coordinates : List ℤ} (s : Stretch A line distance coordinates) where
  -- at a column
  module _ (j : ℕ) (q : j < length coordinates) where
    abbrev z : ℤ
    z = coordinate_at coordinates j

    abbrev D : ℕ
    D = nat_abs (line_at distance z)

    w : Lifted (line_at line z) D
    w = lifted (line_at line z) D (s.ratio j q).at-most-1

    sum_is : line_at (sum_line line distance) z ≡ pos w.lift
    sum_is = sum-at line distance z ∙ ap (λ d. line_at line z +ℤ d) (sym (s.ahead j q)) ∙ w.is

    pub sum-most : nat_abs (line_at (sum_line line distance) z) ≤ 2 * D
    sum-most = subst (λ z. nat_abs z ≤ 2 * D) (sym sum_is) (omega (arith, w.high, (s.ratio j q).at-most-1))

    -- the line is what the sum has more than the distance
    pub less-distance : line_at (sum_line line distance) z -ℤ line_at distance z ≡ line_at line z
    less-distance = ap (λ y. y -ℤ line_at distance z) (sum-at line distance z)
        ∙ solve (line_at line z ∷ line_at distance z ∷ []) (var 0 ⊕ var 1 ⊝ var 1) (var 0) tt

  pub distance-ahead : Ahead distance coordinates
  distance-ahead = record {
    wide = in-range-wide distance s.distance-ok;
    few = s.few;
    small = s.small;
    ahead = s.ahead;
    most = λ j q. omega (arith, (s.ratio j q).bounded);
  }

  pub sum-ahead : Ahead (sum_line line distance) coordinates
  sum-ahead = record {
    wide = sum-wide line distance s.line_ok s.distance-ok;
    few = s.few;
    small = s.small;
    ahead = λ j q. subst (λ y. pos (nat_abs y) ≡ y) (sym (sum_is j q)) (λ i. pos (w j q).lift);
    most = λ j q. omega (arith, sum-most j q, (s.ratio j q).bounded);
  }

-- ---- along evenly spaced columns

-- the numbers of a line from column z on
abbrev pub walk_of : Line → ℤ → Line
walk_of l z = walk (line_at l z) (pos 2 *ℤ l.slope)

walk_is : (l : Line) (z : ℤ) (i : ℕ) → walk_at (walk_of l z) i ≡ line_at l (z +ℤ pos (2 * i))
walk_is l z i =
    solve (l.start ∷ l.slope ∷ z ∷ pos i ∷ []) (var 0 ⊕ var 2 ⊗ var 1 ⊕ var 3 ⊗ (con (pos 2) ⊗ var 1))
    (var 0 ⊕ (var 2 ⊕ con (pos 2) ⊗ var 3) ⊗ var 1) tt

module _ {coordinates : List ℤ} (h : 0 < length coordinates) (e : Evenly coordinates) where
  abbrev first : ℤ
  first = coordinate_at coordinates 0

  walk_along : (l : Line) (i : ℕ) → i < length coordinates
      → walk_at (walk_of l first) i ≡ line_at l (coordinate_at coordinates i)
  walk_along l i k = walk_is l first i ∙ ap (line_at l) (sym (e.even i k))

  forward : {l : Line} → Ahead l coordinates → Forward (walk_of l first) (length coordinates)
  forward {l} a = record {
    in-range = record {
      start_small = a.most 0 h;
      start-ahead = a.ahead 0 h;
      slope-small = omega (arith, nat_abs_mul (pos 2) l.slope, a.wide.slope-small);
    };
    ahead = λ i k. subst (λ y. pos (nat_abs y) ≡ y) (sym (walk_along l i k)) (a.ahead i k);
  }

  module _ {A : ℕ} {line distance : Line} (s : Stretch A line distance coordinates) where
    pub walks : Walks A (walk_of (sum_line line distance) first) (walk_of distance first) (length coordinates)
    walks = record {
      size-most = s.size-most;
      count-least = h;
      count_most = s.few;
      sums = forward (sum-ahead s);
      distances = forward (distance-ahead s);
      positive = λ i k. subst (λ y. 0 < nat_abs y) (sym (walk_along distance i k)) (s.ratio i k).positive;
      bounded = λ i k. subst (λ y. nat_abs y ≤ 536870911) (sym (walk_along distance i k)) (s.ratio i k).bounded;
      ratio = λ i k.
          subst₂ (λ x y. nat_abs x ≤ 2 * nat_abs y) (sym (walk_along (sum_line line distance) i k))
          (sym (walk_along distance i k)) (sum-most s i k);
    }

    pub plain-positioned : {table : List ℕ}
        → Plain A (walk_of (sum_line line distance) first) (walk_of distance first) (length coordinates) table
        → Positioned Format.Cmp A line distance coordinates table
    plain-positioned p = record {
      entry = λ i k.
          ap₂ (λ x d. position64 Format.Cmp A x (nat_abs d))
          (sym (less-distance s i k)
          ∙ ap₂ ◌-ℤ◌ (sym (walk_along (sum_line line distance) i k)) (sym (walk_along distance i k)))
          (sym (walk_along distance i k))
          ∙ p.entry i k;
    }
