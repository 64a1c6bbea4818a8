-- `width_from` meets its contract: 2^40 more than the denominator of the first column, and what that moves by.
use mathlib.Core.Path.{◌≡◌, ◌∙◌, ap, ap₂}
use mathlib.Core.List.{[], ◌∷◌}
use Prim.Native.Nat.{ℕ, ◌+◌, ◌*◌}
use native.Mathlib.Omega.{arith}
use lib.IntN.{pos, nat_abs, ◌+ℤ◌, ◌-ℤ◌, ◌*ℤ◌}
use mir.Syntax.{w64}
use mir.Val.{of_z}
use Rattle.arithmetic.specs.Integers.{natural}
use Rattle.arithmetic.proofs.Held.{Held, held}
use Rattle.arithmetic.proofs.Ring.{Expr, var, con, ◌⊕◌, ◌⊗◌, solve}
use Rattle.positions.specs.declared.Line.{Line}
use Rattle.plain.specs.Walks.{width_at}
use Rattle.plain.proofs.Moves.{natural-is, twice-moves, rises, rises-small, falls, falls-small}
use Rattle.plain.proofs.width_from.Goals.{Start}
use Rattle.plain.proofs.width_from.Goals as goal

-- the expression of 2^40 more than the denominator at column i
abbrev width : Expr → Expr
width i = con (pos 1099511627776) ⊕ con (pos 2) ⊗ (var 0 ⊕ i ⊗ var 1)

first_width : (d : Line) {r : ℕ} → pos (nat_abs d.start) ≡ d.start → r ≡ natural d.start
    → pos (1099511627776 + 2 * r) ≡ width_at d 0
first_width d e is =
    ap (λ r. pos (1099511627776 + 2 * r)) (is ∙ natural-is d.start e) ∙ ap (λ z. pos 1099511627776 +ℤ pos 2 *ℤ z) e
    ∙ solve (d.start ∷ d.slope ∷ []) (con (pos 1099511627776) ⊕ con (pos 2) ⊗ var 0) (width (con (pos 0))) tt

width-next : (d : Line) (i : ℕ) → width_at d i +ℤ pos 2 *ℤ d.slope ≡ width_at d (i + 1)
width-next d i =
    solve (d.start ∷ d.slope ∷ pos i ∷ []) (width (var 2) ⊕ con (pos 2) ⊗ var 1) (width (var 2 ⊕ con (pos 1))) tt

module _ (c : Start) where
  abbrev d : Line
  d = c.args.d

  start : Held (of_z w64 d.start) d.start 1073741822
  start = held d.start c.requires.start_small tt

  slope : Held (of_z w64 d.slope) d.slope 2147483644
  slope = held d.slope c.requires.slope-small tt

pub returns : goal.returns
returns c =
    let o = (goal.at.returns c).Start in
    record {
      first = first_width (d o) o.requires.start-ahead (rises (start o) c.rise.ensures);
      next = λ i.
          ap₂ (λ u v. width_at (d o) i +ℤ (pos (2 * u) -ℤ pos (2 * v)))
          (rises (slope o) c.rise-2.ensures) (falls (slope o) tt c.rise-3.ensures)
          ∙ ap (λ z. width_at (d o) i +ℤ z) (twice-moves (d o).slope) ∙ width-next (d o) i;
      few = (
        omega (arith, rises-small (slope o) c.rise-2.ensures),
        omega (arith, falls-small (slope o) tt c.rise-3.ensures),
      );
    }
