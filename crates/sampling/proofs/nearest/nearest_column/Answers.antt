-- `nearest_column` meets its contract: the 64th part of T + 32 is the column, and beyond the last column the last.
use mathlib.Core.Path.{◌≡◌, refl, sym, ◌∙◌, ap, subst}
use mathlib.Core.Bool.{Bool, true, false, cond}
use Prim.Native.Nat.{ℕ, ◌-◌, ◌/◌, ◌<◌}
use native.Mathlib.Omega.{arith}
use mir.Val.{bool_byte}
use lib.Dec.{eqb, eqb→eq}
use Rattle.arithmetic.proofs.Tests.{passes}
use Rattle.cubemap.proofs.Nearest.{nearest-shifted, nearest-below}
use Rattle.cubic.specs.PositionTables.{position_of}
use Rattle.sampling.proofs.nearest.nearest_column.Goals as goal

-- one less, where the column c is beyond the last
one_less : (A c : ℕ) → c - bool_byte (eqb c A) ≡ cond (eqb c A) (A - 1) c
one_less A c = go (eqb c A) refl
  where
    go : (b : Bool) → eqb c A ≡ b → c - bool_byte b ≡ cond b (A - 1) c
    go true e = ap (λ n. n - 1) (eqb→eq c A (passes e))
    go false e = omega arith

pub returns : goal.returns
returns c =
    let A = c.args.size in
    let q = c.args.position in
    let column = ap (λ n. q / 64 - n) c.from.ensures ∙ one_less A (q / 64) in (
      column ∙ sym (nearest-shifted A q (position_of q) refl),
      subst (λ n. n < A) (sym column) (nearest-below A q c.requires.0 c.requires.1),
    )
