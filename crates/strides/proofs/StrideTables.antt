-- A table of the strides of six faces that a loop fills, face by face.
use mathlib.Core.Path.{sym, subst}
use mathlib.Core.List.{List}
use Prim.Native.Nat.{ℕ, ◌+◌, ◌<◌}
use native.Mathlib.Omega.{arith}
use borrow.Author.Count.{below_more}
use lib.IntN.{pos}
use lib.ListN.{length, set}
use lib.Seq.{get_or-set_same, get_or-set_other}
use Rattle.strides.specs.declared.Strides.{Strides}
use Rattle.strides.specs.FaceStrides.{strides_in}
use Rattle.strides.proofs.StrideIndices.{strides}

-- the strides of one more face are stored, with what is asked of them
pub stored-next : (Good : ℕ → Strides → Type 0) (table : List Strides) (face : ℕ) (s : Strides) → face < length table
    → ((f : ℕ) → f < face → Good f (strides_in table f)) → Good face s
    → (f : ℕ) → f < face + 1 → Good f (strides_in (set table face s) f)
stored-next Good table face s room before here =
    below_more _ _
    (λ f h. subst (Good f) (sym (get_or-set_other table face f s none (λ e. absurd (omega arith)))) (before f h))
    (subst (Good face) (sym (get_or-set_same table face s none room)) here)
  where
    none : Strides
    none = strides (pos 0) (pos 0) (pos 0)
