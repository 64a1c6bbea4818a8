-- `put_signed` meets its contract: the bits of a signed number are its two's complement.
use mathlib.Core.Path.{◌≡◌, refl, ◌∙◌, ap}
use Prim.Native.Nat.{ℕ}
use lib.IntN.{ℤ, pos, negsuc}
use mir.Syntax.{w64}
use mir.Facts.{to_z-of_z}
use mir.Val.{of_z}
use Rattle.cubemap.specs.Interface.{twos_complement, put_at}
use Rattle.cubemap.proofs.Answers.{put-bits}
use Rattle.answers.proofs.put_signed.Goals as goal

bits : (v : ℤ) → of_z w64 v ≡ twos_complement v
bits (pos n) = refl
bits (negsuc n) = refl

pub returns : goal.returns
returns c =
    let a = c.args in
    c.put.ensures
    ∙ ap (λ (n : ℕ). put_at a.buffer.now a.k (pos n))
    (c.cast_unsigned.ensures ∙ ap (of_z w64) (to_z-of_z c.ranges.v) ∙ bits a.v)
    ∙ put-bits a.buffer.now a.k a.v
