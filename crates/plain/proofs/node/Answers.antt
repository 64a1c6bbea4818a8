-- `node` meets its contract: nothing overflows, because no sum exceeds twice the distance.
use Prim.Native.Nat.{ℕ, ◌*◌, ◌/◌, ◌≤◌, ◌<◌}
use native.Mathlib.Nat.{div-add-mod', mul-le-mul_right}
use native.Mathlib.Omega.{arith}
use Rattle.plain.proofs.node.Goals as goal

-- a sum by the quotient
product_small : {A s d : ℕ} → A ≤ 512 → 0 < d → s ≤ 2 * d → s * (A * 9007199254740992 / d) ≤ 9223372036854775808
product_small {A} {s} {d} a p h =
    let r : ℕ = A * 9007199254740992 / d in
    let m : s * r ≤ 2 * d * r = mul-le-mul_right r h in
    omega (arith, div-add-mod' (A * 9007199254740992) d)

pub overflow_mul-column : goal.overflow_mul-column
overflow_mul-column c = record { fits = omega (arith, product_small c.requires.1 c.requires.2 c.requires.3) }

pub overflow_mul-row : goal.overflow_mul-row
overflow_mul-row c = record { fits = omega (arith, product_small c.requires.1 c.requires.2 c.requires.4) }
