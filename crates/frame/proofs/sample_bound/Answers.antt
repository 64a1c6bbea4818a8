-- `sample_bound` meets its contract: 2^D is at most 2^12, so that nothing is shifted out.
use Prim.Native.Nat.{◌^◌, ◌≤◌}
use native.Mathlib.Omega.{arith}
use Rattle.cubemap.proofs.Passed.{depth-range, depth-levels}
use Rattle.frame.proofs.sample_bound.Goals as goal

pub returns : goal.returns
returns c =
    let h : 2 ^ c.args.depth ≤ 2 ^ 12 = depth-levels c.args.depth c.requires in
    (omega arith, omega arith)

pub overflow_shl-result : goal.overflow_shl-result
overflow_shl-result c = omega (arith, (depth-range c.args.depth c.requires).at_most)
