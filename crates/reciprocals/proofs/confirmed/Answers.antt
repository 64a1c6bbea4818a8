-- `confirmed` meets its contract: where the bits of all columns are small, each column's are, and its guess is near.
use Rattle.std.proofs.Common.{rules}
use native.Mathlib.Omega.{arith}
use lib.Dec.{ltb, ltb→lt}
use lib.ListN.{get_or}
use Prim.Native.Nat.{◌*◌, ◌%◌, ◌^◌, ◌<◌}
use mathlib.Core.Path.{subst}
use Rattle.arithmetic.proofs.Bits.{or_left, or_right}
use Rattle.arithmetic.proofs.Filling.{entries_next}
use Rattle.arithmetic.proofs.Tests.{passes, and_left, and_right}
use Rattle.reciprocals.specs.Reciprocals.{Reciprocal}
use Rattle.reciprocals.proofs.Confirming.{scaled, remainder-near, gathered-all}
use Rattle.reciprocals.proofs.confirmed.Goals as goal

pub loop-j-preserved : goal.loop-j-preserved
loop-j-preserved c u w i h =
    let bits = c.remainder_bits-remainders in
    let near = remainder-near c.args.shift c.dividend-top.result c.from-distance.result c.improved-nearer.result
    c.dividend-top.ensures.0 (bits.ensures (omega (arith, u, or_right c.loop-j.remainders bits.result)))
    (omega (arith, w, or_right c.loop-j.sizes c.from-distance.result)) in
    let before = c.loop-j.invariant (omega (arith, u, or_left c.loop-j.remainders bits.result))
    (omega (arith, w, or_left c.loop-j.sizes c.from-distance.result)) in
    entries_next {from = 0} c.loop-j.guesses c.improved-nearer.result 0
    (λ i. Reciprocal c.args.shift (get_or c.args.distances.each.now i 0)) (omega arith) (λ i _ h. before i h)
    (subst (λ d. Reciprocal c.args.shift d c.improved-nearer.result) c.from-distance.ensures near) i (omega arith) h

pub returns : goal.returns
returns c =
    let l = c.loop-j in
    let remainders = ltb l.remainders 4611686018427387904 in
    let sizes = ltb l.sizes ((2 * 2 ^ c.args.shift) % 2 ^ 64) in (
      (λ e. gathered-all _ _ l.invariant (omega arith)
          (ltb→lt _ _ (and_left remainders sizes (passes e)))
          (subst (λ n. l.sizes < n) (scaled 2 c.args.shift (omega arith) c.requires.0)
          (ltb→lt _ _ (and_right remainders sizes (passes e))))),
      search rules,
    )
