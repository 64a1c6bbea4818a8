-- `curve` meets its contract: what passes below what does not is a bracket with nothing left between its ends.
use Rattle.std.proofs.Common.{rules, arith, ◌+◌, inl, inr}
use Rattle.cubemap.proofs.Curves.{bracket-end}
use Rattle.geometry.proofs.curve.Goals as goal

pub returns : goal.returns
returns c =
    bracket-end c.args.size c.args.k c.last_passing.result (c.last_passing.result + 1)
    (record {
      order = omega arith;
      top = omega arith;
      fits = elim c.last_passing.ensures.passed [ inl z ↦ rw z (omega arith) | inr p ↦ search rules ];
      over = λ h. elim c.last_passing.ensures.failed [ inl z ↦ absurd (omega arith) | inr p ↦ search rules ];
    })
    (omega arith)
