-- `acp_part` meets its contract: what the tables have is what adjusted positions ask for, and T + 32 is what they give.
use native.Mathlib.Omega.{arith}
use mathlib.Core.Path.{sym, ◌∙◌}
use Rattle.stretches.proofs.Adjusting.{sums-are, adjusted-positioned}
use Rattle.stretches.proofs.acp.acp_part.Goals as goal

pub adjusted_positions-requires : goal.adjusted_positions-requires
adjusted_positions-requires c =
    let s = c.args.stretch.stretch in (
      s.size-most,
      omega (arith, s.few, c.requires.lengths.1),
      c.requires.lengths.0 ∙ sym c.requires.lengths.1,
      sums-are s c.requires.numbers.0 c.requires.numbers.1 c.requires.lengths.1,
    )

pub returns-else-not-adjusted_positions : goal.returns-else-not-adjusted_positions
returns-else-not-adjusted_positions c =
    let a = c.adjusted_positions.ensures in (
      adjusted-positioned c.args.stretch.stretch c.requires.numbers.0 c.requires.numbers.1 c.requires.lengths.1
          (a.0 c.if-not-adjusted_positions.false),
      a.1,
    )
