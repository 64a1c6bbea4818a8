-- `shifted_acp` meets its contract: T + 32 is the numerator divided by d, and then by 50·d.
use mathlib.Core.Path.{sym, ◌∙◌, ap}
use Prim.Native.Nat.{◌*◌, ◌/◌}
use lib.IntN.{pos, ◌-ℤ◌}
use Rattle.cubemap.proofs.Positions.{position-acp}
use Rattle.positions.proofs.ratios.FaceRatio.shifted_acp.Goals as goal

pub returns : goal.returns
returns c =
    let r = c.args.self in
    position-acp r.size r.x r.d r.ratio.at-most-1 r.ratio.positive
    ∙ ap (λ n. pos (n / (50 * r.d)) -ℤ pos 32) (sym c.acp_first.ensures)
