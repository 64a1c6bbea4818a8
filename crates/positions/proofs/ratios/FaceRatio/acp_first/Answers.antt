-- `acp_first` meets its contract: with k = |x|, no difference goes below zero.
use mathlib.Core.Path.{◌≡◌, ◌∙◌, ap}
use native.Mathlib.Omega.{arith}
use lib.IntN.{nat_abs}
use borrow.Author.Rules.{rules}
use mir.Syntax.{w64}
use mir.Val.{SFits}
use mir.Facts.{to_z-of_z}
use Rattle.cubemap.proofs.Positions.{AcpFits, acp-fits}
use Rattle.positions.proofs.ratios.FaceRatio.acp_first.Goals.{After-unsigned_abs-k}
use Rattle.positions.proofs.ratios.FaceRatio.acp_first.Goals as goal

fits-x : (c : After-unsigned_abs-k) → SFits w64 c.args.self.x
fits-x c = search rules

module _ (c : After-unsigned_abs-k) where
  k-is : c.unsigned_abs-k.result ≡ nat_abs c.args.self.x
  k-is = c.unsigned_abs-k.ensures.value ∙ ap nat_abs (to_z-of_z (fits-x c))

  fits : AcpFits c.args.self.size c.unsigned_abs-k.result c.args.self.d
  fits = acp-fits c.args.self.size c.unsigned_abs-k.result c.args.self.d c.args.self.ratio.size-most
      (rw k-is c.args.self.ratio.at-most-1) c.args.self.ratio.positive c.args.self.ratio.bounded

pub overflow_sub-result : goal.overflow_sub-result
overflow_sub-result c = let f = fits (goal.at.overflow_sub-result c).After-unsigned_abs-k in omega arith

pub overflow_sub-result-else-self-lt0 : goal.overflow_sub-result-else-self-lt0
overflow_sub-result-else-self-lt0 c =
    let f = fits (goal.at.overflow_sub-result-else-self-lt0 c).After-unsigned_abs-k in omega arith

pub overflow_sub-result-else-self-lt0-3 : goal.overflow_sub-result-else-self-lt0-3
overflow_sub-result-else-self-lt0-3 c =
    let f = fits (goal.at.overflow_sub-result-else-self-lt0-3 c).After-unsigned_abs-k in omega arith
