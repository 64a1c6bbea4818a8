-- `aligned` meets its contract: one after the other.
use mathlib.Core.Path.{sym, subst}
use Rattle.strides.specs.FaceStrides.{FaceLeads}
use Rattle.strides.proofs.Aligning.{along-leads}
use Rattle.strides.proofs.Strides.aligned.Goals as goal

pub ahead-requires : goal.ahead-requires
ahead-requires c =
    let leads = along-leads c.args.guide c.requires.2 in
    (c.requires.0, c.requires.1, subst (FaceLeads c.args.size) (sym c.along.ensures) leads)
