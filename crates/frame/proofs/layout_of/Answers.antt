-- `layout_of` meets its contract: the twelve bytes, one after the other.
use Rattle.cubemap.proofs.Layouts.{layout-whole}
use Rattle.frame.proofs.layout_of.Goals as goal

pub returns : goal.returns
returns c =
    layout-whole c.args.bytes.now c.requires
