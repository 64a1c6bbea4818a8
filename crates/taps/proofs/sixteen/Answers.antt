-- `sixteen` meets its contract: the fields of the four columns, by the weights of the columns.
use mathlib.Core.Path.{◌∙◌}
use Rattle.arithmetic.proofs.Held.{read_result}
use Rattle.taps.proofs.Fields.{fields-cong, sixteen-are}
use Rattle.taps.proofs.sixteen.Goals as goal

pub returns : goal.returns
returns c =
    let p = c.requires in
    let z = c.sizes-z.result in
    read_result tt (
      c.of_fields.ensures.0
          ∙ sixteen-are z c.sizes.result c.args.w.balanced c.args.u.balanced c.sizes-z.ensures c.sizes.ensures p.0 p.1
          p.2 p.3
          (fields-cong z c.both-e.ensures c.even.ensures c.even-2.ensures c.even-3.ensures c.even-4.ensures)
          (fields-cong z c.both-o.ensures c.odd.ensures c.odd-2.ensures c.odd-3.ensures c.odd-4.ensures),
      c.of_fields.ensures.1,
    )
