use Rattle.std.proofs.Common.{◌<◌, ◌∙◌, length, rules}
use Rattle.network_view.proofs.Ways.{last_at}
use Rattle.network_view.proofs.lines.last_of.Goals as goal

pub returns : goal.returns
returns c =
    let some : 0 < length c.args.rest.now = search rules in
    c.index-rest-rest.is ∙ last_at c.args.first.now c.args.rest.now c.index-rest-rest.result some
