use Rattle.std.proofs.Common.{◌≡◌, ◌<◌, Some, length, slice_get, refl, arith, subst}
use Rattle.std.proofs.lemmas.Option.{slice_get_read}
use Rattle.node_moments.specs.NodeView.{NodeView}
use Rattle.node_core.specs.Settling.{IsLineCounts}
use Rattle.node_core.proofs.NodeReads.{counts_told}
use Rattle.node_core.proofs.node.Node.line_counts.Goals as goal

pub returns : goal.returns
returns c =
    let lines = c.self.inside.lines_in.items in
    let within : c.args.n < length lines = (let count = c.self.invariant.lines_in in let less = c.requires in omega arith) in
    let known : slice_get lines c.args.n ≡ Some c.index.result.now = slice_get_read lines (length lines) c.args.n c.index.result.now refl within c.index.ensures in
    subst (λ (node : NodeView). IsLineCounts node c.args.n c.counts.result) c.self.view_is (counts_told _ c.args.n c.index.result.now c.counts.result known c.counts.ensures.line)
