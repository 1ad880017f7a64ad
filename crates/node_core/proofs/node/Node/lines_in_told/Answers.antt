use Rattle.std.proofs.Common.{rules, arith, ◌∙◌}
use Rattle.std.proofs.lemmas.List.{length-set}
use Rattle.device_model.specs.RunNumbers.{no_counts}
use Rattle.node_core.specs.Settling.{IsLineCounts}
use Rattle.node_core.proofs.Told.{told_more}
use Rattle.node_core.proofs.node.Node.lines_in_told.Goals as goal

pub loop-a-preserved : goal.loop-a-preserved
loop-a-preserved c = record {
  size = length-set c.loop-a.told c.loop-a.a c.line_counts.result ∙ c.loop-a.invariant.size;
  told = told_more (λ m counts. IsLineCounts c.args.self.now m counts) c.loop-a.told c.loop-a.a c.line_counts.result no_counts (search rules) c.loop-a.invariant.told c.line_counts.ensures;
}

pub returns : goal.returns
returns c = λ a less. c.loop-a.invariant.told a (let test = c.loop-a-test.false in omega (arith, less))
