use Rattle.std.proofs.Common.{rules, arith, ◌∙◌}
use Rattle.std.proofs.lemmas.List.{length-set}
use Rattle.device_model.specs.RunNumbers.{client_out_numbers, no_client_out}
use Rattle.node_core.specs.Settling.{IsClientOutCount}
use Rattle.node_core.proofs.Told.{told_more}
use Rattle.node_core.proofs.node.Node.clients_out_told.Goals as goal

pub loop-n-preserved : goal.loop-n-preserved
loop-n-preserved c = record {
  size = length-set c.loop-n.told c.loop-n.n c.client_out_counts.result ∙ c.loop-n.invariant.size;
  told = told_more (λ m counts. IsClientOutCount c.args.self.now m (client_out_numbers counts)) c.loop-n.told c.loop-n.n c.client_out_counts.result no_client_out (search rules) c.loop-n.invariant.told c.client_out_counts.ensures;
}

pub returns : goal.returns
returns c = λ n less. c.loop-n.invariant.told n (let test = c.loop-n-test.false in omega (arith, less))
