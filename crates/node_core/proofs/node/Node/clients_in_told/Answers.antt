use Rattle.std.proofs.Common.{rules, arith, ◌∙◌}
use Rattle.std.proofs.lemmas.List.{length-set}
use Rattle.device_model.specs.RunNumbers.{client_in_numbers, no_client_in}
use Rattle.node_core.specs.Settling.{IsClientInCount}
use Rattle.node_core.proofs.Told.{told_more}
use Rattle.node_core.proofs.node.Node.clients_in_told.Goals as goal

pub loop-n-preserved : goal.loop-n-preserved
loop-n-preserved c = record {
  size = length-set c.loop-n.told c.loop-n.n c.client_in_counts.result ∙ c.loop-n.invariant.size;
  told = told_more (λ m counts. IsClientInCount c.args.self.now m (client_in_numbers counts)) c.loop-n.told c.loop-n.n c.client_in_counts.result no_client_in (search rules) c.loop-n.invariant.told c.client_in_counts.ensures;
}

pub returns : goal.returns
returns c = λ n less. c.loop-n.invariant.told n (let test = c.loop-n-test.false in omega (arith, less))
