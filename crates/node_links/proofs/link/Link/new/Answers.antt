use Rattle.std.proofs.Common.{◌≡◌, ◌∙◌, sym, subst}
use Rattle.plan_file.specs.declared.connection.Connection.{Connection}
use Rattle.cross_matrix.specs.Pipes.{IsPipeOf}
use Rattle.cross_matrix.proofs.FitEntries.{entry_at}
use Rattle.node_links.proofs.link.Link.new.Goals as goal

pub invariant_of-result : goal.invariant_of-result
invariant_of-result c =
    let y = c.index-as_slice-i.result in
    let there = entry_at c.args.plan.now c.args.i y c.as_slice.result.now c.as_slice.ensures c.requires.entry c.index-as_slice-i.is in
    record { of_entry = ∣ subst (λ (x : Connection). IsPipeOf x c.in_ok-pipe.pipe) (sym c.in_ok-entry.ensures) (c.in_ok-pipe.ensures y there) ∣₁ }

pub returns : goal.returns
returns c = λ x known.
    let y = c.index-as_slice-i.result in
    let there = entry_at c.args.plan.now c.args.i y c.as_slice.result.now c.as_slice.ensures c.requires.entry c.index-as_slice-i.is in
    let same : y ≡ x = cc (sym there ∙ known) in
    record {
      entry = c.in_ok-entry.ensures ∙ same;
      first = ((c.accepted_plans.ensures c.args.plan.now c.requires.accepted).entries c.args.i x known).start;
      pipe = c.in_ok-pipe.ensures x known;
    }
