use Rattle.std.proofs.Common.{◌≡◌, ◌∙◌, sym, subst}
use Rattle.std.specs.Prelude.{IfOk}
use Rattle.plan_file.specs.declared.connection.Connection.{Connection}
use Rattle.cross_matrix.specs.Pipes.{IsPipeOf}
use Rattle.cross_matrix.proofs.FitEntries.{entry_at, entry_fits}
use Rattle.cross_matrix.proofs.pipe.Pipe.new.Goals as goal

pub pipe_of-requires : goal.pipe_of-requires
pipe_of-requires c =
    let plan = c.args.plan.now in
    let x = c.index-as_slice-i.result in
    let there = entry_at plan c.args.i x c.as_slice.result.now c.as_slice.ensures c.requires.entry c.index-as_slice-i.is in
    record { fit = entry_fits plan c.args.i x (c.accepted_plans.ensures plan c.requires.accepted) there }

pub returns : goal.returns
returns c = λ x known.
    let y = c.index-as_slice-i.result in
    let there = entry_at c.args.plan.now c.args.i y c.as_slice.result.now c.as_slice.ensures c.requires.entry c.index-as_slice-i.is in
    let same : y ≡ x = cc (sym there ∙ known) in
    subst (λ (z : Connection). IfOk c.pipe_of.result (IsPipeOf z)) same c.pipe_of.ensures
