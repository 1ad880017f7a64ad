use Rattle.std.proofs.Common.{◌≡◌, ◌+◌, ◌-◌, ◌++◌, length, take, ap, ◌∙◌, arith}
use Rattle.trib_sink.proofs.Runs.{behind}
use Rattle.trib_sink.proofs.extract.put_cycle.Goals as goal

pub returns-clause-bytes : goal.returns-clause-bytes
returns-clause-bytes g c =
    let end = c.args.at + c.count.result in
    behind c.args.into.now c.take_group.new.into c.args.at (end - c.args.at) end (omega arith) (let e : end ≡ c.args.at + length c.take_group.new.into = omega arith in e)
    ∙ ap (λ ys. take c.args.at c.args.into.now ++ ys) c.take_group.ensures
