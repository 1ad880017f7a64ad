use Rattle.std.proofs.Common.{◌≡◌, ◌+◌, ◌-◌, ◌*◌, ◌++◌, length, take, ap, ◌∙◌, arith}
use Rattle.trib_sink.proofs.Runs.{behind}
use Rattle.trib_sink.proofs.extract.put_cycles.Goals as goal

pub returns-clause-bytes : goal.returns-clause-bytes
returns-clause-bytes g c =
    let end = c.args.at + c.count.result * c.args.count in
    let many : c.count.result * c.args.count ≡ length c.args.slots.now.list * c.args.count = ap (λ m. m * c.args.count) c.count.ensures.count in
    behind c.args.into.now c.take_groups.new.into c.args.at (end - c.args.at) end (omega arith) (let e : end ≡ c.args.at + length c.take_groups.new.into = omega arith in e)
    ∙ ap (λ ys. take c.args.at c.args.into.now ++ ys) c.take_groups.ensures
