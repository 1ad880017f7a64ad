use Rattle.std.proofs.Common.{◌≡◌, ◌+◌, ◌-◌, ◌++◌, length, take, ap, ◌∙◌, arith}
use Rattle.trib_sink.proofs.Runs.{behind}
use Rattle.trib_sink.proofs.OwnBytes.{no_run, own_run}
use Rattle.trib_sink.proofs.extract.put_bytes.Goals as goal

pub returns-then-count-eq0-clause-bytes : goal.returns-then-count-eq0-clause-bytes
returns-then-count-eq0-clause-bytes c = no_run c.args.own.now (take c.args.at c.args.into.now) c.args.first c.args.count c.if-count-eq0.true

pub returns-clause-bytes : goal.returns-clause-bytes
returns-clause-bytes c =
    let end = c.args.at + c.args.count in
    let new = c.copy_from_slice.new.self in
    behind c.args.into.now new c.args.at (end - c.args.at) end (omega arith) (let e : end ≡ c.args.at + length new = omega arith in e)
    ∙ ap (λ ys. take c.args.at c.args.into.now ++ ys) (own_run c.args.own.now new c.args.first c.args.count c.requires.bytes c.copy_from_slice.ensures.after)
