use Rattle.std.proofs.Common.{ℕ, ◌+◌, ◌*◌}
use Rattle.lane_kernels.specs.Steps.Blocks.{bytes_from}
use Rattle.lane_kernels.proofs.Puts.{bytes-here, bytes-other}
use Rattle.lane_kernels.proofs.turn.block_apart.Goals as goal

pub returns-clause-here : goal.returns-clause-here
unfolding bytes_from
returns-clause-here c =
    let f : ℕ → ℕ → ℕ = λ g. bytes_from c.args.row.now (c.args.at + c.args.step * g) in
    bytes-here f c.args.to c.args.count c.args.into.now c.store_bytes.new.into
    (c.store_bytes.ensures f (c.into_bytes.ensures f c.load_groups-block.ensures)) c.requires.count c.requires.into

pub returns-clause-others : goal.returns-clause-others
returns-clause-others c =
    let f : ℕ → ℕ → ℕ = λ g. bytes_from c.args.row.now (c.args.at + c.args.step * g) in
    bytes-other f c.args.to c.args.count c.args.into.now c.store_bytes.new.into
    (c.store_bytes.ensures f (c.into_bytes.ensures f c.load_groups-block.ensures))
