use Rattle.std.proofs.Common.{ℕ, ◌+◌, ◌*◌}
use Rattle.lane_kernels.specs.Steps.Blocks.{bytes_from}
use Rattle.lane_kernels.proofs.Puts.{groups-here, groups-other}
use Rattle.lane_kernels.proofs.turn.block_together.Goals as goal

pub returns-clause-here : goal.returns-clause-here
unfolding bytes_from
returns-clause-here c =
    let f : ℕ → ℕ → ℕ = λ g b. bytes_from c.args.lists.now (c.args.at + c.args.count * b) g in
    groups-here f c.args.to c.args.step c.args.into.now c.store_groups.new.into
    (c.store_groups.ensures f (c.into_groups.ensures f c.load_bytes-block.ensures)) c.requires.step c.requires.into

pub returns-clause-others : goal.returns-clause-others
returns-clause-others c =
    let f : ℕ → ℕ → ℕ = λ g b. bytes_from c.args.lists.now (c.args.at + c.args.count * b) g in
    groups-other f c.args.to c.args.step c.args.into.now c.store_groups.new.into
    (c.store_groups.ensures f (c.into_groups.ensures f c.load_bytes-block.ensures))
