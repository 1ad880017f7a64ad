use Rattle.std.proofs.Common.{ℕ, ◌+◌, ◌*◌}
use Rattle.lane_kernels.specs.Steps.Blocks.{bytes_from}
use Rattle.lane_kernels.proofs.Takes.{block_below, block_here}
use Rattle.lane_kernels.proofs.one_slot.take_block.Goals as goal

pub returns-clause-below : goal.returns-clause-below
returns-clause-below c = block_below c.args.into.now c.first_bytes-bytes.result c.args.to

pub returns-clause-here : goal.returns-clause-here
returns-clause-here c =
    let f : ℕ → ℕ → ℕ = λ g. bytes_from c.args.row.now (c.args.at + 8 * g) in
    block_here c.args.row.now c.args.into.now c.first_bytes-bytes.result c.args.at c.args.to c.requires.into (c.first_bytes-bytes.ensures f c.load_groups.ensures)
