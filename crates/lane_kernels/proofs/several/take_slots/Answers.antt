use Rattle.std.proofs.Common.{◌≡◌, ℕ, ◌+◌, ◌-◌, ◌*◌, ◌<◌, length, get_or}
use Rattle.lane_kernels.proofs.Cycles.{all_cycles, at_line}
use Rattle.lane_kernels.proofs.Rising.{other_line}
use Rattle.lane_kernels.proofs.several.take_slots.Goals as goal
use Rattle.lane_kernels.proofs.several.take_slots.Goals.{then-this-eq-OTU2_SLOTS, else-this-eq-OTU2_SLOTS}

pub returns : goal.returns
returns g c =
    let row = c.args.row.now in
    let slots = c.args.slots.now in
    let mid = c.if-this-eq-OTU2_SLOTS.into in
    let done = c.if-this-eq-OTU2_SLOTS.done in
    let first : (j p : ℕ) → j < done → p < length slots → get_or mid (length slots * j + p) 0 ≡ get_or row (g.row.SLOTS * j + (get_or slots p 0 - 1)) 0 =
    elim c.if-this-eq-OTU2_SLOTS.branch [
      | then-this-eq-OTU2_SLOTS w ↦ at_line row slots mid w.take_pairs-done.new.into g.row.SLOTS 8 done w.take_pairs-done.result w.if-this-eq-OTU2_SLOTS.true w.into-is w.done-is w.take_pairs-done.ensures.bytes
      | else-this-eq-OTU2_SLOTS w ↦ at_line row slots mid w.take_halves-done.new.into g.row.SLOTS 32 done w.take_halves-done.result (other_line g.row.SLOTS c.requires.line w.if-this-eq-OTU2_SLOTS.false) w.into-is w.done-is w.take_halves-done.ensures.bytes
    ] in
    all_cycles row slots mid c.take_cycles.new.into g.row.SLOTS done first c.take_cycles.ensures.before c.args.cycles c.take_cycles.ensures.rest
