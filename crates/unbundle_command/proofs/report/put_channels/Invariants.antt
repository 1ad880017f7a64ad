use Rattle.std.proofs.Common.{◌≡◌, ◌≤◌, ◌+◌, ◌-◌, ◌*◌, ◌^◌, ◌++◌, List, length}
use Rattle.arrayvec.specs.ArrayString.{array_string_len}
use Rattle.port_base.specs.Views.{BaysView}
use Rattle.gfp_linear.specs.ChannelArrivals.{ChannelArrival}
use Rattle.unbundle_command.specs.Steps.Receiving.{OutputsStand}
use Rattle.unbundle_command.specs.Unbundled.{channel_lines}
use Rattle.unbundle_command.specs.declared.report.TheConstants.{CHANNEL_BYTES}
use Rattle.unbundle_command.proofs.report.put_channels.Given as goal

-- the lines so far
abbrev pub invariant-loop-cid : goal.invariant-loop-cid
invariant-loop-cid l = record {
  text : (first now : BaysView) (arrived : List ChannelArrival) → OutputsStand first now arrived l.outputs → length arrived ≤ 2 ^ 64 - 1 → l.text.bytes ≡ l.fn.text.bytes ++ channel_lines arrived l.cid;
  most : array_string_len l.text ≤ array_string_len l.fn.text + CHANNEL_BYTES * l.cid;
}
