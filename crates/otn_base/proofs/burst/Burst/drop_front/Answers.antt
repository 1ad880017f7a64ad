use Rattle.std.specs.Prelude.{slice_range}
use Rattle.std.proofs.Common.{◌≤◌, ◌∙◌, length, drop, ap, sym, subst}
use Rattle.otn_base.specs.Bursts.{BurstView}
use Rattle.otn_base.proofs.Ranges.{later}
use Rattle.otn_base.proofs.burst.Burst.drop_front.Goals as goal

pub returns : goal.returns
returns c =
    let i = c.self.inside in
    let low : c.args.count ≤ length (slice_range i.buffer.items i.first i.last) = subst (λ (b : BurstView). c.args.count ≤ length b.bytes) (sym c.self.view_is) c.requires in
    ap (λ xs. record { bytes = xs; room = i.buffer.len }) (later i.buffer.items i.first i.last c.args.count low) ∙ ap (λ (b : BurstView). record b { bytes = drop c.args.count b.bytes }) c.self.view_is
