use Rattle.std.proofs.Common.{◌≡◌, ◌≤◌, ◌+◌, ◌-◌, ◌++◌, ◌∙◌, length, drop, ap, sym, subst, arith}
use Rattle.std.specs.Prelude.{min}
use Rattle.circular_buffer.specs.Buffer.{Buffer}
use Rattle.otn_base.specs.Bursts.{BurstView}
use Rattle.trib_source.specs.Backlog.{BacklogView}
use Rattle.trib_source.proofs.Unput.{dropped}
use Rattle.trib_source.proofs.backlog.Backlog.drop_front.Goals as goal

pub returns : goal.returns
returns c =
    let i = c.self.inside in
    let count = c.args.count in
    let here = c.min-here.result in
    let here_is : here ≡ min count (length i.over.items) = c.min-here.ensures ∙ ap (min count) c.len-over.ensures.len in
    let long = c.len-over.ensures.len in
    let over : c.truncate_front.new.self.items ≡ drop here i.over.items =
    ap (λ (b : Buffer _). b.items) c.truncate_front.ensures ∙ ap (λ k. drop k i.over.items) (let e : length i.over.items - (c.len-over.result - here) ≡ here = omega arith in e) in
    let current = ap (λ (b : BurstView). b.bytes) c.drop_front.ensures in
    let fits : count + length i.coming.bytes ≤ length (i.over.items ++ i.current.bytes ++ i.coming.bytes) = subst (λ (b : BacklogView). count + b.newest ≤ length b.items) (sym c.self.view_is) c.requires in
    (λ k. record {
      items = ((λ j. over j ++ current j ++ i.coming.bytes) ∙ dropped i.over.items i.current.bytes i.coming.bytes count here here_is fits) k;
      newest = length i.coming.bytes;
      slots = ap (λ (b : Buffer _). b.capacity) c.truncate_front.ensures k;
    })
    ∙ ap (λ (b : BacklogView). record b { items = drop count b.items }) c.self.view_is
