use Rattle.std.proofs.Common.{◌≡◌, ◌≤◌, ◌+◌, ◌++◌, ◌∙◌, length, get_or, drop, ap, sym, subst, arith}
use Rattle.circular_buffer.specs.Buffer.{Buffer}
use Rattle.otn_base.specs.Bursts.{BurstView}
use Rattle.trib_source.specs.Backlog.{BacklogView}
use Rattle.trib_source.proofs.Unput.{dropped, read}
use Rattle.trib_source.proofs.backlog.Backlog.read_front.Goals as goal

pub returns-clause-bytes : goal.returns-clause-bytes
returns-clause-bytes c = λ k h.
    let i = c.self.inside in
    let fits : c.args.count + length i.coming.bytes ≤ length (i.over.items ++ i.current.bytes ++ i.coming.bytes) = subst (λ (b : BacklogView). c.args.count + b.newest ≤ length b.items) (sym c.self.view_is) c.requires.enough in
    read i.over.items i.current.bytes i.coming.bytes c.copy_at-end.new.into c.args.count c.read_over-here.result k c.read_over-here.ensures.count fits h
    (λ j low. c.copy_at-end.ensures.front j low ∙ c.read_over-here.ensures.bytes j low)
    (λ j low. c.copy_at-end.ensures.bytes j low ∙ ap (λ n. get_or c.bytes.result.now n 0) (let e : 0 + j ≡ j = omega arith in e) ∙ ap (λ xs. get_or xs j 0) c.bytes.ensures)
    ∙ ap (λ (b : BacklogView). get_or b.items k 0) c.self.view_is

pub returns-clause-state : goal.returns-clause-state
returns-clause-state c =
    let i = c.self.inside in
    let over = ap (λ (b : Buffer _). b.items) c.read_over-here.ensures.over in
    let current = ap (λ (b : BurstView). b.bytes) c.drop_front.ensures in
    let fits : c.args.count + length i.coming.bytes ≤ length (i.over.items ++ i.current.bytes ++ i.coming.bytes) = subst (λ (b : BacklogView). c.args.count + b.newest ≤ length b.items) (sym c.self.view_is) c.requires.enough in
    (λ k. record {
      items = ((λ j. over j ++ current j ++ i.coming.bytes) ∙ dropped i.over.items i.current.bytes i.coming.bytes c.args.count c.read_over-here.result c.read_over-here.ensures.count fits) k;
      newest = length i.coming.bytes;
      slots = ap (λ (b : Buffer _). b.capacity) c.read_over-here.ensures.over k;
    })
    ∙ ap (λ (b : BacklogView). record b { items = drop c.args.count b.items }) c.self.view_is
