use Rattle.std.proofs.Common.{◌≡◌, ◌∙◌, length, get_or, ap, sym}
use Rattle.trib_source.specs.Backlog.{BacklogView}
use Rattle.trib_source.proofs.Unput.{first_over, first_current}
use Rattle.trib_source.proofs.backlog.Backlog.front.Goals as goal

pub returns-then-len-eq0 : goal.returns-then-len-eq0
returns-then-len-eq0 c = λ k h.
    let i = c.self.inside in
    let none : length i.over.items ≡ 0 = sym c.len.ensures.len ∙ c.if-len-eq0.true in
    first_current i.over.items i.current.bytes i.coming.bytes c.bytes.result.now k none c.bytes.ensures h ∙ ap (λ (b : BacklogView). get_or b.items k 0) c.self.view_is

pub returns : goal.returns
returns c = λ k h.
    let i = c.self.inside in
    first_over i.over.items i.current.bytes i.coming.bytes c.as_slices.result.0.now c.as_slices.result.1.now k c.as_slices.ensures h ∙ ap (λ (b : BacklogView). get_or b.items k 0) c.self.view_is
