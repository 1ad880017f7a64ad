use Rattle.std.proofs.Common.{◌≡◌, ◌-◌, ◌∙◌, [], ap, sym, subst}
use Rattle.odu_client.specs.ClientInput.{pace_of}
use Rattle.otn_base.specs.Bursts.{BurstView}
use Rattle.cross_matrix.specs.Parts.{HasSlots}
use Rattle.cross_matrix.specs.Pipes.{PipeView, PipeStands}
use Rattle.cross_matrix.proofs.PipeMoves.{own_pace, fenced}
use Rattle.cross_matrix.proofs.pipe.Pipe.fence.Goals as goal

pub invariant_of-self : goal.invariant_of-self
invariant_of-self c = record {
  sink = subst (HasSlots c.self.inside.slots) (sym c.reuse_buffer.ensures.taking) (c.fence.ensures.slots c.self.inside.slots c.self.invariant.sink);
  source = c.fence-2.ensures.slots c.self.inside.slots c.self.invariant.source;
  fit = c.self.invariant.fit;
  incoming = ap (λ (b : BurstView). b.room) c.reuse_buffer.ensures.incoming ∙ ap (λ (b : BurstView). b.room) (c.clear.ensures) ∙ ap (λ (b : BurstView). b.room) c.swap.ensures.x_after ∙ c.self.invariant.outgoing;
  outgoing = ap (λ (b : BurstView). b.room) c.reuse_buffer.ensures.outgoing ∙ c.fence-2.ensures.room_stays ∙ ap (λ (b : BurstView). b.room) c.swap.ensures.y_after ∙ c.fence.ensures.room_stays ∙ c.self.invariant.incoming;
}

pub fence-requires-2 : goal.fence-requires-2
fence-requires-2 c = record {
  room = (c.self.inside.slots, c.self.invariant.source, ap (λ (b : BurstView). b.room) c.swap.ensures.y_after ∙ c.fence.ensures.room_stays ∙ c.self.invariant.incoming);
}

pub reuse_buffer-requires : goal.reuse_buffer-requires
reuse_buffer-requires c =
    let was = c.self.invariant in
    let incoming = ap (λ (b : BurstView). b.room) (c.clear.ensures) ∙ ap (λ (b : BurstView). b.room) c.swap.ensures.x_after ∙ was.outgoing in
    let outgoing = c.fence-2.ensures.room_stays ∙ ap (λ (b : BurstView). b.room) c.swap.ensures.y_after ∙ c.fence.ensures.room_stays ∙ was.incoming in
    record {
      room = (c.self.inside.slots, c.fence.ensures.slots c.self.inside.slots was.sink, outgoing);
      alike = incoming ∙ sym outgoing;
      empty = ap (λ (b : BurstView). b.bytes) c.clear.ensures;
      taken = c.fence-2.ensures.taken;
    }

pub returns-clause-stands : goal.returns-clause-stands
returns-clause-stands c = λ x input j filled ended at over h.
    let i = c.self.inside in
    let old : PipeView = record { taking = i.taking; giving = i.giving; paces = i.paces.items; start = i.start; slots = i.slots; incoming = i.incoming.bytes; outgoing = i.outgoing.bytes } in
    let now : PipeStands x input j [] ended filled old = subst (PipeStands x input j [] ended filled) (sym c.self.view_is) h in
    let pace : c.pace_at-count.result ≡ pace_of x.pace j = own_pace x old c.args.turn j c.pace_at-count.result now.entry at (c.pace_at-count.ensures ∙ ap (λ paces. pace_of paces (c.args.turn - i.start)) c.deref.ensures.value) in
    let e = c.fence.ensures in
    let handed : c.swap.new.y.bytes ≡ c.fence.new.incoming.bytes = ap (λ (b : BurstView). b.bytes) c.swap.ensures.y_after in
    rw (c.reuse_buffer.ensures.taking, c.reuse_buffer.ensures.incoming, c.reuse_buffer.ensures.outgoing)
    (fenced x input j filled ended old c.fence.new.self c.fence-2.new.self c.clear.new.self.bytes c.fence-2.new.outgoing.bytes c.swap.new.y.bytes
    (e.stands x.from x input j ended pace over) (λ s was. handed ∙ e.bytes x.from x input j ended pace over s was) (e.entry x.from x) (c.fence-2.ensures.entry x.to)
    (λ client. ap (λ (b : BurstView). b.bytes) (c.fence-2.ensures.kept client)) c.fence-2.ensures.stands now)
