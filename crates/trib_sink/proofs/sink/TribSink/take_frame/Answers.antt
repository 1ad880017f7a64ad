use Rattle.std.proofs.Common.{◌≡◌, ◌∙◌, ◌+◌, ◌<◌, sym, subst, ap, arith}
use Rattle.otn_base.specs.LineSlots.{slots_of}
use Rattle.tributary_model.proofs.OnLine.{few_of_kind}
use Rattle.trib_sink.specs.Sink.{Sink, StandsAfter}
use Rattle.trib_sink.proofs.Stands.{stands_next, is_next}
use Rattle.trib_sink.proofs.sink.TribSink.take_frame.Goals as goal

pub note_msi-requires : goal.note_msi-requires
note_msi-requires g c =
    let number : c.args.n ≡ c.self.inside.taken = c.requires.taken ∙ sym (ap (λ (s : Sink). s.taken) c.self.view_is) in
    let few = c.self.invariant.msi_few in
    let low = c.requires.number in
    let most = few_of_kind c.args.self.now.slots.kind in
    omega arith

pub overflow_add-self : goal.overflow_add-self
overflow_add-self g c =
    let number : c.args.n ≡ c.self.inside.taken = c.requires.taken ∙ sym (ap (λ (s : Sink). s.taken) c.self.view_is) in
    let low = c.requires.number in
    let most = few_of_kind c.args.self.now.slots.kind in
    omega arith

pub returns-clause-taken : goal.returns-clause-taken
returns-clause-taken g c = ap (λ (s : Sink). s.taken + 1) c.self.view_is

pub invariant_of-self : goal.invariant_of-self
invariant_of-self g c =
    let i = c.self.inside in
    let s : Sink = record { slots = i.slots; port = i.port; following = i.follower; watches = i.watches; taken = i.taken; message = i.message; msi = i.msi.items } in
    let number : c.args.n ≡ i.taken = c.requires.taken ∙ sym (ap (λ (s : Sink). s.taken) c.self.view_is) in
    let low = subst (λ (x : Sink). c.args.n < slots_of x.slots.kind) (sym c.self.view_is) c.requires.number in
    rw c.take_frame.ensures
    (is_next s (g.F.TakeFrame.bytes c.args.frame.now) c.message_so_far-self-inside.result c.args.expected c.args.n c.note_msi.new.msi.items number low c.note_msi.ensures.few c.note_msi.ensures.slots c.self.invariant)

pub returns-clause-stands : goal.returns-clause-stands
returns-clause-stands g c = λ own past frames h.
    let i = c.self.inside in
    let s : Sink = record { slots = i.slots; port = i.port; following = i.follower; watches = i.watches; taken = i.taken; message = i.message; msi = i.msi.items } in
    let number : c.args.n ≡ i.taken = c.requires.taken ∙ sym (ap (λ (s : Sink). s.taken) c.self.view_is) in
    rw c.take_frame.ensures
    (stands_next own past frames s (g.F.TakeFrame.bytes c.args.frame.now) c.message_so_far-self-inside.result c.args.expected c.args.n c.note_msi.new.msi.items number c.self.invariant.asked c.message_so_far-self-inside.ensures c.note_msi.ensures.bytes
    (subst (λ (x : Sink). StandsAfter own past frames x) (sym c.self.view_is) h))
