use Rattle.std.proofs.Common.{◌≡◌, ◌∙◌, ◌<◌, length, rules, refl, subst, sym}
use Rattle.std.proofs.lemmas.Option.{same_Some, slice_get_read}
use Rattle.bundle_command.specs.Steps.Channels.{HasChannel}
use Rattle.bundle_command.proofs.Places.{asked_at}
use Rattle.bundle_command.proofs.weaving.ask_channel.Goals as goal

pub returns-clause-asked : goal.returns-clause-asked
returns-clause-asked g c =
    let channels = c.args.channels.now.items in
    let whole : c.args.channels.now.len ≡ length c.args.channels.now.items = search rules in
    let within = subst (λ k. c.args.index < k) whole c.requires.within in
    let known : HasChannel channels c.args.index c.index.result.now = slice_get_read channels (length channels) c.args.index c.index.result.now refl within c.index.ensures in
    let lent : HasChannel channels c.args.index c.index_mut.result.now = slice_get_read channels (length channels) c.args.index c.index_mut.result.now refl within c.index_mut.ensures.value in
    let same : c.index_mut.result.now ≡ c.index.result.now = same_Some c.index_mut.result.now c.index.result.now (sym lent ∙ known) in
    asked_at g.I.Source g.O.Sink c.args.bays.now channels c.args.index c.index.result.now c.next.new.self c.client_in_mut.result.now c.next.new.place c.next.result known c.client_in_mut.ensures.value
    (rw same at c.next.ensures.answered) c.next.ensures.answer c.next.ensures.closed c.next.ensures.packet (rw same at c.next.ensures.client)
