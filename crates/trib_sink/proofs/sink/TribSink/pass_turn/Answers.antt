use Rattle.std.proofs.Common.{◌≡◌, ◌∙◌, sym, subst}
use Rattle.std.specs.Prelude.{IsTrue}
use Rattle.otn_base.specs.LineSlots.{slots_of}
use Rattle.maintenance_signals.specs.declared.signal.Signal.TheVariants.{Ais}
use Rattle.maintenance_signals.specs.Stream.{signal_byte}
use Rattle.tributary_model.specs.Stretches.{msi_read}
use Rattle.tributary_model.specs.Machine.{machine_after}
use Rattle.trib_sink.specs.Sink.{Sink, StandsAfter, ended_view}
use Rattle.trib_sink.proofs.Ends.{stands_turned, gives_turned, at_turned, ended_turn, ended_watched}
use Rattle.trib_sink.proofs.sink.TribSink.pass_turn.Goals as goal

pub returns-clause-stands : goal.returns-clause-stands
returns-clause-stands c = λ own past frames h.
    let i = c.self.inside in
    let s : Sink = record { slots = i.slots; port = i.port; following = i.follower; watches = i.watches; taken = i.taken; message = i.message; msi = i.msi.items } in
    let now : StandsAfter own past frames s = subst (λ (x : Sink). StandsAfter own past frames x) (sym c.self.view_is) h in
    let all : IsTrue c.args.whole → i.taken ≡ slots_of i.slots.kind = subst (λ (x : Sink). IsTrue c.args.whole → x.taken ≡ slots_of x.slots.kind) (sym c.self.view_is) c.requires.whole in
    let e = c.hear_turn-heard.ensures in
    let heard = c.hear_turn-heard.result in
    let turn = ended_turn own past frames s c.args.whole heard c.as_slice.result.now c.as_slice.ensures.value c.self.invariant now all (λ f. (e.missed f).0) (λ f. e.heard f own.port (λ k. msi_read k past) now.watched) in
    rw c.clear.ensures
    (stands_turned own past frames s (ended_view own c.args.whole frames) c.pass.new.self c.hear_turn-heard.new.follower c.hear_turn-heard.new.watches heard c.self.invariant now e.follower turn
    c.pass.ensures.at c.pass.ensures.between
    (ended_watched own past frames s c.args.whole c.hear_turn-heard.new.watches c.as_slice.result.now c.as_slice.ensures.value now (λ f. (e.missed f).1) (λ f. e.watched f own.port (λ k. msi_read k past) now.watched)))

pub returns-clause-bytes : goal.returns-clause-bytes
returns-clause-bytes c = λ own past frames h.
    let i = c.self.inside in
    let s : Sink = record { slots = i.slots; port = i.port; following = i.follower; watches = i.watches; taken = i.taken; message = i.message; msi = i.msi.items } in
    let now : StandsAfter own past frames s = subst (λ (x : Sink). StandsAfter own past frames x) (sym c.self.view_is) h in
    let all : IsTrue c.args.whole → i.taken ≡ slots_of i.slots.kind = subst (λ (x : Sink). IsTrue c.args.whole → x.taken ≡ slots_of x.slots.kind) (sym c.self.view_is) c.requires.whole in
    let e = c.hear_turn-heard.ensures in
    let heard = c.hear_turn-heard.result in
    let turn = ended_turn own past frames s c.args.whole heard c.as_slice.result.now c.as_slice.ensures.value c.self.invariant now all (λ f. (e.missed f).0) (λ f. e.heard f own.port (λ k. msi_read k past) now.watched) in
    c.pass.ensures.bytes (machine_after own past) (at_turned own past frames s c.hear_turn-heard.new.follower heard now e.follower)
    ∙ gives_turned own (signal_byte Ais) past frames s (ended_view own c.args.whole frames) c.hear_turn-heard.new.follower heard c.self.invariant now e.follower turn
