use Rattle.std.proofs.Common.{◌≡◌, ◌∙◌, ap, arith, false, sym}
use Rattle.port_base.proofs.BaysLaws.{client_in_seen}
use Rattle.port_base.specs.Racks.{bays_view}
use Rattle.port_base.specs.Views.{is_dead, InView, client_in_at}
use Rattle.bundle_command.proofs.Lists.{known_item, none_dead, one_more, some_dead}
use Rattle.bundle_command.proofs.settling.has_dead.Goals as goal

pub loop-channel-preserved : goal.loop-channel-preserved
loop-channel-preserved g c =
    let bays = bays_view g.I.Source g.O.Sink c.args.bays.now in
    let seen = client_in_seen g.I.Source g.O.Sink c.args.bays.now c.channel-item.result.client c.client_in.result.now c.client_in.ensures in
    let alive : is_dead (client_in_at bays c.channel-item.result.client).state ≡ false = ap (λ (v : InView). is_dead v.state) seen ∙ sym c.is_dead_in.ensures ∙ c.if-is_dead_in.false in
    one_more (λ k channel. is_dead (client_in_at bays channel.client).state ≡ false) c.args.channels.now c.loop-channel.channel-index c.channel-item.result
    (known_item c.args.channels.now c.loop-channel.channel-index c.channel-item.result (let test = c.loop-channel-test.true in omega arith) c.channel-item.is) alive c.loop-channel.invariant

pub returns-then-is_dead_in : goal.returns-then-is_dead_in
returns-then-is_dead_in g c =
    let bays = bays_view g.I.Source g.O.Sink c.args.bays.now in
    let seen = client_in_seen g.I.Source g.O.Sink c.args.bays.now c.channel-item.result.client c.client_in.result.now c.client_in.ensures in
    some_dead c.args.channels.now bays c.loop-channel.channel-index c.channel-item.result
    (known_item c.args.channels.now c.loop-channel.channel-index c.channel-item.result (let test = c.loop-channel-test.true in omega arith) c.channel-item.is)
    (ap (λ (v : InView). is_dead v.state) seen ∙ sym c.is_dead_in.ensures ∙ c.if-is_dead_in.true)

pub returns : goal.returns
returns g c = none_dead c.args.channels.now (bays_view g.I.Source g.O.Sink c.args.bays.now) c.loop-channel.channel-index (let test = c.loop-channel-test.false in omega arith) c.loop-channel.invariant
