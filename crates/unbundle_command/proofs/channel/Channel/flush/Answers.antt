use Rattle.std.proofs.Common.{◌≡◌, ℕ, List, length, take, ap, sym, subst, rules}
use Rattle.port_base.specs.OutPlace.{out_view}
use Rattle.port_base.specs.Sent.{IsSent}
use Rattle.unbundle_command.specs.Receiving.{ChannelView}
use Rattle.unbundle_command.specs.Steps.Receiving.{LinesHeld}
use Rattle.unbundle_command.proofs.Holding.{lines_flushed}
use Rattle.unbundle_command.proofs.channel.Channel.flush.Goals as goal

pub returns-clause-lines : goal.returns-clause-lines
returns-clause-lines g c = λ first packets h.
    let inside = c.self.inside in
    let old = out_view g.K.Sink c.args.place.now in
    let new = out_view g.K.Sink c.write_lines-written.new.self in
    let value : c.deref.result.now ≡ inside.text.items = search rules in
    let e = c.write_lines-written.ensures in
    let text = take inside.len inside.text.items in
    let Old : ChannelView → Type 0 = λ v. LinesHeld first old packets v.text in
    let Sent : List ℕ → Type 0 = λ bytes. IsSent old (take inside.len bytes) new in
    let Stays : List ℕ → Type 0 = λ bytes. length (take inside.len bytes) ≡ 0 → new ≡ old in
    lines_flushed first old new packets text (subst Sent value e.sent) (subst Stays value (λ none. ap (out_view g.K.Sink) (e.empty none).0)) (subst Old (sym c.self.view_is) h)
