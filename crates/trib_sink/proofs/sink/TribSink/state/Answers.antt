use Rattle.std.proofs.Common.{◌∙◌, ap}
use Rattle.tributary_model.specs.Machine.{state_of_standing}
use Rattle.trib_sink.specs.Sink.{Sink}
use Rattle.trib_sink.proofs.Stands.{state_now}
use Rattle.trib_sink.proofs.sink.TribSink.state.Goals as goal

pub returns : goal.returns
returns c = λ own past frames h.
    c.state_of.ensures ∙ ap state_of_standing (c.standing.ensures ∙ ap (λ (s : Sink). s.following.standing) c.self.view_is) ∙ state_now own past frames c.args.self.now h
