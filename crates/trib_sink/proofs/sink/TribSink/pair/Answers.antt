use Rattle.std.proofs.Common.{◌∙◌, ap}
use Rattle.trib_sink.specs.Steps.Pairs.{pair_of_standing}
use Rattle.trib_sink.specs.Sink.{Sink}
use Rattle.trib_sink.proofs.Pairing.{pair_now}
use Rattle.trib_sink.proofs.sink.TribSink.pair.Goals as goal

pub returns : goal.returns
returns c = λ own past frames h.
    c.pair_of.ensures ∙ ap pair_of_standing (c.standing.ensures ∙ ap (λ (s : Sink). s.following.standing) c.self.view_is) ∙ pair_now own past frames c.args.self.now h
