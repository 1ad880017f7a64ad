use Rattle.std.proofs.Common.{ap, ◌∙◌}
use Rattle.odu_client.proofs.Totals.{packets_are}
use Rattle.odu_client.proofs.framer.ClientFramer.packets.Goals as goal

pub returns : goal.returns
returns c = λ first now read emitted lines text h may.
    c.packets.ensures ∙ ap (λ f. f.stream.packets) c.self.view_is ∙ packets_are first now read emitted lines c.args.self.now text h may
