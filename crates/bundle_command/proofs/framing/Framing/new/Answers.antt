use Rattle.std.proofs.Common.{[], refl}
use Rattle.bundle_command.proofs.Frames.{frames_begin}
use Rattle.bundle_command.proofs.framing.Framing.new.Goals as goal

pub returns : goal.returns
returns c = λ first. frames_begin c.args.clients.now first _ refl c.in_ok-new-2.ensures.size (c.in_ok-new.ensures first) (c.new-2.ensures.made []) c.no_trace.ensures
