use Rattle.std.proofs.Common.{Bool, false, None, refl, subst}
use Rattle.gfp_frames.specs.Steps.Reader.{Goes}
use Rattle.gfp_frames.proofs.Packets.{to_byte, some_news}
use Rattle.gfp_frames.proofs.reader.GfpReader.find_packet_at.Goals as goal

pub returns-then-advance-clause-goes : goal.returns-then-advance-clause-goes
returns-then-advance-clause-goes c =
    let new = c.advance.new.self in
    let Q : Bool → Type 0 = λ b. Goes c.args.self.now c.args.byte b new in
    to_byte c.args.self.now new c.args.byte _ _ (subst Q c.if-advance.true c.advance.ensures.goes) (some_news new _ c.packet_found.ensures.packet)

pub returns-else-advance-clause-goes : goal.returns-else-advance-clause-goes
returns-else-advance-clause-goes c =
    let new = c.advance.new.self in
    let Q : Bool → Type 0 = λ b. Goes c.args.self.now c.args.byte b new in
    to_byte c.args.self.now new c.args.byte false None (subst Q c.if-advance.false c.advance.ensures.goes) refl
