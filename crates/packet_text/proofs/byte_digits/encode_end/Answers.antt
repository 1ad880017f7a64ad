use Rattle.std.proofs.Common.{arith}
use Rattle.packet_text.proofs.ByteBlocks.{end_put}
use Rattle.packet_text.proofs.byte_digits.encode_end.Goals as goal

pub returns : goal.returns
returns c =
    let size = c.encode_block.ensures.size in
    end_put c.args.packet.now c.args.digits.now c.encode_block.new.digits c.args.done (omega arith) c.requires.few c.requires.within c.requires.room size c.encode_block.ensures.here c.requires.put
