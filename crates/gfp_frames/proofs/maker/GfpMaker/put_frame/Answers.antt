use Rattle.std.proofs.Common.{◌≡◌, ◌+◌, ◌++◌, length, cond, ap, sym, ◌∙◌, arith}
use Rattle.gfp_scrambler.specs.Register.{last_bits, scrambled}
use Rattle.gfp_frames.specs.Area.{client_area}
use Rattle.gfp_frames.specs.Maker.{made_frame}
use Rattle.gfp_frames.proofs.Texts.{laid_frame, made_is, area_size_of}
use Rattle.gfp_frames.proofs.maker.GfpMaker.put_frame.Goals as goal
use Rattle.gfp_frames.proofs.maker.GfpMaker.put_frame.Goals.{then-fcs, else-fcs}

pub returns : goal.returns
returns c =
    let packet = c.args.packet.now in
    let area = client_area packet c.args.fcs in
    let register = c.self.inside.scrambler in
    let rest : c.if-fcs.rest ≡ cond c.args.fcs 8 4 = elim c.if-fcs.branch [
      | then-fcs w ↦ w.rest-is ∙ sym (ap (λ b. cond b 8 4) w.if-fcs.true)
      | else-fcs w ↦ w.rest-is ∙ sym (ap (λ b. cond b 8 4) w.if-fcs.false)
    ] in
    let size : length packet + c.if-fcs.rest ≡ length area = (let s = area_size_of packet c.args.fcs in omega arith) in
    let all : c.append_client_area.new.buffer.items ≡ c.header_bytes.result ++ area =
    c.append_client_area.ensures.items ∙ ap (λ y. y ++ area) (c.append.ensures.items ∙ ap (λ y. y ++ c.header_bytes.result) c.clear.ensures.items) in
    let frame = laid_frame c.header_bytes.result area c.append_client_area.new.buffer.items c.scramble_area.new.frame.items (length packet + c.if-fcs.rest) register size c.header_bytes.ensures all c.scramble_area.ensures.bytes in
    let last : c.scramble_area.new.scrambler ≡ last_bits register (scrambled register area) = c.scramble_area.ensures.register ∙ ap (λ y. last_bits register (scrambled register y)) frame.1 in
    made_is area c.scramble_area.new.frame.items register c.scramble_area.new.scrambler frame.0 last ∙ ap (made_frame area) (ap (λ m. m.register) c.self.view_is)
