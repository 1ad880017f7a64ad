use Rattle.std.proofs.Common.{◌≡◌, ◌++◌, length, ap, ◌∙◌, refl}
use Rattle.gfp_scrambler.specs.Register.{last_bits, scrambled}
use Rattle.gfp_frames.specs.Maker.{made_frame}
use Rattle.gfp_frames.proofs.Texts.{laid_frame, made_is}
use Rattle.gfp_frames.proofs.maker.GfpMaker.put_area.Goals as goal

pub returns : goal.returns
returns c =
    let area = c.args.area.now in
    let register = c.self.inside.scrambler in
    let all : c.append-2.new.buffer.items ≡ c.header_bytes.result ++ area =
    c.append-2.ensures.items ∙ ap (λ y. y ++ area) (c.append.ensures.items ∙ ap (λ y. y ++ c.header_bytes.result) c.clear.ensures.items) in
    let frame = laid_frame c.header_bytes.result area c.append-2.new.buffer.items c.scramble_area.new.frame.items (length area) register refl c.header_bytes.ensures all c.scramble_area.ensures.bytes in
    let last : c.scramble_area.new.scrambler ≡ last_bits register (scrambled register area) = c.scramble_area.ensures.register ∙ ap (λ y. last_bits register (scrambled register y)) frame.1 in
    made_is area c.scramble_area.new.frame.items register c.scramble_area.new.scrambler frame.0 last ∙ ap (made_frame area) (ap (λ m. m.register) c.self.view_is)
