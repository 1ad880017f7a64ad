use Rattle.std.proofs.Common.{◌∙◌, [], ◌∷◌, ◌++◌, ap, refl}
use Rattle.otn_base.specs.declared.limits.TheConstants.{MOST_DELIVERED}
use Rattle.gfp_frames.specs.Delivered.{delivered}
use Rattle.gfp_frames.proofs.Packets.{delivered_on, has_read_on, packet_lent, none_lent, lent_size}
use Rattle.gfp_frames.proofs.reader.GfpReader.take.Goals as goal

pub returns-in-Some : goal.returns-in-Some
returns-in-Some c =
    let old = c.args.self.now in
    let new = c.find_packet_at.new.self in
    let byte = c.args.byte ∷ [] in
    let goes = c.find_packet_at.ensures.goes in
    let size = c.in-Some.ensures.size in (
      (refl, (λ _. tt), λ read has. has_read_on read byte old new _ has goes),
      record {
        read = tt;
        packets = λ read has.
            delivered_on read byte old new _ has goes
            ∙ ap (λ y. delivered read ++ y) (packet_lent new.area c.area.result.now c.find_packet_at.result c.in-Some.size c.in-Some.is c.area.ensures);
        size = lent_size new.area c.area.result.now c.in-Some.size MOST_DELIVERED c.area.ensures size.0 size.1 size.2;
      },
    )

pub returns-in-None : goal.returns-in-None
returns-in-None c =
    let old = c.args.self.now in
    let new = c.find_packet_at.new.self in
    let byte = c.args.byte ∷ [] in
    let goes = c.find_packet_at.ensures.goes in (
      (refl, (λ _. tt), λ read has. has_read_on read byte old new _ has goes),
      record {
        read = tt;
        packets = λ read has. delivered_on read byte old new _ has goes ∙ ap (λ y. delivered read ++ y) (none_lent new.area c.find_packet_at.result c.in-None.is);
        size = tt;
      },
    )
