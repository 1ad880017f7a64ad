use Rattle.std.proofs.Common.{◌∙◌, ℕ, ◌+◌, ◌≤◌, ◌++◌, Option, ap, refl, sym, subst, length, take}
use Rattle.std.specs.Prelude.{IfSome, IsNone}
use Rattle.otn_base.specs.declared.limits.TheConstants.{MOST_DELIVERED}
use Rattle.gfp_frames.specs.Delivered.{delivered}
use Rattle.gfp_frames.proofs.Packets.{delivered_on, has_read_on, none_delivered, packet_lent, none_lent, lent_size}
use Rattle.gfp_frames.proofs.reader.GfpReader.take_some.Goals as goal

pub returns-in-Some : goal.returns-in-Some
returns-in-Some c =
    let old = c.args.self.now in
    let new = c.find_packet-count.new.self in
    let found = c.find_packet-count.result.1 in
    let bytes = take c.find_packet-count.result.0 c.args.bytes.now in
    let goes = c.find_packet-count.ensures.goes in
    let Q : Option ℕ → Type 0 = λ o. IfSome o (λ n. (1 ≤ n) × (n ≤ MOST_DELIVERED) × (n + 4 ≤ length new.area)) in
    let size = subst Q c.in-Some.is c.find_packet-count.ensures.size in (
      (refl, (λ _. tt), λ read has. has_read_on read bytes old new _ has goes),
      record {
        read = tt;
        packets = λ read has.
            delivered_on read bytes old new _ has goes
            ∙ ap (λ y. delivered read ++ y) (packet_lent new.area c.area.result.now found c.in-Some.size c.in-Some.is c.area.ensures);
        none_before = λ read k has h. none_delivered read (take k c.args.bytes.now) old has (c.find_packet-count.ensures.before k h);
        within = c.find_packet-count.ensures.within;
        all = λ e. c.find_packet-count.ensures.all (subst (λ o. IsNone o) (sym c.in-Some.is) e);
        some = c.find_packet-count.ensures.some;
        size = lent_size new.area c.area.result.now c.in-Some.size MOST_DELIVERED c.area.ensures size.0 size.1 size.2;
      },
    )

pub returns-in-None : goal.returns-in-None
returns-in-None c =
    let old = c.args.self.now in
    let new = c.find_packet-count.new.self in
    let found = c.find_packet-count.result.1 in
    let bytes = take c.find_packet-count.result.0 c.args.bytes.now in
    let goes = c.find_packet-count.ensures.goes in (
      (refl, (λ _. tt), λ read has. has_read_on read bytes old new _ has goes),
      record {
        read = tt;
        packets = λ read has. delivered_on read bytes old new _ has goes ∙ ap (λ y. delivered read ++ y) (none_lent new.area found c.in-None.is);
        none_before = λ read k has h. none_delivered read (take k c.args.bytes.now) old has (c.find_packet-count.ensures.before k h);
        within = c.find_packet-count.ensures.within;
        all = λ e. c.find_packet-count.ensures.all (subst (λ o. IsNone o) (sym c.in-None.is) e);
        some = c.find_packet-count.ensures.some;
        size = tt;
      },
    )
