use Rattle.std.proofs.Common.{◌≡◌, ◌-◌, Bool, true, false, None, refl, subst, sym, ◌∙◌, length, take, drop}
use Rattle.gfp_frames.specs.Area.{packet_in}
use Rattle.gfp_frames.specs.Steps.Reader.{GoesOver}
use Rattle.gfp_frames.proofs.Packets.{to_part, before_part, some_news, none_there, part_within}
use Rattle.gfp_frames.proofs.reader.GfpReader.find_packet.Goals as goal

pub returns-then-is_some-clause-goes : goal.returns-then-is_some-clause-goes
returns-then-is_some-clause-goes c =
    let bytes = c.args.bytes.now in
    let at = c.loop-at.at in
    let mid = c.loop-at.self in
    let new = c.advance_over-count.new.self in
    let n = c.advance_over-count.result.0 in
    let Q : Bool → Type 0 = λ b. GoesOver mid (take n (take (length bytes - at) (drop at bytes))) b new in
    to_part c.args.self.now mid new bytes at n true _ c.loop-at.invariant.goes (subst Q c.if-found.true c.advance_over-count.ensures.goes) (some_news new _ c.packet_found-size.ensures.packet)

pub returns-then-is_some-clause-before : goal.returns-then-is_some-clause-before
returns-then-is_some-clause-before c =
    before_part c.args.self.now c.loop-at.self c.advance_over-count.new.self c.args.bytes.now c.loop-at.at c.advance_over-count.result.0 c.advance_over-count.result.1
    c.advance_over-count.ensures.within c.loop-at.invariant.goes c.advance_over-count.ensures.goes c.loop-at.invariant.before

pub loop-at-preserved-else-is_some : goal.loop-at-preserved-else-is_some
loop-at-preserved-else-is_some c =
    let bytes = c.args.bytes.now in
    let at = c.loop-at.at in
    let mid = c.loop-at.self in
    let new = c.advance_over-count.new.self in
    let n = c.advance_over-count.result.0 in
    let Q : Bool → Type 0 = λ b. GoesOver mid (take n (take (length bytes - at) (drop at bytes))) b new in
    let none : packet_in new.area ≡ None = none_there c.packet_found-size.result new.area (sym c.is_some.ensures ∙ c.if-is_some.false) c.packet_found-size.ensures.packet in
    record {
      within = part_within bytes at n c.loop-at.invariant.within c.advance_over-count.ensures.within;
      goes = to_part c.args.self.now mid new bytes at n true None c.loop-at.invariant.goes (subst Q c.if-found.true c.advance_over-count.ensures.goes) (some_news new None none);
      before =
          before_part c.args.self.now mid new bytes at n c.advance_over-count.result.1
          c.advance_over-count.ensures.within c.loop-at.invariant.goes c.advance_over-count.ensures.goes c.loop-at.invariant.before;
    }

pub loop-at-preserved : goal.loop-at-preserved
loop-at-preserved c =
    let bytes = c.args.bytes.now in
    let at = c.loop-at.at in
    let mid = c.loop-at.self in
    let new = c.advance_over-count.new.self in
    let n = c.advance_over-count.result.0 in
    let Q : Bool → Type 0 = λ b. GoesOver mid (take n (take (length bytes - at) (drop at bytes))) b new in
    record {
      within = part_within bytes at n c.loop-at.invariant.within c.advance_over-count.ensures.within;
      goes = to_part c.args.self.now mid new bytes at n false None c.loop-at.invariant.goes (subst Q c.if-found.false c.advance_over-count.ensures.goes) refl;
      before =
          before_part c.args.self.now mid new bytes at n c.advance_over-count.result.1
          c.advance_over-count.ensures.within c.loop-at.invariant.goes c.advance_over-count.ensures.goes c.loop-at.invariant.before;
    }
