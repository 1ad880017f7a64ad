use Rattle.std.proofs.Common.{◌+◌, ◌-◌, ◌<◌, ◌≤◌, take, drop, length, true, false, sym, subst, Bool, arith, length-drop}
use Rattle.std.proofs.lemmas.List.{take_rest}
use Rattle.gfp_frames.specs.Reader.{ReaderState}
use Rattle.gfp_frames.specs.Steps.Reader.{GoesOver}
use Rattle.gfp_frames.proofs.Over.{over_part, over_byte, over_kept_part}
use Rattle.gfp_frames.proofs.reader.GfpReader.advance_over.Goals as goal

pub returns-then-found-clause-goes : goal.returns-then-found-clause-goes
returns-then-found-clause-goes c =
    let bytes = c.args.bytes.now in
    let at = c.loop-at.at in
    let Gone : ReaderState → Type 0 = λ s. GoesOver c.args.self.now (take at bytes) false s in
    let same = c.take_whole_area-whole.ensures.none (omega arith) in
    let first = subst Gone (sym same) c.loop-at.invariant.goes in
    let kept =
    over_kept_part c.args.self.now c.take_whole_area-whole.new.self c.keep_some-at.new.self bytes at c.keep_some-at.result first c.keep_some-at.ensures.wants c.keep_some-at.ensures.waits c.keep_some-at.ensures.count
    c.keep_some-at.ensures.state in
    let P : Bool → Type 0 = λ b. GoesOver c.args.self.now (take (at + c.keep_some-at.result + 1) bytes) b c.advance-found.new.self in
    subst P c.if-found.true
    (over_byte c.args.self.now c.keep_some-at.new.self c.advance-found.new.self bytes (at + c.keep_some-at.result) c.advance-found.result c.if-at-bytes.true kept c.advance-found.ensures.goes)

pub returns-then-whole-gt0-clause-goes : goal.returns-then-whole-gt0-clause-goes
returns-then-whole-gt0-clause-goes c =
    over_part c.args.self.now c.loop-at.self c.take_whole_area-whole.new.self c.args.bytes.now c.loop-at.at c.take_whole_area-whole.result true c.loop-at.invariant.goes
    (c.take_whole_area-whole.ensures.goes (omega arith))

pub loop-at-preserved-then-at-bytes : goal.loop-at-preserved-then-at-bytes
loop-at-preserved-then-at-bytes c =
    let bytes = c.args.bytes.now in
    let at = c.loop-at.at in
    let Gone : ReaderState → Type 0 = λ s. GoesOver c.args.self.now (take at bytes) false s in
    let same = c.take_whole_area-whole.ensures.none (omega arith) in
    let first = subst Gone (sym same) c.loop-at.invariant.goes in
    let kept =
    over_kept_part c.args.self.now c.take_whole_area-whole.new.self c.keep_some-at.new.self bytes at c.keep_some-at.result first c.keep_some-at.ensures.wants c.keep_some-at.ensures.waits c.keep_some-at.ensures.count
    c.keep_some-at.ensures.state in
    let next = at + c.keep_some-at.result + 1 in
    let P : Bool → Type 0 = λ b. GoesOver c.args.self.now (take next bytes) b c.advance-found.new.self in
    let gone =
    subst P c.if-found.false
    (over_byte c.args.self.now c.keep_some-at.new.self c.advance-found.new.self bytes (at + c.keep_some-at.result) c.advance-found.result c.if-at-bytes.true kept c.advance-found.ensures.goes) in
    let short : at + c.keep_some-at.result < length bytes = c.if-at-bytes.true in
    record {
      within = (let few : c.pass_over-at-then-at-bytes.result ≤ length (take (length bytes - next) (drop next bytes)) = c.pass_over-at-then-at-bytes.ensures.within in let e = take_rest bytes next in let f = length-drop next bytes in omega arith);
      goes = over_part c.args.self.now c.advance-found.new.self c.pass_over-at-then-at-bytes.new.self bytes next c.pass_over-at-then-at-bytes.result false gone c.pass_over-at-then-at-bytes.ensures.goes;
    }

pub loop-at-preserved : goal.loop-at-preserved
loop-at-preserved c =
    let bytes = c.args.bytes.now in
    let at = c.loop-at.at in
    let Gone : ReaderState → Type 0 = λ s. GoesOver c.args.self.now (take at bytes) false s in
    let same = c.take_whole_area-whole.ensures.none (omega arith) in
    let first = subst Gone (sym same) c.loop-at.invariant.goes in
    record {
      within = omega arith;
      goes =
          over_kept_part c.args.self.now c.take_whole_area-whole.new.self c.keep_some-at.new.self bytes at c.keep_some-at.result first c.keep_some-at.ensures.wants c.keep_some-at.ensures.waits c.keep_some-at.ensures.count
          c.keep_some-at.ensures.state;
    }
