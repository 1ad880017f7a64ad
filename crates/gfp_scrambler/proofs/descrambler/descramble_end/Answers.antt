use Rattle.std.proofs.Common.{◌≡◌, ◌/◌, ◌^◌, ◌<◌, length, get_or, sym, ◌∙◌, arith}
use Rattle.std.specs.Prelude.{bit_xor}
use Rattle.std.proofs.lemmas.List.{length-set}
use Rattle.gfp_scrambler.proofs.Steps.{over_more, over_all, came_next, last_all}
use Rattle.gfp_scrambler.proofs.descrambler.descramble_end.Goals as goal

pub loop-i-preserved : goal.loop-i-preserved
loop-i-preserved c =
    let got = c.args.got.now in
    let s = c.loop-i.plain in
    let k = c.loop-i.i in
    let r = c.loop-i.last in
    let within : k < length got = omega arith in
    let room : k < length s = (let e = c.loop-i.invariant.size in omega arith) in
    record {
      size = length-set s k (bit_xor (get_or got k 0) (r / 2 ^ 35)) ∙ c.loop-i.invariant.size;
      done = over_more got s k r within room ∙ c.loop-i.invariant.done;
      register = came_next got k r within ∙ c.loop-i.invariant.register;
      small = omega arith;
    }

pub returns-clause-bytes : goal.returns-clause-bytes
returns-clause-bytes c =
    let all : c.loop-i.i ≡ length c.args.got.now = omega arith in
    sym (over_all c.args.got.now c.loop-i.plain c.loop-i.i c.loop-i.last all c.loop-i.invariant.size) ∙ c.loop-i.invariant.done

pub returns-clause-register : goal.returns-clause-register
returns-clause-register c =
    let all : c.loop-i.i ≡ length c.args.got.now = omega arith in
    sym (last_all c.args.got.now c.loop-i.i c.loop-i.last all) ∙ c.loop-i.invariant.register
