use Rattle.std.proofs.Common.{◌≡◌, ◌+◌, ◌%◌, arith}
use Rattle.trial_plans.proofs.TrialDraw.{no_byte, next_byte, all_bytes}
use Rattle.trial_plans.proofs.draw.draw_packet.Goals as goal

pub loop-init : goal.loop-init
loop-init c = no_byte c.args.generator.now c.next_word.new.self c.next_word.result c.new-packet.result.items c.next_word.ensures c.new-packet.ensures.items

pub loop-preserved : goal.loop-preserved
loop-preserved c =
    next_byte c.loop.counter c.args.generator.now c.loop.generator c.next_word-in-loop.new.self c.next_word-in-loop.result c.loop.packet.items c.push.new.self.items
    c.loop.invariant c.next_word-in-loop.ensures c.in_ok-push.ensures.items

pub returns : goal.returns
returns c =
    let size : c.loop.counter ≡ 1 + c.next_word.result % 1500 = omega arith in
    all_bytes c.loop.counter c.args.generator.now c.next_word.new.self c.loop.generator c.next_word.result c.loop.packet.items c.next_word.ensures size c.loop.invariant
