use Rattle.std.proofs.Common.{◌+◌, ◌-◌, ◌/◌, ◌∙◌, ℕ, List, ap}
use Rattle.pcap_packets.specs.Written.{digits_in_front}
use Rattle.pcap_packets.specs.Steps.Gathering.{IsCut}
use Rattle.pcap_packets.proofs.ManyLines.{Within, rest_all, within_start, next_room, walk_on, walk_end}
use Rattle.pcap_packets.proofs.record.stopped_line.Goals as goal

pub loop-count-init : goal.loop-count-init
loop-count-init c =
    let text = c.args.lines.now in
    let next = c.leading_digits-count.ensures.count in
    let room = next_room c.requires.lines text c.args.sent 0 c.args.sent c.leading_digits-count.result (within_start c.requires.lines text c.args.sent c.requires.cut) next in
    record { walked = λ all cut. within_start all text c.args.sent cut; next = next; some = room.0; room = room.1 }

pub loop-count-preserved : goal.loop-count-preserved
loop-count-preserved c =
    let text = c.args.lines.now in
    let i = c.loop-count.invariant in
    let done = c.loop-count.done + (c.loop-count.count + 1) in
    let enough = c.loop-count-test.true in
    let walked : (all : List (List ℕ)) → IsCut all text c.args.sent → Within all text c.args.sent done (c.loop-count.left - (16 + c.loop-count.count / 2)) = λ all cut. walk_on all text c.args.sent c.loop-count.done c.loop-count.left c.loop-count.count (i.walked all cut) i.next enough in
    let next = c.leading_digits-count-in-loop-count.ensures.count ∙ ap digits_in_front (rest_all done text) in
    let room = next_room c.requires.lines text c.args.sent done (c.loop-count.left - (16 + c.loop-count.count / 2)) c.leading_digits-count-in-loop-count.result (walked c.requires.lines c.requires.cut) next in
    record { walked = walked; next = next; some = room.0; room = room.1 }

pub returns-clause-stops : goal.returns-clause-stops
returns-clause-stops c = λ all cut. walk_end all c.args.lines.now c.args.sent c.loop-count.done c.loop-count.left c.loop-count.count (c.loop-count.invariant.walked all cut) c.loop-count.invariant.next c.loop-count-test.false
