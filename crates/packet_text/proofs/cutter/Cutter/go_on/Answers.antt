use Rattle.std.proofs.Common.{◌≡◌, ◌≤◌, ◌+◌, ◌-◌, take, drop, length, arith, sym, ap, ◌∙◌, length-drop}
use Rattle.std.proofs.lemmas.List.{length-take-le}
use Rattle.packet_text.specs.Steps.Carrying.{Carried, NoneCarried}
use Rattle.packet_text.proofs.Cuts.{by_some, by_none, hand_after, hand_none}
use Rattle.packet_text.proofs.cutter.Cutter.go_on.Goals as goal

pub returns-in-Some-clause-goes : goal.returns-in-Some-clause-goes
returns-in-Some-clause-goes c =
    let s = c.args.self.now in
    let hand = take (s.end - s.at) (drop s.at s.block) in
    let l : Carried s.line.items hand c.in-Some.n c.carry.new.line.items = rw (← c.bytes.ensures.bytes) c.in-Some.ensures.line in
    let size : length s.block ≡ 4096 = sym (ap length c.bytes.ensures.bytes) ∙ c.bytes.ensures.size in
    let top = s.end_within in
    let low = s.at_within in
    let within : s.end ≤ length s.block = omega arith in
    let all : length hand ≡ s.end - s.at = length-take-le (s.end - s.at) (drop s.at s.block) (omega (arith, length-drop s.at s.block)) in
    let less = l.within in
    let fits : s.at + (c.in-Some.n + 1) ≤ s.end = omega arith in
    by_some _ _ _ _ s.ended c.in-Some.n l (hand_after s.block s.at s.end (c.in-Some.n + 1) within fits)

pub returns-in-None-clause-goes : goal.returns-in-None-clause-goes
returns-in-None-clause-goes c =
    let s = c.args.self.now in
    let hand = take (s.end - s.at) (drop s.at s.block) in
    let l : NoneCarried s.line.items hand c.carry.new.line.items = rw (← c.bytes.ensures.bytes) c.in-None.ensures.line in
    by_none _ _ _ _ s.ended l (hand_none s.end (drop s.end s.block))
