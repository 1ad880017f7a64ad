use Rattle.std.proofs.Common.{◌-◌, arith, rules}
use Rattle.std.specs.List.{Contains}
use Rattle.otn_base.specs.LineSlots.{slots_of}
use Rattle.tributary_model.proofs.OnLine.{few_of_kind}
use Rattle.trib_sink.proofs.Msi.{noted, not_noted, noted_slots}
use Rattle.trib_sink.proofs.arrivals.note_msi.Goals as goal

pub returns-then-expected-eq0-clause-bytes : goal.returns-then-expected-eq0-clause-bytes
returns-then-expected-eq0-clause-bytes g c = not_noted c.args.slots.now.list (g.F.TakeFrame.bytes c.args.frame.now) c.args.expected c.args.msi.now.items (λ some has. absurd (omega arith))

pub returns-then-has-clause-bytes : goal.returns-then-has-clause-bytes
returns-then-has-clause-bytes g c =
    let has : Contains c.args.slots.now.list (c.args.expected - 1) = search rules in
    noted (slots_of c.args.slots.now.kind) c.args.slots.now.list (g.F.TakeFrame.bytes c.args.frame.now) c.args.expected c.psi.result c.args.msi.now.items c.push.new.self.items c.if-has.ensures.list (omega arith) has c.push.ensures.items c.psi.ensures

pub returns-then-has-clause-slots : goal.returns-then-has-clause-slots
returns-then-has-clause-slots g c =
    let has : Contains c.args.slots.now.list (c.args.expected - 1) = search rules in
    noted_slots (slots_of c.args.slots.now.kind) c.args.slots.now.list c.args.expected c.psi.result c.args.msi.now.items c.push.new.self.items c.if-has.ensures.list (few_of_kind c.args.slots.now.kind) has c.push.ensures.items

pub returns-else-has-clause-bytes : goal.returns-else-has-clause-bytes
returns-else-has-clause-bytes g c = not_noted c.args.slots.now.list (g.F.TakeFrame.bytes c.args.frame.now) c.args.expected c.args.msi.now.items (λ some has. let false_is_true = c.if-has.ensures.has.1 has in cc)
