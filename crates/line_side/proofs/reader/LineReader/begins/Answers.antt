use Rattle.std.proofs.Common.{◌≡◌, ◌%◌, eqb, true, false, arith}
use Rattle.std.proofs.lemmas.Bool.Decides.{nat_tests}
use Rattle.otn_base.specs.LineSlots.{slots_of}
use Rattle.line_side.specs.LineFile.{frame_mfas}
use Rattle.line_side.proofs.Beginnings.{begins_not, begins_by, some_said}
use Rattle.line_side.proofs.reader.LineReader.begins.Goals as goal

pub returns-then-mfas-slots-ne0-clause-begins : goal.returns-then-mfas-slots-ne0-clause-begins
returns-then-mfas-slots-ne0-clause-begins g c =
    let e = c.mfas-mfas.ensures in
    let k = c.slots.ensures.slots in
    let other : eqb (frame_mfas c.args.self.now.hand % slots_of c.args.kind) 0 ≡ false = grind (arith, nat_tests) in
    begins_not _ _ _ c.requires other

pub returns-then-look_ahead-clause-begins : goal.returns-then-look_ahead-clause-begins
returns-then-look_ahead-clause-begins g c =
    let e = c.mfas-mfas.ensures in
    let k = c.slots.ensures.slots in
    let fits : eqb (frame_mfas c.args.self.now.hand % slots_of c.args.kind) 0 ≡ true = grind (arith, nat_tests) in
    begins_by (slots_of c.args.kind) c.look_ahead.result _ _ _ _ _ c.requires fits c.look_ahead.ensures.looks (λ f. absurd (let t = c.if-look_ahead.true in cc)) (λ t. some_said _ _ _ _ _ _ c.starts.ensures e c.next_mfas.ensures)

pub returns-else-look_ahead-clause-begins : goal.returns-else-look_ahead-clause-begins
returns-else-look_ahead-clause-begins g c =
    let e = c.mfas-mfas.ensures in
    let k = c.slots.ensures.slots in
    let fits : eqb (frame_mfas c.args.self.now.hand % slots_of c.args.kind) 0 ≡ true = grind (arith, nat_tests) in
    begins_by (slots_of c.args.kind) c.look_ahead.result _ _ _ _ _ c.requires fits c.look_ahead.ensures.looks (λ f. f) (λ t. absurd (let f = c.if-look_ahead.false in cc))
