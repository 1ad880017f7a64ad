use Rattle.std.proofs.Common.{◌≡◌, ◌<◌, ◌≤◌, ◌*◌, length, arith, ◌∙◌, sym}
use Rattle.line_commands.proofs.LineFrames.{until-none}
use Rattle.line_commands.proofs.SlotBatches.{frame_gathered, slot-room}
use Rattle.line_commands.proofs.frames_at_hand.gather_frames.Goals as goal

pub loop-f-init : goal.loop-f-init
loop-f-init c = sym (until-none c.args.slot c.args.bytes.now)

pub loop-f-preserved : goal.loop-f-preserved
loop-f-preserved c =
    let room : length c.loop-f.into ≡ 15232 = omega (arith, c.loop-f.auto.into, c.requires.room) in
    let within : c.loop-f.f < 8 = omega arith in
    let there : c.loop-f.f * 1904 ≤ length c.loop-f.into = omega arith in
    let wide : length c.gather_slot.new.into ≡ 1904 = c.gather_slot.auto.into ∙ slot-room c.loop-f.into c.loop-f.f room within in
    frame_gathered c.args.slot c.args.bytes.now c.loop-f.into c.gather_slot.new.into c.loop-f.f c.loop-f.invariant wide there c.gather_slot.ensures
