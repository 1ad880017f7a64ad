use Rattle.std.proofs.Common.{◌<◌, arith}
use Rattle.trial_command.proofs.TrialPlaces.{next_room, text_sink}
use Rattle.trial_command.proofs.places.last_places.Goals as goal

pub loop-c-preserved : goal.loop-c-preserved
loop-c-preserved c =
    let few : c.loop-c.c < 8 = omega arith in
    next_room text_sink c.args.file.items c.loop-c.c c.loop-c.bays c.set_client_out.new.self c.in_ok-room_for.field-0 few c.loop-c.invariant c.in_ok-room_for.ensures c.set_client_out.ensures
