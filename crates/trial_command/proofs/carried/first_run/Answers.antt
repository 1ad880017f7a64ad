use Rattle.trial_command.specs.declared.places.TheConstants.{FILE_ROOM}
use Rattle.trial_command.proofs.TrialPlaces.{file_sink, view}
use Rattle.trial_command.proofs.TrialRuns.{first_lives, first_ran}
use Rattle.trial_command.proofs.carried.first_run.Goals as goal

pub file_of-requires-clause-live : goal.file_of-requires-clause-live
file_of-requires-clause-live g c =
    first_lives FILE_ROOM c.args.number (view file_sink c.in_ok-bays.bays) (view file_sink c.carry_run.new.bays)
    (g.C.Chooser.asked c.args.chooser.now) (g.C.Chooser.asked c.carry_run.new.chooser) c.in_ok-bays.ensures c.in_ok-carry_run.ensures c.full_where_failed.ensures c.rooms_suffice.ensures.file

pub returns : goal.returns
returns g c =
    first_ran c.args.number (view file_sink c.in_ok-bays.bays) (view file_sink c.carry_run.new.bays) c.file_of.result.items
    (g.C.Chooser.asked c.args.chooser.now) (g.C.Chooser.asked c.carry_run.new.chooser) c.in_ok-bays.ensures c.in_ok-carry_run.ensures (first_lives FILE_ROOM c.args.number (view file_sink c.in_ok-bays.bays) (view file_sink c.carry_run.new.bays)
    (g.C.Chooser.asked c.args.chooser.now) (g.C.Chooser.asked c.carry_run.new.chooser) c.in_ok-bays.ensures c.in_ok-carry_run.ensures c.full_where_failed.ensures c.rooms_suffice.ensures.file) c.file_of.ensures
