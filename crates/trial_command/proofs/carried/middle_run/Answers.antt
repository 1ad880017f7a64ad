use Rattle.trial_command.specs.declared.places.TheConstants.{FILE_ROOM}
use Rattle.trial_command.proofs.TrialPlaces.{file_sink, view}
use Rattle.trial_command.proofs.TrialRuns.{middle_lives, middle_ran}
use Rattle.trial_command.proofs.carried.middle_run.Goals as goal

pub file_of-requires-clause-live : goal.file_of-requires-clause-live
file_of-requires-clause-live g c =
    middle_lives FILE_ROOM c.args.run (view file_sink c.in_ok-bays.bays) (view file_sink c.carry_run.new.bays) c.args.file.items
    (g.C.Chooser.asked c.args.chooser.now) (g.C.Chooser.asked c.carry_run.new.chooser) c.requires.least c.requires.most c.in_ok-bays.ensures c.in_ok-carry_run.ensures c.full_where_failed.ensures c.rooms_suffice.ensures.file

pub returns : goal.returns
returns g c =
    middle_ran c.args.run (view file_sink c.in_ok-bays.bays) (view file_sink c.carry_run.new.bays) c.args.file.items c.file_of.result.items
    (g.C.Chooser.asked c.args.chooser.now) (g.C.Chooser.asked c.carry_run.new.chooser) c.requires.least c.requires.most
    c.in_ok-bays.ensures c.in_ok-carry_run.ensures (middle_lives FILE_ROOM c.args.run (view file_sink c.in_ok-bays.bays) (view file_sink c.carry_run.new.bays) c.args.file.items
    (g.C.Chooser.asked c.args.chooser.now) (g.C.Chooser.asked c.carry_run.new.chooser) c.requires.least c.requires.most c.in_ok-bays.ensures c.in_ok-carry_run.ensures c.full_where_failed.ensures c.rooms_suffice.ensures.file) c.file_of.ensures
