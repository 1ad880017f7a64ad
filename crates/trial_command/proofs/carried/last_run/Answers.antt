use Rattle.trial_command.proofs.TrialPlaces.{text_sink, view}
use Rattle.trial_command.specs.declared.places.TheConstants.{TEXT_ROOM}
use Rattle.trial_command.proofs.TrialRuns.{last_ran}
use Rattle.trial_command.proofs.carried.last_run.Goals as goal

pub returns : goal.returns
returns g c =
    last_ran TEXT_ROOM (view text_sink c.in_ok-bays.bays) (view text_sink c.carry_run.new.bays) c.args.file.items
    (g.C.Chooser.asked c.args.chooser.now) (g.C.Chooser.asked c.carry_run.new.chooser) c.in_ok-bays.ensures c.in_ok-carry_run.ensures c.full_where_failed.ensures
