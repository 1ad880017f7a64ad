use Rattle.line_side.specs.LineForm.{LineForm}
use Rattle.line_view.proofs.Begin.{new_shows, view_begins}
use Rattle.line_view.proofs.viewing.new_viewing.Goals as goal

pub returns-clause-shows : goal.returns-clause-shows
returns-clause-shows c = new_shows c.args.shown.now c.in_ok-watched.watched.items c.in_ok-watched.ensures

pub returns-clause-new : goal.returns-clause-new
returns-clause-new c =
    let form : LineForm = record { kind = c.args.kind; scrambled = c.args.scrambled } in
    let line = c.in_ok-line.ensures in
    view_begins form c.in_ok-line.line c.args.shown.now c.in_ok-watched.watched.items line.pieces line.frames_taken line.kind line.stands c.in_ok-watched.ensures c.requires
