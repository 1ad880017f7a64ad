use Rattle.std.specs.Prelude.{flat_map}
use Rattle.gfp_frames.specs.Delivered.{delivered}
use Rattle.port_base.specs.OutPlace.{out_view}
use Rattle.cross_matrix.proofs.Runs.{before, open_run, goes_on, whole_read, break_read}
use Rattle.cross_matrix.proofs.receiver.hand_on.Goals as goal

pub returns-in-Whole : goal.returns-in-Whole
returns-in-Whole g c = λ first arrived h. rw c.in-Whole.is (
    whole_read first (out_view g.K.Sink c.read_frame.new.place) arrived c.args.frame.now c.read_frame.new.reader c.read_frame.new.lines
    (c.read_frame.ensures first (flat_map delivered (before arrived)) (open_run arrived) (goes_on first (out_view g.K.Sink c.args.place.now) arrived c.args.reader.now c.args.lines.now h))
    )

pub returns-in-Break : goal.returns-in-Break
returns-in-Break g c = λ first arrived h. rw c.in-Break.is (break_read first (out_view g.K.Sink c.args.place.now) arrived c.args.reader.now c.restart.new.self c.args.lines.now c.restart.ensures.read h)
