use Rattle.std.proofs.Common.{◌++◌, sym, subst, refl}
use Rattle.odu_client.specs.View.{aligner_state}
use Rattle.odu_client.specs.ClientOutput.{arriving_packets}
use Rattle.port_base.specs.OutPlace.{out_view}
use Rattle.cross_matrix.specs.Receiving.{ReceiverView, ReceiverStands}
use Rattle.cross_matrix.proofs.Runs.{holds_first, stands_last}
use Rattle.cross_matrix.proofs.receiver.Receiver.take.Goals as goal

pub returns : goal.returns
returns g c = λ first arrived h.
    let inside = c.self.inside in
    let place = out_view g.K.Sink c.args.place.now in
    let was : ReceiverView = record { aligner = aligner_state inside.aligner; reader = inside.reader; frames = inside.aligner.frames; packets = inside.lines.packets } in
    let Old : ReceiverView → Type 0 = λ v. ReceiverStands first place arrived v in
    let old : ReceiverStands first place arrived was = subst Old (sym c.self.view_is) h in
    let all = c.take_all.new in
    let is : ReceiverView = record { aligner = aligner_state all.aligner; reader = all.reader; frames = all.aligner.frames; packets = c.flush.new.self.packets } in
    stands_last first (out_view g.K.Sink all.place) (out_view g.K.Sink c.flush.new.place) (arrived ++ c.args.bytes.now) all.lines is (c.flush.ensures.sent first (arriving_packets (arrived ++ c.args.bytes.now)))
    (c.take_all.ensures first arrived (holds_first first place arrived was inside.lines c.self.invariant refl old))
