use Rattle.std.proofs.Common.{ℕ, List, take, sym, subst}
use Rattle.odu_client.specs.AlignedRuns.{arrivals}
use Rattle.odu_client.specs.Aligner.{AlignsBy}
use Rattle.odu_client.specs.View.{aligner_state}
use Rattle.port_base.specs.OutPlace.{out_view}
use Rattle.cross_matrix.proofs.Runs.{all_read, holds_more}
use Rattle.cross_matrix.proofs.receiver.take_some.Goals as goal

pub returns-clause-holds : goal.returns-clause-holds
returns-clause-holds g c = λ first arrived h.
    let place = out_view g.K.Sink c.args.place.now in
    let was = c.args.aligner.now in
    let is = c.take_some-aligned.new.self in
    let made = c.hand_on in
    let r = c.take_some-aligned.result.0 in
    let more = take c.take_some-aligned.result.1 c.args.bytes.now in
    let frame = c.frame.result.now in
    let By : List ℕ → Type 0 = λ f. AlignsBy arrived more r f (aligner_state is) in
    let aligns : AlignsBy arrived more r frame (aligner_state is) = subst By (sym c.frame.ensures) (c.take_some-aligned.ensures.aligned arrived h.aligned) in
    holds_more first place (out_view g.K.Sink made.new.place) arrived more frame r (aligner_state was) (aligner_state is) was.frames is.frames c.args.reader.now made.new.reader c.args.lines.now made.new.lines aligns c.take_some-aligned.ensures.frames
    (made.ensures first (arrivals arrived) (all_read first place arrived (aligner_state was) was.frames c.args.reader.now c.args.lines.now h)) h
