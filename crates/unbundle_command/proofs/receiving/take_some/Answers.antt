use Rattle.std.proofs.Common.{ℕ, List, take, sym, subst}
use Rattle.odu_client.specs.AlignedRuns.{arrivals}
use Rattle.odu_client.specs.Aligner.{AlignsBy}
use Rattle.odu_client.specs.View.{aligner_state}
use Rattle.port_base.specs.Racks.{bays_view}
use Rattle.unbundle_command.proofs.Runs.{all_read, holds_more}
use Rattle.unbundle_command.proofs.receiving.take_some.Goals as goal

pub returns-clause-holds : goal.returns-clause-holds
returns-clause-holds g c = λ first read h.
    let bays = bays_view g.I.Source g.O.Sink c.args.bays.now in
    let was = c.args.aligner.now in
    let is = c.take_some-aligned.new.self in
    let made = c.hand_on in
    let r = c.take_some-aligned.result.0 in
    let further = take c.take_some-aligned.result.1 c.args.bytes.now in
    let frame = c.frame.result.now in
    let By : List ℕ → Type 0 = λ f. AlignsBy read further r f (aligner_state is) in
    let aligns : AlignsBy read further r frame (aligner_state is) = subst By (sym c.frame.ensures) (c.take_some-aligned.ensures.aligned read h.aligned) in
    holds_more first bays (bays_view g.I.Source g.O.Sink made.new.bays) read further frame r (aligner_state was) (aligner_state is) c.args.reader.now made.new.reader c.args.outputs.now made.new.outputs aligns
    (made.ensures.read first (arrivals read) (all_read first bays read (aligner_state was) c.args.reader.now c.args.outputs.now h)) h
