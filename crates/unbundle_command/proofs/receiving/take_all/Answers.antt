use Rattle.std.proofs.Common.{rules, ◌+◌, ◌-◌, ◌++◌, length, take, drop}
use Rattle.odu_client.specs.View.{aligner_state}
use Rattle.port_base.specs.Racks.{bays_view}
use Rattle.unbundle_command.proofs.Holding.{clients_twice}
use Rattle.unbundle_command.proofs.Runs.{holds_same, more_taken, all_taken, piece_within}
use Rattle.unbundle_command.proofs.receiving.take_all.Goals as goal

pub loop-done-preserved : goal.loop-done-preserved
loop-done-preserved g c =
    let bytes = c.args.bytes.now in
    let done = c.loop-done.done in
    let more = c.take_some-done.result in
    let new = c.take_some-done.new in
    record {
      within = piece_within bytes done more c.loop-done.invariant.within c.take_some-done.ensures.within;
      holds = λ first read h.
          holds_same first (bays_view g.I.Source g.O.Sink new.bays) (read ++ take done bytes ++ take more (take (length bytes - done) (drop done bytes))) (read ++ take (done + more) bytes) (aligner_state new.aligner) new.reader new.outputs
          (more_taken read bytes done more) (c.take_some-done.ensures.holds first (read ++ take done bytes) (c.loop-done.invariant.holds first read h));
      alone = clients_twice _ _ _ c.loop-done.invariant.alone c.take_some-done.ensures.alone;
    }

pub returns-clause-holds : goal.returns-clause-holds
returns-clause-holds g c = λ first read h.
    let bytes = c.args.bytes.now in
    let done = c.loop-done.done in
    let l = c.loop-done in
    holds_same first (bays_view g.I.Source g.O.Sink l.bays) (read ++ take done bytes) (read ++ bytes) (aligner_state l.aligner) l.reader l.outputs
    (all_taken read bytes done l.invariant.within (search rules)) (l.invariant.holds first read h)
