use Rattle.std.proofs.Common.{rules, ◌+◌, ◌-◌, ◌++◌, length, take, drop}
use Rattle.port_base.specs.Racks.{bays_view}
use Rattle.unbundle_command.proofs.Holding.{clients_twice}
use Rattle.unbundle_command.proofs.Runs.{run_same, more_taken, all_taken, piece_within}
use Rattle.unbundle_command.proofs.receiving.read_bytes.Goals as goal

pub loop-done-preserved : goal.loop-done-preserved
loop-done-preserved g c =
    let bytes = c.args.bytes.now in
    let done = c.loop-done.done in
    let more = c.read_some-done.result in
    let new = c.read_some-done.new in
    record {
      within = piece_within bytes done more c.loop-done.invariant.within c.read_some-done.ensures.within;
      read = λ first earlier read h.
          run_same first (bays_view g.I.Source g.O.Sink new.bays) earlier (read ++ take done bytes ++ take more (take (length bytes - done) (drop done bytes))) (read ++ take (done + more) bytes) new.reader new.outputs
          (more_taken read bytes done more) (c.read_some-done.ensures.read first earlier (read ++ take done bytes) (c.loop-done.invariant.read first earlier read h));
      alone = clients_twice _ _ _ c.loop-done.invariant.alone c.read_some-done.ensures.alone;
    }

pub returns-clause-read : goal.returns-clause-read
returns-clause-read g c = λ first earlier read h.
    let bytes = c.args.bytes.now in
    let done = c.loop-done.done in
    let l = c.loop-done in
    run_same first (bays_view g.I.Source g.O.Sink l.bays) earlier (read ++ take done bytes) (read ++ bytes) l.reader l.outputs (all_taken read bytes done l.invariant.within (search rules))
    (l.invariant.read first earlier read h)
