use Rattle.std.proofs.Common.{rules, ◌+◌, ◌-◌, ◌++◌, length, take, drop}
use Rattle.port_base.specs.OutPlace.{out_view}
use Rattle.cross_matrix.proofs.Runs.{run_same, more_taken, all_taken, piece_within}
use Rattle.cross_matrix.proofs.receiver.read_bytes.Goals as goal

pub loop-done-preserved : goal.loop-done-preserved
loop-done-preserved g c =
    let bytes = c.args.bytes.now in
    let done = c.loop-done.done in
    let more = c.read_some-done.result in
    let new = c.read_some-done.new in
    record {
      within = piece_within bytes done more c.loop-done.invariant.within c.read_some-done.ensures.within;
      stands = λ first earlier read h.
          run_same first (out_view g.K.Sink new.place) earlier (read ++ take done bytes ++ take more (take (length bytes - done) (drop done bytes))) (read ++ take (done + more) bytes) new.reader new.lines
          (more_taken read bytes done more) (c.read_some-done.ensures.stands first earlier (read ++ take done bytes) (c.loop-done.invariant.stands first earlier read h));
    }

pub returns : goal.returns
returns g c = λ first earlier read h.
    let bytes = c.args.bytes.now in
    let done = c.loop-done.done in
    run_same first (out_view g.K.Sink c.loop-done.place) earlier (read ++ take done bytes) (read ++ bytes) c.loop-done.reader c.loop-done.lines (all_taken read bytes done c.loop-done.invariant.within (search rules))
    (c.loop-done.invariant.stands first earlier read h)
