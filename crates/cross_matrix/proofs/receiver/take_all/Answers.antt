use Rattle.std.proofs.Common.{rules, ◌+◌, ◌-◌, ◌++◌, length, take, drop}
use Rattle.odu_client.specs.View.{aligner_state}
use Rattle.port_base.specs.OutPlace.{out_view}
use Rattle.cross_matrix.proofs.Runs.{holds_same, more_taken, all_taken, piece_within}
use Rattle.cross_matrix.proofs.receiver.take_all.Goals as goal

pub loop-done-preserved : goal.loop-done-preserved
loop-done-preserved g c =
    let bytes = c.args.bytes.now in
    let done = c.loop-done.done in
    let more = c.take_some-done.result in
    let new = c.take_some-done.new in
    record {
      within = piece_within bytes done more c.loop-done.invariant.within c.take_some-done.ensures.within;
      holds = λ first arrived h.
          holds_same first (out_view g.K.Sink new.place) (arrived ++ take done bytes ++ take more (take (length bytes - done) (drop done bytes))) (arrived ++ take (done + more) bytes) (aligner_state new.aligner) new.aligner.frames new.reader new.lines
          (more_taken arrived bytes done more) (c.take_some-done.ensures.holds first (arrived ++ take done bytes) (c.loop-done.invariant.holds first arrived h));
    }

pub returns : goal.returns
returns g c = λ first arrived h.
    let bytes = c.args.bytes.now in
    let done = c.loop-done.done in
    let l = c.loop-done in
    holds_same first (out_view g.K.Sink l.place) (arrived ++ take done bytes) (arrived ++ bytes) (aligner_state l.aligner) l.aligner.frames l.reader l.lines (all_taken arrived bytes done l.invariant.within (search rules)) (l.invariant.holds first arrived h)
