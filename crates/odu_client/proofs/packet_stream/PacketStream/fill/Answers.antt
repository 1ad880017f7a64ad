use Rattle.std.proofs.Common.{rules, ◌+◌, refl, sym, ap, ◌∙◌, arith, take, length}
use Rattle.odu_client.proofs.Streaming.{ready_streams, streams_none, streams_both, streams_same, idles_none, idles_after, idles_both, idles_same}
use Rattle.odu_client.proofs.Slices.{rest_size, rest_length, rest_more, all_taken}
use Rattle.gfp_frames.proofs.Idles.{end_put}
use Rattle.odu_client.proofs.packet_stream.PacketStream.fill.Goals as goal

pub loop-done-init : goal.loop-done-init
loop-done-init g c = record {
  within = omega arith;
  size = refl;
  goes = streams_none _ _ _;
  over = λ other. (refl, refl, refl);
  idle = idles_none _;
}

pub loop-done-preserved : goal.loop-done-preserved
loop-done-preserved g c =
    let i = c.loop-done.invariant in
    let e = c.give-done.ensures in
    let into = c.loop-done.into in
    let done = c.loop-done.done in
    let put = end_put into done c.give-done.new.into in
    let size = ap length put ∙ rest_size into c.give-done.new.into done i.within e.size in
    let more = ap (take (done + c.give-done.result)) put ∙ rest_more into c.give-done.new.into done c.give-done.result i.within in
    record {
      within = (let a = rest_length into done i.within in let b = e.within in omega arith);
      size = size ∙ i.size;
      goes = streams_same _ _ _ _ _ _ _ _ (sym more) (streams_both _ _ _ _ _ _ _ _ _ _ _ i.goes (ready_streams _ _ _ _ _ _ _ _ e.same.0 e.same.1 e.made c.ask.ensures.ready));
      over = λ other. (let a = i.over other in let b = c.ask.ensures.over (λ q. other (sym a.2 ∙ q)) in (b.0 ∙ a.0, b.1 ∙ a.1, e.same.1 ∙ b.2 ∙ a.2));
      idle = idles_same _ _ _ _ (sym more) (idles_both _ _ _ _ _ (λ other. (i.over other).2) i.idle (idles_after _ _ _ _ c.ask.ensures.stays e.idle));
    }

pub returns-clause-goes : goal.returns-clause-goes
returns-clause-goes g c =
    let i = c.loop-done.invariant in
    streams_same _ _ _ _ _ _ _ _ (all_taken c.loop-done.into c.loop-done.done (search rules) i.within) i.goes

pub returns-clause-idle : goal.returns-clause-idle
returns-clause-idle g c =
    let i = c.loop-done.invariant in
    idles_same _ _ _ _ (all_taken c.loop-done.into c.loop-done.done (search rules) i.within) i.idle
