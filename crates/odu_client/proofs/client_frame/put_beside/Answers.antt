use Rattle.odu_client.proofs.FrameBytes.{frame_put, none16, first16, last16}
use Rattle.odu_client.proofs.client_frame.put_beside.Goals as goal

pub returns : goal.returns
unfolding none16 first16 last16
returns c = frame_put c.args.mfas _ c.args.frame.now _ _ _ _ c.put_overhead.ensures.size c.psi.ensures
    c.put_overhead.ensures.put c.put_overhead-2.ensures.put c.put_overhead-3.ensures.put c.put_overhead-4.ensures.put
