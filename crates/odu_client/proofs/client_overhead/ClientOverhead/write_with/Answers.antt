use Rattle.std.proofs.Common.{arith, length, sym, ◌∙◌, ◌≡◌, ◌+◌, ◌%◌, ◌++◌, ◌∷◌, [], ap, subst}
use Rattle.frame_overhead.specs.TwoBefore.{HasSent, parity_due, or_zero}
use Rattle.odu_client.specs.AlignedRuns.{payload_of}
use Rattle.odu_client.specs.ClientFrames.{client_frame}
use Rattle.odu_client.specs.ClientOverhead.{OverheadState}
use Rattle.frame_geometry.specs.PayloadParity.{same_payload_parity}
use Rattle.odu_client.proofs.FrameBytes.{is_client_frame, payload_put, payload_kept, payload_same}
use Rattle.odu_client.proofs.Making.{one_made}
use Rattle.odu_client.proofs.client_overhead.ClientOverhead.write_with.Goals as goal

pub returns-clause-frame : goal.returns-clause-frame
returns-clause-frame c = λ frames sent.
    let P : OverheadState → Type 0 = λ o. HasSent 3824 frames o.path → c.write_with.new.frame ≡ client_frame c.args.trace.now o.mfas (or_zero (parity_due 3824 frames)) (payload_of c.args.frame.now) in
    subst P c.self.view_is
    (λ s. is_client_frame c.args.trace.now c.self.inside.mfas _ (payload_of c.args.frame.now) c.put_beside.new.frame c.write_with.new.frame c.put_beside.ensures (c.write_with.ensures.frame frames s)) sent

pub returns-clause-sent : goal.returns-clause-sent
returns-clause-sent c = λ frames sent.
    let P : OverheadState → Type 0 = λ o. HasSent 3824 frames o.path → HasSent 3824 (frames ++ c.write_with.new.frame ∷ []) c.write_with.new.self in
    subst P c.self.view_is (λ s. c.write_with.ensures.sent frames s) sent

pub returns-clause-mfas : goal.returns-clause-mfas
returns-clause-mfas c = ap (λ (o : OverheadState). (o.mfas + 1) % 256) c.self.view_is

pub returns-clause-made : goal.returns-clause-made
returns-clause-made c = λ count emitted made size.
    one_made c.args.trace.now count emitted (payload_of c.args.frame.now) c.write_with.new.frame c.args.self.now (record { path = c.write_with.new.self; mfas = (c.self.inside.mfas + 1) % 256 }) made size
    (returns-clause-frame c) (returns-clause-sent c) (returns-clause-mfas c)

pub parity_with-parity-requires : goal.parity_with-parity-requires
parity_with-parity-requires c =
    let size = ap length (sym c.as_bytes.ensures.bytes) ∙ c.as_bytes.ensures.size in (
      omega arith,
      c.requires ∙ sym (same_payload_parity 3824 c.args.frame.now c.put_beside.new.frame (omega arith) size (c.put_beside.ensures.size)
          (payload_put _ c.args.frame.now c.put_beside.new.frame size c.put_beside.ensures)),
    )

pub returns-clause-payload : goal.returns-clause-payload
returns-clause-payload c =
    let path = c.write_with.ensures.path in
    let size = ap length (sym c.as_bytes.ensures.bytes) ∙ c.as_bytes.ensures.size in
    payload_same c.args.frame.now c.write_with.new.frame size c.write_with.ensures.size
    (payload_kept _ path.0 path.1 c.args.frame.now c.put_beside.new.frame c.write_with.new.frame size c.put_beside.ensures path.2)

pub returns-clause-parity : goal.returns-clause-parity
returns-clause-parity c =
    let path = c.write_with.ensures.path in
    let size = ap length (sym c.as_bytes.ensures.bytes) ∙ c.as_bytes.ensures.size in
    same_payload_parity 3824 c.args.frame.now c.write_with.new.frame (omega arith) size c.write_with.ensures.size
    (payload_kept _ path.0 path.1 c.args.frame.now c.put_beside.new.frame c.write_with.new.frame size c.put_beside.ensures path.2) ∙ sym c.requires
