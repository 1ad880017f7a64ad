use Rattle.std.proofs.Common.{◌++◌, sym, ap, ◌∙◌, length, subst}
use Rattle.odu_client.proofs.PayloadRows.{filled, payload_filled, rows_size}
use Rattle.odu_client.specs.AlignedRuns.{payload_of}
use Rattle.port_base.specs.Racks.{bays_view}
use Rattle.bundle_command.specs.Steps.Channels.{WeavingStands}
use Rattle.bundle_command.proofs.Given.{four_rows, only_twice}
use Rattle.bundle_command.proofs.weaving.Weaving.fill_payload.Goals as goal

pub returns-clause-size : goal.returns-clause-size
returns-clause-size g c =
    let s1 = c.fill.ensures.size ∙ c.payload_row_mut.ensures.size in
    let s2 = c.fill-2.ensures.size ∙ c.payload_row_mut-2.ensures.size in
    let s3 = c.fill-3.ensures.size ∙ c.payload_row_mut-3.ensures.size in
    let s4 = c.fill-4.ensures.size ∙ c.payload_row_mut-4.ensures.size in
    ap length (payload_filled c.args.frame.now c.fill.new.into c.fill-2.new.into c.fill-3.new.into c.fill-4.new.into c.payload_row_mut.ensures.frame s1 s2 s3 s4)
    ∙ rows_size c.fill.new.into c.fill-2.new.into c.fill-3.new.into c.fill-4.new.into s1 s2 s3 s4

pub returns-clause-stands : goal.returns-clause-stands
returns-clause-stands g c = λ clients first emitted h.
    let s1 = c.fill.ensures.size ∙ c.payload_row_mut.ensures.size in
    let s2 = c.fill-2.ensures.size ∙ c.payload_row_mut-2.ensures.size in
    let s3 = c.fill-3.ensures.size ∙ c.payload_row_mut-3.ensures.size in
    let s4 = c.fill-4.ensures.size ∙ c.payload_row_mut-4.ensures.size in
    let p1 = c.fill.new.into in
    let p2 = c.fill-2.new.into in
    let p3 = c.fill-3.new.into in
    let p4 = c.fill-4.new.into in
    subst (λ b. WeavingStands clients first (bays_view g.I.Source g.O.Sink c.fill-4.new.bays) b c.fill-4.new.self)
    (four_rows emitted p1 p2 p3 p4 (payload_of (filled c.args.frame.now p1 p2 p3 p4)) (sym (payload_filled c.args.frame.now p1 p2 p3 p4 c.payload_row_mut.ensures.frame s1 s2 s3 s4)))
    (c.fill-4.ensures.stands clients first (((emitted ++ p1) ++ p2) ++ p3) (c.fill-3.ensures.stands clients first ((emitted ++ p1) ++ p2) (c.fill-2.ensures.stands clients first (emitted ++ p1) (c.fill.ensures.stands clients first emitted h))))

pub returns-clause-alone : goal.returns-clause-alone
returns-clause-alone g c =
    let was = bays_view g.I.Source g.O.Sink c.args.bays.now in
    let a = bays_view g.I.Source g.O.Sink c.fill.new.bays in
    let b = bays_view g.I.Source g.O.Sink c.fill-2.new.bays in
    let d = bays_view g.I.Source g.O.Sink c.fill-3.new.bays in
    let e = bays_view g.I.Source g.O.Sink c.fill-4.new.bays in
    only_twice was d e (only_twice was b d (only_twice was a b c.fill.ensures.alone c.fill-2.ensures.alone) c.fill-3.ensures.alone) c.fill-4.ensures.alone
