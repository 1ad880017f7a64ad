use Rattle.std.proofs.Common.{◌≡◌, refl, sym, ap, subst, ◌∙◌, arith, drop}
use Rattle.std.proofs.lemmas.List.{drop_all}
use Rattle.port_base.specs.InPlace.{in_view}
use Rattle.packet_text.specs.LinesStand.{lines_view}
use Rattle.odu_client.specs.AlignedRuns.{payload_of}
use Rattle.odu_client.specs.Framing.{FramerState}
use Rattle.odu_client.specs.Steps.FramerSteps.{FramedSome, Makes}
use Rattle.odu_client.proofs.Framing.{makes_none, makes_frame, some_left, some_drop}
use Rattle.odu_client.proofs.Streaming.{known_kept}
use Rattle.odu_client.proofs.framer.ClientFramer.have_frame.Goals as goal

pub returns-then-self-lt-CLIENT_FRAME_BYTES-clause-some :
    goal.returns-then-self-lt-CLIENT_FRAME_BYTES-clause-some
returns-then-self-lt-CLIENT_FRAME_BYTES-clause-some g c =
    some_drop c.args.self.now.left c.self.inside.frame c.self.inside.at (sym (ap (λ f. f.left) c.self.view_is))
    (let size = c.self.invariant.1 in omega arith)

pub returns-then-self-lt-CLIENT_FRAME_BYTES-clause-makes :
    goal.returns-then-self-lt-CLIENT_FRAME_BYTES-clause-makes
returns-then-self-lt-CLIENT_FRAME_BYTES-clause-makes g c = λ first read emitted h. makes_none first _ read emitted _ _ h

pub returns-clause-some : goal.returns-clause-some
returns-clause-some g c = some_left _ (let size = c.write_with.ensures.size in omega arith)

pub returns-clause-makes : goal.returns-clause-makes
returns-clause-makes g c = λ first read emitted h.
    let old : FramerState = record { sapi = c.self.inside.trace; stream = c.self.inside.stream; path = c.self.inside.overhead.path; mfas = c.self.inside.overhead.mfas; left = drop c.self.inside.at c.self.inside.frame; fresh = c.self.inside.fresh } in
    let new : FramerState = record { sapi = c.self.inside.trace; stream = c.next_payload-payload.new.stream; path = c.write_with.new.self.path; mfas = c.write_with.new.self.mfas; left = c.write_with.new.frame; fresh = c.goes_on-self-inside.result } in
    let P : FramerState → Type 0 = λ f. FramedSome first (in_view g.P.Source c.args.place.now) read emitted (lines_view c.args.lines.now) f
    → Makes first (in_view g.P.Source c.next_payload-payload.new.place) read emitted (lines_view c.args.lines.now) (lines_view c.next_payload-payload.new.lines) f new in
    subst P c.self.view_is
    (makes_frame first (in_view g.P.Source c.args.place.now) (in_view g.P.Source c.next_payload-payload.new.place) read emitted (payload_of c.next_payload-payload.new.frame) (lines_view c.args.lines.now) (lines_view c.next_payload-payload.new.lines) old new
    (drop_all c.self.inside.at c.self.inside.frame (let size = c.self.invariant.1 in omega arith)) c.next_payload-payload.ensures.size c.next_payload-payload.ensures.goes
    (λ fs sent. (c.write_with.ensures.frame fs sent, c.write_with.ensures.sent fs sent))
    refl c.write_with.ensures.mfas c.goes_on-self-inside.ensures.yes c.goes_on-self-inside.ensures.no) h

pub returns-clause-over : goal.returns-clause-over
returns-clause-over g c = λ other.
    let same : c.self.inside.stream.answer ≡ c.args.self.now.stream.answer = ap (λ f. f.stream.answer) c.self.view_is in
    let over = c.next_payload-payload.ensures.over (λ e. other (sym same ∙ e)) in
    (over.0, over.1, over.2 ∙ same)

pub returns-clause-hand : goal.returns-clause-hand
returns-clause-hand g c = λ some.
    absurd (some (sym (ap (λ f. f.left) c.self.view_is) ∙ drop_all c.self.inside.at c.self.inside.frame (let size = c.self.invariant.1 in omega arith)))

pub invariant_of-self : goal.invariant_of-self
invariant_of-self g c =
    let e = c.write_with.ensures in
    let p = c.next_payload-payload.ensures in
    (omega arith, e.size, known_kept c.next_payload-payload.new.again c.next_payload-payload.new.frame c.write_with.new.frame c.next_payload-payload.new.stream c.next_payload-payload.result p.again e.payload e.parity p.parity)
