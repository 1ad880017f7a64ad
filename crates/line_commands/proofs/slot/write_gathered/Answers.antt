use Rattle.std.proofs.Common.{◌≡◌, ◌<◌, ◌*◌, ◌+◌, ◌/◌, ◌∙◌, length, take, ap, arith}
use Rattle.std.proofs.Math.Seq.{take-length}
use Rattle.port_base.specs.Bytes.{after}
use Rattle.port_base.specs.InPlace.{in_view}
use Rattle.port_base.specs.Views.{Live}
use Rattle.port_base.specs.AtHand.{place_at_hand}
use Rattle.line_commands.proofs.SlotFrames.{gave_hand, all_written, part_written}
use Rattle.line_commands.proofs.Hands.{live_hand, all_went, fewer_went}
use Rattle.line_commands.proofs.slot.write_gathered.Goals as goal

pub returns-in-Whole-clause-step : goal.returns-in-Whole-clause-step
returns-in-Whole-clause-step g c = λ slot most low high few gathered.
    let n = c.args.frames in
    let bytes = c.args.bytes.now in
    let first = in_view g.I.Source c.args.line.now in
    let now = in_view g.I.Source c.pass.new.self in
    let old = g.K.Sink.got c.args.report.now in
    let new = g.K.Sink.got c.write_counted-written.new.sink in
    let hand = place_at_hand g.I.Source c.args.line.now in
    let written = c.write_counted-written.ensures in
    let all : c.write_counted-written.result.1 ≡ length bytes = all_went c.write_counted-written.result.0 c.write_counted-written.result.1 (length bytes) c.in-Whole.is written.writing in
    let got : new ≡ after old bytes = written.bytes ∙ ap (λ k. after old (take k bytes)) all ∙ ap (after old) (take-length bytes) in
    let some : 0 < length hand = omega (arith, c.requires.some, c.requires.hand) in
    let live : first.state ≡ Live = live_hand g.I.Source c.args.line.now some in
    let gave = gave_hand first now (take (n * 16320) hand) live c.pass.ensures.passed c.pass.ensures.state c.pass.ensures.faults in
    all_written slot most n first now old new hand bytes c.requires.some few c.requires.hand gathered got gave c.pass.ensures.state c.pass.ensures.ended

pub returns-in-Lost-clause-step : goal.returns-in-Lost-clause-step
returns-in-Lost-clause-step g c = λ slot most low high few gathered.
    let n = c.args.frames in
    let bytes = c.args.bytes.now in
    let first = in_view g.I.Source c.args.line.now in
    let now = in_view g.I.Source c.pass-in-Lost.new.self in
    let old = g.K.Sink.got c.args.report.now in
    let new = g.K.Sink.got c.write_counted-written.new.sink in
    let hand = place_at_hand g.I.Source c.args.line.now in
    let written = c.write_counted-written.ensures in
    let count = c.write_counted-written.result.1 in
    let fewer : count < length bytes = fewer_went c.write_counted-written.result.0 count (length bytes) c.in-Lost.is written.writing in
    let within : count < n * 1904 = omega (arith, fewer, c.requires.size) in
    let some : 0 < length hand = omega (arith, c.requires.some, c.requires.hand) in
    let live : first.state ≡ Live = live_hand g.I.Source c.args.line.now some in
    let pass = c.pass-in-Lost.ensures in
    let gave = gave_hand first now (take ((count / 1904 + 1) * 16320) hand) live pass.passed pass.state pass.faults in
    part_written slot most n count first now old new hand bytes low high few c.requires.hand gathered within written.bytes gave pass.state
