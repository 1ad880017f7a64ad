use Rattle.std.proofs.Common.{rules, ◌≡◌, ◌≢◌, refl, ◌∙◌}
use Rattle.packet_text.specs.LinesStand.{lines_view}
use Rattle.packet_text.specs.declared.line.Line.TheVariants.{Packet}
use Rattle.packet_text.specs.declared.found.Found.TheVariants.{Empty}
use Rattle.packet_text.proofs.FindingLines.{finds_none, finds_then}
use Rattle.packet_text.proofs.StandingLines.{still_stands, take_stands}
use Rattle.packet_text.proofs.packet_lines.PacketLines.take.Goals as goal

pub loop-found-init : goal.loop-found-init
loop-found-init g c = record { finds = λ first read packets h. finds_none first read packets _ _ h; alive = refl; kept = refl; quiet = λ e. (refl, e) }

pub loop-found-preserved : goal.loop-found-preserved
loop-found-preserved g c =
    let empty : c.find-found.result ≡ Empty = search rules in
    let e = c.find-found.ensures in
    let i = c.loop-found.invariant in
    record {
      finds = λ first read packets h. finds_then _ first read packets _ _ _ _ _ (i.finds first read packets h) (λ k. rw (← empty) (e.finds first _ packets k));
      alive = e.alive (λ lost. cc) ∙ i.alive;
      kept = e.kept (λ p. cc) ∙ i.kept;
      quiet = λ ended. (let q = i.quiet ended in let r = e.quiet q.1 in (r.0 ∙ q.0, r.1));
    }

pub returns-then-ne-clause-stands : goal.returns-then-ne-clause-stands
returns-then-ne-clause-stands g c = λ first read packets h.
    let over : (lines_view c.args.self.now).answer ≢ Packet = search rules in
    still_stands first _ read packets _ over h

pub returns-then-ne-2-clause-stands : goal.returns-then-ne-2-clause-stands
returns-then-ne-2-clause-stands g c = λ first read packets h.
    let going : (lines_view c.args.self.now).answer ≡ Packet = search rules in
    let counts : c.find-found.result ≢ Empty = search rules in
    let i = c.loop-found.invariant in
    rw c.answer_for-self.ensures (take_stands _ first read packets _ _ _ _ going counts (λ s. finds_then _ first read packets _ _ _ _ _ (i.finds first read packets s) (λ k. c.find-found.ensures.finds first _ packets k)) h)
