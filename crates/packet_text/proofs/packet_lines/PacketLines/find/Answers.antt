use Rattle.std.proofs.Common.{sym, ap, ◌∙◌, refl}
use Rattle.packet_text.specs.Cutting.{cut_view}
use Rattle.packet_text.specs.declared.cutter.Cutter.{Cutter}
use Rattle.packet_text.proofs.StandingLines.{near_hand}
use Rattle.packet_text.proofs.FindingLines.{find_line, find_last, find_long, find_end, find_lost}
use Rattle.packet_text.proofs.packet_lines.PacketLines.find.Goals as goal

pub returns-in-Line-clause-finds : goal.returns-in-Line-clause-finds
returns-in-Line-clause-finds g c = λ first read packets h.
    let e = c.judge.ensures in
    find_line _ first read packets _ _ (cut_view c.next.new.self) _ _ (c.in-Line.ensures.cuts (λ e. cc)) (λ lines counts. e.judges lines (record { number = counts.number; empty = counts.empty })) (ap (λ (k : Cutter). (cut_view k).hand) e.cutter) (ap (λ (k : Cutter). k.ended) e.cutter) (near_hand _ _ _ c.in-Line.ensures.near) h

pub returns-in-Last-clause-finds : goal.returns-in-Last-clause-finds
returns-in-Last-clause-finds g c = λ first read packets h.
    let e = c.judge-in-Last.ensures in
    find_last _ first read packets _ _ (cut_view c.next.new.self) _ _ (c.in-Last.ensures.cuts (λ e. cc)) (λ lines counts. e.judges lines (record { number = counts.number; empty = counts.empty })) (ap (λ (k : Cutter). (cut_view k).hand) e.cutter) (ap (λ (k : Cutter). k.ended) e.cutter) (near_hand _ _ _ c.in-Last.ensures.near) h

pub returns-in-Long-clause-finds : goal.returns-in-Long-clause-finds
returns-in-Long-clause-finds g c = λ first read packets h.
    let e = c.too_long.ensures in
    find_long _ first read packets _ _ (cut_view c.next.new.self) _ _ (c.in-Long.ensures.cuts (λ e. cc)) e.result e.number (ap (λ (k : Cutter). k.ended) e.cutter) h

pub returns-in-End-clause-finds : goal.returns-in-End-clause-finds
returns-in-End-clause-finds g c = λ first read packets h. find_end first read packets _ _ (cut_view c.next.new.self) _ _ (c.in-End.ensures.cuts (λ e. cc)) refl h

pub returns-in-Lost-clause-finds : goal.returns-in-Lost-clause-finds
returns-in-Lost-clause-finds g c = λ first read packets h. find_lost first read packets _ _ (cut_view c.next.new.self) _ _ (c.in-Lost.ensures.lost refl) refl h

pub returns-in-Line-clause-alive : goal.returns-in-Line-clause-alive
returns-in-Line-clause-alive g c = λ _. (c.in-Line.ensures.cuts (λ e. cc)).reads.alive

pub returns-in-Last-clause-alive : goal.returns-in-Last-clause-alive
returns-in-Last-clause-alive g c = λ _. (c.in-Last.ensures.cuts (λ e. cc)).reads.alive

pub returns-in-Long-clause-alive : goal.returns-in-Long-clause-alive
returns-in-Long-clause-alive g c = λ _. (c.in-Long.ensures.cuts (λ e. cc)).reads.alive

pub returns-in-End-clause-alive : goal.returns-in-End-clause-alive
returns-in-End-clause-alive g c = λ _. (c.in-End.ensures.cuts (λ e. cc)).reads.alive

pub returns-in-Lost-clause-lost : goal.returns-in-Lost-clause-lost
returns-in-Lost-clause-lost g c = λ _. let k = c.in-Lost.ensures.lost refl in (sym k.goes.reads.alive ∙ k.lost.live, k.lost.dead)

pub returns-in-Line-clause-quiet : goal.returns-in-Line-clause-quiet
returns-in-Line-clause-quiet g c = λ e. (c.in-Line.ensures.quiet e, ap (λ (k : Cutter). k.ended) c.judge.ensures.cutter ∙ ((c.in-Line.ensures.cuts (λ e. cc)).reads.quiet e).1)

pub returns-in-Last-clause-quiet : goal.returns-in-Last-clause-quiet
returns-in-Last-clause-quiet g c = λ e. (c.in-Last.ensures.quiet e, ap (λ (k : Cutter). k.ended) c.judge-in-Last.ensures.cutter ∙ ((c.in-Last.ensures.cuts (λ e. cc)).reads.quiet e).1)

pub returns-in-Long-clause-quiet : goal.returns-in-Long-clause-quiet
returns-in-Long-clause-quiet g c = λ e. (c.in-Long.ensures.quiet e, ap (λ (k : Cutter). k.ended) c.too_long.ensures.cutter ∙ ((c.in-Long.ensures.cuts (λ e. cc)).reads.quiet e).1)

pub returns-in-End-clause-quiet : goal.returns-in-End-clause-quiet
returns-in-End-clause-quiet g c = λ e. (c.in-End.ensures.quiet e, ((c.in-End.ensures.cuts (λ e. cc)).reads.quiet e).1)

pub returns-in-Lost-clause-quiet : goal.returns-in-Lost-clause-quiet
returns-in-Lost-clause-quiet g c = λ e. (c.in-Lost.ensures.quiet e, ((c.in-Lost.ensures.lost refl).goes.reads.quiet e).1)
