use Rattle.std.proofs.Common.{◌<◌, ◌+◌, length, take, get_or, ap, sym, ◌∙◌, arith}
use Rattle.trial_command.specs.Steps.TrialReport.{lines_in}
use Rattle.trial_command.proofs.TrialReport.{feed_few, lines_none, lines_next}
use Rattle.trial_command.proofs.lines.count_lines.Goals as goal

pub loop-i-init : goal.loop-i-init
loop-i-init c = record { count = sym (lines_none c.args.text.now); few = omega arith }

pub loop-i-preserved : goal.loop-i-preserved
loop-i-preserved c =
    let text = c.args.text.now in
    let i = c.loop-i.i in
    let within : i < length text = omega arith in
    let here = c.one_if_feed-count.ensures in
    let most = feed_few (get_or text i 0) in
    let inv = c.loop-i.invariant in
    let low = inv.few in
    record {
      count = ap (λ n. n + c.one_if_feed-count.result) inv.count ∙ ap (λ n. lines_in (take i text) + n) here ∙ sym (lines_next text i within);
      few = omega arith;
    }
