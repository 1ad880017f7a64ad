use Rattle.std.proofs.Common.{◌≡◌, [], length, arith, rules}
use Rattle.std.proofs.lemmas.Grind.{common_steps}
use Rattle.port_base.specs.Views.{InView}
use Rattle.line_side.specs.LineStands.{LineView, LineStands}
use Rattle.device_model.specs.Entries.{form_in}
use Rattle.node_moments.proofs.NewParts.{each_more, each_none}
use Rattle.node_moments.proofs.build.new_lines_in.Goals as goal

pub loop-a-init : goal.loop-a-init
loop-a-init c = record {
  len = search rules;
  stands = each_none (λ k line. (first : InView) → LineStands (form_in c.args.plan.now k) first first [] 0 line) c.new-lines.result.items c.new-lines.ensures.items;
  pieces = each_none (λ k (line : LineView). line.pieces ≡ 0) c.new-lines.result.items c.new-lines.ensures.items;
}

pub loop-a-preserved : goal.loop-a-preserved
loop-a-preserved c =
    let items = c.loop-a.lines.items in
    let i = c.loop-a.invariant in
    let len : length items ≡ c.loop-a.a = omega (arith, i.len, c.loop-a.lines.ok) in
    let e = c.in_ok-new_line_in.ensures in
    record {
      len = grind (arith, common_steps);
      stands = rw c.in_ok-push.ensures.items (each_more (λ k line. (first : InView) → LineStands (form_in c.args.plan.now k) first first [] 0 line) items _ c.loop-a.a len i.stands e.stands);
      pieces = rw c.in_ok-push.ensures.items (each_more (λ k (line : LineView). line.pieces ≡ 0) items _ c.loop-a.a len i.pieces e.pieces);
    }
