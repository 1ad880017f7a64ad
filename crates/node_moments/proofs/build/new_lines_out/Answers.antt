use Rattle.std.proofs.Common.{◌≡◌, [], length, arith, rules}
use Rattle.std.proofs.lemmas.Grind.{common_steps}
use Rattle.port_base.specs.Views.{OutView}
use Rattle.line_side.specs.LineOutput.{LineMade}
use Rattle.device_model.specs.Entries.{form_out}
use Rattle.node_moments.proofs.NewParts.{each_more, each_none}
use Rattle.node_moments.proofs.build.new_lines_out.Goals as goal

pub loop-b-init : goal.loop-b-init
loop-b-init c = record {
  len = search rules;
  made = each_none (λ k line. (first : OutView) → LineMade k (form_out c.args.plan.now k) first first [] line) c.new-lines.result.items c.new-lines.ensures.items;
}

pub loop-b-preserved : goal.loop-b-preserved
loop-b-preserved c =
    let items = c.loop-b.lines.items in
    let i = c.loop-b.invariant in
    let len : length items ≡ c.loop-b.b = omega (arith, i.len, c.loop-b.lines.ok) in
    record {
      len = grind (arith, common_steps);
      made = rw c.in_ok-push.ensures.items (each_more (λ k line. (first : OutView) → LineMade k (form_out c.args.plan.now k) first first [] line) items _ c.loop-b.b len i.made c.in_ok-new_line_out.ensures);
    }
