use Rattle.std.proofs.Common.{◌≡◌, List, Some, slice_get, length, ap, arith, rules}
use Rattle.std.proofs.lemmas.Grind.{common_steps}
use Rattle.plan_file.specs.declared.connection.Connection.{Connection}
use Rattle.node_moments.specs.Built.{IsNewLink}
use Rattle.node_moments.proofs.NewParts.{each_more, each_none}
use Rattle.node_moments.proofs.build.new_links.Goals as goal

pub overflow_cast-count : goal.overflow_cast-count
overflow_cast-count c = let few = (c.accepted_plans.ensures c.args.plan.now c.requires.accepted).few in rw c.as_slice.ensures (omega (arith, few))

pub loop-i-init : goal.loop-i-init
loop-i-init c = record {
  len = search rules;
  each = each_none (λ k link. (x : Connection) → slice_get c.args.plan.now.connections k ≡ Some x → IsNewLink x link) c.new-links.result.items c.new-links.ensures.items;
}

pub loop-i-preserved : goal.loop-i-preserved
loop-i-preserved c =
    let items = c.loop-i.links.items in
    let i = c.loop-i.invariant in
    let len : length items ≡ c.loop-i.i = omega (arith, i.len, c.loop-i.links.ok) in
    record {
      len = grind (arith, common_steps);
      each = rw c.in_ok-push.ensures.items (each_more (λ k link. (x : Connection) → slice_get c.args.plan.now.connections k ≡ Some x → IsNewLink x link) items _ c.loop-i.i len i.each c.in_ok-new_link.ensures);
    }

pub returns : goal.returns
returns c =
    let i = c.loop-i.invariant in
    let test = c.loop-i-test.false in
    let end = c.loop-i.auto.i-end in
    let size : length c.as_slice.result.now ≡ length c.args.plan.now.connections = ap (λ (xs : List Connection). length xs) c.as_slice.ensures in
    record { count = omega (arith, i.len, c.loop-i.links.ok, test, end, size); each = λ k x link at here. i.each k link here x at }
