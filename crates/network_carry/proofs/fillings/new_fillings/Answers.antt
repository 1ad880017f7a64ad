use Rattle.std.proofs.Common.{◌≡◌, arith}
use Rattle.plan_file.proofs.Filled.{filled_all, filled_more}
use Rattle.network_file.proofs.Places.{is_element}
use Rattle.network_carry.specs.Fillings.{new_filling}
use Rattle.network_carry.proofs.fillings.new_fillings.Goals as goal

pub new_filling-requires : goal.new_filling-requires
new_filling-requires c = record {
  near = c.requires.near c.item.result.now (is_element c.args.fibres.now c.loop-i.i c.item.result.now c.item.ensures);
}

pub loop-i-preserved : goal.loop-i-preserved
loop-i-preserved c =
    let more = filled_more new_filling c.args.fibres.now c.loop-i.i c.item.result.now c.loop-i.fillings.items c.item.ensures c.loop-i.invariant in
    let is : c.new_filling.result ≡ new_filling c.item.result.now = c.new_filling.ensures in
    cc (c.in_ok-push.ensures.items)
