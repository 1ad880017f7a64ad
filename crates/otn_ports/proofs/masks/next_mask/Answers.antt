use Rattle.std.proofs.Common.{◌<◌, arith, length}
use Rattle.std.proofs.lemmas.Grind.{common_steps}
use Rattle.otn_ports.proofs.SpoilLaws.{no_mask}
use Rattle.otn_ports.proofs.masks.next_mask.Goals as goal

pub returns-then-listed-place-clause-mask : goal.returns-then-listed-place-clause-mask
returns-then-listed-place-clause-mask c =
    let within : c.args.used.now < length c.args.pairs.now = grind (arith, common_steps, c.requires.within, c.if-used-pairs.false) in
    no_mask c.args.pairs.now c.args.used.now c.args.place (0, 0) within c.requires.rises c.if-listed-place.true
