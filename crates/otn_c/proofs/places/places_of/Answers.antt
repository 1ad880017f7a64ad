use Rattle.std.proofs.Common.{rules}
use Rattle.otn_c.proofs.Filling.{all_parts, view}
use Rattle.otn_c.proofs.places.places_of.Goals as goal

pub returns-clause-parts : goal.returns-clause-parts
returns-clause-parts c =
    all_parts c.args.present.now c.args.block.now c.args.ends.now (view c.in_ok-bays.bays) (view c.fill_lines.new.bays) (view c.fill_clients.new.bays) (search rules) (search rules)
