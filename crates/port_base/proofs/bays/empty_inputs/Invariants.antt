use Rattle.std.proofs.Common.{◌≡◌, replicate}
use Rattle.port_base.specs.declared.in_place.InPlaceOf.TheVariants.{Empty}
use Rattle.port_base.proofs.bays.empty_inputs.Given as goal

abbrev pub invariant-loop : goal.invariant-loop
invariant-loop g l = l.places.items ≡ replicate l.counter Empty
