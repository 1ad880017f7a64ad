use Rattle.std.proofs.Common.{◌≡◌, get_or, replicate, arith}
use Rattle.std.proofs.lemmas.List.{get_or-replicate}
use Rattle.otn_base.specs.LineSlots.{slots_of}
use Rattle.otn_base.specs.TrailTrace.{zeros}
use Rattle.msi_table.proofs.Given.{none_given}
use Rattle.msi_table.proofs.slot_map.SlotMap.new.Goals as goal

pub invariant_of-result : goal.invariant_of-result
invariant_of-result c = λ k d below.
    let none : get_or (replicate 32 0) k d ≡ 0 = get_or-replicate 32 k 0 d below in
    omega (arith, none)

pub returns-clause-free : goal.returns-clause-free
unfolding zeros
returns-clause-free c = λ slot. none_given (slots_of c.args.kind) 32 _
