use Rattle.std.proofs.Common.{◌≡◌, ◌<◌, List, Some, length, refl, subst, arith}
use Rattle.std.specs.Prelude.{slice_get}
use Rattle.std.proofs.lemmas.Grind.{common_steps}
use Rattle.std.proofs.lemmas.Option.{slice_get_read}
use Rattle.plan_file.specs.declared.connection.Connection.{Connection}
use Rattle.node_tests.proofs.pipes.heard.Goals as goal

pub listen-requires-clause-entry : goal.listen-requires-clause-entry
listen-requires-clause-entry c =
    let xs = c.as_slice-connections.result.now in
    let x = c.index-connections-0.result in
    let some : 0 < length xs = grind (arith, common_steps) in
    let read : slice_get xs 0 ≡ Some x = slice_get_read xs (length xs) 0 x refl some c.index-connections-0.is in
    c.in_ok-pipe.ensures x (subst (λ (all : List Connection). slice_get all 0 ≡ Some x) c.as_slice-connections.ensures read)
