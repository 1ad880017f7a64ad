-- The headline of damaged lines.
use Rattle.std.proofs.Common.{◌≡◌, ℕ, List, length}
use Rattle.std.specs.List.{Contains}
use Rattle.otn_base.specs.LineSlots.{LineSlots}
use Rattle.plan_file.specs.declared.connection.Connection.{Connection}
use Rattle.plan_file.specs.declared.connection.FromEnd.TheVariants as from_end
use Rattle.connection_laws.specs.Healing.{IsCarriedAgain}
use Rattle.run_laws.specs.RunsAlike.{LeftAlike}
use Rattle.run_laws.specs.RunsDamaged.{HealsIn, Follows, HandsOnAFront, ShareButForOne}
use Rattle.run_laws.proofs.RunsDamaged.{runs_heal, hands_on_a_front, agree_but_for_one}
use Rattle.run_command.specs.RunCalls.{Call, HasCarried, world_of, bytes_of_call}
use Rattle.run_command.proofs.RunCalls.{is_world}

pub healed : (call : Call) (x : Connection) (a from s b u h : ℕ) (slots : LineSlots) (bytes p : List ℕ) (has : HasCarried call) → Contains call.plan.connections x → x.from ≡ from_end.Line a from slots
    → IsCarriedAgain (call.inputs.line a) x from slots bytes p s b u h → HealsIn (world_of call has) (bytes_of_call call has) x bytes p s u h
unfolding is_world
healed call x a from s b u h slots bytes p has of comes heals = runs_heal (world_of call has) x a from s b u h slots bytes p (is_world call has) of comes heals

pub as_repeated : (one other : Call) (x : Connection) (first : HasCarried one) (second : HasCarried other) → ShareButForOne (world_of one first) (world_of other second) x
    → LeftAlike (world_of one first) (world_of other second) (bytes_of_call one first) (bytes_of_call other second) x
unfolding is_world
as_repeated one other x first second share = agree_but_for_one (world_of one first) (world_of other second) x (is_world one first) (is_world other second) share

pub handed_on : (one other : Call) (x y : Connection) (b c : ℕ) (slots next : LineSlots) (first : HasCarried one) (second : HasCarried other)
    → Follows (world_of one first) (world_of other second) (bytes_of_call one first) x y b c slots next → HandsOnAFront (world_of one first) (world_of other second) (bytes_of_call other second) x y (length next.list)
unfolding is_world
handed_on one other x y b c slots next first second follows = hands_on_a_front (world_of one first) (world_of other second) x y b c slots next (is_world one first) (is_world other second) follows
