-- API: what the calls of a node do to the handle that owns it. A handle is empty, or owns one node.
use Rattle.std.specs.Prelude.{◌≡◌, ◌≤◌, ◌<◌, ℕ, List, Option, Err, None, Some, length, take}
use Rattle.plan_file.specs.Answer.{plan_of_text}
use Rattle.plan_file.specs.Code as rule
use Rattle.plan_file.specs.declared.error.NoPlan.TheVariants.{Refused}
use Rattle.plan_file.specs.declared.error.PlanError.{PlanError}
use Rattle.live_calls.specs.Held.{Reports, output_kept}
use Rattle.live_calls.specs.declared.held.HeldNode.{HeldNode}
use Rattle.node_handle.specs.Codes.{done, no_room}

-- the handle was empty, and owns a node of which this is so
pub record IsNew (P : HeldNode → Type 0) (old new : Option HeldNode) : Type 0 where
  pub node : HeldNode
  pub before : old ≡ None
  pub after : new ≡ Some node
  pub is : P node

-- it owned a node, and owns one, which went from the one to the other so
pub record Moves (R : (was is : HeldNode) → Type 0) (old new : Option HeldNode) : Type 0 where
  pub was : HeldNode
  pub is : HeldNode
  pub before : old ≡ Some was
  pub after : new ≡ Some is
  pub does : R was is

-- all turns of a node were done
abbrev pub IsOver : (was is : HeldNode) → Type 0
IsOver was is = was.live.node.turns ≤ was.live.node.past

-- the text is no plan: it breaks the rule of this number first, and there
pub record IsRefused (text : List ℕ) (number place : ℕ) : Type 0 where
  pub error : PlanError
  pub broken : plan_of_text text ≡ Err (Refused error place)
  pub number_is : number ≡ rule.code_of error

-- what leaves at an output of a node in the next turn stands at the front of a room, and has so many bytes
pub record Leaves (output : ℕ) (room : List ℕ) (size : ℕ) (held : HeldNode) : Type 0 where
  pub port : output < 20
  pub fits : size ≤ length room
  pub bytes : take size room ≡ output_kept held output
  pub all : size ≡ length (output_kept held output)

-- it has so many bytes, and the room has fewer
pub record NeedsRoom (output : ℕ) (room : List ℕ) (size : ℕ) (held : HeldNode) : Type 0 where
  pub port : output < 20
  pub all : size ≡ length (output_kept held output)
  pub little : length room < size

-- a handle owns a node of which this is so
pub record Owns (P : HeldNode → Type 0) (node : Option HeldNode) : Type 0 where
  pub held : HeldNode
  pub owned : node ≡ Some held
  pub is : P held

-- A report was made, of so many bytes. It stands at the front of the room, where there is room for it.
pub record PutsReport (code : ℕ) (old new : Option HeldNode) (room now : List ℕ) (size : ℕ) : Type 0 where
  pub text : List ℕ
  pub reports : Moves (λ was is. Reports was is text) old new
  pub all : size ≡ length text
  pub put : code ≡ done → (size ≤ length now) × (take size now ≡ text)
  pub little : code ≡ no_room → length room < size
