-- API: the connections of a node: for each, what the plan says of it, and its pipe.
use Rattle.std.specs.Prelude.{◌≡◌, ◌+◌, ◌≤◌, ℕ, Bool, ◌&&◌, List, nat_le, nat_lt}
use Rattle.otn_base.specs.declared.kind.PortName.{PortName}
use Rattle.port_base.specs.Views.{InView}
use Rattle.odu_client.specs.ClientInput.{ClientInput, emitted_before}
use Rattle.plan_file.specs.declared.connection.Connection.{Connection}
use Rattle.tributary_model.specs.Places.{Taken}
use Rattle.device_model.specs.Moments.{touches}
use Rattle.device_model.specs.Through.{OwnInput, of_client}
use Rattle.cross_matrix.specs.Parts.{ClientInStands, MayShow, turns_taken}
use Rattle.cross_matrix.specs.Pipes.{IsPipeOf, PipeStands}
use Rattle.node_links.specs.declared.link.Link.{Link}

-- it is the link of this entry, whose first turn is one of a plan
pub record IsLinkOf (x : Connection) (link : Link) : Type 0 where
  pub entry : link.entry ≡ x
  pub first : 1 ≤ x.start
  pub pipe : IsPipeOf x link.pipe

-- it is active in turn past + 1
abbrev pub is_on : (past : ℕ) → Link → Bool
is_on past link = nat_le link.entry.start (past + 1) && nat_le (past + 1) link.entry.stop

-- it was active in the last turn that is done
abbrev pub was_on : (past : ℕ) → Link → Bool
was_on past link = nat_le 1 past && (nat_le link.entry.start past && nat_le past link.entry.stop)

-- its first turn comes after turn past + 1
abbrev pub is_later : (past : ℕ) → Link → Bool
is_later past link = nat_lt (past + 1) link.entry.start

-- it comes from the port, or goes to it
abbrev pub joins : PortName → Link → Bool
joins name link = touches name link.entry

-- and is active in turn past + 1
abbrev pub takes_part : (past : ℕ) → PortName → Link → Bool
takes_part past name link = is_on past link && joins name link

-- all but its pipe is as it was
pub record SameEntry (old new : Link) : Type 0 where
  pub entry : new.entry ≡ old.entry
  pub pipe : (x : Connection) → IsPipeOf x old.pipe → IsPipeOf x new.pipe

-- what holds of a client's connection, whatever was taken of the client and may yet come: of its entry, what the client
-- may turn out to be, and how many bytes of its stream were emitted
abbrev pub OfItsClient : Link → ((x : Connection) → ClientInput → (emitted : ℕ) → Type 0) → Type 0
OfItsClient link Holds = (x : Connection) (first now : InView) (read : List ℕ) (n : ℕ) (input : ClientInput)
    → ClientInStands x first now read n link.pipe.taking → MayShow link.pipe.taking read (of_client input)
    → Holds x input (emitted_before x.pace n)

-- what holds of a connection wherever its pipe stands: of its entry, its own input, and how many own turns it has taken
abbrev pub OfItsTurns : Link → ((x : Connection) → OwnInput → (turns : ℕ) → Type 0) → Type 0
OfItsTurns link Holds = (x : Connection) (input : OwnInput) (j filled : ℕ) (frames : List Taken) (ended : Bool)
    → PipeStands x input j frames ended filled link.pipe → Holds x input (turns_taken j ended)
