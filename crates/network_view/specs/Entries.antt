-- API: a network with the names of its nodes, and all its entries.
use Rattle.std.specs.Prelude.{ℕ, ◌+◌, List, [], ◌∷◌, ◌++◌, map, Option, Some, None, slice_get, length}
use Rattle.plan_file.specs.declared.connection.Connection.{Connection}
use Rattle.plan_file.specs.declared.plan.Plan.{Plan}
use Rattle.network_laws.specs.Networks.{Network}
use Rattle.network_laws.specs.Routes.{Leg}

-- a network, and the names of its nodes in their order
pub record Named : Type 0 where
  pub network : Network
  pub names : List (List ℕ)

abbrev pub name_at : Option (List ℕ) → List ℕ
name_at None = []
name_at (Some name) = name

-- the name of a node; empty where it has none
abbrev pub name_of : Named → (node : ℕ) → List ℕ
name_of named node = name_at (slice_get named.names node)

-- these entries, of this node
abbrev pub legs_at : (node : ℕ) → List Connection → List Leg
legs_at node xs = map (λ x. record { node = node; x = x }) xs

-- the entries of these plans, the first of which is that of this node
unfoldable pub legs_from : (node : ℕ) → List Plan → List Leg
legs_from node [] = []
legs_from node (plan ∷ plans) = legs_at node plan.connections ++ legs_from (node + 1) plans

-- all entries of a network, in the order of its nodes and of their plans
abbrev pub legs_of : Network → List Leg
legs_of network = legs_from 0 network.plans
