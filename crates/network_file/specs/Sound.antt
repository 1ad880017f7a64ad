-- Believed: what a file that is accepted has.
use Rattle.std.specs.Prelude.{◌≡◌, ◌<◌, ◌≤◌, ℕ, true, Some, length, slice_get}
use Rattle.std.specs.List.{Contains}
use Rattle.otn_base.specs.declared.limits.TheConstants.{LINES, MOST_TURNS}
use Rattle.plan_table.specs.NumberTests.{is_name}
use Rattle.network_laws.specs.Networks.{FibreEnds}
use Rattle.network_file.specs.declared.limits.TheConstants.{MOST_NODES, MOST_FIBRES, MOST_CUTS}
use Rattle.network_file.specs.declared.cut.Cut.{Cut}
use Rattle.network_file.specs.declared.node.NodeEntry.{NodeEntry}
use Rattle.network_file.specs.declared.file.NetworkFile.{NetworkFile}
use Rattle.network_file.specs.Rules.{is_folder}

-- It has a node, and too many neither of nodes nor of fibres nor of cuts; names and folders are such, and no two nodes
-- have one name; each fibre leads from a line of one of the nodes to a line of one, and no two fibres lead to one line
-- input; each cut is of one of the fibres, and in some turn.
pub record IsSound (file : NetworkFile) : Type 0 where
  pub some : 1 ≤ length file.nodes
  pub nodes : length file.nodes ≤ MOST_NODES
  pub fibres : length file.fibres ≤ MOST_FIBRES
  pub cuts : length file.cuts ≤ MOST_CUTS
  pub names : (i : ℕ) (node : NodeEntry) → slice_get file.nodes i ≡ Some node
      → (is_name node.name ≡ true) × (is_folder node.folder ≡ true)
  pub apart : (i j : ℕ) (node other : NodeEntry) → slice_get file.nodes i ≡ Some node
      → slice_get file.nodes j ≡ Some other → node.name ≡ other.name → i ≡ j
  pub ends : (f : FibreEnds) → Contains file.fibres f → (f.here < length file.nodes) × (f.there < length file.nodes)
      × (f.out < LINES) × (f.into < LINES)
  pub single : (i j : ℕ) (f g : FibreEnds) → slice_get file.fibres i ≡ Some f → slice_get file.fibres j ≡ Some g
      → f.there ≡ g.there → f.into ≡ g.into → i ≡ j
  pub cut : (c : Cut) → Contains file.cuts c → (1 ≤ c.fibre) × (c.fibre ≤ length file.fibres) × (c.from < c.until)
      × (c.until ≤ MOST_TURNS)
