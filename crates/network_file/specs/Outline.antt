-- Believed: a network's file as its rules see it: nodes, fibres between nodes that are named, and cuts, each number as
-- wide as a text can write it; and the file that it is.
use Rattle.std.specs.Prelude.{ℕ, ◌+◌, ℤ, List, [], ◌∷◌, map, Option, Some, None, if◌then◌else◌}
use Rattle.std.specs.Str.{bytes_eq}
use Rattle.plan_file.specs.Entry.{natural}
use Rattle.network_laws.specs.Networks.{FibreEnds}
use Rattle.network_file.specs.declared.cut.Cut.{Cut as FileCut}
use Rattle.network_file.specs.declared.node.NodeEntry.{NodeEntry}
use Rattle.network_file.specs.declared.file.NetworkFile.{NetworkFile}

-- one end of a fibre: the name of its node, and its line
pub record End : Type 0 where
  pub node : List ℕ
  pub line : ℤ

-- one fibre: from a line output to a line input
pub record Fibre : Type 0 where
  pub from : End
  pub to : End

-- one cut: of the fibre of this number, from 1 in the order of the file, where its turns are two numbers from the first
-- of them up to, not with, the second
pub record Cut : Type 0 where
  pub fibre : ℤ
  pub turns : Option (ℤ × ℤ)

-- the whole
pub record Outline : Type 0 where
  pub nodes : List NodeEntry
  pub fibres : List Fibre
  pub cuts : List Cut

-- the index of the first node of this name; where there is none, how many there are
abbrev pub index_of : List ℕ → List NodeEntry → ℕ
index_of name [] = 0
index_of name (node ∷ nodes) = if bytes_eq name node.name then 0 else index_of name nodes + 1

-- a fibre by the indices of its nodes
abbrev pub ends_of : List NodeEntry → Fibre → FibreEnds
ends_of nodes f = record {
  here = index_of f.from.node nodes;
  out = natural f.from.line;
  there = index_of f.to.node nodes;
  into = natural f.to.line;
}

-- a cut of these turns
abbrev pub cut_in : ℤ → Option (ℤ × ℤ) → FileCut
cut_in fibre (Some turns) = record { fibre = natural fibre; from = natural turns.0; until = natural turns.1 }
cut_in fibre None = record { fibre = natural fibre; from = 0; until = 0 }

abbrev pub cut_of : Cut → FileCut
cut_of cut = cut_in cut.fibre cut.turns

-- the file
abbrev pub file_of : Outline → NetworkFile
file_of o = record { nodes = o.nodes; fibres = map (ends_of o.nodes) o.fibres; cuts = map cut_of o.cuts }
