-- Believed: the places of a call: what its inputs hold before it, and what is seen of its outputs after it.
use Rattle.std.specs.Prelude.{◌≡◌, ◌<◌, ◌+◌, ◌-◌, ◌≤◌, ◌++◌, ℕ, zero, suc, if◌then◌else◌, nat_lt, List, get_or, length, take, Some}
use Rattle.port_base.specs.Views.{InView, OutView, BaysView, no_input, line_in_at, line_out_at, client_in_at, client_out_at}
use Rattle.line_tool.specs.TrialRuns.{holding, waiting}
use Rattle.otn_c.specs.Blocks.{IsNoPart, part_of, start_of, end_of}

-- ---- inputs

-- a place for an input: empty where its flag is 0, and else with these bytes in memory
abbrev pub input_as : (flag : ℕ) → List ℕ → InView
input_as zero bytes = no_input
input_as (suc n) bytes = holding bytes

-- the place of input n of a call
abbrev pub input_at : (present block ends : List ℕ) → ℕ → InView
input_at present block ends n = input_as (get_or present n 0) (part_of block ends n)

-- The places before a call: lines 0 to 3 are inputs 0 to 3, clients 0 to 15 are inputs 4 to 19, and each output is
-- there and has got nothing.
pub record OpensWith (present block ends : List ℕ) (bays : BaysView) : Type 0 where
  pub line_in : (a : ℕ) → a < 4 → line_in_at bays a ≡ input_at present block ends a
  pub line_out : (b : ℕ) → b < 4 → line_out_at bays b ≡ waiting
  pub client_in : (n : ℕ) → n < 16 → client_in_at bays n ≡ input_at present block ends (4 + n)
  pub client_out : (n : ℕ) → n < 16 → client_out_at bays n ≡ waiting

-- no input has failed: bytes in memory can be read
pub record InputsAreWell (bays : BaysView) : Type 0 where
  pub line_in : (a : ℕ) → (line_in_at bays a).faults ≡ 0
  pub client_in : (n : ℕ) → (client_in_at bays n).faults ≡ 0

-- one of the 20 inputs is no part of their block
abbrev pub HasNoPart : (block ends : List ℕ) → Type 0
HasNoPart block ends = (n : ℕ) × (n < 20) × IsNoPart block ends n

-- the first n lines are so, and the clients as they were
pub record LinesUpTo (present block ends : List ℕ) (n : ℕ) (first now : BaysView) : Type 0 where
  pub line_in : (a : ℕ) → a < n → line_in_at now a ≡ input_at present block ends a
  pub line_out : (b : ℕ) → b < n → line_out_at now b ≡ waiting
  pub parts : (a : ℕ) → a < n → IsNoPart block ends a → ⊥
  pub client_in : now.client_in ≡ first.client_in
  pub client_out : now.client_out ≡ first.client_out

-- the first n clients are so, and the lines as they were
pub record ClientsUpTo (present block ends : List ℕ) (n : ℕ) (first now : BaysView) : Type 0 where
  pub client_in : (m : ℕ) → m < n → client_in_at now m ≡ input_at present block ends (4 + m)
  pub client_out : (m : ℕ) → m < n → client_out_at now m ≡ waiting
  pub parts : (m : ℕ) → m < n → IsNoPart block ends (4 + m) → ⊥
  pub line_in : now.line_in ≡ first.line_in
  pub line_out : now.line_out ≡ first.line_out

-- ---- outputs

-- the place of output n of a call: lines 0 to 3, then clients 0 to 15
abbrev pub output_at : BaysView → ℕ → OutView
output_at bays n = if nat_lt n 4 then line_out_at bays n else client_out_at bays (n - 4)

-- these are the bytes that a place's port got: of a retired place too, whose port keeps them
abbrev pub IsKept : OutView → List ℕ → Type 0
IsKept place bytes = place.got ≡ Some bytes

-- bytes that a place's port got, as many as this
pub record HasSize (place : OutView) (size : ℕ) : Type 0 where
  pub bytes : List ℕ
  pub kept : IsKept place bytes
  pub is : length bytes ≡ size

-- These bytes are to stand behind the first `at` ones of a block, which stay, and end here: they do where there is
-- room.
pub record IsPut (bytes : List ℕ) (at : ℕ) (block now : List ℕ) (end : ℕ) : Type 0 where
  pub is : end ≡ at + length bytes
  pub stands : end ≤ length block → take end now ≡ take at block ++ bytes

-- some bytes
abbrev pub IsPutAny : (at : ℕ) → (block now : List ℕ) → (end : ℕ) → Type 0
IsPutAny at block now end = (bytes : List ℕ) × IsPut bytes at block now end

-- those that a place's port got
abbrev pub IsPutOf : OutView → (at : ℕ) → (block now : List ℕ) → (end : ℕ) → Type 0
IsPutOf place at block now end = (bytes : List ℕ) × IsKept place bytes × IsPut bytes at block now end

-- The first n outputs were measured, and stand in the block one behind the other, where it has room for them.
pub record OutUpTo (n : ℕ) (bays : BaysView) (block ends : List ℕ) (total : ℕ) : Type 0 where
  pub last : start_of ends n ≡ total
  pub rising : (m : ℕ) → m < n → start_of ends m ≤ end_of ends m
  pub within : (m : ℕ) → m < n → end_of ends m ≤ total
  pub sizes : (m : ℕ) → m < n → HasSize (output_at bays m) (end_of ends m - start_of ends m)
  pub parts : total ≤ length block → (m : ℕ) → m < n → IsKept (output_at bays m) (part_of block ends m)
