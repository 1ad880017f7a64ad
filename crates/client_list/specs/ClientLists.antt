-- Believed: lists of clients, and their texts.
use Rattle.std.specs.Prelude.{◌<◌, ℕ, List, length, map, slice_index}
use Rattle.std.specs.Fmt.{decimal}
use Rattle.std.specs.List.{join_with_byte}
use Rattle.otn_base.specs.declared.limits.TheConstants.{CLIENTS}
use Rattle.gfp_linear.specs.ChannelFrames.{IsCidList}

-- the numbers of some clients: one at least, rising, each that of a place
pub record IsClientList (clients : List ℕ) : Type 0 where
  pub cids : IsCidList clients
  pub places : (c : ℕ) → c < length clients → slice_index clients c < CLIENTS

-- their numbers in decimal, with commas between them; 44 is the comma
abbrev pub clients_text : List ℕ → List ℕ
clients_text clients = join_with_byte 44 (map decimal clients)
