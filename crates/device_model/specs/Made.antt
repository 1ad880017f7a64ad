-- API: what the file of an output line shows to whoever reads it, through its mask.
use Rattle.std.specs.Prelude.{◌≡◌, ℕ, ◌+◌, ◌*◌, ◌%◌, ◌≤◌, List, Some}
use Rattle.std.specs.List.{concat}
use Rattle.otn_base.specs.LineSlots.{LineSlots, slots_of}
use Rattle.otn_base.specs.SlotList.{IsSlotList}
use Rattle.line_side.specs.LineFile.{mfas_of}
use Rattle.line_side.specs.LineForm.{size_of}
use Rattle.multiframe.specs.LineTurns.{Lock, multiframe}
use Rattle.plan_file.specs.declared.connection.Connection.{Connection}
use Rattle.plan_file.specs.declared.plan.Plan.{Plan}
use Rattle.tributary_model.specs.Places.{tributary_of}
use Rattle.tributary_model.specs.Sending.{ShowsTurn}
use Rattle.device_model.specs.Entries.{form_out, kind_by, own_turn, IsSentOn}
use Rattle.device_model.specs.LineFiles.{IsLineFile}
use Rattle.device_model.specs.LineViews.{frames_of}
use Rattle.device_model.specs.Through.{Inputs, own_input, got_by}

-- These are slots of output line b, and this is one of its tributary ports, which count from 1 (G.709 clause 19.1).
pub record IsLineEnd (plan : Plan) (b port : ℕ) (slots : LineSlots) : Type 0 where
  pub kind : slots.kind ≡ kind_by plan.otu3_out b
  pub list : IsSlotList (slots_of slots.kind) slots.list
  pub port_least : 1 ≤ port

-- the multiframe of turn past + 1 of a line that was made: as many of the same size went before it, and MFAS goes on
-- from turn to turn
abbrev pub made_lock : (size past : ℕ) → Lock
made_lock size past = record { frame = size * past; expected = size * past % 256 }

-- A line file has the multiframe of each turn of which all frames were made.
abbrev pub HasItsMultiframes : Type 0
HasItsMultiframes = (plan : Plan) (inputs : Inputs) (b count past : ℕ) (frames : List (List ℕ))
    → IsLineFile plan inputs b count frames → size_of (form_out plan b) * (past + 1) ≤ count
    → multiframe (size_of (form_out plan b)) (mfas_of (concat frames)) past
    ≡ Some (made_lock (size_of (form_out plan b)) past)

-- Its frames show of each connection that goes to the line what the connection got until then, as a source puts it.
abbrev pub ShowsItsConnections : Type 0
ShowsItsConnections = (plan : Plan) (inputs : Inputs) (b count past : ℕ) (frames : List (List ℕ)) (x : Connection)
    (port : ℕ) (slots : LineSlots)
    → IsLineFile plan inputs b count frames → size_of (form_out plan b) * (past + 1) ≤ count
    → IsSentOn plan b past x port slots → IsLineEnd plan b port slots
    → ShowsTurn (tributary_of slots port) (got_by x (own_input inputs x) (own_turn x past + 1)) (own_turn x past)
    (frames_of (size_of (form_out plan b)) (concat frames) (made_lock (size_of (form_out plan b)) past))
