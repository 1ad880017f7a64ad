-- API: what a node gets of the line on which a protected tributary goes on.
use Rattle.std.specs.Prelude.{◌≡◌, ℕ, suc, ◌+◌, ◌*◌, ◌≤◌, List, length, take}
use Rattle.std.specs.List.{concat}
use Rattle.otn_base.specs.LineSlots.{LineSlots}
use Rattle.otn_base.specs.declared.limits.TheConstants.{OTU2_SLOTS}
use Rattle.otn_base.specs.declared.line_kind.LineKind.TheVariants.{Otu2}
use Rattle.plan_file.specs.declared.connection.Connection.{Connection}
use Rattle.plan_file.specs.declared.connection.FromEnd.TheVariants as from_end
use Rattle.tributary_model.specs.Places.{tributary_of}
use Rattle.tributary_model.specs.Puts.{lengths_of}
use Rattle.tributary_model.specs.Sending.{IsSent}
use Rattle.device_model.specs.Entries.{first_turn}
use Rattle.connection_laws.specs.HeldBack.{emitted_after}
use Rattle.device_model.specs.Through.{Inputs, own_input, arrived_by}
use Rattle.tributary_line.specs.TributaryFile.{IsTributaryFile}
use Rattle.protect_selector.specs.OfLines.{due_before}

-- A connection of a plan begins with turn 1, and comes from the file of the line output: from the same port, on the
-- same slots. Whatever both lines brought, what it has after k turns and one more is a front of what was given on: no
-- byte of that is lost, doubled or out of order. Less than a group of it may be held back.
abbrev pub GetsAFront : Type 0
GetsAFront = (slots : LineSlots) (port n b c u k : ℕ) (w p : List ℕ) (frames : List (List ℕ)) (inputs : Inputs)
    (x : Connection)
    → IsSent (tributary_of slots port) → slots.kind ≡ Otu2 → 1 ≤ port
    → IsTributaryFile b (tributary_of slots port) (due_before (tributary_of slots port) n w p (suc u))
    (OTU2_SLOTS * suc u) frames
    → x.from ≡ from_end.Line c port slots → inputs.line c ≡ concat frames → first_turn x ≡ 0 → k ≤ suc u
    → arrived_by x (own_input inputs x) (k + 1)
    ≡ take (emitted_after (length slots.list) (lengths_of (due_before (tributary_of slots port) n w p (suc u))) k)
    (concat (due_before (tributary_of slots port) n w p (suc u)))
