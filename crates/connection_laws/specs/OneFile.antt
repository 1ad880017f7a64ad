-- API: a line file is one function of its plan and of the own inputs of the connections that go to the line.
use Rattle.std.specs.Prelude.{◌≡◌, ℕ, ◌≤◌, List, take}
use Rattle.std.specs.List.{Contains}
use Rattle.otn_base.specs.LineSlots.{LineSlots}
use Rattle.plan_file.specs.declared.connection.Connection.{Connection}
use Rattle.plan_file.specs.declared.connection.ToEnd.TheVariants as to_end
use Rattle.plan_file.specs.declared.plan.Plan.{Plan}
use Rattle.device_model.specs.LineFiles.{IsLineFile}
use Rattle.device_model.specs.Through.{Inputs, own_input}
use Rattle.connection_laws.specs.TwoWorlds.{SameInput}

-- Any frames that are so many of a line's file are the front of any that are as many or more.
abbrev pub HasOneFile : Type 0
HasOneFile = (plan : Plan) (inputs : Inputs) (b count more : ℕ) (frames others : List (List ℕ))
    → IsLineFile plan inputs b count frames → IsLineFile plan inputs b more others → count ≤ more
    → frames ≡ take count others

-- Each connection of the plan that goes to line b has the same input of its own in both.
abbrev pub SameInputsTo : (plan : Plan) (one other : Inputs) (b : ℕ) → Type 0
SameInputsTo plan one other b = (x : Connection) (port : ℕ) (slots : LineSlots) → Contains plan.connections x
    → x.to ≡ to_end.Line b port slots
    → SameInput (own_input one x) (own_input other x)

-- Then the whole file is the same, whatever other lines and clients bring.
abbrev pub HasOneFileForItsInputs : Type 0
HasOneFileForItsInputs = (plan : Plan) (one other : Inputs) (b count more : ℕ) (frames others : List (List ℕ))
    → SameInputsTo plan one other b → IsLineFile plan one b count frames → IsLineFile plan other b more others
    → count ≤ more → frames ≡ take count others
