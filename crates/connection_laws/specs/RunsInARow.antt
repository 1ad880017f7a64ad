-- API: several runs in a row, of accepted plans, each over the line file that the one before it made.
use Rattle.std.specs.Prelude.{◌≡◌, ℕ, suc, ◌*◌, List, [], ◌∷◌, None, length}
use Rattle.std.specs.List.{Contains}
use Rattle.line_side.specs.LineForm.{size_of}
use Rattle.plan_file.specs.Answer.{fault_in}
use Rattle.plan_file.specs.declared.connection.FromEnd.TheVariants as from_end
use Rattle.plan_file.specs.declared.connection.ToEnd.TheVariants as to_end
use Rattle.tributary_model.specs.Carriage.{Arrives}
use Rattle.tributary_model.specs.Passing.{later}
use Rattle.connection_laws.specs.Chains.{Hop, own_in, own_out, views_in, views_out, last_turn, ReadsOn, last_hop}
use Rattle.device_model.specs.Entries.{first_turn, form_out}
use Rattle.device_model.specs.LineFiles.{IsLineFile}

-- A connection of an accepted plan from a line to a line, and the file of that line in all turns of the plan.
pub record IsRun (hop : Hop) : Type 0 where
  pub accepted : fault_in hop.plan ≡ None
  pub is_of : Contains hop.plan.connections hop.x
  pub from : hop.x.from ≡ from_end.Line hop.line_in hop.port_in hop.slots_in
  pub to : hop.x.to ≡ to_end.Line hop.line_out hop.port_out hop.slots_out
  pub file : IsLineFile hop.plan hop.inputs hop.line_out
      (size_of (form_out hop.plan hop.line_out) * hop.plan.turns) hop.frames

-- Each run but the first reads the file of the one before.
abbrev pub AreRuns : Hop → List Hop → Type 0
AreRuns hop [] = IsRun hop
AreRuns hop (next ∷ hops) = IsRun hop × ReadsOn hop next × AreRuns next hops

-- Where the first one's input carries bytes in all turns of its connection, the last one's file carries them in all
-- turns of its own, by the same numbers three turns later for each run.
abbrev pub CarriesThroughRuns : Type 0
CarriesThroughRuns = (hop : Hop) (hops : List Hop) (bytes p : List ℕ) → AreRuns hop hops
    → Arrives (own_in hop) bytes p (views_in hop) (first_turn hop.x) (first_turn hop.x) (first_turn hop.x)
    (last_turn hop.x)
    → let last = last_hop hop hops in
    Arrives (own_out last) bytes (later (suc (length hops)) p) (views_out last) (first_turn last.x) (first_turn last.x)
    (first_turn last.x) (last_turn last.x)
