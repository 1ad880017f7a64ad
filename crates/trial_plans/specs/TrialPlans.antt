-- Believed: the plans of the trial: four runs of 16 turns, which carry eight clients to line 0, from line to line
-- twice, and back to the clients.
use Rattle.std.specs.Prelude.{ℕ, zero, suc, ◌+◌, ◌-◌, true, false, [], ◌∷◌, map}
use Rattle.std.specs.List.{range_with_len}
use Rattle.otn_base.specs.LineSlots.{LineSlots}
use Rattle.otn_base.specs.declared.kind.Kind.TheVariants.{Odu0}
use Rattle.otn_base.specs.declared.limits.TheConstants.{NOMINAL, OTU2_SLOTS}
use Rattle.otn_base.specs.declared.line_kind.LineKind.TheVariants.{Otu2}
use Rattle.plan_file.specs.declared.connection.Connection.{Connection}
use Rattle.plan_file.specs.declared.connection.FromEnd.{FromEnd}
use Rattle.plan_file.specs.declared.connection.FromEnd.TheVariants as from_end
use Rattle.plan_file.specs.declared.connection.ToEnd.{ToEnd}
use Rattle.plan_file.specs.declared.connection.ToEnd.TheVariants as to_end
use Rattle.plan_file.specs.declared.plan.Plan.{Plan}

-- how many clients there are, one for each slot of an OTU2, how many packets each of them has, and how many turns a run
-- has
abbrev pub trial_clients : ℕ
trial_clients = OTU2_SLOTS

abbrev pub trial_packets : ℕ
trial_packets = 16

abbrev pub trial_turns : ℕ
trial_turns = 16

-- one slot of an OTU2
abbrev pub one_slot : (slot : ℕ) → LineSlots
one_slot slot = record { kind = Otu2; list = slot ∷ [] }

-- where the connection of client c, from 0, comes from in a run, from 0: from the client, then from line 0, into which
-- the file of the run before is handed
abbrev pub comes_from : (run c : ℕ) → FromEnd
comes_from zero c = from_end.Client c
comes_from (suc zero) c = from_end.Line 0 (c + 1) (one_slot (c + 1))
comes_from (suc (suc zero)) c = from_end.Line 0 (c + 1) (one_slot (trial_clients - c))
comes_from (suc (suc (suc n))) c = from_end.Line 0 (c + 1) (one_slot (c + 1))

-- where it goes to: each run but the last writes the line of its number, the second one with the slots in reverse
abbrev pub goes_to : (run c : ℕ) → ToEnd
goes_to zero c = to_end.Line 0 (c + 1) (one_slot (c + 1))
goes_to (suc zero) c = to_end.Line 1 (c + 1) (one_slot (trial_clients - c))
goes_to (suc (suc zero)) c = to_end.Line 2 (c + 1) (one_slot (c + 1))
goes_to (suc (suc (suc n))) c = to_end.Client c

-- it is named by a letter, a to h, and has the defaults of an ODU0
abbrev pub trial_connection : (run c : ℕ) → Connection
trial_connection run c = record {
  name = (97 + c) ∷ [];
  kind = Odu0;
  from = comes_from run c;
  to = goes_to run c;
  pace = NOMINAL ∷ [];
  fcs = true;
  trace = [];
  start = 1;
  stop = trial_turns;
  retire = false;
}

-- the plan of a run: the eight connections, over plain OTU2 lines
abbrev pub trial_plan : (run : ℕ) → Plan
trial_plan run = record {
  turns = trial_turns;
  connections = map (trial_connection run) (range_with_len 0 trial_clients);
  otu3_in = [];
  otu3_out = [];
  scrambled_in = [];
  scrambled_out = [];
}
