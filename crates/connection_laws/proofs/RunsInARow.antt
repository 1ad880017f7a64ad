-- Runs of accepted plans are what carriage through nodes in a row asks for.
use Rattle.std.proofs.Common.{rules, None, ◌≡◌, ◌≤◌, ◌<◌, ◌+◌, ◌-◌, ◌*◌, ℕ, suc, List, [], ◌∷◌, Some, length, refl, sym, arith}
use Rattle.std.specs.Prelude.{slice_get}
use Rattle.std.proofs.lemmas.Option.{slice_get_read}
use Rattle.line_side.specs.LineForm.{size_of}
use Rattle.plan_file.specs.Answer.{fault_in}
use Rattle.tributary_model.specs.Carriage.{Arrives}
use Rattle.tributary_model.specs.Passing.{later}
use Rattle.connection_laws.specs.Chains.{Hop, own_in, own_out, views_in, views_out, last_turn, IsHop, AreInARow, last_hop}
use Rattle.device_model.specs.Entries.{first_turn, form_out}
use Rattle.connection_laws.specs.RunsInARow.{IsRun, AreRuns}
use Rattle.connection_laws.proofs.Accepted.{goes_as_asked, has_as_many_slots}
use Rattle.connection_laws.proofs.Chains.{carries_through_all}
use Rattle.device_model.proofs.SoundPlans.{sound_plan}

frames_enough : (size stop turns : ℕ) → 1 ≤ stop → stop ≤ turns → size * (stop - 1 + 1) ≤ size * turns
frames_enough size stop turns some low = grind arith

was_accepted : (hop : Hop) → IsRun hop → fault_in hop.plan ≡ None
was_accepted hop run = search rules

is_hop : (hop : Hop) → IsRun hop → IsHop hop
is_hop hop run =
    let sound = sound_plan hop.plan (was_accepted hop run) in
    let known : slice_get hop.plan.connections run.is_of.0 ≡ Some hop.x = slice_get_read hop.plan.connections (length hop.plan.connections) run.is_of.0 hop.x refl run.is_of.1 (sym run.is_of.2) in
    let entry = sound.entries run.is_of.0 hop.x known in
    let start = entry.start in
    let span = entry.span in
    let some : 1 ≤ hop.x.stop = omega arith in
    record {
      from = run.from;
      to = (goes_as_asked hop.plan run.is_of.0 hop.line_out hop.port_out hop.x hop.slots_out sound known run.to).0;
      same = has_as_many_slots hop.plan run.is_of.0 hop.line_in hop.port_in hop.line_out hop.port_out hop.x hop.slots_in hop.slots_out sound known run.from run.to;
      made = record {
        count = size_of (form_out hop.plan hop.line_out) * hop.plan.turns;
        file = run.file;
        enough = frames_enough (size_of (form_out hop.plan hop.line_out)) hop.x.stop hop.plan.turns some entry.stop;
        active = (let a : hop.x.stop - 1 < hop.x.stop = omega arith in a);
      };
    }

in_a_row : (hop : Hop) (hops : List Hop) → AreRuns hop hops → AreInARow hop hops
in_a_row hop [] run = is_hop hop run
in_a_row hop (next ∷ hops) (run, reads, rest) = (is_hop hop run, reads, in_a_row next hops rest)

pub carries_through_runs : (hop : Hop) (hops : List Hop) (bytes p : List ℕ) → AreRuns hop hops
    → Arrives (own_in hop) bytes p (views_in hop) (first_turn hop.x) (first_turn hop.x) (first_turn hop.x) (last_turn hop.x)
    → Arrives (own_out (last_hop hop hops)) bytes (later (suc (length hops)) p) (views_out (last_hop hop hops)) (first_turn (last_hop hop hops).x) (first_turn (last_hop hop hops).x) (first_turn (last_hop hop hops).x) (last_turn (last_hop hop hops).x)
carries_through_runs hop hops bytes p runs arrives = carries_through_all hop hops bytes p (in_a_row hop hops runs) arrives
