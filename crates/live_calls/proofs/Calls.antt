-- Bytes that were handed in at an input by its number.
use Rattle.std.proofs.Common.{◌≡◌, ◌≤◌, ◌<◌, ◌-◌, ℕ, Bool, true, false, if◌then◌else◌, List, sym, subst}
use Rattle.std.proofs.lemmas.Bool.{lt-ltb, le-ltb}
use Rattle.std.specs.Prelude.{nat_lt}
use Rattle.plan_file.specs.declared.plan.Plan.{Plan}
use Rattle.node_moments.specs.Stands.{InputBytes}
use Rattle.live_laws.specs.Live.{with_line, with_client, LiveStands}
use Rattle.live_laws.specs.LiveTurns.{inputs_of, HaveLeft}
use Rattle.live_node.specs.Kept.{KeepsOutputs}
use Rattle.live_node.specs.Live.{PutsOutOfLine, PutsOutOfPackets, TakesLine, TakesPackets}
use Rattle.live_calls.specs.Held.{Takes, places_of}
use Rattle.live_calls.specs.declared.held.HeldNode.{HeldNode}

-- at a line
pub takes_line : (input : ℕ) (bytes : List ℕ) (old new : HeldNode) → input < 4
    → TakesLine input bytes old.live.node new.live.node (places_of old) (places_of new)
    → PutsOutOfLine input bytes old.live.node new.live.node (places_of old) (places_of new)
    → KeepsOutputs old.live.bays new.live.bays → new.live.plan ≡ old.live.plan → new.ended ≡ old.ended → Takes input bytes old new
takes_line input bytes old new less stands left kept plan ended =
    let is : nat_lt input 4 ≡ true = lt-ltb input 4 less in
    record {
      stands = λ p handed h. subst (λ (b : Bool). LiveStands p (if b then with_line input bytes handed else with_client (input - 4) bytes handed) new.live.node (places_of new)) (sym is)
          (stands p handed h);
      left = λ p handed h. subst (λ (b : Bool). HaveLeft p (inputs_of p (if b then with_line input bytes handed else with_client (input - 4) bytes handed)) new.live.node (places_of new)) (sym is)
          (left p handed h);
      kept = kept;
      plan = plan;
      ended = ended;
    }

-- at a client
pub takes_packets : (input : ℕ) (bytes : List ℕ) (old new : HeldNode) → 4 ≤ input
    → TakesPackets (input - 4) bytes old.live.node new.live.node (places_of old) (places_of new)
    → PutsOutOfPackets (input - 4) bytes old.live.node new.live.node (places_of old) (places_of new)
    → KeepsOutputs old.live.bays new.live.bays → new.live.plan ≡ old.live.plan → new.ended ≡ old.ended → Takes input bytes old new
takes_packets input bytes old new more stands left kept plan ended =
    let is : nat_lt input 4 ≡ false = le-ltb input 4 more in
    record {
      stands = λ p handed h. subst (λ (b : Bool). LiveStands p (if b then with_line input bytes handed else with_client (input - 4) bytes handed) new.live.node (places_of new)) (sym is)
          (stands p handed h);
      left = λ p handed h. subst (λ (b : Bool). HaveLeft p (inputs_of p (if b then with_line input bytes handed else with_client (input - 4) bytes handed)) new.live.node (places_of new)) (sym is)
          (left p handed h);
      kept = kept;
      plan = plan;
      ended = ended;
    }
