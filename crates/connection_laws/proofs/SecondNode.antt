-- What a second node gets of a line on which a first one's connection goes.
use Rattle.std.proofs.Common.{◌≡◌, ◌≤◌, ◌+◌, ◌-◌, ℕ, List, take, length, sym, ap, ◌∙◌, subst, add-one}
use Rattle.std.specs.List.{concat}
use Rattle.otn_base.specs.LineSlots.{LineSlots, slots_of}
use Rattle.otn_base.specs.SlotList.{IsSlotList}
use Rattle.maintenance_signals.specs.Stream.{signal_byte}
use Rattle.maintenance_signals.specs.declared.signal.Signal.TheVariants.{Ais}
use Rattle.plan_file.specs.declared.connection.Connection.{Connection}
use Rattle.plan_file.specs.declared.connection.FromEnd.TheVariants as from_end
use Rattle.plan_file.specs.declared.plan.Plan.{Plan}
use Rattle.tributary_model.specs.Carries.{past_of}
use Rattle.tributary_model.specs.Damage.{emissions}
use Rattle.tributary_model.specs.Passing.{joined_back}
use Rattle.tributary_model.specs.Places.{tributary_of}
use Rattle.tributary_model.specs.Puts.{lengths_of}
use Rattle.tributary_model.proofs.OnLine.{is_tributary}
use Rattle.connection_laws.specs.Carried.{GoesTo, IsMadeTo}
use Rattle.device_model.specs.Entries.{first_turn}
use Rattle.connection_laws.specs.HeldBack.{Comes}
use Rattle.device_model.specs.LineViews.{view_at}
use Rattle.device_model.specs.Through.{Inputs, own_input, got_by, arrived_by}
use Rattle.connection_laws.proofs.Delivery.{joined_turns}
use Rattle.connection_laws.proofs.GotTurns.{got_of_line}
use Rattle.connection_laws.proofs.Healed.{carries_what_it_gets}
use Rattle.connection_laws.proofs.HeldBack.{front_after, emits_a_front}
use Rattle.device_model.proofs.LineViews.{whole_at}

-- what a connection gets of a line that carries bytes to it
pub gets_a_front : (inputs : Inputs) (x : Connection) (a port s u n : ℕ) (slots : LineSlots) (bytes p : List ℕ) → x.from ≡ from_end.Line a port slots → first_turn x ≡ s
    → Comes (tributary_of slots port) bytes p (view_at (tributary_of slots port) (inputs.line a)) s u → s + n ≤ u + 1
    → arrived_by x (own_input inputs x) (n + 1) ≡ take (front_after (length slots.list) p n) bytes
gets_a_front inputs x a port s u n slots bytes p comes first carried within =
    let own = tributary_of slots port in
    let ais = signal_byte Ais in
    let views = view_at own (inputs.line a) in
    ap (λ k. concat (got_by x (own_input inputs x) k)) (add-one n)
    ∙ ap concat (got_of_line x inputs a port n slots comes)
    ∙ joined_turns (emissions own ais (past_of views (first_turn x) n))
    ∙ ap (λ f. joined_back (emissions own ais (past_of views f n))) first
    ∙ emits_a_front own ais bytes p views s u n carried within

pub passes_a_second_node : (plan : Plan) (inputs others : Inputs) (x y : Connection) (a from b port c u n : ℕ) (slots next : LineSlots) (frames : List (List ℕ)) → x.from ≡ from_end.Line a from slots
    → IsSlotList (slots_of slots.kind) slots.list → GoesTo plan x b port next → length next.list ≡ length slots.list → IsMadeTo plan inputs x b u frames → first_turn x ≤ u
    → y.from ≡ from_end.Line c port next → others.line c ≡ concat frames → first_turn y ≡ first_turn x → first_turn x + n ≤ u + 1
    → arrived_by y (own_input others y) (n + 1)
    ≡ take (front_after (length next.list) (lengths_of (got_by x (own_input inputs x) (u + 1 - first_turn x))) n) (arrived_by x (own_input inputs x) (u + 1 - first_turn x))
passes_a_second_node plan inputs others x y a from b port c u n slots next frames comes list goes same made low reads file first within =
    let own = tributary_of next port in
    let s = first_turn x in
    let input = own_input inputs x in
    let bytes = arrived_by x input (u + 1 - s) in
    let p = lengths_of (got_by x input (u + 1 - s)) in
    let carried : Comes own bytes p (view_at own (concat frames)) s u = record {
      slots = goes.end.list.taken;
      whole = λ t from below. whole_at own (concat frames) t (is_tributary next port goes.end.list);
      carries = carries_what_it_gets plan inputs x a from b port u slots next frames comes list goes same made low;
    } in
    gets_a_front others y c port s u n next bytes p reads first (subst (λ line. Comes own bytes p (view_at own line) s u) (sym file) carried) within
