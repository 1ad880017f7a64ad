-- What a view by a plan tells, beside what `run` makes of the same line.
use Rattle.std.proofs.Common.{◌≡◌, ◌≤◌, ◌+◌, ◌-◌, ◌∙◌, ℕ, suc, List, ◌∷◌, length, refl, sym, ap, arith, add-one}
use Rattle.maintenance_signals.specs.Stream.{signal_byte}
use Rattle.maintenance_signals.specs.declared.signal.Signal.TheVariants.{Ais}
use Rattle.otn_base.specs.LineSlots.{LineSlots}
use Rattle.plan_file.specs.declared.connection.Connection.{Connection}
use Rattle.plan_file.specs.declared.connection.FromEnd.{FromEnd}
use Rattle.plan_file.specs.declared.connection.FromEnd.TheVariants as from_end
use Rattle.tributary_model.specs.Carries.{past_of}
use Rattle.tributary_model.specs.Emission.{emission}
use Rattle.tributary_model.specs.Places.{tributary_of}
use Rattle.tributary_model.specs.Stretches.{state_after}
use Rattle.device_model.specs.Entries.{first_turn, own_turn}
use Rattle.device_model.specs.LineViews.{view_at}
use Rattle.device_model.specs.Through.{Inputs, emits, emits_by, own_input, own_of, sink_state, state_by, state_in}
use Rattle.line_view.specs.ViewText.{told_at, views_from}
use Rattle.plan_views.specs.Laws.{TellsTurn, TellsTheRun}

tells_bytes : (inputs : Inputs) (x : Connection) (a port : ℕ) (slots : LineSlots) (t : ℕ) → x.from ≡ from_end.Line a port slots → first_turn x ≤ t
    → (told_at (tributary_of slots port) (first_turn x) (inputs.line a) t).bytes ≡ length (emits x (own_input inputs x) (own_turn x t))
unfolding told_at views_from emits
tells_bytes inputs x a port slots t from low =
    let own = tributary_of slots port in
    let shows = view_at own (inputs.line a) in
    let j = own_turn x t in
    let here : first_turn x + j ≡ t = omega (arith, low) in
    sym (ap (λ (f : FromEnd). length (emits_by f x (own_of inputs f) j)) from
    ∙ ap (λ i. length (emission own (signal_byte Ais) (past_of shows (first_turn x) j) (shows i))) here)

tells_state : (inputs : Inputs) (x : Connection) (a port : ℕ) (slots : LineSlots) (t : ℕ) → x.from ≡ from_end.Line a port slots → first_turn x ≤ t
    → sink_state (told_at (tributary_of slots port) (first_turn x) (inputs.line a) t).state ≡ state_in x (own_input inputs x) (own_turn x t + 1)
unfolding told_at views_from
tells_state inputs x a port slots t from low =
    let own = tributary_of slots port in
    let shows = view_at own (inputs.line a) in
    let j = own_turn x t in
    let here : first_turn x + j ≡ t = omega (arith, low) in
    sym (ap (λ (f : FromEnd). state_by f x (own_of inputs f) (j + 1)) from
    ∙ ap (λ n. sink_state (state_after own (past_of shows (first_turn x) n))) (add-one j)
    ∙ ap (λ i. sink_state (state_after own (shows i ∷ past_of shows (first_turn x) j))) here)

pub tells_the_run : TellsTheRun
tells_the_run = λ inputs x a port slots t from low. record {
  bytes = tells_bytes inputs x a port slots t from low;
  state = tells_state inputs x a port slots t from low;
}
