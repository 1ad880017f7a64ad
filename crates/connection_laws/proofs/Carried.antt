-- What a connection carries from its own input to the line that it goes to.
use Rattle.std.proofs.Common.{◌≡◌, ◌≤◌, ◌+◌, ◌-◌, ◌*◌, ℕ, List, Option, Some, ap, ◌∙◌, subst, arith, add-one, length, ◌∷◌}
use Rattle.std.specs.Prelude.{option_map}
use Rattle.std.specs.List.{concat}
use Rattle.line_side.specs.LineFile.{mfas_of}
use Rattle.line_side.specs.LineForm.{size_of}
use Rattle.maintenance_signals.specs.Stream.{signal_byte}
use Rattle.maintenance_signals.specs.declared.signal.Signal.TheVariants.{Ais}
use Rattle.multiframe.specs.LineTurns.{multiframe}
use Rattle.otn_base.specs.LineSlots.{LineSlots, slots_of}
use Rattle.plan_file.specs.declared.connection.Connection.{Connection}
use Rattle.plan_file.specs.declared.connection.FromEnd.TheVariants as from_end
use Rattle.plan_file.specs.declared.plan.Plan.{Plan}
use Rattle.tributary_model.specs.Places.{Tributary, tributary_of, Taken, turn_view}
use Rattle.tributary_model.specs.Carriage.{Arrives}
use Rattle.tributary_model.specs.Passing.{SendsOn}
use Rattle.tributary_model.specs.Sending.{ShowsTurn}
use Rattle.tributary_model.proofs.OnLine.{is_sent}
use Rattle.tributary_model.proofs.Passing.{passes_on}
use Rattle.tributary_model.proofs.PutOn.{sends_on_what_is_put}
use Rattle.connection_laws.specs.Carried.{GoesTo, IsMadeTo}
use Rattle.device_model.specs.Entries.{first_turn, own_turn, form_out}
use Rattle.device_model.specs.LineViews.{frames_of, view_at}
use Rattle.device_model.specs.Through.{Inputs, own_input, got_by}
use Rattle.connection_laws.proofs.GotTurns.{got_of_line}
use Rattle.device_model.proofs.MadeShows.{shows_its_connections}
use Rattle.device_model.proofs.MadeTurns.{lock_at, has_its_multiframes}

-- the frames of the multiframe of each turn
abbrev pub turn_frames : Tributary → List ℕ → (t : ℕ) → Option (List Taken)
turn_frames own available t = option_map (frames_of own.line_slots available) (multiframe own.line_slots (mfas_of available) t)

-- in a turn of the connection these show what it got
pub shown : (plan : Plan) (inputs : Inputs) (x : Connection) (b port u t : ℕ) (slots : LineSlots) (frames : List (List ℕ)) → GoesTo plan x b port slots → IsMadeTo plan inputs x b u frames
    → first_turn x ≤ t → t ≤ u
    → (multiframe : List Taken) × ((turn_frames (tributary_of slots port) (concat frames) t ≡ Some multiframe)
    × ShowsTurn (tributary_of slots port) (got_by x (own_input inputs x) (own_turn x t + 1)) (own_turn x t) multiframe)
shown plan inputs x b port u t slots frames goes made low high =
    let size = size_of (form_out plan b) in
    let available = concat frames in
    let members = frames_of size available (lock_at size t) in
    let same : slots_of slots.kind ≡ size = ap slots_of goes.end.kind in
    let stop = made.active in
    let start = goes.start in
    let enough : size * (t + 1) ≤ made.count = within size t u made.count high made.enough in (
      members,
      (
        ap (λ s. option_map (frames_of s available) (multiframe s (mfas_of available) t)) same
            ∙ ap (option_map (frames_of size available)) (has_its_multiframes plan inputs b made.count t frames made.file enough),
        shows_its_connections plan inputs b made.count t frames x port slots made.file enough
            (record { is_of = goes.is_of; to = goes.to; active = record { start = omega arith; stop = omega arith } }) goes.end,
      ),
    )
  where
    within : (size t u count : ℕ) → t ≤ u → size * (u + 1) ≤ count → size * (t + 1) ≤ count
    within size t u count low many = grind arith

pub carries_on : (plan : Plan) (inputs : Inputs) (x : Connection) (a from b port u w : ℕ) (slots others : LineSlots) (frames : List (List ℕ)) (bytes p : List ℕ)
    → x.from ≡ from_end.Line a from slots → GoesTo plan x b port others → length others.list ≡ length slots.list → IsMadeTo plan inputs x b w frames → w ≤ u
    → Arrives (tributary_of slots from) bytes p (view_at (tributary_of slots from) (inputs.line a)) (first_turn x) (first_turn x) (first_turn x) u
    → Arrives (tributary_of others port) bytes (0 ∷ 0 ∷ 0 ∷ p) (view_at (tributary_of others port) (concat frames)) (first_turn x) (first_turn x) (first_turn x) w
unfolding view_at
carries_on plan inputs x a from b port u w slots others frames bytes p comes goes same made high arrives =
    let s = first_turn x in
    let own = tributary_of slots from in
    let next = tributary_of others port in
    let ais = signal_byte Ais in
    let views = view_at own (inputs.line a) in
    let sends : SendsOn own next ais views (λ t. turn_view next (turn_frames next (concat frames) t)) s w
    = sends_on_what_is_put own next ais views (turn_frames next (concat frames)) s w (is_sent others port goes.end.list) same
    (λ t low below. arrives.whole t low (omega arith))
    (λ t low below.
    let seen = shown plan inputs x b port w t others frames goes made low below in
    let turns = ap (got_by x (own_input inputs x)) (add-one (t - s)) ∙ got_of_line x inputs a from (t - s) slots comes in
    (seen.0, (seen.1.0, subst (λ g. ShowsTurn next g (t - s) seen.0) turns seen.1.1))) in
    passes_on own next ais bytes p views (λ t. turn_view next (turn_frames next (concat frames) t)) s u w arrives high sends
