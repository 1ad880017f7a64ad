-- The pair of numbers of the last turn is what the machine without totals keeps of it.
use Rattle.std.proofs.Common.{◌≡◌, ℕ, ◌*◌, ◌<◌, List, [], ◌∷◌, length, Bool, true, false, cond, Option, None, refl, ap, ◌∙◌}
use Rattle.tributary_model.specs.Places.{Tributary, Taken, View}
use Rattle.tributary_model.specs.Stretches.{Part, WaitingTurn, DownTurn, StretchTurn, EndingTurn, course}
use Rattle.tributary_model.specs.Emission.{down_run}
use Rattle.tributary_model.specs.Machine.{Machine}
use Rattle.tributary_model.proofs.Law.{SoundCourse, machine_of, waits, waiting_at, down_at, stands}
use Rattle.trib_sink.specs.Pairs.{pair_of, pair_after}
use Rattle.trib_sink.specs.Steps.Pairs.{pair_of_standing}
use Rattle.trib_sink.specs.Sink.{Sink, StandsAfter}

-- a machine in no stretch has none
no_pair : (t : Bool) (n place : ℕ) → pair_of_standing (cond t (waiting_at n) (down_at place)).standing ≡ None
no_pair true n place = refl
no_pair false n place = refl

pair_is : (m : ℕ) (parts : List Part) → SoundCourse m parts → pair_of_standing (machine_of m parts).standing ≡ pair_of parts
pair_is m [] sound = refl
pair_is m (WaitingTurn ∷ parts) sound = no_pair (waits (WaitingTurn ∷ parts)) (length (WaitingTurn ∷ parts)) (down_run (WaitingTurn ∷ parts) * (m * 15168))
pair_is m (DownTurn ∷ parts) sound = no_pair (waits (DownTurn ∷ parts)) (length (DownTurn ∷ parts)) (down_run (DownTurn ∷ parts) * (m * 15168))
pair_is m (StretchTurn [] ∷ parts) sound = absurd sound
pair_is m (StretchTurn (last ∷ before) ∷ parts) sound = refl
pair_is m (EndingTurn stretch ∷ parts) sound = no_pair (waits (EndingTurn stretch ∷ parts)) (length (EndingTurn stretch ∷ parts)) (down_run (EndingTurn stretch ∷ parts) * (m * 15168))

-- the pair that a sink keeps is that of its last turn
pub pair_now : (own : Tributary) (past : List (Option View)) (frames : List Taken) (s : Sink) → StandsAfter own past frames s → pair_of_standing s.following.standing ≡ pair_after own past
pair_now own past frames s h =
    let some : 0 < length own.slots = h.slots.taken in
    let k = stands own past some h.whole in
    ap pair_of_standing h.at.standing
    ∙ ap (λ (x : Machine). pair_of_standing x.standing) k.machine
    ∙ pair_is (length own.slots) (course own past) k.sound
