-- The turns that `pull` writes, as they are done.
use Rattle.std.proofs.Common.{◌≡◌, ◌<◌, ◌≤◌, ◌∙◌, ◌⊎◌, ℕ, true, false, List, ◌++◌, ap}
use Rattle.std.specs.List.{flat_map, range_with_len}
use Rattle.std.proofs.lemmas.Grind.{flat_map-append}
use Rattle.line_side.specs.LineFile.{mfas_of}
use Rattle.multiframe.specs.LineTurns.{line_state, has_ended}
use Rattle.tributary_model.specs.Places.{Tributary}
use Rattle.device_model.specs.LineViews.{emitted_at}
use Rattle.tributary_line.proofs.TurnsDone.{turns_first, turns_all}
use Rattle.line_commands.specs.PullReport.{pull_report}

-- what is written begins with what the sink emits in the first turns
pub written_first : (own : Tributary) (available : List ℕ) (n : ℕ) → n ≤ 16384 → ((s : ℕ) → s < n → has_ended (line_state 8 (mfas_of available) s) ≡ false)
    → (rest : List ℕ) × (pull_report own available ≡ flat_map (emitted_at own available) (range_with_len 0 n) ++ rest)
unfolding pull_report
written_first own available n few going =
    let turns = turns_first 8 (mfas_of available) n few going in (
      flat_map (emitted_at own available) turns.0,
      ap (flat_map (emitted_at own available)) turns.1 ∙ flat_map-append (emitted_at own available) (range_with_len 0 n) turns.0,
    )

-- and is that of all turns, where there are no more
pub written_all : (own : Tributary) (available : List ℕ) (n : ℕ) → n ≤ 16384 → ((s : ℕ) → s < n → has_ended (line_state 8 (mfas_of available) s) ≡ false)
    → (has_ended (line_state 8 (mfas_of available) n) ≡ true) ⊎ (n ≡ 16384) → pull_report own available ≡ flat_map (emitted_at own available) (range_with_len 0 n)
unfolding pull_report
written_all own available n few going last = ap (flat_map (emitted_at own available)) (turns_all 8 (mfas_of available) n few going last)
