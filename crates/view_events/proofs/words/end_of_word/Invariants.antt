use Rattle.std.proofs.Common.{◌≡◌, ◌<◌, ℕ, false, get_or}
use Rattle.view_events.specs.ViewLines.{ends_word}
use Rattle.view_events.proofs.words.end_of_word.Given as goal

-- no word ends before
abbrev pub invariant-loop-n : goal.invariant-loop-n
invariant-loop-n l = (k : ℕ) → k < l.n → ends_word (get_or l.line k 0) ≡ false
