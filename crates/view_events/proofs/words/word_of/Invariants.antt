use Rattle.std.proofs.Common.{◌≡◌, ◌+◌, ℕ}
use Rattle.view_events.specs.Steps.Words.{nth_word}
use Rattle.view_events.proofs.words.word_of.Given as goal

-- the word is one of those that are left
abbrev pub invariant-loop : goal.invariant-loop
invariant-loop l = (k : ℕ) → l.counter + k ≡ l.n → nth_word l.n l.line ≡ nth_word k l.rest
