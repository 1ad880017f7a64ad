-- Steps: the words of a line, one after another.
use Rattle.std.specs.Prelude.{ℕ, zero, suc, List}
use Rattle.std.specs.List.{after_first, before_first}
use Rattle.view_events.specs.ViewLines.{ends_word}

-- the word after n others: what stands before the next blank or line feed
abbrev pub nth_word : (n : ℕ) → (line : List ℕ) → List ℕ
nth_word zero line = before_first ends_word line
nth_word (suc n) line = nth_word n (after_first ends_word line)
