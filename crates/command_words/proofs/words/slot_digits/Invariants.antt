use Rattle.std.proofs.Common.{◌≡◌, ◌++◌, length}
use Rattle.command_words.proofs.SlotTexts.{with_commas}
use Rattle.command_words.proofs.words.slot_digits.Given as goal

-- what is read so far, and what is left, are the text
abbrev pub invariant-loop-rest : goal.invariant-loop-rest
invariant-loop-rest l = l.text ≡ with_commas l.slots.items ++ l.rest

abbrev pub decreases-loop-rest : goal.decreases-loop-rest
decreases-loop-rest l = length l.rest
