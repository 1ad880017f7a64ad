use Rattle.std.proofs.Common.{◌≡◌, map, take}
use Rattle.command_words.specs.Words.{texts}
use Rattle.program_words.specs.Given.{given_text}
use Rattle.program_words.proofs.given.words_of.Given as goal

-- the words so far
abbrev pub invariant-loop-i : goal.invariant-loop-i
invariant-loop-i l = texts l.words.items ≡ map given_text (take l.i l.answers)
