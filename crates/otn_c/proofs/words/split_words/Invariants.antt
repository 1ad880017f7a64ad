use Rattle.std.proofs.Common.{◌≡◌, take, map}
use Rattle.line_tool.specs.Words.{texts}
use Rattle.otn_c.proofs.words.split_words.Given as goal

abbrev pub invariant-loop-i : goal.invariant-loop-i
invariant-loop-i l = texts l.words.items ≡ take l.i (map (λ x. x.now) l.parts.items)
