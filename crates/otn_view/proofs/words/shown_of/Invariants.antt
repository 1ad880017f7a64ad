use Rattle.std.proofs.Common.{take}
use Rattle.otn_view.specs.Words.{AreShown, texts}
use Rattle.otn_view.proofs.words.shown_of.Given as goal

-- the words so far
abbrev pub invariant-loop-i : goal.invariant-loop-i
invariant-loop-i l = AreShown l.kind (texts (take l.i l.words)) l.shown.items
