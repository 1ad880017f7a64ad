use Rattle.std.proofs.Common.{rules}
use Rattle.otn_c.proofs.Said.{next_word}
use Rattle.otn_c.proofs.words.split_words.Goals as goal

pub loop-i-preserved : goal.loop-i-preserved
loop-i-preserved c =
    next_word c.loop-i.words.items c.push.new.self.items c.in_ok-from_str.field-0 c.in_ok-parts.parts.items c.index.result.now c.loop-i.i
    (search rules) (search rules) c.loop-i.invariant (search rules) c.in_ok-from_str.ensures.ok
