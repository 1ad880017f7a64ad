use Rattle.std.proofs.Common.{arith, refl}
use Rattle.std.proofs.lemmas.Bool.Decides.{nat_tests}
use Rattle.packet_text.specs.TextLines.{has_lf}
use Rattle.packet_text.proofs.Lists.{clean_more}
use Rattle.packet_text.proofs.line_feed.next_lf.Goals as goal

pub loop-n-init : goal.loop-n-init
unfolding has_lf
loop-n-init c = refl

pub loop-n-preserved : goal.loop-n-preserved
loop-n-preserved c = clean_more c.args.bytes.now c.loop-n.n (omega arith) c.loop-n.invariant (λ e. grind (arith, nat_tests))
