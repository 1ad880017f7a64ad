use Rattle.std.proofs.Common.{arith}
use Rattle.view_events.proofs.event_sink.first_line.Goals as goal

pub returns-then-bytes-n-eq-LF-clause-before : goal.returns-then-bytes-n-eq-LF-clause-before
returns-then-bytes-n-eq-LF-clause-before c k less = c.loop-n.invariant k (omega (arith, less))

pub returns-clause-before : goal.returns-clause-before
returns-clause-before c k less = c.loop-n.invariant k (let past = c.loop-n-test.false in omega (arith, less, past))
