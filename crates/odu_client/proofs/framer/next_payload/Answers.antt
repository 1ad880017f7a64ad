use Rattle.std.proofs.Common.{ap, sym, ◌∙◌}
use Rattle.frame_overhead.specs.TwoBefore.{or_zero}
use Rattle.odu_client.proofs.Streaming.{streams_again}
use Rattle.odu_client.proofs.framer.next_payload.Goals as goal

pub returns-in-Some-clause-size : goal.returns-in-Some-clause-size
returns-in-Some-clause-size g c = (c.requires c.in-Some.parity c.in-Some.is).0.size

pub returns-in-Some-clause-goes : goal.returns-in-Some-clause-goes
returns-in-Some-clause-goes g c = streams_again _ _ _ _ (c.requires c.in-Some.parity c.in-Some.is).0

pub returns-in-Some-clause-parity : goal.returns-in-Some-clause-parity
returns-in-Some-clause-parity g c = (c.requires c.in-Some.parity c.in-Some.is).1

pub returns-then-repeats-clause-again : goal.returns-then-repeats-clause-again
returns-then-repeats-clause-again g c = λ parity e.
    (c.fill_payload-repeats.ensures.again c.if-repeats.true, sym (ap or_zero e) ∙ c.payload_parity-parity.ensures)

pub returns-else-repeats-clause-again : goal.returns-else-repeats-clause-again
returns-else-repeats-clause-again g c = λ parity e. absurd (let bad : ⊥ = cc in bad)
