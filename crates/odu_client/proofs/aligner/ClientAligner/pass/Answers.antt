use Rattle.std.proofs.Common.{◌≡◌, ◌≤◌, length, arith, ap, take, length-append}
use Rattle.std.proofs.lemmas.List.{length-take-le}
use Rattle.odu_client.proofs.Aligning.{passes, passes_few, aligns_by}
use Rattle.odu_client.proofs.aligner.ClientAligner.pass.Goals as goal

pub invariant_of-self-clause-going : goal.invariant_of-self-clause-going
invariant_of-self-clause-going c =
    let s = c.args.self.now in
    let six : 6 ≤ length s.held.items = omega (arith, c.if-len-lt-FAS_BYTES.false) in
    λ _. passes_few _ _ _ _ c.append.ensures.items six (s.going (omega arith))

pub returns-clause-goes : goal.returns-clause-goes
returns-clause-goes c = λ read h.
    let s = c.args.self.now in
    let six : 6 ≤ length s.held.items = omega (arith, c.if-len-lt-FAS_BYTES.false) in
    let n = ap length c.append.ensures.items in
    let m = length-append s.held.items (take c.min-count.result c.args.bytes.now) in
    let k : length (take c.min-count.result c.args.bytes.now) ≡ c.min-count.result = length-take-le c.min-count.result c.args.bytes.now (omega arith) in
    aligns_by read _ _ _ _ _ (passes _ _ _ _ c.append.new.buffer.items _ c.if-self.false c.append.ensures.items (omega arith) six (s.going (omega arith))) h
