use Rattle.std.proofs.Common.{◌≡◌, ◌≤◌, ◌+◌, ◌-◌, ℕ, length, take, drop, arith, rules}
use Rattle.std.proofs.lemmas.List.{length-take-le}
use Rattle.port_base.specs.Bytes.{raised}
use Rattle.otn_ports.specs.Spoiling.{mask_at, spoiled}
use Rattle.otn_ports.proofs.SpoilLaws.{read_spoiled, left_pairs}
use Rattle.otn_ports.proofs.spoiled_source.SpoiledSourceSource.read.Goals as goal

pub returns-clause-bytes : goal.returns-clause-bytes
returns-clause-bytes g c =
    let n = c.in_ok-n.n in
    let was = c.args.self.now in
    let further = take n c.read.new.into in
    let pairs = drop was.next was.spoil.items in
    let fits : n ≤ length c.read.new.into = omega (arith, c.in_ok-n.ensures.bound, c.read.auto.into) in
    let size : length further ≡ n = length-take-le n c.read.new.into fits in
    let left : take (length c.deref.result.now - was.next) (drop was.next c.deref.result.now) ≡ pairs = left_pairs c.deref.result.now was.spoil.items was.next c.deref.ensures.value in
    let bytes : c.spoil-used.new.bytes ≡ spoiled pairs was.at further = rw left at c.spoil-used.ensures.bytes in
    let rest : (k : ℕ) → mask_at (drop c.spoil-used.result pairs) (raised was.at (length further) + k) ≡ mask_at pairs (was.at + length further + k) = rw left at c.spoil-used.ensures.rest in
    let at : c.saturating_add-self.result ≡ raised was.at n = search rules in
    read_spoiled _ _ was.spoil.items was.next c.spoil-used.result was.at c.saturating_add-self.result n further c.spoil-used.new.bytes (drop n c.read.new.into) size c.in_ok-n.ensures.bytes bytes at rest
