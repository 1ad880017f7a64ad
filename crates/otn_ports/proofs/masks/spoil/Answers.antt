use Rattle.std.proofs.Common.{◌≡◌, ◌<◌, ◌≤◌, ◌+◌, ℕ, true, drop, length, get_or, bit_xor, arith, refl, ap, ◌∙◌}
use Rattle.port_base.specs.Bytes.{raised}
use Rattle.otn_ports.specs.Spoiling.{mask_at, rises_from}
use Rattle.otn_ports.proofs.SpoilLaws.{done_more, left_more, rest_more, raised-more, spoiled_each, stopped, due_mask}
use Rattle.otn_ports.proofs.masks.spoil.Goals as goal

pub loop-i-preserved : goal.loop-i-preserved
loop-i-preserved c =
    let inv = c.loop-i.invariant in
    let e = c.next_mask-mask.ensures in
    let new = drop c.next_mask-mask.new.used c.args.pairs.now in
    let old = drop c.loop-i.used c.args.pairs.now in
    let place : c.saturating_add.result ≡ raised c.args.from c.loop-i.i = stopped c.args.from c.loop-i.i c.saturating_add.result c.ranges.from.fits c.saturating_add.ensures in
    let next : raised c.saturating_add.result 1 ≡ raised c.args.from (c.loop-i.i + 1) = ap (λ p. raised p 1) place ∙ raised-more c.args.from c.loop-i.i in
    let rises : rises_from (raised c.args.from (c.loop-i.i + 1)) new ≡ true = rw next at e.rises in
    let same : (q : ℕ) → raised c.args.from (c.loop-i.i + 1) ≤ q → mask_at new q ≡ mask_at old q = rw next at e.rest in
    let mask : c.next_mask-mask.result ≡ mask_at c.args.pairs.now (c.args.from + c.loop-i.i) = due_mask old c.args.pairs.now c.args.from c.loop-i.i c.saturating_add.result c.next_mask-mask.result place e.mask inv.rest in
    let here : bit_xor (get_or c.loop-i.bytes c.loop-i.i 0) c.next_mask-mask.result ≡ bit_xor (get_or c.args.bytes.now c.loop-i.i 0) (mask_at c.args.pairs.now (c.args.from + c.loop-i.i)) = rw (mask, inv.left c.loop-i.i (omega arith)) refl in
    let within : c.loop-i.i < length c.loop-i.bytes = rw c.loop-i.auto.bytes c.loop-i-test.true in
    record {
      within = e.within;
      done = done_more c.args.bytes.now c.loop-i.bytes c.loop-i.i _ (λ k. mask_at c.args.pairs.now (c.args.from + k)) within inv.done here;
      left = left_more c.args.bytes.now c.loop-i.bytes c.loop-i.i _ inv.left;
      rises = rises;
      rest = rest_more c.args.pairs.now old new c.args.from c.loop-i.i c.ranges.from.fits c.requires rises same inv.rest;
    }

pub returns-clause-bytes : goal.returns-clause-bytes
returns-clause-bytes c =
    let all : (k : ℕ) → k < length c.args.bytes.now → k < c.loop-i.i = λ k h. (let e = c.loop-i-test.false in omega (arith, h, e)) in
    spoiled_each c.args.pairs.now c.args.from c.args.bytes.now c.loop-i.bytes c.loop-i.auto.bytes (λ k h. c.loop-i.invariant.done k (all k h))
