use Rattle.std.proofs.Common.{◌≡◌, ◌+◌, ◌%◌, ◌^◌, ◌≤◌, length, take, drop, refl, ap, sym, ◌∙◌, arith}
use Rattle.std.specs.Int.{to_be_bytes, w64}
use Rattle.std.proofs.Math.Nat.{mod-eq_of_lt}
use Rattle.gfp_scrambler.specs.Register.{last_bits, scrambled}
use Rattle.gfp_scrambler.proofs.Steps.{last_bits-none}
use Rattle.gfp_scrambler.proofs.Runs.{Puts, puts, sent_eight, last_eight, sent_sixteen, last_sixteen, sent_end, last_end}
use Rattle.gfp_scrambler.proofs.scrambler.scramble_from.Goals as goal

pub loop-bytes-init : goal.loop-bytes-init
loop-bytes-init c =
    let r = c.args.register in
    let below : r % 2 ^ 43 ≡ r = mod-eq_of_lt c.requires in
    record {
      within = omega arith;
      done = ap (λ x. scrambled x c.args.bytes.now) below;
      register = below ∙ sym (last_bits-none r);
      came = λ k. omega (arith, c.type_inv.bytes k);
    }

pub loop-bytes-preserved : goal.loop-bytes-preserved
loop-bytes-preserved c =
    let s = c.loop-bytes.bytes in
    let k = c.loop-bytes.at in
    let r = c.loop-bytes.last % 2 ^ 43 in
    let s' = c.put_word.new.bytes in
    let s'' = c.put_word-in-loop-bytes.new.bytes in
    let sent = to_be_bytes w64 c.scramble_word.result in
    let next = to_be_bytes w64 c.scramble_next-next.result in
    let last = c.scramble_next-next.result % 2 ^ 43 in
    let within : k + 8 ≤ length s = omega arith in
    let put : Puts s k sent s' = puts s k sent s' within refl c.put_word.ensures in
    let more_within : k + 8 + 8 ≤ length s' = (let e = put.size in omega arith) in
    let more : Puts s' (k + 8) next s'' = puts s' (k + 8) next s'' more_within refl c.put_word-in-loop-bytes.ensures in
    let is : sent ≡ scrambled r (to_be_bytes w64 c.word_at-word.result) = c.scramble_word.ensures.bytes in
    let then : next ≡ scrambled (last_bits r sent) (take 8 (drop (k + 8) s')) =
    c.scramble_next-next.ensures.bytes ∙ ap (λ y. scrambled (last_bits r y) (to_be_bytes w64 c.word_at.result)) (sym is) ∙ ap (scrambled (last_bits r sent)) c.word_at.ensures in
    let after : last ≡ last_bits (last_bits r sent) next = c.scramble_next-next.ensures.register ∙ ap (λ y. last_bits (last_bits r y) next) (sym is) in
    record {
      within = (let e = more.size in omega arith);
      done = sent_sixteen s k r last sent next s' s'' put more (is ∙ ap (scrambled r) c.word_at-word.ensures) then after ∙ c.loop-bytes.invariant.done;
      register = last_sixteen s k c.args.register r last sent next s' s'' put more c.loop-bytes.invariant.register after;
      came = c.loop-bytes.invariant.came;
    }

pub loop-bytes-2-preserved : goal.loop-bytes-2-preserved
loop-bytes-2-preserved c =
    let s = c.loop-bytes-2.bytes in
    let k = c.loop-bytes-2.at in
    let r = c.loop-bytes-2.last % 2 ^ 43 in
    let s' = c.put_word-in-loop-bytes-2.new.bytes in
    let n = c.scramble_word-sent.result in
    let sent = to_be_bytes w64 n in
    let within : k + 8 ≤ length s = omega arith in
    let put : Puts s k sent s' = puts s k sent s' within refl c.put_word-in-loop-bytes-2.ensures in
    record {
      within = (let e = put.size in omega arith);
      done =
          sent_eight s k r (n % 2 ^ 43) sent s' put (c.scramble_word-sent.ensures.bytes ∙ ap (scrambled r) c.word_at-in-loop-bytes-2.ensures) c.scramble_word-sent.ensures.register
          ∙ c.loop-bytes-2.invariant.done;
      register = last_eight s k c.args.register r (n % 2 ^ 43) sent s' put c.loop-bytes-2.invariant.register c.scramble_word-sent.ensures.register;
      came = c.loop-bytes-2.invariant.came;
    }

pub returns-clause-bytes : goal.returns-clause-bytes
returns-clause-bytes c =
    let r = c.loop-bytes-2.last % 2 ^ 43 in
    sent_end c.loop-bytes-2.bytes c.loop-bytes-2.at r c.scramble_bytes.new.bytes c.loop-bytes-2.invariant.within c.scramble_bytes.ensures.bytes ∙ c.loop-bytes-2.invariant.done

pub returns-clause-register : goal.returns-clause-register
returns-clause-register c =
    let r = c.loop-bytes-2.last % 2 ^ 43 in
    last_end c.loop-bytes-2.bytes c.loop-bytes-2.at c.args.register r c.scramble_bytes.result c.scramble_bytes.new.bytes c.loop-bytes-2.invariant.within c.scramble_bytes.ensures.bytes
    c.loop-bytes-2.invariant.register c.scramble_bytes.ensures.register
