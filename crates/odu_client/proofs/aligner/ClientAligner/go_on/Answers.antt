use Rattle.std.proofs.Common.{◌≡◌, ◌<◌, ◌≤◌, ◌∷◌, [], length, arith, sym, ap, ◌∙◌, length-append}
use Rattle.odu_client.specs.AlignedRuns.{misses_after, is_signal}
use Rattle.odu_client.proofs.Aligning.{gives_up, keeps_frame, ends, still_few, few_here, many_here, news_whole, news_break}
use Rattle.odu_client.proofs.aligner.ClientAligner.go_on.Goals as goal

pub returns-then-is_given_up-clause-goes : goal.returns-then-is_given_up-clause-goes
returns-then-is_given_up-clause-goes c =
    let v = c.deref.ensures.value in
    let y = c.is_given_up.ensures.yes c.if-is_given_up.true in
    gives_up _ _ _ _ c.append.new.buffer.items _ _ c.requires c.append.ensures.items (sym (ap length v) ∙ y.0) (many_here _ _ _ v y.1) c.clear.ensures.items

pub invariant_of-self-then-len-lt-CLIENT_FRAME_BYTES-clause-going : goal.invariant_of-self-then-len-lt-CLIENT_FRAME_BYTES-clause-going
invariant_of-self-then-len-lt-CLIENT_FRAME_BYTES-clause-going c =
    let s = c.args.self.now in
    let a = c.append.ensures.items in
    let n = ap length a in
    let m = length-append s.held.items (c.args.byte ∷ []) in
    let old_short = s.held_short in
    let here = few_here s.misses c.deref.result.now c.append.new.buffer.items c.deref.ensures.value (c.is_given_up.ensures.not_yet c.if-is_given_up.false) in
    let few : 6 ≤ length c.append.new.buffer.items → misses_after s.misses c.append.new.buffer.items < 5 = still_few s.misses c.args.byte s.held.items c.append.new.buffer.items a (λ six. s.going (omega arith)) here in
    λ six. few (omega arith)

pub returns-then-len-lt-CLIENT_FRAME_BYTES-clause-goes : goal.returns-then-len-lt-CLIENT_FRAME_BYTES-clause-goes
returns-then-len-lt-CLIENT_FRAME_BYTES-clause-goes c =
    let s = c.args.self.now in
    let a = c.append.ensures.items in
    let n = ap length a in
    let m = length-append s.held.items (c.args.byte ∷ []) in
    let old_short = s.held_short in
    let here = few_here s.misses c.deref.result.now c.append.new.buffer.items c.deref.ensures.value (c.is_given_up.ensures.not_yet c.if-is_given_up.false) in
    let few : 6 ≤ length c.append.new.buffer.items → misses_after s.misses c.append.new.buffer.items < 5 = still_few s.misses c.args.byte s.held.items c.append.new.buffer.items a (λ six. s.going (omega arith)) here in
    keeps_frame _ _ _ _ c.append.new.buffer.items _ c.requires a (omega arith) few

pub invariant_of-self-then-has_signal-clause-few : goal.invariant_of-self-then-has_signal-clause-few
invariant_of-self-then-has_signal-clause-few c =
    let s = c.args.self.now in
    let a = c.append.ensures.items in
    let n = ap length a in
    let m = length-append s.held.items (c.args.byte ∷ []) in
    let old_short = s.held_short in
    let here = few_here s.misses c.deref.result.now c.append.new.buffer.items c.deref.ensures.value (c.is_given_up.ensures.not_yet c.if-is_given_up.false) in
    let few : 6 ≤ length c.append.new.buffer.items → misses_after s.misses c.append.new.buffer.items < 5 = still_few s.misses c.args.byte s.held.items c.append.new.buffer.items a (λ six. s.going (omega arith)) here in
    let size : length c.append.new.buffer.items ≡ 15296 = omega arith in
    let count = c.count-self.ensures.value ∙ ap (misses_after s.misses) c.deref-2.ensures.value in
    let f = few (omega arith) in
    omega (arith, count)

pub returns-then-has_signal-clause-goes : goal.returns-then-has_signal-clause-goes
returns-then-has_signal-clause-goes c =
    let s = c.args.self.now in
    let a = c.append.ensures.items in
    let n = ap length a in
    let m = length-append s.held.items (c.args.byte ∷ []) in
    let old_short = s.held_short in
    let here = few_here s.misses c.deref.result.now c.append.new.buffer.items c.deref.ensures.value (c.is_given_up.ensures.not_yet c.if-is_given_up.false) in
    let few : 6 ≤ length c.append.new.buffer.items → misses_after s.misses c.append.new.buffer.items < 5 = still_few s.misses c.args.byte s.held.items c.append.new.buffer.items a (λ six. s.going (omega arith)) here in
    let size : length c.append.new.buffer.items ≡ 15296 = omega arith in
    let count = c.count-self.ensures.value ∙ ap (misses_after s.misses) c.deref-2.ensures.value in
    let signal = sym (ap is_signal c.deref-3.ensures.value) ∙ sym c.has_signal.ensures ∙ c.if-has_signal.true in
    ends _ _ _ _ _ _ c.append.new.buffer.items _ _ c.requires a size (few (omega arith)) count (news_break s.frame c.append.new.buffer.items signal) c.clear-then-has_signal.ensures.items

pub invariant_of-self-2-clause-few : goal.invariant_of-self-2-clause-few
invariant_of-self-2-clause-few c =
    let s = c.args.self.now in
    let a = c.append.ensures.items in
    let n = ap length a in
    let m = length-append s.held.items (c.args.byte ∷ []) in
    let old_short = s.held_short in
    let here = few_here s.misses c.deref.result.now c.append.new.buffer.items c.deref.ensures.value (c.is_given_up.ensures.not_yet c.if-is_given_up.false) in
    let few : 6 ≤ length c.append.new.buffer.items → misses_after s.misses c.append.new.buffer.items < 5 = still_few s.misses c.args.byte s.held.items c.append.new.buffer.items a (λ six. s.going (omega arith)) here in
    let size : length c.append.new.buffer.items ≡ 15296 = omega arith in
    let count = c.count-self.ensures.value ∙ ap (misses_after s.misses) c.deref-2.ensures.value in
    let f = few (omega arith) in
    omega (arith, count)

pub returns-clause-goes : goal.returns-clause-goes
returns-clause-goes c =
    let s = c.args.self.now in
    let a = c.append.ensures.items in
    let n = ap length a in
    let m = length-append s.held.items (c.args.byte ∷ []) in
    let old_short = s.held_short in
    let here = few_here s.misses c.deref.result.now c.append.new.buffer.items c.deref.ensures.value (c.is_given_up.ensures.not_yet c.if-is_given_up.false) in
    let few : 6 ≤ length c.append.new.buffer.items → misses_after s.misses c.append.new.buffer.items < 5 = still_few s.misses c.args.byte s.held.items c.append.new.buffer.items a (λ six. s.going (omega arith)) here in
    let size : length c.append.new.buffer.items ≡ 15296 = omega arith in
    let count = c.count-self.ensures.value ∙ ap (misses_after s.misses) c.deref-2.ensures.value in
    let signal = sym (ap is_signal c.deref-3.ensures.value) ∙ sym c.has_signal.ensures ∙ c.if-has_signal.false in
    ends _ _ _ _ _ _ c.append.new.buffer.items _ _ c.requires a size (few (omega arith)) count (news_whole c.exchange.new.self c.append.new.buffer.items c.exchange.ensures.frame signal) c.clear-2.ensures.items
