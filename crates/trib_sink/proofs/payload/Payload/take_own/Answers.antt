use Rattle.std.proofs.Common.{◌≡◌, ◌+◌, ◌*◌, ◌≤◌, length, sym, subst, ap, ◌∙◌, arith, rules}
use Rattle.std.specs.Prelude.{vec_len}
use Rattle.gmp_rule.specs.DataRule.{Progress}
use Rattle.trib_sink.specs.Extraction.{Extraction}
use Rattle.trib_sink.proofs.LineRows.{row_room, row_after}
use Rattle.trib_sink.proofs.payload.Payload.take_own.Goals as goal

pub take_own-self-inside-requires-clause-room : goal.take_own-self-inside-requires-clause-room
take_own-self-inside-requires-clause-room c =
    let i = c.self.inside in
    let n = length c.args.own.now in
    let one : i.slots ≡ 1 = ap (λ (e : Extraction). e.slots) c.self.view_is ∙ c.requires.one in
    let asked : i.runner.asked ≡ c.args.self.now.asked = ap (λ (e : Extraction). e.asked) c.self.view_is in
    let same : i.slots * n ≡ n = ap (λ m. m * n) one ∙ (let e : 1 * n ≡ n = omega arith in e) in
    let some = c.requires.asked in
    let room = row_room i.slots i.runner.asked n i.end (vec_len i.fresh) c.self.invariant.end_high (omega arith) c.self.invariant.fresh_is in
    let long = c.deref_mut.ensures.len in
    omega arith

pub invariant_of-self : goal.invariant_of-self
invariant_of-self c =
    let i = c.self.inside in
    let n = length c.args.own.now in
    let one : i.slots ≡ 1 = ap (λ (e : Extraction). e.slots) c.self.view_is ∙ c.requires.one in
    let same : i.slots * n ≡ n = ap (λ m. m * n) one ∙ (let e : 1 * n ≡ n = omega arith in e) in
    let more = c.take_own-self-inside.ensures.count in
    let asked : c.take_own-self-inside.new.runner.asked ≡ i.runner.asked + n = ap (λ (r : Progress). r.asked) c.take_own-self-inside.ensures.runner in
    record {
      few = search rules;
      cm_high = search rules;
      asked_high = search rules;
      in_order = search rules;
      last_high = search rules;
      kept_is = search rules;
      end_high = subst (λ a. c.take_own-self-inside.result ≤ i.slots * a) (sym asked)
          (row_after i.slots i.runner.asked n i.end c.take_own-self-inside.result c.self.invariant.end_high (omega arith));
      emitted_in_order = search rules;
      past_high = search rules;
      fresh_is = search rules;
    }
