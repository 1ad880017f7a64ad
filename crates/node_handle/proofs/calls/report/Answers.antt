use Rattle.std.proofs.Common.{rules, ◌≡◌, subst}
use Rattle.live_calls.specs.Held.{Reports}
use Rattle.node_handle.proofs.Answering.{moved}
use Rattle.node_handle.proofs.calls.report.Goals as goal

pub returns-in-Some-clause-report : goal.returns-in-Some-clause-report
returns-in-Some-clause-report c = λ made.
    let was = c.deref_mut.result.now in
    let is = c.report.new.self in
    let text = c.as_bytes.result.now in
    let same : c.report.new.text.bytes ≡ text = search rules in
    record {
      text = text;
      reports = moved (λ a b. Reports a b text) c.args.node.now.value c.of.result.value was is (search rules) (search rules)
          (subst (λ t. Reports was is t) same c.report.ensures);
      all = c.put_text.ensures.told;
      put = c.put_text.ensures.put;
      little = c.put_text.ensures.little;
    }
