use Rattle.std.proofs.Common.{rules, ◌≡◌, arith, ap, ◌∙◌, append-nil}
use Rattle.odu_client.specs.View.{frames_after}
use Rattle.odu_client.specs.declared.aligned.Aligned.TheVariants.{Nothing}
use Rattle.odu_client.proofs.Growing.{none_until}
use Rattle.odu_client.proofs.Aligning.{passed_on, stepped_on, none_on}
use Rattle.odu_client.proofs.aligner.ClientAligner.take_some.Goals as goal

pub loop-done-preserved : goal.loop-done-preserved
loop-done-preserved c =
    let i = c.loop-done.invariant in
    let p = c.pass-done.ensures in
    let t = c.take-aligned.ensures in
    let nothing : c.take-aligned.result ≡ Nothing = search rules in
    record {
      within = omega arith;
      aligned = λ read h.
          let a = i.aligned read h in
          let b = passed_on read _ _ _ _ _ _ _ a (p.goes _ a.aligned) in
          none_on read _ _ _ _ _ nothing (stepped_on read _ _ _ _ _ _ _ (omega arith) b (t.aligned _ b.aligned));
      kept = t.kept (λ whole. cc) ∙ p.kept ∙ i.kept;
      frames = t.frames ∙ ap (frames_after c.pass-done.new.self.frames) nothing ∙ p.frames ∙ i.frames;
    }

pub returns-then-ne-clause-aligned : goal.returns-then-ne-clause-aligned
returns-then-ne-clause-aligned c = λ read h.
    let a = c.loop-done.invariant.aligned read h in
    let b = passed_on read _ _ _ _ _ _ _ a (c.pass-done.ensures.goes _ a.aligned) in
    stepped_on read _ _ _ _ _ _ _ (omega arith) b (c.take-aligned.ensures.aligned _ b.aligned)

pub returns-then-done-bytes-clause-aligned : goal.returns-then-done-bytes-clause-aligned
returns-then-done-bytes-clause-aligned c = λ read h.
    let a = c.loop-done.invariant.aligned read h in
    passed_on read _ _ _ _ _ _ _ a (c.pass-done.ensures.goes _ a.aligned)

pub returns-then-ne-clause-none_before : goal.returns-then-ne-clause-none_before
returns-then-ne-clause-none_before c = λ read k h less.
    let a = c.loop-done.invariant.aligned read h in
    let b = passed_on read _ _ _ _ _ _ _ a (c.pass-done.ensures.goes _ a.aligned) in
    none_until read c.args.bytes.now _ k (omega arith) (b.arrived ∙ append-nil _)

pub returns-then-done-bytes-clause-none_before : goal.returns-then-done-bytes-clause-none_before
returns-then-done-bytes-clause-none_before c = λ read k h less.
    let a = c.loop-done.invariant.aligned read h in
    let b = passed_on read _ _ _ _ _ _ _ a (c.pass-done.ensures.goes _ a.aligned) in
    none_until read c.args.bytes.now _ k (omega arith) (b.arrived ∙ append-nil _)

pub returns-after-loop-done-clause-none_before : goal.returns-after-loop-done-clause-none_before
returns-after-loop-done-clause-none_before c = λ read k h less.
    let a = c.loop-done.invariant.aligned read h in
    none_until read c.args.bytes.now _ k (omega arith) (a.arrived ∙ append-nil _)
