use Rattle.std.proofs.Common.{rules, ◌≡◌, refl, sym, ap, ◌∙◌, arith, take, length, ◌+◌, ◌++◌, subst, append-nil, append_assoc}
use Rattle.gfp_frames.proofs.Idles.{end_put}
use Rattle.odu_client.proofs.Slices.{rest_size, rest_length, rest_more, all_taken}
use Rattle.port_base.specs.Racks.{bays_view}
use Rattle.bundle_command.specs.Steps.Channels.{WeavingStands}
use Rattle.bundle_command.proofs.Given.{only_none, only_twice}
use Rattle.bundle_command.proofs.weaving.Weaving.fill.Goals as goal

pub loop-done-init : goal.loop-done-init
loop-done-init g c = record {
  within = omega arith;
  size = refl;
  ready = c.requires.ready;
  stands = λ clients first emitted h. subst (λ b. WeavingStands clients first (bays_view g.I.Source g.O.Sink c.args.bays.now) b c.args.self.now) (sym (append-nil emitted)) h;
  alone = only_none (bays_view g.I.Source g.O.Sink c.args.bays.now);
}

pub loop-done-preserved : goal.loop-done-preserved
loop-done-preserved g c =
    let i = c.loop-done.invariant in
    let e = c.step-done.ensures in
    let into = c.loop-done.into in
    let done = c.loop-done.done in
    let put = end_put into done c.step-done.new.into in
    let size = ap length put ∙ rest_size into c.step-done.new.into done i.within e.size in
    let more = ap (take (done + c.step-done.result)) put ∙ rest_more into c.step-done.new.into done c.step-done.result i.within in
    record {
      within = (let a = rest_length into done i.within in let b = e.within in omega arith);
      size = size ∙ i.size;
      ready = e.ready;
      stands = λ clients first emitted h. subst (λ b. WeavingStands clients first (bays_view g.I.Source g.O.Sink c.step-done.new.bays) b c.step-done.new.self)
          (append_assoc emitted (take done into) (take c.step-done.result c.step-done.new.into) ∙ ap (λ y. emitted ++ y) (sym more))
          (e.stands clients first (emitted ++ take done into) (i.stands clients first emitted h));
      alone = only_twice (bays_view g.I.Source g.O.Sink c.args.bays.now) (bays_view g.I.Source g.O.Sink c.loop-done.bays) (bays_view g.I.Source g.O.Sink c.step-done.new.bays) i.alone e.alone;
    }

pub returns-clause-stands : goal.returns-clause-stands
returns-clause-stands g c = λ clients first emitted h.
    let i = c.loop-done.invariant in
    let all : take c.loop-done.done c.loop-done.into ≡ c.loop-done.into = all_taken c.loop-done.into c.loop-done.done (search rules) i.within in
    rw all at (i.stands clients first emitted h)
