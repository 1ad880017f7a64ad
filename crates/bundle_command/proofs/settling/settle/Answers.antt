use Rattle.std.proofs.Common.{◌≡◌, ◌∙◌, length, refl, sym, subst, add-one, arith, rules}
use Rattle.port_base.specs.Racks.{bays_view}
use Rattle.bundle_command.specs.Steps.Settled.{IsSettled}
use Rattle.bundle_command.proofs.AtEnd.{none_settled, place_low, settles}
use Rattle.bundle_command.proofs.Given.{only_none, only_twice}
use Rattle.bundle_command.proofs.settling.settle.Goals as goal

pub loop-i-init : goal.loop-i-init
loop-i-init g c = record {
  many = refl;
  settled = λ clients first emitted h. none_settled clients first (bays_view g.I.Source g.O.Sink c.args.bays.now) emitted c.args.weaving.now h;
  alone = only_none (bays_view g.I.Source g.O.Sink c.args.bays.now);
}

pub settle_one-requires-clause-place : goal.settle_one-requires-clause-place
settle_one-requires-clause-place g c =
    let r = c.requires.stands in
    place_low c.loop-i.i r.clients r.first (bays_view g.I.Source g.O.Sink c.loop-i.bays) r.emitted c.loop-i.weaving (c.loop-i.invariant.settled r.clients r.first r.emitted r.stands) c.loop-i.i

pub loop-i-preserved : goal.loop-i-preserved
loop-i-preserved g c =
    let i = c.loop-i.invariant in
    record {
      many = c.settle_one.ensures.many ∙ i.many;
      settled = λ clients first emitted h.
          subst (λ n. IsSettled n clients first (bays_view g.I.Source g.O.Sink c.settle_one.new.bays) emitted
          (record { channels = c.settle_one.new.channels; maker = c.loop-i.weaving.maker; emitted = c.loop-i.weaving.emitted; end = c.loop-i.weaving.end })) (sym (add-one c.loop-i.i))
          (settles clients first (bays_view g.I.Source g.O.Sink c.loop-i.bays) (bays_view g.I.Source g.O.Sink c.settle_one.new.bays) emitted c.loop-i.weaving
          (record { channels = c.settle_one.new.channels; maker = c.loop-i.weaving.maker; emitted = c.loop-i.weaving.emitted; end = c.loop-i.weaving.end }) c.loop-i.i refl refl refl c.settle_one.ensures.settled
          (i.settled clients first emitted h));
      alone = only_twice (bays_view g.I.Source g.O.Sink c.args.bays.now) (bays_view g.I.Source g.O.Sink c.loop-i.bays) (bays_view g.I.Source g.O.Sink c.settle_one.new.bays) i.alone c.settle_one.ensures.alone;
    }

pub returns-clause-settled : goal.returns-clause-settled
returns-clause-settled g c = λ clients first emitted h.
    let s = c.loop-i.invariant.settled clients first emitted h in
    let all : c.loop-i.i ≡ length clients = (let whole : c.loop-i.weaving.channels.len ≡ length c.loop-i.weaving.channels.items = search rules in let m = s.has.many in let many = c.loop-i.invariant.many in
    let done = c.loop-i-test.false in let most = c.loop-i.auto.i-end in let end = c.len-i-end.ensures in omega arith) in
    subst (λ n. IsSettled n clients first (bays_view g.I.Source g.O.Sink c.loop-i.bays) emitted c.loop-i.weaving) all s

pub returns-clause-alone : goal.returns-clause-alone
returns-clause-alone g c = c.loop-i.invariant.alone
