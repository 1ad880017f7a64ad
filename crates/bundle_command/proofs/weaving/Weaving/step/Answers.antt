use Rattle.std.proofs.Common.{◌≡◌, ◌++◌, ◌∙◌, List, ℕ, ap, length, subst, sym, take}
use Rattle.std.proofs.Math.Seq.{take-length}
use Rattle.port_base.specs.Racks.{bays_view}
use Rattle.bundle_command.specs.Steps.Channels.{WeavingReady, WeavingStands}
use Rattle.bundle_command.proofs.Given.{stands_ready}
use Rattle.bundle_command.proofs.weaving.Weaving.step.Goals as goal

pub returns-then-is_idle-clause-stands : goal.returns-then-is_idle-clause-stands
returns-then-is_idle-clause-stands g c = λ clients first emitted h.
    let bays = bays_view g.I.Source g.O.Sink c.args.bays.now in
    let into = c.give_idle.new.into in
    let all : take c.give_idle.result into ≡ into = ap (λ n. take n into) (c.give_idle.ensures.count ∙ sym c.give_idle.ensures.size) ∙ take-length into in
    subst (λ bytes. WeavingStands clients first bays (emitted ++ bytes) c.give_idle.new.self) (sym all)
    (c.give_idle.ensures.stands clients first bays emitted (stands_ready clients first bays emitted c.args.self.now h))

pub returns-then-is_idle-clause-ready : goal.returns-then-is_idle-clause-ready
returns-then-is_idle-clause-ready g c =
    let bays = bays_view g.I.Source g.O.Sink c.args.bays.now in
    let into = c.give_idle.new.into in
    let r = c.requires.ready in
    record {
      clients = r.clients;
      first = r.first;
      emitted = r.emitted ++ into;
      ready = stands_ready r.clients r.first bays (r.emitted ++ into) c.give_idle.new.self (c.give_idle.ensures.stands r.clients r.first bays r.emitted r.ready);
    }
