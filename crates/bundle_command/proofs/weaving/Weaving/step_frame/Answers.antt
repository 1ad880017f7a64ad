use Rattle.std.proofs.Common.{◌≡◌, ◌++◌, take, length, refl, rules}
use Rattle.port_base.specs.Racks.{bays_view}
use Rattle.bundle_command.specs.declared.weaving.Weaving.{Weaving}
use Rattle.bundle_command.proofs.Given.{gives, stands_ready, given_some, given_long}
use Rattle.bundle_command.proofs.weaving.Weaving.step_frame.Goals as goal

pub returns-clause-stands : goal.returns-clause-stands
returns-clause-stands g c = λ clients first emitted h.
    let into = c.give_bytes-count.new.into in
    let count = c.give_bytes-count.result in
    let long : length into ≡ length c.args.into.now = search rules in
    let some = given_some c.have_frame.new.self.maker.maker.hand c.args.into.now count c.have_frame.ensures.some c.requires.room c.give_bytes-count.ensures.count in
    gives clients first (bays_view g.I.Source g.O.Sink c.have_frame.new.bays) emitted (take count into) count c.have_frame.new.self
    (record { channels = c.have_frame.new.self.channels; maker = c.give_bytes-count.new.self; emitted = c.saturating_add-self.result; end = c.have_frame.new.self.end })
    c.have_frame.ensures.some some (given_long c.have_frame.new.self.maker.maker.hand c.args.into.now into count long c.give_bytes-count.ensures.count) c.give_bytes-count.ensures.woven refl refl c.saturating_add-self.ensures
    (c.have_frame.ensures.stands clients first emitted (stands_ready clients first (bays_view g.I.Source g.O.Sink c.args.bays.now) emitted c.args.self.now h))

pub returns-clause-ready : goal.returns-clause-ready
returns-clause-ready g c =
    let into = c.give_bytes-count.new.into in
    let count = c.give_bytes-count.result in
    let long : length into ≡ length c.args.into.now = search rules in
    let some = given_some c.have_frame.new.self.maker.maker.hand c.args.into.now count c.have_frame.ensures.some c.requires.room c.give_bytes-count.ensures.count in
    let r = c.requires.ready in
    let now = bays_view g.I.Source g.O.Sink c.have_frame.new.bays in
    let new : Weaving = record { channels = c.have_frame.new.self.channels; maker = c.give_bytes-count.new.self; emitted = c.saturating_add-self.result; end = c.have_frame.new.self.end } in
    record {
      clients = r.clients;
      first = r.first;
      emitted = r.emitted ++ take count into;
      ready = stands_ready r.clients r.first now (r.emitted ++ take count into) new
          (gives r.clients r.first now r.emitted (take count into) count c.have_frame.new.self new c.have_frame.ensures.some some
          (given_long c.have_frame.new.self.maker.maker.hand c.args.into.now into count long c.give_bytes-count.ensures.count) c.give_bytes-count.ensures.woven refl refl c.saturating_add-self.ensures
          (c.have_frame.ensures.stands r.clients r.first r.emitted r.ready));
    }
