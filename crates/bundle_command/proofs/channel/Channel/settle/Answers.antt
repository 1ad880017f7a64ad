use Rattle.std.proofs.Common.{◌≡◌, refl, rules}
use Rattle.port_base.specs.InPlace.{in_view}
use Rattle.bundle_command.specs.declared.channel.Standing.TheVariants.{Going}
use Rattle.bundle_command.proofs.Channels.{settled_one, stays_settled}
use Rattle.bundle_command.proofs.channel.Channel.settle.Goals as goal

pub returns-then-ne-clause-settled : goal.returns-then-ne-clause-settled
returns-then-ne-clause-settled g c = λ first read offered h. stays_settled first (in_view g.I.Source c.args.place.now) read offered c.args.self.now h

pub returns-clause-settled : goal.returns-clause-settled
returns-clause-settled g c = λ first read offered h.
    let going : c.args.self.now.standing ≡ Going = search rules in
    settled_one first (in_view g.I.Source c.args.place.now) (in_view g.I.Source c.take-line.new.place) read offered c.args.self.now
    (record { client = c.args.self.now.client; lines = c.take-line.new.self; standing = c.standing_at_end-self.result; packets = c.args.self.now.packets }) c.take-line.result going
    c.take-line.ensures.stands c.take-line.ensures.answer c.standing_at_end-self.ensures.value refl h
