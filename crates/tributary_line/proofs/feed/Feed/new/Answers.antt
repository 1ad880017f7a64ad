use Rattle.std.proofs.Common.{◌∙◌, ap, sym, refl}
use Rattle.otn_base.specs.LineSlots.{slots_of}
use Rattle.tributary_model.specs.Places.{tributary_of}
use Rattle.tributary_line.proofs.FeedTurns.{feed_begins}
use Rattle.tributary_line.proofs.feed.Feed.new.Goals as goal

pub returns-clause-stands : goal.returns-clause-stands
returns-clause-stands c =
    feed_begins (tributary_of c.args.slots.now c.args.port) (record { line = c.in_ok-line.line; source = c.in_ok-source.source; ports = c.allot.new.self; mfas = 0 })
    (ap slots_of c.requires.plain) c.in_ok-line.ensures (c.in_ok-source.ensures.stands c.args.port)
    (record {
      many = c.allot.ensures.size ∙ c.new-map.ensures.size ∙ ap slots_of (sym c.requires.plain);
      used = c.allot.ensures.given.given;
      free = λ slot low none. c.allot.ensures.given.others slot low none ∙ c.new-map.ensures.free slot;
    }) refl
