use Rattle.std.proofs.Common.{◌≡◌, ◌+◌, ◌-◌, ◌++◌, take, drop, length, ap, ◌∙◌, arith}
use Rattle.gfp_frames.specs.Maker.{MakerState}
use Rattle.gfp_frames.proofs.Idles.{some_given, front_given}
use Rattle.gfp_frames.proofs.maker.GfpMaker.give.Goals as goal

the_bytes : (c : goal.After-self-1) → take c.min-count.result c.copy_front.new.into ++ drop (c.self.inside.emitted + c.min-count.result) c.self.inside.frame.items ≡ c.args.self.now.hand
the_bytes c =
    let emitted = c.self.inside.emitted in
    let items = c.self.inside.frame.items in
    let count = c.min-count.result in
    let few : emitted + count - emitted ≡ count = omega arith in
    let part = take (emitted + count - emitted) (drop emitted c.deref.result.now) in
    let rest = drop (length part) c.args.into.now in
    front_given items c.copy_front.new.into rest c.args.self.now.hand emitted count (emitted + count - emitted) few (omega arith) (ap (λ m. m.hand) c.self.view_is)
    (c.copy_front.ensures ∙ ap (λ y. take (emitted + count - emitted) (drop emitted y) ++ rest) c.deref.ensures.value)

pub returns-clause-made : goal.returns-clause-made
returns-clause-made c = λ frames emitted made.
    let new : MakerState = record { hand = drop (c.self.inside.emitted + c.min-count.result) c.self.inside.frame.items; register = c.self.inside.scrambler } in
    some_given frames emitted (take c.min-count.result c.copy_front.new.into) c.args.self.now new made (the_bytes c) (ap (λ m. m.register) c.self.view_is)

pub returns-clause-bytes : goal.returns-clause-bytes
returns-clause-bytes c = the_bytes c
