use Rattle.std.proofs.Common.{sym, ◌∙◌}
use Rattle.gfp_frames.proofs.Texts.{byte_given, in_hand-some}
use Rattle.gfp_frames.proofs.maker.GfpMaker.next_byte.Goals as goal

pub give_byte-requires : goal.give_byte-requires
give_byte-requires c = λ none. in_hand-some c.args.self.now.hand (sym c.take_up.ensures.hand ∙ none)

pub returns-clause-made : goal.returns-clause-made
returns-clause-made c = λ frames emitted made.
    byte_given frames emitted c.give_byte.result c.args.self.now c.give_byte.new.self made
    (sym c.give_byte.ensures.byte ∙ c.take_up.ensures.hand) (c.give_byte.ensures.register ∙ c.take_up.ensures.register)
