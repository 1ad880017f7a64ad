use Rattle.std.proofs.Common.{subst}
use Rattle.tributary_model.specs.Places.{tributary_of}
use Rattle.tributary_model.specs.Puts.{IsSourcePlace}
use Rattle.cross_matrix.specs.Parts.{OnSource}
use Rattle.cross_matrix.proofs.giving.GivingPart.fill_frame.Goals as goal

pub returns-in-Line-clause-kept : goal.returns-in-Line-clause-kept
returns-in-Line-clause-kept g c = λ port row column low high left right other.
    c.fill.ensures.kept port row column low high left right (subst (λ part. OnSource part (λ source. IsSourcePlace (tributary_of source.slots port) c.args.n row column → ⊥)) c.in-Line.is other)
