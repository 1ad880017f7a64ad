use Rattle.std.proofs.Common.{sym, subst}
use Rattle.line_side.specs.declared.ending.Ending.{Ending}
use Rattle.line_side.specs.MayBe.{MayBe}
use Rattle.line_side.proofs.Standing.{end_stands, end_multiframe, same_ending}
use Rattle.line_side.proofs.Ended.{ended_is}
use Rattle.line_side.proofs.line_in.LineIn.end_turn.Goals as goal

pub returns-clause-stands : goal.returns-clause-stands
returns-clause-stands g c = λ now form first read t h. end_stands form first now read t _ _ _ c.requires c.close.ensures h

pub returns-clause-ending : goal.returns-clause-ending
returns-clause-ending g c = same_ending _ _ _ _ c.close.ensures

pub returns-clause-turn : goal.returns-clause-turn
returns-clause-turn g c = λ now form first read t h available may.
    let P : Ending → Type 0 = λ e. MayBe form.scrambled e read available in
    let m = c.close.ensures in
    record {
      has_multiframe = end_multiframe form first now read available t _ _ _ c.requires m h may;
      has_ended = ended_is form first now read available _ _ m.pieces (end_stands form first now read t _ _ _ c.requires m h) (subst P (sym (same_ending _ _ _ _ m)) may);
    }
