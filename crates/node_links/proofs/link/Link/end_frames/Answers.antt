use Rattle.std.proofs.Common.{◌∙◌, sym, ap, subst}
use Rattle.node_links.specs.LinkEnds.{whole_for}
use Rattle.node_links.specs.Steps.LinkMoves.{EndsFrames}
use Rattle.node_links.proofs.LinkLaws.{still_its}
use Rattle.node_links.proofs.link.Link.end_frames.Goals as goal

pub invariant_of-self : goal.invariant_of-self
invariant_of-self c = record { of_entry = still_its c.args.self.now c.end_frames.new.self c.end_frames.ensures.entry }

pub returns-then-may_end-clause-ends : goal.returns-then-may_end-clause-ends
returns-then-may_end-clause-ends c =
    let link = c.args.self.now in
    let here = c.in-Line.is in
    subst (λ whole. EndsFrames link.entry.from whole link.pipe c.end_frames.new.self) (c.is_whole-whole.ensures ∙ sym (ap (λ from. whole_for from c.args.wholes.now) here))
    (record {
      entry = c.end_frames.ensures.entry;
      giving = c.end_frames.ensures.giving;
      line = λ line port own at x a number slots shows j filled frames e all h view. c.end_frames.ensures.stands x a number slots shows j filled frames e h view;
      client = λ n at. cc;
      signal = λ signal at. cc;
    })
