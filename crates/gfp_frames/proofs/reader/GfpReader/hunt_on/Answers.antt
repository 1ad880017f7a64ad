use Rattle.std.proofs.Common.{◌≡◌, [], take, length, true, ap, sym, ◌∙◌, refl, subst, arith}
use Rattle.std.proofs.lemmas.Bool.{false≢true}
use Rattle.gfp_frames.specs.Reader.{ReaderState, may_want}
use Rattle.gfp_frames.specs.declared.phase.Phase.TheVariants.{Hunt}
use Rattle.gfp_frames.proofs.Reading.{held_size, four_in_hunt}
use Rattle.gfp_frames.proofs.Over.{over_hunted, over_none, nothing_comes}
use Rattle.gfp_frames.proofs.reader.GfpReader.hunt_on.Goals as goal
use Rattle.gfp_frames.proofs.reader.GfpReader.hunt_on.Goals.{in-Hunt, in_default}

pub returns-then-self-clause-goes : goal.returns-then-self-clause-goes
returns-then-self-clause-goes c =
    let old = c.args.self.now in
    let in_view = c.self.inside in
    let phase : in_view.phase ≡ Hunt = elim c.match-matches.branch [
      | in-Hunt w ↦ w.in-Hunt.is
      | in_default w ↦ absurd (false≢true (sym w.matches-is ∙ c.if-hunts.true))
    ] in
    let four : in_view.wanted ≡ 4 = four_in_hunt in_view.phase in_view.wanted phase c.self.invariant.3 in
    over_hunted old c.put_three.new.self c.last_three.result c.hunted-count.result.1 (take c.hunted-count.result.0 c.args.bytes.now)
    (sym (ap (λ (s : ReaderState). s.phase) c.self.view_is) ∙ phase) (sym (ap (λ (s : ReaderState). s.wanted) c.self.view_is) ∙ four)
    c.last_three.ensures.bytes c.put_three.ensures c.hunted-count.ensures.goes

pub returns-else-hunts-clause-goes : goal.returns-else-hunts-clause-goes
returns-else-hunts-clause-goes c =
    let old = c.args.self.now in
    let in_view = c.self.inside in
    let May : ReaderState → Type 0 = λ s. may_want s.phase s.wanted ≡ true in
    let size : length old.held ≡ in_view.held = held_size in_view.phase in_view.held in_view.wanted in_view.buffer.items old.held c.self.invariant.3 (ap (λ s. s.held) c.self.view_is) c.self.invariant.1 (omega arith) in
    let wanted : in_view.wanted ≡ old.wanted = ap (λ s. s.wanted) c.self.view_is in
    over_none old [] refl (nothing_comes old (subst May c.self.view_is c.self.invariant.3) (omega arith))
