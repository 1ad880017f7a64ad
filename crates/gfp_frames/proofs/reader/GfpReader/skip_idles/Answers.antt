use Rattle.std.proofs.Common.{◌≡◌, ◌/◌, [], take, length, true, ap, sym, ◌∙◌, refl, subst, arith}
use Rattle.std.proofs.lemmas.Bool.{false≢true}
use Rattle.gfp_frames.specs.Reader.{ReaderState, may_want}
use Rattle.gfp_frames.specs.declared.phase.Phase.TheVariants.{Sync}
use Rattle.gfp_frames.proofs.Reading.{held_size}
use Rattle.gfp_frames.proofs.Over.{over_idles, over_none, nothing_comes}
use Rattle.gfp_frames.proofs.reader.GfpReader.skip_idles.Goals as goal
use Rattle.gfp_frames.proofs.reader.GfpReader.skip_idles.Goals.{in-Sync, in_default}

pub returns-then-self-eq0-clause-goes : goal.returns-then-self-eq0-clause-goes
returns-then-self-eq0-clause-goes c =
    let old = c.args.self.now in
    let in_view = c.self.inside in
    let quiet : ReaderState → ReaderState = λ s. record s { area = [] } in
    let phase : in_view.phase ≡ Sync = elim c.match-matches.branch [
      | in-Sync w ↦ w.in-Sync.is
      | in_default w ↦ absurd (false≢true (sym w.matches-is ∙ c.if-sync.true))
    ] in
    let none : old.held ≡ [] = sym (ap (λ (s : ReaderState). s.held) c.self.view_is) ∙ ap (λ n. take n in_view.buffer.items) c.if-self-eq0.true in
    over_idles old _ (c.idles_before.result / 4) (take c.idles_before.result c.args.bytes.now) (sym (ap (λ (s : ReaderState). s.phase) c.self.view_is) ∙ phase) none
    (ap quiet c.self.view_is) c.idles_before.ensures.idle

pub returns-else-sync-clause-goes : goal.returns-else-sync-clause-goes
returns-else-sync-clause-goes c =
    let old = c.args.self.now in
    let in_view = c.self.inside in
    let May : ReaderState → Type 0 = λ s. may_want s.phase s.wanted ≡ true in
    let size : length old.held ≡ in_view.held = held_size in_view.phase in_view.held in_view.wanted in_view.buffer.items old.held c.self.invariant.3 (ap (λ s. s.held) c.self.view_is) c.self.invariant.1 (omega arith) in
    let wanted : in_view.wanted ≡ old.wanted = ap (λ s. s.wanted) c.self.view_is in
    over_none old [] refl (nothing_comes old (subst May c.self.view_is c.self.invariant.3) (omega arith))
