use Rattle.std.proofs.Common.{◌≡◌, [], take, length, true, ap, sym, ◌∙◌, refl, subst, arith}
use Rattle.std.proofs.lemmas.Bool.{false≢true}
use Rattle.gfp_frames.specs.Reader.{ReaderState, may_want}
use Rattle.gfp_frames.specs.Steps.Reader.{kept_some}
use Rattle.gfp_frames.specs.declared.phase.Phase.TheVariants.{Sync}
use Rattle.gfp_frames.proofs.Reading.{held_size, four_in_sync}
use Rattle.gfp_frames.proofs.Over.{over_header, over_none, nothing_comes}
use Rattle.gfp_frames.proofs.reader.GfpReader.take_header.Goals as goal
use Rattle.gfp_frames.proofs.reader.GfpReader.take_header.Goals.{in-Sync, in_default}

pub returns-then-bytes-ge-HEADER-clause-goes : goal.returns-then-bytes-ge-HEADER-clause-goes
returns-then-bytes-ge-HEADER-clause-goes c =
    let old = c.args.self.now in
    let in_view = c.self.inside in
    let phase : in_view.phase ≡ Sync = elim c.match-matches.branch [
      | in-Sync w ↦ w.in-Sync.is
      | in_default w ↦ absurd (false≢true (sym w.matches-is ∙ c.if-sync.true))
    ] in
    let four : in_view.wanted ≡ 4 = four_in_sync in_view.phase in_view.wanted phase c.self.invariant.3 in
    let size : length old.held ≡ in_view.held = held_size in_view.phase in_view.held in_view.wanted in_view.buffer.items old.held c.self.invariant.3 (ap (λ s. s.held) c.self.view_is) c.self.invariant.1 (omega arith) in
    over_header old (kept_some old (take 3 c.args.bytes.now)) c.end_whole_header.new.self c.args.bytes.now (sym (ap (λ (s : ReaderState). s.phase) c.self.view_is) ∙ phase)
    (sym (ap (λ (s : ReaderState). s.wanted) c.self.view_is) ∙ four) (size ∙ c.if-self-eq0.true) c.if-bytes-ge-HEADER.true refl c.end_whole_header.ensures

pub returns-else-sync-clause-goes : goal.returns-else-sync-clause-goes
returns-else-sync-clause-goes c =
    let old = c.args.self.now in
    let in_view = c.self.inside in
    let May : ReaderState → Type 0 = λ s. may_want s.phase s.wanted ≡ true in
    let size : length old.held ≡ in_view.held = held_size in_view.phase in_view.held in_view.wanted in_view.buffer.items old.held c.self.invariant.3 (ap (λ s. s.held) c.self.view_is) c.self.invariant.1 (omega arith) in
    let wanted : in_view.wanted ≡ old.wanted = ap (λ s. s.wanted) c.self.view_is in
    over_none old [] refl (nothing_comes old (subst May c.self.view_is c.self.invariant.3) (omega arith))
