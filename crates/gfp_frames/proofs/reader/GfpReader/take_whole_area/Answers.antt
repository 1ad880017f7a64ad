use Rattle.std.proofs.Common.{◌≡◌, ◌≤◌, take, length, true, ap, sym, ◌∙◌, subst, arith}
use Rattle.std.proofs.lemmas.Bool.{false≢true}
use Rattle.std.proofs.lemmas.List.{length-take-le}
use Rattle.gfp_frames.specs.Reader.{ReaderState, may_want}
use Rattle.gfp_frames.specs.declared.phase.Phase.TheVariants.{SyncArea}
use Rattle.gfp_frames.proofs.Reading.{held_size, at_most, big_in_area, length-descrambled}
use Rattle.gfp_frames.proofs.Over.{over_whole_area}
use Rattle.gfp_frames.proofs.reader.GfpReader.take_whole_area.Goals as goal
use Rattle.gfp_frames.proofs.reader.GfpReader.take_whole_area.Goals.{in-SyncArea, in_default}

pub returns-then-self-bytes-clause-goes : goal.returns-then-self-bytes-clause-goes
returns-then-self-bytes-clause-goes c = λ some.
    let old = c.args.self.now in
    let in_view = c.self.inside in
    let May : ReaderState → Type 0 = λ s. may_want s.phase s.wanted ≡ true in
    let phase : in_view.phase ≡ SyncArea = elim c.match-matches.branch [
      | in-SyncArea w ↦ w.in-SyncArea.is
      | in_default w ↦ absurd (false≢true (sym w.matches-is ∙ c.if-awaited.true))
    ] in
    let held : length old.held ≡ in_view.held = held_size in_view.phase in_view.held in_view.wanted in_view.buffer.items old.held c.self.invariant.3 (ap (λ s. s.held) c.self.view_is) c.self.invariant.1 (omega arith) in
    let wanted : in_view.wanted ≡ old.wanted = ap (λ (s : ReaderState). s.wanted) c.self.view_is in
    over_whole_area old c.end_whole_area.new.self (take in_view.wanted c.args.bytes.now) (sym (ap (λ (s : ReaderState). s.phase) c.self.view_is) ∙ phase)
    (held ∙ c.if-self-eq0.true) (subst May c.self.view_is c.self.invariant.3) (length-take-le in_view.wanted c.args.bytes.now c.if-self-bytes.true ∙ wanted) c.end_whole_area.ensures

pub returns-then-self-bytes-clause-size : goal.returns-then-self-bytes-clause-size
returns-then-self-bytes-clause-size c = λ some.
    let old = c.args.self.now in
    let in_view = c.self.inside in
    let area = take in_view.wanted c.args.bytes.now in
    let phase : in_view.phase ≡ SyncArea = elim c.match-matches.branch [
      | in-SyncArea w ↦ w.in-SyncArea.is
      | in_default w ↦ absurd (false≢true (sym w.matches-is ∙ c.if-awaited.true))
    ] in
    let most = at_most in_view.phase in_view.wanted c.self.invariant.3 in
    let big : 4 ≤ in_view.wanted = big_in_area in_view.phase in_view.wanted phase c.self.invariant.3 in
    let size : length c.end_whole_area.new.self.area ≡ in_view.wanted =
    ap (λ (s : ReaderState). length s.area) c.end_whole_area.ensures ∙ length-descrambled old.register area ∙ length-take-le in_view.wanted c.args.bytes.now c.if-self-bytes.true in
    (omega arith, omega arith)
