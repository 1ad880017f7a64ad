use Rattle.std.proofs.Common.{◌≡◌, ◌≤◌, [], ◌∷◌, ◌++◌, true, false, length, ap, sym, subst, refl, ◌∙◌, arith}
use Rattle.gfp_frames.specs.CoreHeader.{header_in, right_pli, near_pli}
use Rattle.gfp_frames.specs.Reader.{ReaderState, may_want}
use Rattle.gfp_frames.specs.Steps.Reader.{Goes}
use Rattle.gfp_frames.proofs.Reading.{goes_kept, goes_in_hunt, goes_in_presync, goes_in_sync, goes_past_presync, goes_past_area, held_size, full_size, four_in_hunt, four_in_presync, four_in_sync, big_in_area, at_most, area_length}
use Rattle.gfp_frames.proofs.reader.GfpReader.advance.Goals as goal

pub returns-then-self-clause-goes : goal.returns-then-self-clause-goes
returns-then-self-clause-goes c =
    let old = c.args.self.now in
    let in_view = c.self.inside in
    let May : ReaderState → Type 0 = λ s. may_want s.phase s.wanted ≡ true in
    let New : ReaderState → Type 0 = λ s. Goes old c.args.byte false s in
    let size : length old.held ≡ in_view.held = held_size in_view.phase in_view.held in_view.wanted in_view.buffer.items old.held c.self.invariant.3 (ap (λ s. s.held) c.self.view_is) c.self.invariant.1 (omega arith) in
    let wanted : in_view.wanted ≡ old.wanted = ap (λ s. s.wanted) c.self.view_is in
    subst New (sym c.keep.ensures) (goes_kept old c.args.byte (subst May c.self.view_is c.self.invariant.3) (omega arith))

pub returns-in-Hunt-clause-goes : goal.returns-in-Hunt-clause-goes
returns-in-Hunt-clause-goes c =
    let old = c.args.self.now in
    let in_view = c.self.inside in
    let New : ReaderState → Type 0 = λ s. Goes old c.args.byte false s in
    let size : length old.held ≡ in_view.held = held_size in_view.phase in_view.held in_view.wanted in_view.buffer.items old.held c.self.invariant.3 (ap (λ s. s.held) c.self.view_is) c.self.invariant.1 (omega arith) in
    let full : length (old.held ++ c.args.byte ∷ []) ≡ in_view.wanted = full_size c.args.byte in_view.held in_view.wanted old.held size c.self.invariant.1 c.if-self.false in
    let four : in_view.wanted ≡ 4 = four_in_hunt in_view.phase in_view.wanted c.in-Hunt.is c.self.invariant.3 in
    subst New (sym c.end_hunt_header.ensures)
    (goes_in_hunt old c.args.byte (right_pli (header_in (old.held ++ c.args.byte ∷ []))) (sym (ap (λ s. s.phase) c.self.view_is) ∙ c.in-Hunt.is) (full ∙ four) refl)

pub returns-in-Presync-clause-goes : goal.returns-in-Presync-clause-goes
returns-in-Presync-clause-goes c =
    let old = c.args.self.now in
    let in_view = c.self.inside in
    let New : ReaderState → Type 0 = λ s. Goes old c.args.byte false s in
    let size : length old.held ≡ in_view.held = held_size in_view.phase in_view.held in_view.wanted in_view.buffer.items old.held c.self.invariant.3 (ap (λ s. s.held) c.self.view_is) c.self.invariant.1 (omega arith) in
    let full : length (old.held ++ c.args.byte ∷ []) ≡ in_view.wanted = full_size c.args.byte in_view.held in_view.wanted old.held size c.self.invariant.1 c.if-self.false in
    let four : in_view.wanted ≡ 4 = four_in_presync in_view.phase in_view.wanted c.in-Presync.is c.self.invariant.3 in
    subst New (sym c.end_presync_header.ensures)
    (goes_in_presync old c.args.byte (right_pli (header_in (old.held ++ c.args.byte ∷ []))) (sym (ap (λ s. s.phase) c.self.view_is) ∙ c.in-Presync.is) (full ∙ four) refl)

pub returns-in-Sync-clause-goes : goal.returns-in-Sync-clause-goes
returns-in-Sync-clause-goes c =
    let old = c.args.self.now in
    let in_view = c.self.inside in
    let New : ReaderState → Type 0 = λ s. Goes old c.args.byte false s in
    let size : length old.held ≡ in_view.held = held_size in_view.phase in_view.held in_view.wanted in_view.buffer.items old.held c.self.invariant.3 (ap (λ s. s.held) c.self.view_is) c.self.invariant.1 (omega arith) in
    let full : length (old.held ++ c.args.byte ∷ []) ≡ in_view.wanted = full_size c.args.byte in_view.held in_view.wanted old.held size c.self.invariant.1 c.if-self.false in
    let four : in_view.wanted ≡ 4 = four_in_sync in_view.phase in_view.wanted c.in-Sync.is c.self.invariant.3 in
    subst New (sym c.end_sync_header.ensures)
    (goes_in_sync old c.args.byte (near_pli (header_in (old.held ++ c.args.byte ∷ []))) (sym (ap (λ s. s.phase) c.self.view_is) ∙ c.in-Sync.is) (full ∙ four) refl)

pub returns-in-PresyncArea-clause-goes : goal.returns-in-PresyncArea-clause-goes
returns-in-PresyncArea-clause-goes c =
    let old = c.args.self.now in
    let in_view = c.self.inside in
    let New : ReaderState → Type 0 = λ s. Goes old c.args.byte false s in
    let size : length old.held ≡ in_view.held = held_size in_view.phase in_view.held in_view.wanted in_view.buffer.items old.held c.self.invariant.3 (ap (λ s. s.held) c.self.view_is) c.self.invariant.1 (omega arith) in
    let full : length (old.held ++ c.args.byte ∷ []) ≡ in_view.wanted = full_size c.args.byte in_view.held in_view.wanted old.held size c.self.invariant.1 c.if-self.false in
    subst New (sym c.await_next.ensures)
    (goes_past_presync old c.args.byte (sym (ap (λ s. s.phase) c.self.view_is) ∙ c.in-PresyncArea.is) (full ∙ ap (λ s. s.wanted) c.self.view_is))

pub returns-in-SyncArea-clause-goes : goal.returns-in-SyncArea-clause-goes
returns-in-SyncArea-clause-goes c =
    let old = c.args.self.now in
    let in_view = c.self.inside in
    let New : ReaderState → Type 0 = λ s. Goes old c.args.byte true s in
    let size : length old.held ≡ in_view.held = held_size in_view.phase in_view.held in_view.wanted in_view.buffer.items old.held c.self.invariant.3 (ap (λ s. s.held) c.self.view_is) c.self.invariant.1 (omega arith) in
    let full : length (old.held ++ c.args.byte ∷ []) ≡ in_view.wanted = full_size c.args.byte in_view.held in_view.wanted old.held size c.self.invariant.1 c.if-self.false in
    let big : 4 ≤ in_view.wanted = big_in_area in_view.phase in_view.wanted c.in-SyncArea.is c.self.invariant.3 in
    let wanted : in_view.wanted ≡ old.wanted = ap (λ s. s.wanted) c.self.view_is in
    subst New (sym c.end_area.ensures) (goes_past_area old c.args.byte (sym (ap (λ s. s.phase) c.self.view_is) ∙ c.in-SyncArea.is) (full ∙ wanted) (omega arith))

pub returns-in-SyncArea-clause-size : goal.returns-in-SyncArea-clause-size
returns-in-SyncArea-clause-size c = λ found.
    let old = c.args.self.now in
    let in_view = c.self.inside in
    let size : length old.held ≡ in_view.held = held_size in_view.phase in_view.held in_view.wanted in_view.buffer.items old.held c.self.invariant.3 (ap (λ s. s.held) c.self.view_is) c.self.invariant.1 (omega arith) in
    let full : length (old.held ++ c.args.byte ∷ []) ≡ in_view.wanted = full_size c.args.byte in_view.held in_view.wanted old.held size c.self.invariant.1 c.if-self.false in
    let big : 4 ≤ in_view.wanted = big_in_area in_view.phase in_view.wanted c.in-SyncArea.is c.self.invariant.3 in
    area_length old c.end_area.new.self c.args.byte in_view.wanted c.end_area.ensures full big (at_most in_view.phase in_view.wanted c.self.invariant.3)
