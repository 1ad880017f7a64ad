use Rattle.std.specs.Prelude.{vec_len, IsSome}
use Rattle.std.proofs.Common.{◌<◌, ◌*◌, sym, subst, refl, length}
use Rattle.otn_base.specs.LineSlots.{slots_of}
use Rattle.tributary_model.specs.Places.{tributary_of}
use Rattle.tributary_model.specs.Puts.{IsSourcePlace}
use Rattle.trib_source.specs.Rows.{groups_in_row}
use Rattle.trib_source.specs.Steps.Rows.{byte_laid, RowsWerePut}
use Rattle.trib_source.specs.Source.{Source, IsSource, StandsAfter}
use Rattle.trib_source.proofs.Filled.{FramePut, own_frame, frame_kept, stands_filled, is_filled, left_put}
use Rattle.trib_source.proofs.source.TribSource.fill.Goals as goal

pub invariant_of-self : goal.invariant_of-self
invariant_of-self g c =
    let i = c.self.inside in
    let s : Source = record { slots = i.slots; said = i.said; cm = i.runner.cm; asked = i.runner.asked; left = i.backlog.items; cnd = i.cnd; message = i.message; filled = i.filled } in
    let h : IsSource s i.backlog (vec_len i.scratch) i.cm = c.self.invariant in
    let more = 4 * groups_in_row (slots_of i.slots.kind) in
    let low : i.filled < slots_of i.slots.kind =
    subst (λ (x : Source). x.filled < slots_of x.slots.kind) (sym c.self.view_is) (subst (λ k. k < slots_of c.args.self.now.slots.kind) c.requires.filled c.requires.number) in
    is_filled s i.backlog c.put_rows.new.backlog (vec_len i.scratch) i.cm more c.put_rows.new.runner h low refl c.put_rows.ensures.runner c.put_rows.ensures.backlog

pub returns-clause-put : goal.returns-clause-put
returns-clause-put g c = λ own turns stands.
    let i = c.self.inside in
    let s : Source = record { slots = i.slots; said = i.said; cm = i.runner.cm; asked = i.runner.asked; left = i.backlog.items; cnd = i.cnd; message = i.message; filled = i.filled } in
    let h : IsSource s i.backlog (vec_len i.scratch) i.cm = c.self.invariant in
    let message = c.put_own_message.ensures in
    let some : IsSome s.said = subst (λ (x : Source). IsSome x.said) (sym c.self.view_is) c.requires.begun in
    let rows : RowsWerePut (slots_of i.slots.kind) i.slots.list (byte_laid (length i.slots.list) i.runner.cm i.runner.asked i.backlog.items) 4 (g.F.FillFrame.bytes c.args.frame.now) (g.F.FillFrame.bytes c.put_rows.new.frame) =
    subst (λ k. RowsWerePut (slots_of i.slots.kind) i.slots.list (byte_laid (length i.slots.list) k i.runner.asked i.backlog.items) 4 (g.F.FillFrame.bytes c.args.frame.now) (g.F.FillFrame.bytes c.put_rows.new.frame)) h.kept_is c.put_rows.ensures.rows in
    let put : FramePut s c.args.n (g.F.FillFrame.bytes c.args.frame.now) (g.F.FillFrame.bytes c.put_rows.new.frame) (g.F.FillFrame.bytes c.put_own_message.new.frame) =
    record { list = h.list; rows = rows; own = message.greatest; other = message.other; kept = message.kept } in
    own_frame own s i.backlog (vec_len i.scratch) i.cm turns c.args.n (g.F.FillFrame.bytes c.args.frame.now) (g.F.FillFrame.bytes c.put_rows.new.frame) (g.F.FillFrame.bytes c.put_own_message.new.frame) h some put
    (subst (λ (x : Source). StandsAfter own turns c.args.n x) (sym c.self.view_is) stands)

pub returns-clause-kept : goal.returns-clause-kept
returns-clause-kept g c = λ port row column a b d f none.
    let i = c.self.inside in
    let s : Source = record { slots = i.slots; said = i.said; cm = i.runner.cm; asked = i.runner.asked; left = i.backlog.items; cnd = i.cnd; message = i.message; filled = i.filled } in
    let h : IsSource s i.backlog (vec_len i.scratch) i.cm = c.self.invariant in
    let message = c.put_own_message.ensures in
    let rows : RowsWerePut (slots_of i.slots.kind) i.slots.list (byte_laid (length i.slots.list) i.runner.cm i.runner.asked i.backlog.items) 4 (g.F.FillFrame.bytes c.args.frame.now) (g.F.FillFrame.bytes c.put_rows.new.frame) =
    subst (λ k. RowsWerePut (slots_of i.slots.kind) i.slots.list (byte_laid (length i.slots.list) k i.runner.asked i.backlog.items) 4 (g.F.FillFrame.bytes c.args.frame.now) (g.F.FillFrame.bytes c.put_rows.new.frame)) h.kept_is c.put_rows.ensures.rows in
    let put : FramePut s c.args.n (g.F.FillFrame.bytes c.args.frame.now) (g.F.FillFrame.bytes c.put_rows.new.frame) (g.F.FillFrame.bytes c.put_own_message.new.frame) =
    record { list = h.list; rows = rows; own = message.greatest; other = message.other; kept = message.kept } in
    frame_kept s port c.args.n (g.F.FillFrame.bytes c.args.frame.now) (g.F.FillFrame.bytes c.put_rows.new.frame) (g.F.FillFrame.bytes c.put_own_message.new.frame) put row column a b d f
    (subst (λ (x : Source). IsSourcePlace (tributary_of x.slots port) c.args.n row column → ⊥) (sym c.self.view_is) none)

pub returns-clause-stands : goal.returns-clause-stands
returns-clause-stands g c = λ own turns stands.
    let i = c.self.inside in
    let s : Source = record { slots = i.slots; said = i.said; cm = i.runner.cm; asked = i.runner.asked; left = i.backlog.items; cnd = i.cnd; message = i.message; filled = i.filled } in
    let h : IsSource s i.backlog (vec_len i.scratch) i.cm = c.self.invariant in
    let more = 4 * groups_in_row (slots_of i.slots.kind) in
    stands_filled own turns c.args.n more s c.put_rows.new.runner c.put_rows.new.backlog.items c.put_rows.ensures.runner
    (left_put s i.backlog c.put_rows.new.backlog (vec_len i.scratch) i.cm more h c.put_rows.ensures.backlog)
    (subst (λ (x : Source). StandsAfter own turns c.args.n x) (sym c.self.view_is) stands)
