-- The own places of a connection in the file of the line that it goes to are fixed by what it gets.
use Rattle.std.proofs.Common.{rules, ◌≡◌, inl, inr, ◌<◌, ◌+◌, ◌*◌, ◌%◌, ℕ, Bool, true, false, List, length, get_or, sym, ap, ◌∙◌, subst, arith}
use Rattle.std.specs.List.{concat}
use Rattle.otn_base.specs.LineSlots.{LineSlots, slots_of}
use Rattle.otn_base.specs.SlotList.{IsSlotList}
use Rattle.frame_geometry.specs.Places.{place_of}
use Rattle.line_side.specs.LineFile.{frame_at}
use Rattle.line_side.specs.LineForm.{size_of, through_mask}
use Rattle.line_side.specs.LineOutput.{FramePut, IsLineFrame}
use Rattle.line_side.proofs.Masks.{frame_through, index_masked}
use Rattle.msi_table.specs.Psi.{slot_msi}
use Rattle.plan_file.specs.declared.connection.Connection.{Connection}
use Rattle.tributary_model.specs.Places.{Tributary, tributary_of, byte_at, IsOwn, IsOwnMsi}
use Rattle.tributary_model.specs.Puts.{IsPut, IsSourcePlace}
use Rattle.tributary_model.proofs.PutApart.{stays_where_kept}
use Rattle.tributary_model.proofs.Views.{slot_low, slot_high}
use Rattle.device_model.specs.Entries.{form_out, own_turn}
use Rattle.device_model.specs.Through.{own_input, got_by}
use Rattle.connection_laws.specs.TwoWorlds.{SameInput, FiledRun, HasFrame, HaveFrame}
use Rattle.device_model.proofs.MadeFrames.{made_at}
use Rattle.connection_laws.proofs.OpuBytes.{opu_byte_at, not_psi, psi_of_slot, of_turn}
use Rattle.connection_laws.proofs.WorldInputs.{same_got, sound_of}

-- ---- a frame that shows what was got

-- in a whole frame the own places have what the source puts in turn t, and the MSI byte of the port
record ShowsOwn (own : Tributary) (turns : List (List ℕ)) (t n expected : ℕ) (frame : List ℕ) : Type 0 where
  pub size : length frame ≡ 16320
  pub put : IsPut own turns t n frame
  pub msi : (row column : ℕ) → IsOwnMsi own expected row column → byte_at frame row column ≡ slot_msi own.port

-- two of these are the same at each own place
same_own : (own : Tributary) (turns : List (List ℕ)) (t n expected row column : ℕ) (one other : List ℕ) → ShowsOwn own turns t n expected one → ShowsOwn own turns t n expected other
    → IsOwn own n expected row column → byte_at one row column ≡ byte_at other row column
same_own own turns t n expected row column one other f g (inl o) = f.put.payload row column o ∙ sym (g.put.payload row column o)
same_own own turns t n expected row column one other f g (inr (inl o)) = f.put.message row column o ∙ sym (g.put.message row column o)
same_own own turns t n expected row column one other f g (inr (inr o)) = f.msi row column o ∙ sym (g.msi row column o)

kept_source : (own : Tributary) (m n bip : ℕ) (put : FramePut) (frame : List ℕ) (row column : ℕ) → IsLineFrame n bip put frame → IsSourcePlace own m row column → byte_at frame row column ≡ byte_at put.bytes row column
kept_source own m n bip put frame row column is (inl o) =
    let low = o.columns.0 in
    opu_byte_at n bip put frame row column is o.rows.0 o.rows.1 (omega arith) o.columns.1 ∙ not_psi put.ports put.mfas row column (byte_at put.bytes row column) (inr (omega arith))
kept_source own m n bip put frame row column is (inr (inl o)) =
    let last = o.rows.1 in
    let high = o.columns.1 in
    opu_byte_at n bip put frame row column is o.rows.0 (omega arith) o.columns.0 (omega arith) ∙ not_psi put.ports put.mfas row column (byte_at put.bytes row column) (inl (omega arith))
kept_source own m n bip put frame row column is (inr (inr o)) =
    let last = o.rows.1 in
    let high = o.columns.1 in
    opu_byte_at n bip put frame row column is o.rows.0 (omega arith) o.columns.0 (omega arith) ∙ not_psi put.ports put.mfas row column (byte_at put.bytes row column) (inl (omega arith))

-- ---- in a run

-- frame n of the turn shows what the connection got until then
shows_made : (run : FiledRun) (x : Connection) (b port past n : ℕ) (slots : LineSlots) → HasFrame run x b port past n slots → IsSlotList (slots_of slots.kind) slots.list → slots_of slots.kind ≡ size_of (form_out run.plan b)
    → n < size_of (form_out run.plan b)
    → ShowsOwn (tributary_of slots port) (got_by x (own_input run.inputs x) (own_turn x past + 1)) (own_turn x past) n ((size_of (form_out run.plan b) * past + n) % 256)
    (frame_at (concat run.frames) (size_of (form_out run.plan b) * past + n))
shows_made run x b port past n slots has list same l =
    let own = tributary_of slots port in
    let size = size_of (form_out run.plan b) in
    let turns = got_by x (own_input run.inputs x) (own_turn x past + 1) in
    let frame = frame_at (concat run.frames) (size * past + n) in
    let made = made_at run.plan run.inputs b has.count run.frames (size * past + n) has.file has.made in
    let is = of_turn run.plan run.inputs b past n made.put l made.is in
    record {
      size = made.frame.size;
      put = stays_where_kept own turns (own_turn x past) n made.put.bytes frame (is.own x port slots has.sends) (λ row column o. kept_source own n b made.bip made.put frame row column made.frame o);
      msi = λ row column o.
          let k = o.slot.0 in
          let many = is.many in
          let low = slot_low (slots_of slots.kind) slots.list k list o.slot.1.0 in
          let high = slot_high (slots_of slots.kind) slots.list k list o.slot.1.0 in
          ap (λ r. byte_at frame r column) o.place.0
          ∙ ap (byte_at frame 4) o.place.1
          ∙ made.frame.byte 4 15 (record { row_low = omega arith; row_high = omega arith; col_low = omega arith; col_high = omega arith })
          ∙ psi_of_slot made.put.ports made.put.mfas k (is.mfas ∙ o.slot.1.1) low (omega arith)
          ∙ ap slot_msi (is.used x port slots k has.sends o.slot.1.0);
    }

shows_own : (run : FiledRun) (x : Connection) (b port past n : ℕ) (slots : LineSlots) → HasFrame run x b port past n slots → n < slots_of slots.kind
    → ShowsOwn (tributary_of slots port) (got_by x (own_input run.inputs x) (own_turn x past + 1)) (own_turn x past) n ((slots_of slots.kind * past + n) % 256)
    (frame_at (concat run.frames) (slots_of slots.kind * past + n))
shows_own run x b port past n slots has l =
    let sound = sound_of run.plan x has.accepted has.sends.is_of in
    let end = sound.to_line b port slots has.sends.to in
    let same : slots_of slots.kind ≡ size_of (form_out run.plan b) = ap slots_of end.kind in
    let P : ℕ → Type 0
    = λ size. ShowsOwn (tributary_of slots port) (got_by x (own_input run.inputs x) (own_turn x past + 1)) (own_turn x past) n ((size * past + n) % 256) (frame_at (concat run.frames) (size * past + n)) in
    subst P (sym same) (shows_made run x b port past n slots has end.list same (omega arith))

-- ---- in two

own_there : (one other : FiledRun) (x : Connection) (b port past n row column : ℕ) (slots : LineSlots) → HaveFrame one other x b port past n row column slots
    → IsOwn (tributary_of slots port) n ((slots_of slots.kind * past + n) % 256) row column
own_there one other x b port past n row column slots have = search rules

other_shows : (one other : FiledRun) (x : Connection) (b port past n row column : ℕ) (slots : LineSlots) → HaveFrame one other x b port past n row column slots → got_by x (own_input one.inputs x) (own_turn x past + 1) ≡ got_by x (own_input other.inputs x) (own_turn x past + 1)
    → ShowsOwn (tributary_of slots port) (got_by x (own_input one.inputs x) (own_turn x past + 1)) (own_turn x past) n ((slots_of slots.kind * past + n) % 256)
    (frame_at (concat other.frames) (slots_of slots.kind * past + n))
other_shows one other x b port past n row column slots have same =
    let f = slots_of slots.kind * past + n in
    subst (λ turns. ShowsOwn (tributary_of slots port) turns (own_turn x past) n (f % 256) (frame_at (concat other.frames) f))
    (sym same)
    (shows_own other x b port past n slots have.second have.frame)

pub sends_as_got : (one other : FiledRun) (x : Connection) (b port past n row column : ℕ) (slots : LineSlots) → HaveFrame one other x b port past n row column slots → got_by x (own_input one.inputs x) (own_turn x past + 1) ≡ got_by x (own_input other.inputs x) (own_turn x past + 1)
    → byte_at (frame_at (concat one.frames) (slots_of slots.kind * past + n)) row column ≡ byte_at (frame_at (concat other.frames) (slots_of slots.kind * past + n)) row column
sends_as_got one other x b port past n row column slots have same =
    let f = slots_of slots.kind * past + n in
    same_own (tributary_of slots port) (got_by x (own_input one.inputs x) (own_turn x past + 1)) (own_turn x past) n (f % 256) row column (frame_at (concat one.frames) f) (frame_at (concat other.frames) f)
    (shows_own one x b port past n slots have.first have.frame) (other_shows one other x b port past n row column slots have same) (own_there one other x b port past n row column slots have)

-- ---- through the mask

-- an own place is one of the frame
pub inside : (own : Tributary) (n expected row column : ℕ) → IsOwn own n expected row column → place_of 4080 row column < 16320
inside own n expected row column (inl o) = let last = o.rows.1 in let high = o.columns.1 in omega arith
inside own n expected row column (inr (inl o)) = let last = o.rows.1 in let high = o.columns.1 in omega arith
inside own n expected row column (inr (inr o)) = let row_is = o.place.0 in let column_is = o.place.1 in omega arith

masked_byte : (scrambled : Bool) (one other : List ℕ) (place : ℕ) → place < length one → place < length other → get_or one place 0 ≡ get_or other place 0
    → get_or (through_mask scrambled one) place 0 ≡ get_or (through_mask scrambled other) place 0
masked_byte false one other place h k same = same
masked_byte true one other place h k same =
    let here = index_masked 0 place one h in
    let there = index_masked 0 place other k in
    cc

pub writes_as_got : (one other : FiledRun) (x : Connection) (b port past n row column : ℕ) (slots : LineSlots) → HaveFrame one other x b port past n row column slots → got_by x (own_input one.inputs x) (own_turn x past + 1) ≡ got_by x (own_input other.inputs x) (own_turn x past + 1)
    → (form_out one.plan b).scrambled ≡ (form_out other.plan b).scrambled
    → byte_at (frame_at (through_mask (form_out one.plan b).scrambled (concat one.frames)) (slots_of slots.kind * past + n)) row column
    ≡ byte_at (frame_at (through_mask (form_out other.plan b).scrambled (concat other.frames)) (slots_of slots.kind * past + n)) row column
writes_as_got one other x b port past n row column slots have same mask =
    let f = slots_of slots.kind * past + n in
    let place = place_of 4080 row column in
    let scrambled = (form_out one.plan b).scrambled in
    let first = frame_at (concat one.frames) f in
    let second = frame_at (concat other.frames) f in
    let shows = shows_own one x b port past n slots have.first have.frame in
    let shows_too = other_shows one other x b port past n row column slots have same in
    let size = shows.size in
    let size_too = shows_too.size in
    let here = inside (tributary_of slots port) n (f % 256) row column (own_there one other x b port past n row column slots have) in
    ap (λ l. get_or l place 0) (frame_through scrambled (concat one.frames) f)
    ∙ masked_byte scrambled first second place (omega arith) (omega arith) (sends_as_got one other x b port past n row column slots have same)
    ∙ ap (λ l. get_or l place 0) (sym (frame_through scrambled (concat other.frames) f))
    ∙ ap (λ s. get_or (frame_at (through_mask s (concat other.frames)) f) place 0) mask

-- ---- where the own input shows the same

pub sends_the_same : (one other : FiledRun) (x : Connection) (b port past n row column : ℕ) (slots : LineSlots) → HaveFrame one other x b port past n row column slots → SameInput (own_input one.inputs x) (own_input other.inputs x)
    → byte_at (frame_at (concat one.frames) (slots_of slots.kind * past + n)) row column ≡ byte_at (frame_at (concat other.frames) (slots_of slots.kind * past + n)) row column
sends_the_same one other x b port past n row column slots have same =
    sends_as_got one other x b port past n row column slots have (same_got x (own_input one.inputs x) (own_input other.inputs x) (own_turn x past + 1) same)

pub writes_the_same : (one other : FiledRun) (x : Connection) (b port past n row column : ℕ) (slots : LineSlots) → HaveFrame one other x b port past n row column slots → SameInput (own_input one.inputs x) (own_input other.inputs x)
    → (form_out one.plan b).scrambled ≡ (form_out other.plan b).scrambled
    → byte_at (frame_at (through_mask (form_out one.plan b).scrambled (concat one.frames)) (slots_of slots.kind * past + n)) row column
    ≡ byte_at (frame_at (through_mask (form_out other.plan b).scrambled (concat other.frames)) (slots_of slots.kind * past + n)) row column
writes_the_same one other x b port past n row column slots have same mask =
    writes_as_got one other x b port past n row column slots have (same_got x (own_input one.inputs x) (own_input other.inputs x) (own_turn x past + 1) same) mask
