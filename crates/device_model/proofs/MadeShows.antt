-- What the frames of a line file show of the connections that go to the line.
use Rattle.std.proofs.Common.{rules, ◌≡◌, ◌⊎◌, inl, inr, ◌<◌, ◌≤◌, ◌+◌, ◌-◌, ◌*◌, ◌/◌, ◌%◌, ℕ, Bool, false, cond, List, Some, length, map, sym, ap, ◌∙◌, subst, arith}
use Rattle.std.specs.Prelude.{slice_get, ◌==◌, ◌&&◌, nat_le}
use Rattle.std.specs.List.{concat, range_with_len}
use Rattle.std.proofs.lemmas.Bool.{and_left, and_right, and_from, lt-leb, le-leb, ne_eqb}
use Rattle.std.proofs.lemmas.List.FromFn.{length-map-range_with_len, get_or-map-range_with_len}
use Rattle.std.proofs.lemmas.Option.{slice_get_within, get_or_from_slice_get}
use Rattle.std.proofs.Math.Nat.{mod-eq_of_lt, div-eq_of_lt, mul-add-div, mul-add-mod_self_left}
use Rattle.otn_base.specs.LineSlots.{LineSlots, slots_of}
use Rattle.line_side.specs.LineFile.{frame_at}
use Rattle.line_side.specs.LineForm.{size_of}
use Rattle.line_side.specs.LineOutput.{FramePut, IsLineFrame, line_byte}
use Rattle.msi_table.specs.Marks.{msi_byte}
use Rattle.msi_table.specs.Psi.{port_at, slot_msi, psi_of}
use Rattle.multiframe.specs.LineTurns.{Lock}
use Rattle.plan_file.specs.declared.connection.Connection.{Connection}
use Rattle.plan_file.specs.declared.plan.Plan.{Plan}
use Rattle.tributary_model.specs.Places.{Tributary, tributary_of, Taken, byte_at, IsOwnMsi}
use Rattle.tributary_model.specs.Puts.{IsPut, IsSourcePlace}
use Rattle.tributary_model.proofs.PutApart.{stays_where_kept}
use Rattle.tributary_model.proofs.Views.{slot_low, slot_high}
use Rattle.device_model.specs.Entries.{form_out, own_turn, IsSentOn}
use Rattle.device_model.specs.LineFiles.{IsFrameOf, IsLineFile}
use Rattle.device_model.specs.LineViews.{member_at, frames_of}
use Rattle.device_model.specs.Made.{IsLineEnd}
use Rattle.device_model.specs.Through.{Inputs, own_input, got_by}
use Rattle.device_model.proofs.MadeFrames.{MadeAt, made_at}
use Rattle.device_model.proofs.MadeTurns.{lock_at, next_turn}
use Rattle.tributary_model.specs.Sending.{ShowsTurn}

-- ---- the bytes that stay as they were put

skip : (t : Bool) (x y : ℕ) → t ≡ false → cond t x y ≡ y
skip t x y e = ap (λ t. cond t x y) e

-- but for the PSI byte, those of the OPU
kept_byte : (n bip : ℕ) (put : FramePut) (row column byte : ℕ) → 15 ≤ column → column ≤ 3824 → (row < 4) ⊎ (16 ≤ column) → line_byte n bip put row column byte ≡ byte
kept_byte n bip put row column byte low high not_psi =
    skip _ _ _ (and_right (row == 1) (nat_le column 14) (lt-leb column 14 (omega arith)))
    ∙ skip _ _ _ (lt-leb 3825 column (omega arith))
    ∙ skip _ _ _ (and_right (nat_le 2 row) (nat_le column 14) (lt-leb column 14 (omega arith)))
    ∙ skip _ _ _ (other not_psi)
  where
    other : (row < 4) ⊎ (16 ≤ column) → ((row == 4) && (column == 15)) ≡ false
    other (inl l) = and_left (row == 4) (column == 15) (ne_eqb row 4 (λ e. omega arith))
    other (inr l) = and_right (row == 4) (column == 15) (ne_eqb column 15 (λ e. omega arith))

kept_at : (n bip : ℕ) (put : FramePut) (frame : List ℕ) (row column : ℕ) → IsLineFrame n bip put frame → 1 ≤ row → row ≤ 4 → 15 ≤ column → column ≤ 3824 → (row < 4) ⊎ (16 ≤ column)
    → byte_at frame row column ≡ byte_at put.bytes row column
kept_at n bip put frame row column is first last low high not_psi =
    is.byte row column (record { row_low = first; row_high = last; col_low = omega arith; col_high = omega arith })
    ∙ kept_byte n bip put row column (byte_at put.bytes row column) low high not_psi

pub kept_place : (own : Tributary) (m n bip : ℕ) (put : FramePut) (frame : List ℕ) (row column : ℕ) → IsLineFrame n bip put frame → IsSourcePlace own m row column → byte_at frame row column ≡ byte_at put.bytes row column
kept_place own m n bip put frame row column is (inl o) = let low = o.columns.0 in kept_at n bip put frame row column is o.rows.0 o.rows.1 (omega arith) o.columns.1 (inr (omega arith))
kept_place own m n bip put frame row column is (inr (inl o)) =
    let last = o.rows.1 in let high = o.columns.1 in kept_at n bip put frame row column is o.rows.0 (omega arith) o.columns.0 (omega arith) (inl (omega arith))
kept_place own m n bip put frame row column is (inr (inr o)) =
    let last = o.rows.1 in let high = o.columns.1 in kept_at n bip put frame row column is o.rows.0 (omega arith) o.columns.0 (omega arith) (inl (omega arith))

-- ---- a frame of a turn

-- frame n of turn past + 1
record MadeIn (plan : Plan) (inputs : Inputs) (b past n : ℕ) (bytes : List ℕ) : Type 0 where
  pub put : FramePut
  pub is : IsFrameOf plan inputs b past n put
  pub bip : ℕ
  pub frame : IsLineFrame b bip put bytes

in_turn : (plan : Plan) (inputs : Inputs) (b past n : ℕ) (available : List ℕ) → n < size_of (form_out plan b) → MadeAt plan inputs b (size_of (form_out plan b) * past + n) available
    → MadeIn plan inputs b past n (frame_at available (size_of (form_out plan b) * past + n))
in_turn plan inputs b past n available l made =
    let size = size_of (form_out plan b) in
    let some : 0 < size = omega arith in
    let small : n / size ≡ 0 = div-eq_of_lt l in
    let turn : (size * past + n) / size ≡ past = mul-add-div some past n ∙ (let e : past + n / size ≡ past = omega arith in e) in
    let place : (size * past + n) % size ≡ n = mul-add-mod_self_left size past n ∙ mod-eq_of_lt l in
    record {
      put = made.put;
      is = subst (λ p. IsFrameOf plan inputs b p n made.put) turn (subst (λ k. IsFrameOf plan inputs b ((size * past + n) / size) k made.put) place made.is);
      bip = made.bip;
      frame = made.frame;
    }

-- ---- its MSI byte

some_port : (plan : Plan) (b port : ℕ) (slots : LineSlots) → IsLineEnd plan b port slots → 1 ≤ port
some_port plan b port slots end = search rules

pub psi_at : (ports : List ℕ) (mfas k port : ℕ) → mfas ≡ 1 + k → 1 ≤ k → k ≤ length ports → port_at ports k ≡ port → 1 ≤ port → psi_of ports mfas ≡ msi_byte port
psi_at ports mfas k port e low high is some =
    let slot : mfas - 1 ≡ k = omega arith in
    let known : port_at ports (mfas - 1) ≡ port = ap (port_at ports) slot ∙ is in
    skip _ _ _ (ne_eqb mfas 0 (λ z. omega arith))
    ∙ ap (λ t. cond t (slot_msi (port_at ports (mfas - 1))) 0) (and_from (nat_le 2 mfas) (nat_le mfas (length ports + 1)) (le-leb 2 mfas (omega arith)) (le-leb mfas (length ports + 1) (omega arith)))
    ∙ ap slot_msi known
    ∙ skip _ _ _ (ne_eqb port 0 (λ z. omega arith))

msi_in : (plan : Plan) (inputs : Inputs) (b past n : ℕ) (frame : List ℕ) (x : Connection) (port : ℕ) (slots : LineSlots) (expected row column : ℕ) → MadeIn plan inputs b past n frame
    → IsSentOn plan b past x port slots → IsLineEnd plan b port slots → expected ≡ (size_of (form_out plan b) * past + n) % 256 → IsOwnMsi (tributary_of slots port) expected row column → byte_at frame row column ≡ msi_byte port
msi_in plan inputs b past n frame x port slots expected row column made sends end e own =
    let k = own.slot.0 in
    let has = own.slot.1.0 in
    let many = made.is.many in
    let kind : slots_of slots.kind ≡ size_of (form_out plan b) = ap slots_of end.kind in
    let low = slot_low (slots_of slots.kind) slots.list k end.list has in
    let high = slot_high (slots_of slots.kind) slots.list k end.list has in
    let number : made.put.mfas ≡ 1 + k = made.is.mfas ∙ sym e ∙ own.slot.1.1 in
    ap (λ r. byte_at frame r column) own.place.0
    ∙ ap (byte_at frame 4) own.place.1
    ∙ made.frame.byte 4 15 (record { row_low = omega arith; row_high = omega arith; col_low = omega arith; col_high = omega arith })
    ∙ psi_at made.put.ports made.put.mfas k port number low (omega arith) (made.is.used x port slots k sends has) (some_port plan b port slots end)

-- ---- the frames of a turn

pub member_is : (size : ℕ) (available : List ℕ) (lock : Lock) (n : ℕ) (f : Taken) → slice_get (frames_of size available lock) n ≡ Some f → (n < size) × (f ≡ member_at available lock n)
unfolding frames_of
member_is size available lock n f e =
    let inside = slice_get_within (map (member_at available lock) (range_with_len 0 size)) n f e in
    let many = length-map-range_with_len (member_at available lock) 0 size in
    let l : n < size = omega arith in
    (l, sym (get_or_from_slice_get (map (member_at available lock) (range_with_len 0 size)) n f f e) ∙ get_or-map-range_with_len (member_at available lock) 0 size n n f l (omega arith))

pub frames_many : (size : ℕ) (available : List ℕ) (lock : Lock) → length (frames_of size available lock) ≡ size
unfolding frames_of
frames_many size available lock = length-map-range_with_len (member_at available lock) 0 size

pub shows_its_connections : (plan : Plan) (inputs : Inputs) (b count past : ℕ) (frames : List (List ℕ)) (x : Connection) (port : ℕ) (slots : LineSlots)
    → IsLineFile plan inputs b count frames → size_of (form_out plan b) * (past + 1) ≤ count → IsSentOn plan b past x port slots → IsLineEnd plan b port slots
    → ShowsTurn (tributary_of slots port) (got_by x (own_input inputs x) (own_turn x past + 1)) (own_turn x past) (frames_of (size_of (form_out plan b)) (concat frames) (lock_at (size_of (form_out plan b)) past))
shows_its_connections plan inputs b count past frames x port slots file whole sends end =
    let size = size_of (form_out plan b) in
    let own = tributary_of slots port in
    let available = concat frames in
    let turns = got_by x (own_input inputs x) (own_turn x past + 1) in
    let next = next_turn size past in
    let made : (n : ℕ) → n < size → MadeIn plan inputs b past n (frame_at available (size * past + n))
    = λ n l. in_turn plan inputs b past n available l (made_at plan inputs b count frames (size * past + n) file (omega arith)) in
    record {
      many = frames_many size available (lock_at size past) ∙ sym (ap slots_of end.kind);
      put = λ n f e.
          let is = member_is size available (lock_at size past) n f e in
          let m = made n is.0 in
          subst (λ (g : Taken). IsPut own turns (own_turn x past) n g.frame) (sym is.1)
          (stays_where_kept own turns (own_turn x past) n m.put.bytes (frame_at available (size * past + n)) (m.is.own x port slots sends)
          (λ row column o. kept_place own n b m.bip m.put (frame_at available (size * past + n)) row column m.frame o));
      msi = λ n f e.
          let is = member_is size available (lock_at size past) n f e in
          subst (λ (g : Taken). (row column : ℕ) → IsOwnMsi own g.expected row column → byte_at g.frame row column ≡ msi_byte own.port) (sym is.1)
          (λ row column o. msi_in plan inputs b past n (frame_at available (size * past + n)) x port slots ((size * past % 256 + n) % 256) row column (made n is.0) sends end (omega arith) o);
    }
