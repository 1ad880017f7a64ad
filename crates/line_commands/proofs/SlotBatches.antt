-- The slot's bytes of some frames of a line at a time.
use Rattle.std.proofs.Common.{◌≡◌, ◌<◌, ◌≤◌, ◌+◌, ◌-◌, ◌*◌, ◌∙◌, ℕ, zero, suc, List, [], ◌++◌, length, take, drop, get_or, refl, sym, ap, arith, append-nil, append_assoc, length-append, length-drop}
use Rattle.std.proofs.lemmas.List.{length-take-le, take-append-le, take-append-drop}
use Rattle.std.proofs.lemmas.List.FromFn.{length-map-range_with_len}
use Rattle.std.proofs.lemmas.Slice.{take-put_mid}
use Rattle.std.proofs.Math.Seq.{take-append-add}
use borrow.Rule.Slice.PartMut.{put_mid}
use Rattle.frame_geometry.specs.Places.{place_of, payload_row_of}
use Rattle.odtu_columns.specs.Columns.{slot_row_of}
use Rattle.odtu_columns.proofs.Rows.{slot_row_is, slot_row_of-cycles}
use Rattle.port_base.proofs.FrontLaws.{front_length}
use Rattle.port_base.specs.Fronts.{IsFront}
use Rattle.line_side.specs.LineFile.{frame_at}
use Rattle.line_commands.specs.SlotReport.{slot_bytes, slot_bytes_until}
use Rattle.line_commands.proofs.LineFrames.{until-append, until-more, until-none, frame_at-append}

-- ---- how many bytes

row-length : (slot row : ℕ) (frame : List ℕ) → 1 ≤ slot → slot ≤ 8 → length (slot_row_of 8 slot row frame) ≡ 476
row-length slot row frame low high =
    ap length (slot_row_of-cycles 8 476 slot row frame refl low high)
    ∙ length-map-range_with_len (λ cycle. get_or frame (place_of 4080 row (16 + 8 * cycle + slot)) 0) 0 476

pub bytes-length : (slot : ℕ) (frame : List ℕ) → 1 ≤ slot → slot ≤ 8 → length (slot_bytes slot frame) ≡ 1904
unfolding slot_bytes
bytes-length slot frame low high =
    let row : ℕ → List ℕ = λ r. slot_row_of 8 slot r frame in
    omega (
      arith,
      length-append (row 1) (row 2 ++ (row 3 ++ (row 4 ++ []))),
      length-append (row 2) (row 3 ++ (row 4 ++ [])),
      length-append (row 3) (row 4 ++ []),
      length-append (row 4) [],
      row-length slot 1 frame low high,
      row-length slot 2 frame low high,
      row-length slot 3 frame low high,
      row-length slot 4 frame low high,
    )

pub until-length : (slot : ℕ) (bytes : List ℕ) (n : ℕ) → 1 ≤ slot → slot ≤ 8 → length (slot_bytes_until slot bytes n) ≡ n * 1904
until-length slot bytes zero low high = ap length (until-none slot bytes)
until-length slot bytes (suc n) low high =
    let next : suc n ≡ n + 1 = omega arith in
    ap (λ k. length (slot_bytes_until slot bytes k)) next ∙ ap length (until-more slot bytes n)
    ∙ omega (arith, length-append (slot_bytes_until slot bytes n) (slot_bytes slot (frame_at bytes n)), until-length slot bytes n low high, bytes-length slot (frame_at bytes n) low high)

-- ---- what is gathered

-- a row of a frame's bytes
pub row_gathered : (slot r : ℕ) (frame into : List ℕ) → 1 ≤ slot → slot ≤ 8 → length into ≡ 476
    → ((j : ℕ) → j < 476 → get_or into j 0 ≡ get_or (take (r * 4080 + 16 + 3808 - (r * 4080 + 16)) (drop (r * 4080 + 16) frame)) (8 * j + slot - 1) 0)
    → into ≡ slot_row_of 8 slot (r + 1) frame
row_gathered slot r frame into low high size written =
    let start : r * 4080 + 16 ≡ place_of 4080 (r + 1) 17 = omega arith in
    let count : r * 4080 + 16 + 3808 - (r * 4080 + 16) ≡ 3808 = omega arith in
    let payload : take (r * 4080 + 16 + 3808 - (r * 4080 + 16)) (drop (r * 4080 + 16) frame) ≡ payload_row_of 4080 (r + 1) frame =
    ap (λ n. take n (drop (r * 4080 + 16) frame)) count ∙ ap (λ n. take 3808 (drop n frame)) start in
    slot_row_is 8 476 slot (r + 1) frame (take (r * 4080 + 16 + 3808 - (r * 4080 + 16)) (drop (r * 4080 + 16) frame)) into refl low high payload size written

-- the bytes of a frame's slot among those of eight
pub slot-room : (into : List ℕ) (i : ℕ) → length into ≡ 15232 → i < 8 → length (take (i * 1904 + 1904 - i * 1904) (drop (i * 1904) into)) ≡ 1904
slot-room into i room within =
    let there : i * 1904 + 1904 - i * 1904 ≤ length (drop (i * 1904) into) = simp length-drop (omega arith) in
    length-take-le (i * 1904 + 1904 - i * 1904) (drop (i * 1904) into) there ∙ omega arith

-- a frame more among others
pub frame_gathered : (slot : ℕ) (bytes into new : List ℕ) (i : ℕ) → take (i * 1904) into ≡ slot_bytes_until slot bytes i → length new ≡ 1904 → i * 1904 ≤ length into
    → new ≡ slot_bytes slot (take (i * 16320 + 16320 - i * 16320) (drop (i * 16320) bytes))
    → take ((i + 1) * 1904) (put_mid (i * 1904) (i * 1904 + 1904 - i * 1904) into new) ≡ slot_bytes_until slot bytes (i + 1)
unfolding frame_at
frame_gathered slot bytes into new i so_far wide room is =
    let count : i * 16320 + 16320 - i * 16320 ≡ 16320 = omega arith in
    let start : i * 16320 ≡ 16320 * i = omega arith in
    let frame : take (i * 16320 + 16320 - i * 16320) (drop (i * 16320) bytes) ≡ frame_at bytes i =
    ap (λ n. take n (drop (i * 16320) bytes)) count ∙ ap (λ n. take 16320 (drop n bytes)) start in
    take-put_mid (i * 1904) (i * 1904 + 1904 - i * 1904) into new ((i + 1) * 1904) (omega arith) room
    ∙ ap (λ xs. xs ++ new) so_far ∙ ap (λ xs. slot_bytes_until slot bytes i ++ xs) (is ∙ ap (slot_bytes slot) frame) ∙ sym (until-more slot bytes i)

-- ---- a part of what was gathered

-- up to the end of a frame, and then more
until-past : (slot : ℕ) (bytes : List ℕ) (f k : ℕ)
    → (rest : List ℕ) × (slot_bytes_until slot bytes (f + 1 + k) ≡ slot_bytes_until slot bytes f ++ (slot_bytes slot (frame_at bytes f) ++ rest))
until-past slot bytes f zero =
    let last : f + 1 + 0 ≡ f + 1 = omega arith in
    let here = slot_bytes slot (frame_at bytes f) in
    ([], ap (slot_bytes_until slot bytes) last ∙ until-more slot bytes f ∙ ap (λ xs. slot_bytes_until slot bytes f ++ xs) (sym (append-nil here)))
until-past slot bytes f (suc k) =
    let so_far = until-past slot bytes f k in
    let order : f + 1 + suc k ≡ f + 1 + k + 1 = omega arith in
    let front = slot_bytes_until slot bytes f in
    let here = slot_bytes slot (frame_at bytes f) in
    let last = slot_bytes slot (frame_at bytes (f + 1 + k)) in (
      so_far.0 ++ last,
      ap (slot_bytes_until slot bytes) order ∙ until-more slot bytes (f + 1 + k) ∙ ap (λ xs. xs ++ last) so_far.1
          ∙ append_assoc front (here ++ so_far.0) last ∙ ap (λ xs. front ++ xs) (append_assoc here so_far.0 last),
    )

-- the frames before a byte, and of its own frame the bytes before it
pub until-part : (slot : ℕ) (bytes : List ℕ) (n f r : ℕ) → 1 ≤ slot → slot ≤ 8 → f < n → r ≤ 1904
    → take (f * 1904 + r) (slot_bytes_until slot bytes n) ≡ slot_bytes_until slot bytes f ++ take r (slot_bytes slot (frame_at bytes f))
until-part slot bytes n f r low high within part =
    let past = until-past slot bytes f (n - f - 1) in
    let all : n ≡ f + 1 + (n - f - 1) = omega arith in
    let front = slot_bytes_until slot bytes f in
    let here = slot_bytes slot (frame_at bytes f) in
    let size : f * 1904 + r ≡ length front + r = omega (arith, until-length slot bytes f low high) in
    let room : r ≤ length here = omega (arith, bytes-length slot (frame_at bytes f) low high) in
    ap (λ k. take (f * 1904 + r) (slot_bytes_until slot bytes k)) all ∙ ap (take (f * 1904 + r)) past.1
    ∙ ap (λ k. take k (front ++ (here ++ past.0))) size ∙ take-append-add front (here ++ past.0) r
    ∙ ap (λ xs. front ++ xs) (take-append-le r here past.0 room)

-- the first frames of a front that holds them
pub until-front : (slot : ℕ) (bytes : List ℕ) (m n : ℕ) → n * 16320 ≤ m → m ≤ length bytes → slot_bytes_until slot (take m bytes) n ≡ slot_bytes_until slot bytes n
until-front slot bytes m n whole within =
    let size : length (take m bytes) ≡ m = length-take-le m bytes within in
    sym (until-append slot (take m bytes) (drop m bytes) n (omega arith)) ∙ ap (λ xs. slot_bytes_until slot xs n) (take-append-drop m bytes)

pub frame_at-front : (bytes : List ℕ) (m f : ℕ) → f * 16320 + 16320 ≤ m → m ≤ length bytes → frame_at (take m bytes) f ≡ frame_at bytes f
frame_at-front bytes m f whole within =
    let size : length (take m bytes) ≡ m = length-take-le m bytes within in
    sym (frame_at-append (take m bytes) (drop m bytes) f (omega arith)) ∙ ap (λ xs. frame_at xs f) (take-append-drop m bytes)

-- the first frames of the bytes at hand, where they were gathered of their front
pub until-of_front : (slot : ℕ) (front whole : List ℕ) (n : ℕ) → IsFront front whole → n * 16320 ≤ length front
    → slot_bytes_until slot front n ≡ slot_bytes_until slot whole n
until-of_front slot front whole n is there =
    ap (λ xs. slot_bytes_until slot xs n) (sym is) ∙ until-front slot whole (length front) n there (front_length front whole is)
