-- The frames of a line's bytes, and the slot's bytes in them, as more bytes come.
use Rattle.std.proofs.Common.{◌≡◌, ◌<◌, ◌≤◌, ◌+◌, ◌*◌, ◌/◌, ◌∙◌, ℕ, List, [], ◌++◌, length, take, drop, refl, sym, ap, arith, append-nil, length-append, lit<}
use Rattle.std.proofs.lemmas.List.{take-append-le, drop-append-le, drop_at, length-drop}
use Rattle.std.proofs.lemmas.Nat.{div-mul-add}
use Rattle.std.proofs.Math.Seq.{take-length}
use Rattle.line_side.specs.LineFile.{frame_at}
use Rattle.command_base.proofs.Rows.{flat_map-range_more, flat_same}
use Rattle.line_commands.specs.SlotReport.{slot_bytes, slot_bytes_until, slot_report, whole_frames_used}

-- a frame stays where more bytes follow
pub frame_at-append : (bytes more : List ℕ) (f : ℕ) → f * 16320 + 16320 ≤ length bytes → frame_at (bytes ++ more) f ≡ frame_at bytes f
unfolding frame_at
frame_at-append bytes more f there =
    let before : 16320 * f ≤ length bytes = omega arith in
    let room : 16320 ≤ length (drop (16320 * f) bytes) = simp length-drop (omega arith) in
    ap (take 16320) (drop-append-le (16320 * f) bytes more before) ∙ take-append-le 16320 (drop (16320 * f) bytes) more room

-- one frame more
pub until-more : (slot : ℕ) (bytes : List ℕ) (n : ℕ) → slot_bytes_until slot bytes (n + 1) ≡ slot_bytes_until slot bytes n ++ slot_bytes slot (frame_at bytes n)
unfolding slot_bytes_until
until-more slot bytes n =
    let last : 0 + n ≡ n = omega arith in
    flat_map-range_more (λ f. slot_bytes slot (frame_at bytes f)) 0 n ∙ ap (λ f. slot_bytes_until slot bytes n ++ slot_bytes slot (frame_at bytes f)) last

-- the first frames stay where more bytes follow
pub until-append : (slot : ℕ) (bytes more : List ℕ) (n : ℕ) → n * 16320 ≤ length bytes → slot_bytes_until slot (bytes ++ more) n ≡ slot_bytes_until slot bytes n
unfolding slot_bytes_until
until-append slot bytes more n there =
    flat_same (λ f. slot_bytes slot (frame_at (bytes ++ more) f)) (λ f. slot_bytes slot (frame_at bytes f)) 0 n
    (λ f low below. ap (slot_bytes slot) (frame_at-append bytes more f (omega (arith, there, below))))

-- the frame that follows whole frames
pub last_frame : (bytes frame : List ℕ) (i : ℕ) → length bytes ≡ i * 16320 → length frame ≡ 16320 → frame_at (bytes ++ frame) i ≡ frame
unfolding frame_at
last_frame bytes frame i size wide = ap (take 16320) (drop_at bytes frame (16320 * i) (omega arith)) ∙ ap (λ n. take n frame) (sym wide) ∙ take-length frame

-- no frame
pub until-none : (slot : ℕ) (bytes : List ℕ) → slot_bytes_until slot bytes 0 ≡ []
unfolding slot_bytes_until
until-none slot bytes = refl

-- a frame that came behind whole ones
pub until-further : (slot : ℕ) (bytes frame : List ℕ) (i : ℕ) → length bytes ≡ i * 16320 → length frame ≡ 16320
    → slot_bytes_until slot (bytes ++ frame) (i + 1) ≡ slot_bytes_until slot bytes i ++ slot_bytes slot frame
until-further slot bytes frame i size wide =
    until-more slot (bytes ++ frame) i
    ∙ ap (λ xs. xs ++ slot_bytes slot (frame_at (bytes ++ frame) i)) (until-append slot bytes frame i (omega (arith, size)))
    ∙ ap (λ xs. slot_bytes_until slot bytes i ++ slot_bytes slot xs) (last_frame bytes frame i size wide)

-- how many frames are used of i whole ones and a part
pub used-at : (i n : ℕ) → n < 16320 → i ≤ 131072 → whole_frames_used (i * 16320 + n) ≡ i
unfolding whole_frames_used
used-at i n part few =
    let whole : (i * 16320 + n) / 16320 ≡ i = div-mul-add i 16320 n part in
    rw whole (omega arith)

-- what `slot` writes of i whole frames and a part
pub slot_report-at : (slot : ℕ) (bytes more : List ℕ) (i : ℕ) → length bytes ≡ i * 16320 → length more < 16320 → i ≤ 131072
    → slot_report slot (bytes ++ more) ≡ slot_bytes_until slot bytes i
unfolding slot_report
slot_report-at slot bytes more i size part few =
    let used : whole_frames_used (length (bytes ++ more)) ≡ i = ap whole_frames_used (length-append bytes more ∙ ap (λ n. n + length more) size) ∙ used-at i (length more) part few in
    ap (slot_bytes_until slot (bytes ++ more)) used ∙ until-append slot bytes more i (omega (arith, size))

-- of i whole frames
pub slot_report-whole : (slot : ℕ) (bytes : List ℕ) (i : ℕ) → length bytes ≡ i * 16320 → i ≤ 131072 → slot_report slot bytes ≡ slot_bytes_until slot bytes i
slot_report-whole slot bytes i size few =
    ap (slot_report slot) (sym (append-nil bytes)) ∙ slot_report-at slot bytes [] i size (lit< tt) few
