-- Believed: the streams of the maintenance signals.
use Rattle.std.specs.Prelude.{ℕ, ◌+◌, ◌-◌, ◌/◌, ◌%◌, ◌==◌, nat_le, ◌&&◌, List, [], ◌∷◌, map, slice_index, if◌then◌else◌}
use Rattle.std.specs.List.{range_with_len}
use Rattle.maintenance_signals.specs.declared.signal.Signal.{Signal}
use Rattle.maintenance_signals.specs.declared.signal.Signal.TheVariants.{Ais, Oci, Lck}
use Rattle.otn_base.specs.declared.limits.TheConstants.{CLIENT_COLUMNS, CLIENT_FRAME_BYTES}

-- G.709 clause 15.6.2.1: the frame alignment signal
abbrev pub fas : List ℕ
fas = 0xF6 ∷ 0xF6 ∷ 0xF6 ∷ 0x28 ∷ 0x28 ∷ 0x28 ∷ []

-- Row 1 begins with FAS in columns 1 to 6 and MFAS in column 7, and columns 8 to 14 are 0.
abbrev pub alignment : (mfas column : ℕ) → ℕ
alignment mfas column = if nat_le column 6 then slice_index fas (column - 1) else if column == 7 then mfas else 0

-- G.709 clause 16.5: the pattern that a signal repeats.
abbrev pub filling : Signal → ℕ
filling Ais = 0xFF
filling Oci = 0x66
filling Lck = 0x55

-- What a signal has outside the alignment: its pattern, but that AIS has 0 in FTFL, row 2 of column 14.
abbrev pub pattern : Signal → (row column : ℕ) → ℕ
pattern Ais row column = if (row == 2) && (column == 14) then 0x00 else filling Ais
pattern Oci row column = filling Oci
pattern Lck row column = filling Lck

-- the byte of a signal's frame with this MFAS, in a row and a column: of the alignment in row 1, columns 1 to 14, else
-- of the pattern
abbrev pub frame_byte : Signal → (mfas row column : ℕ) → ℕ
frame_byte signal mfas row column = if (row == 1) && nat_le column 14 then alignment mfas column
    else pattern signal row column

-- A byte of the stream of signal frames of four rows of 3,824 columns, 15,296 bytes each, with MFAS from 0 on, modulo
-- 256.
unfoldable pub signal_byte : Signal → (place : ℕ) → ℕ
signal_byte signal place =
    let p = place % CLIENT_FRAME_BYTES in
    frame_byte signal (place / CLIENT_FRAME_BYTES % 256) (p / CLIENT_COLUMNS + 1) (p % CLIENT_COLUMNS + 1)

-- So many bytes of the stream from a place on.
unfoldable pub signal_bytes : Signal → (place n : ℕ) → List ℕ
signal_bytes signal place n = map (signal_byte signal) (range_with_len place n)
