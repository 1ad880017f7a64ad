-- API: the text of a capture, a classic pcap file of Ethernet packets: the hex line of each.
use Rattle.std.specs.Prelude.{ℕ, zero, suc, ◌+◌, ◌*◌, ◌%◌, ◌==◌, ◌&&◌, ◌||◌, nat_le, Bool, if◌then◌else◌, List, [], ◌∷◌, ◌++◌, length, take, drop, slice_index, Option, Some, None}
use Rattle.packet_text.specs.PacketText.{is_nothing, packet_line}
use Rattle.pcap_packets.specs.declared.order.ByteOrder.{ByteOrder}
use Rattle.pcap_packets.specs.declared.order.ByteOrder.TheVariants.{LowFirst, HighFirst}

-- the number in the two bytes there, the low or the high one first
abbrev pub half_in : ByteOrder → List ℕ → ℕ → ℕ
half_in LowFirst bytes at = slice_index bytes at + 256 * slice_index bytes (at + 1)
half_in HighFirst bytes at = slice_index bytes (at + 1) + 256 * slice_index bytes at

-- the number in the four bytes there
unfoldable pub number_in : ByteOrder → List ℕ → ℕ → ℕ
number_in LowFirst bytes at = half_in LowFirst bytes at + 65536 * half_in LowFirst bytes (at + 2)
number_in HighFirst bytes at = half_in HighFirst bytes (at + 2) + 65536 * half_in HighFirst bytes at

-- the magic of a capture: its times are in microseconds, or in nanoseconds
abbrev pub is_magic : ℕ → Bool
is_magic number = (number == 0xa1b2c3d4) || (number == 0xa1b23c4d)

-- a capture's header, its numbers in this byte order: the magic, versions 2 and 4, and the link type 1, of Ethernet, as
-- the low 16 bits of the last four bytes; the 12 bytes between them say nothing here
unfoldable pub is_header : ByteOrder → List ℕ → Bool
is_header order bytes = nat_le 24 (length bytes) && is_magic (number_in order bytes 0) && (half_in order bytes 4 == 2)
    && (half_in order bytes 6 == 4) && (number_in order bytes 20 % 65536 == 1)

-- the byte order that the header at the front of these bytes has, if that is one
abbrev pub header_order : List ℕ → Option ByteOrder
header_order bytes = if is_header HighFirst bytes then Some HighFirst else if is_header LowFirst bytes
    then Some LowFirst else None

-- how many bytes of its packet the record at the front has: the number behind its eight bytes of time; that behind it,
-- the packet's length on the line, says nothing here
abbrev pub captured : ByteOrder → List ℕ → ℕ
captured order bytes = number_in order bytes 8

-- a whole record at the front: 16 bytes, which tell of at most 65,527 bytes, and these
unfoldable pub is_whole_record : ByteOrder → List ℕ → Bool
is_whole_record order bytes = nat_le 16 (length bytes) && nat_le (captured order bytes) 65527
    && nat_le (16 + captured order bytes) (length bytes)

-- its packet
abbrev pub packet_in : ByteOrder → List ℕ → List ℕ
packet_in order bytes = take (captured order bytes) (drop 16 bytes)

-- the bytes behind it
abbrev pub behind_record : ByteOrder → List ℕ → List ℕ
behind_record order bytes = drop (16 + captured order bytes) bytes

-- the line that no packet gives: ! and LF
abbrev pub bad_line : List ℕ
bad_line = 33 ∷ 10 ∷ []

-- the text of records: a line for each whole one, which is the empty line where it has no byte, and the bad line where
-- no whole one stands; at most so many are looked at
unfoldable pub records : ℕ → ByteOrder → List ℕ → List ℕ
records zero order bytes = []
records (suc n) order bytes = if is_nothing bytes then [] else if is_whole_record order bytes
    then packet_line (packet_in order bytes) ++ records n order (behind_record order bytes) else bad_line

-- the text of all records: each has a byte at least
abbrev pub records_text : ByteOrder → List ℕ → List ℕ
records_text order bytes = records (length bytes) order bytes

-- the text behind a header of this byte order
abbrev pub text_behind : Option ByteOrder → List ℕ → List ℕ
text_behind (Some order) bytes = records_text order bytes
text_behind None bytes = bad_line

-- the text of a capture: that of its records, or the bad line alone where its header is another one or is not whole
unfoldable pub capture_text : List ℕ → List ℕ
capture_text bytes = text_behind (header_order bytes) (drop 24 bytes)
