-- API: a capture in the other byte order.
use Rattle.std.specs.Prelude.{ℕ, zero, suc, ◌+◌, nat_lt, if◌then◌else◌, List, ◌++◌, length, take, drop, reverse, Option, Some, None}
use Rattle.pcap_packets.specs.CaptureText.{header_order, packet_in, behind_record}
use Rattle.pcap_packets.specs.declared.order.ByteOrder.{ByteOrder}
use Rattle.pcap_packets.specs.declared.order.ByteOrder.TheVariants.{LowFirst, HighFirst}

-- the other byte order
abbrev pub other : ByteOrder → ByteOrder
other LowFirst = HighFirst
other HighFirst = LowFirst

-- of these bytes the n from a place on in the other order
abbrev pub turned_at : (at n : ℕ) → List ℕ → List ℕ
turned_at at n bytes = take at bytes ++ (reverse (take n (drop at bytes)) ++ drop (at + n) bytes)

-- the two numbers in front of a record's packet
abbrev pub turned_sizes : List ℕ → List ℕ
turned_sizes bytes = turned_at 12 4 (turned_at 8 4 bytes)

-- the magic, the versions and the link type
abbrev pub turned_header : List ℕ → List ℕ
turned_header bytes = turned_at 20 4 (turned_at 6 2 (turned_at 4 2 (turned_at 0 4 bytes)))

-- records of this byte order with their numbers in the other one; at most so many are looked at
unfoldable pub turned_records : ℕ → ByteOrder → List ℕ → List ℕ
turned_records zero order bytes = bytes
turned_records (suc n) order bytes = if nat_lt (length bytes) 16 then bytes
    else turned_sizes (take 16 bytes) ++ (packet_in order bytes ++ turned_records n order (behind_record order bytes))

-- the bytes behind a header of this byte order
abbrev pub turned_behind : Option ByteOrder → List ℕ → List ℕ
turned_behind (Some order) bytes = turned_records (length bytes) order bytes
turned_behind None bytes = bytes

-- a capture with all its numbers in the other byte order
unfoldable pub turned : List ℕ → List ℕ
turned bytes = turned_header (take 24 bytes) ++ turned_behind (header_order bytes) (drop 24 bytes)
