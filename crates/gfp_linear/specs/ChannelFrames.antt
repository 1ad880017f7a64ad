-- Believed: the payload areas of a channel's frames.
use Rattle.std.specs.Prelude.{◌≢◌, ℕ, List, [], ◌∷◌, ◌++◌}
use Rattle.std.specs.List.Sorted.{IsStrictlyIncreasing}
use Rattle.crc_small.specs.LongDivision.{crc16_of, crc32_of}
use Rattle.gfp_frames.specs.CoreHeader.{two_bytes, four_bytes}

-- bytes of a header, with the CRC-16 of them
abbrev pub with_check : List ℕ → List ℕ
with_check bytes = bytes ++ two_bytes (crc16_of bytes)

-- G.7041 clause 6.1.2.1: the type of a channel's client data: PTI 000, PFI 1 (there is an FCS), EXI 0001 (linear
-- frame); UPI 01, frame-mapped Ethernet
abbrev pub packet_type : List ℕ
packet_type = 0x11 ∷ 0x01 ∷ []

-- G.7041 clause 6.3.3: the type of a client signal fail: PTI 100 (client management), PFI 0, EXI 0001; UPI 01, loss of
-- client signal
abbrev pub loss_type : List ℕ
loss_type = 0x81 ∷ 0x01 ∷ []

-- G.7041 clause 6.1.2.1.3.2: the linear extension header: the channel identifier CID, a spare byte of 0, and the eHEC,
-- the CRC-16 of both
abbrev pub extension : (cid : ℕ) → List ℕ
extension cid = with_check (cid ∷ 0 ∷ [])

-- the area of a channel's packet: type and tHEC, the extension header, the packet, and its FCS
unfoldable pub packet_area : (cid : ℕ) (packet : List ℕ) → List ℕ
packet_area cid packet = with_check packet_type ++ extension cid ++ packet ++ four_bytes (crc32_of packet)

-- the area of a channel's loss frame, which says that its client is lost
unfoldable pub loss_area : (cid : ℕ) → List ℕ
loss_area cid = with_check loss_type ++ extension cid

-- the CIDs of some channels: one at least, and rising
pub record IsCidList (cids : List ℕ) : Type 0 where
  pub some : cids ≢ []
  pub rising : IsStrictlyIncreasing cids
