-- API: where a writer of a capture stands.
use Rattle.std.specs.Prelude.{ℕ, ◌≡◌, ◌^◌, ◌&&◌, not, nat_lt, Bool, true, if◌then◌else◌, List, [], ◌∷◌, ◌++◌, length, drop}
use Rattle.pcap_packets.specs.Written.{header_written, record_of, is_none, capture_of, packets_written, packet_of}

-- the packet whose record is being written, where a rest of that is left
abbrev pub in_hand : (rest digits : List ℕ) → List (List ℕ)
in_hand [] digits = []
in_hand (x ∷ rest) digits = packet_of digits ∷ []

-- what is written of one more packet behind these
abbrev pub one_more : List (List ℕ) → List ℕ → List ℕ
one_more packets packet = (if is_none packets then header_written else []) ++ record_of packet

-- what is to be written behind these packets
abbrev pub wanted : (packets hand : List (List ℕ)) → List ℕ
wanted packets [] = []
wanted packets (packet ∷ later) = one_more packets packet

-- each has fewer bytes than a record can tell of
unfoldable pub all_fit : List (List ℕ) → Bool
all_fit [] = true
all_fit (packet ∷ packets) = nat_lt (length packet) (2 ^ 32) && all_fit packets

-- what was written behind the whole records
abbrev pub part_written : List ℕ → List ℕ
part_written bytes = drop (length (capture_of (packets_written bytes))) bytes

-- What was written is the capture of the packets of its whole records, and behind it a part of the next record, of
-- which this rest is left.
pub record Stands (any : Bool) (digits rest bytes : List ℕ) : Type 0 where
  pub parts : bytes ≡ capture_of (packets_written bytes) ++ part_written bytes
  pub left : part_written bytes ++ rest ≡ wanted (packets_written bytes) (in_hand rest digits)
  pub fits : all_fit (packets_written bytes) ≡ true
  pub begun : any ≡ not (is_none (packets_written bytes ++ in_hand rest digits))
