-- API: what is seen of bytes that wait in a buffer.
use Rattle.std.specs.Prelude.{ℕ, ◌-◌, List, take, drop}
use Rattle.pcap_packets.specs.declared.held.Held.{Held}

-- the bytes that are held
unfoldable pub held : Held → List ℕ
held h = take (h.end - h.at) (drop h.at h.bytes.items)
