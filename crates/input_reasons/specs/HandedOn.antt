-- API: how many bytes a client has to hand on until it is spent.
use Rattle.std.specs.Prelude.{◌≡◌, ◌<◌, ◌≤◌, ◌+◌, ◌*◌, ℕ, Bool, if◌then◌else◌}
use Rattle.otn_base.specs.declared.limits.TheConstants.{CLIENT_FRAME_BYTES, CLIENT_PAYLOAD_BYTES}

-- The payload that so many packets take, of so many bytes together: an idle frame first (G.7041 clause 6.2.1), and for
-- each packet the core header, the type and the tHEC, two times four bytes, and an FCS of four bytes where there is one
-- (clause 6.1).
abbrev pub payload_of : (count bytes : ℕ) (fcs : Bool) → ℕ
payload_of count bytes fcs = 4 + count * (if fcs then 12 else 8) + bytes

-- These bytes are client frames, the fewest that have room for this payload and a byte after it: the end of the text is
-- seen where that byte is made.
pub record FewestFrames (payload bytes : ℕ) : Type 0 where
  pub frames : ℕ
  pub whole : bytes ≡ frames * CLIENT_FRAME_BYTES
  pub room : payload < frames * CLIENT_PAYLOAD_BYTES
  pub fewest : frames * CLIENT_PAYLOAD_BYTES ≤ payload + CLIENT_PAYLOAD_BYTES
