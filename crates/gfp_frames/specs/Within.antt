-- Believed: the packets, and the payload areas, whose frames are whole in the first bytes of a stream.
use Rattle.std.specs.Prelude.{ℕ, ◌+◌, ◌-◌, ◌≤◌, nat_lt, List, [], ◌∷◌, ◌++◌, if◌then◌else◌, length, option_to_list}
use Rattle.gfp_frames.specs.Area.{packet_in}
use Rattle.gfp_frames.specs.GfpText.{Frame, Idle, Client, WithArea, area_of}

-- bytes of a frame
abbrev pub frame_size : Frame → ℕ
frame_size frame = 4 + length (area_of frame)

-- the packet that a frame carries: none in an idle frame, and of any other area the one that passes the checks
abbrev pub packets_of : Frame → List (List ℕ)
packets_of Idle = []
packets_of (Client packet fcs) = packet ∷ []
packets_of (WithArea area) = option_to_list (packet_in area)

-- the plain payload area of a frame that has one
abbrev pub areas_with : Frame → List (List ℕ)
areas_with Idle = []
areas_with (Client packet fcs) = area_of (Client packet fcs) ∷ []
areas_with (WithArea area) = area ∷ []

-- of frames one after another, those that lie whole in the first n bytes
unfoldable pub packets_within : (n : ℕ) → List Frame → List (List ℕ)
packets_within n [] = []
packets_within n (frame ∷ frames) =
    if nat_lt n (frame_size frame) then [] else packets_of frame ++ packets_within (n - frame_size frame) frames

-- of frames one after another, the plain areas of those that lie whole in the first n bytes
unfoldable pub areas_within : (n : ℕ) → List Frame → List (List ℕ)
areas_within n [] = []
areas_within n (frame ∷ frames) =
    if nat_lt n (frame_size frame) then [] else areas_with frame ++ areas_within (n - frame_size frame) frames

-- what a client offers: packets of 1 to 65,527 bytes; and an area of any other frame has 4 to 65,535 bytes
abbrev pub CanCarry : Frame → Type 0
CanCarry Idle = Unit {0}
CanCarry (Client packet fcs) = (1 ≤ length packet) × (length packet ≤ 65527)
CanCarry (WithArea area) = (4 ≤ length area) × (length area ≤ 65535)

-- each of these frames carries such a packet or area, or none
abbrev pub CanCarryAll : List Frame → Type 0
CanCarryAll [] = Unit {0}
CanCarryAll (frame ∷ frames) = CanCarry frame × CanCarryAll frames
