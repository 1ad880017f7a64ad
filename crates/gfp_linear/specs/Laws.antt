-- Believed: what makers and readers of channels promise of each other.
use Rattle.std.specs.Prelude.{◌≡◌, ◌≢◌, ℕ, ◌<◌, ◌≤◌, ◌⊎◌, ◌==◌, All, Bool, if◌then◌else◌, List, [], ◌∷◌, ◌++◌, length, take, map, flat_map, get_or, slice_get, slice_index, Some}
use Rattle.std.specs.List.{filter}
use Rattle.gfp_frames.specs.GfpText.{text_of}
use Rattle.gfp_linear.specs.ChannelFrames.{IsCidList}
use Rattle.gfp_linear.specs.Weave.{ChannelText, WovenFrame, IdleFrame, PacketFrame, LossFrame, made_of, no_text, weave, AreCarried, woven_within, is_frame_of, packets_given, offer, next_frame, weave_text}
use Rattle.gfp_linear.specs.Weaver.{WeaverState, Woven, woven_first, woven_on, channel_at, HasWoven, IsWeave}
use Rattle.gfp_linear.specs.ChannelArrivals.{ChannelArrival, PacketOn, LossOn, channel_arrivals}

-- what arrives with a frame
abbrev pub arrivals_of : (cids : List ℕ) → WovenFrame → List ChannelArrival
arrivals_of cids IdleFrame = []
arrivals_of cids (PacketFrame c packet) = PacketOn (slice_index cids c) packet ∷ []
arrivals_of cids (LossFrame c) = LossOn (slice_index cids c) ∷ []

-- whether an arrival is on the channel of this CID
abbrev pub is_on : (cid : ℕ) → ChannelArrival → Bool
is_on cid (PacketOn other packet) = other == cid
is_on cid (LossOn other) = other == cid

-- the packet of an arrival on the channel of this CID
abbrev pub packet_on : (cid : ℕ) → ChannelArrival → List (List ℕ)
packet_on cid (PacketOn other packet) = if other == cid then packet ∷ [] else []
packet_on cid (LossOn other) = []

-- the packets that arrive on the channel of this CID
abbrev pub packets_on : (cid : ℕ) → List ChannelArrival → List (List ℕ)
packets_on cid arrivals = flat_map (packet_on cid) arrivals

-- what arrives in the first n bytes of the first m + 1 frames of these channels
abbrev pub woven_arrivals : (cids : List ℕ) → List ChannelText → (m n : ℕ) → List ChannelArrival
woven_arrivals cids texts m n = channel_arrivals (take n (text_of (map (made_of cids) (weave texts m))))

-- Of any first bytes of the stream what arrives are, in order, the packets and the losses whose frames lie whole in
-- them.
abbrev pub ChannelsArrive : Type 0
ChannelsArrive = (cids : List ℕ) (texts : List ChannelText) (m n : ℕ) → All AreCarried texts
    → woven_arrivals cids texts m n ≡ flat_map (arrivals_of cids) (woven_within cids n (weave texts m))

-- And on one channel those of its own frames.
abbrev pub EachChannelArrives : Type 0
EachChannelArrives = (cids : List ℕ) (texts : List ChannelText) (m n c : ℕ) → IsCidList cids
    → length texts ≡ length cids → All AreCarried texts → c < length cids
    → filter (is_on (slice_index cids c)) (woven_arrivals cids texts m n)
    ≡ flat_map (arrivals_of cids) (filter (is_frame_of c) (woven_within cids n (weave texts m)))

-- the first list is a front of the second
abbrev pub IsFront : List (List ℕ) → List (List ℕ) → Type 0
IsFront front whole = (rest : List (List ℕ)) × (whole ≡ front ++ rest)

-- The packets that arrive on a channel are the first of its packets, whatever the others offer.
abbrev pub FirstPacketsArrive : Type 0
FirstPacketsArrive = (cids : List ℕ) (texts : List ChannelText) (m n c : ℕ) → IsCidList cids
    → length texts ≡ length cids → All AreCarried texts → c < length cids
    → IsFront (packets_on (slice_index cids c) (woven_arrivals cids texts m n)) (get_or texts c no_text).packets

-- So where a channel's text is the same, and whatever the others' texts are, of the packets that arrive on it in two
-- streams those of one are the first of the other's.
abbrev pub OthersMakeNoDifference : Type 0
OthersMakeNoDifference = (cids : List ℕ) (texts others : List ChannelText) (m n k l c : ℕ) → IsCidList cids
    → length texts ≡ length cids → length others ≡ length cids → All AreCarried texts
    → All AreCarried others → c < length cids → get_or texts c no_text ≡ get_or others c no_text
    → IsFront (packets_on (slice_index cids c) (woven_arrivals cids texts m n))
    (packets_on (slice_index cids c) (woven_arrivals cids others k l))
    ⊎ IsFront (packets_on (slice_index cids c) (woven_arrivals cids others k l))
    (packets_on (slice_index cids c) (woven_arrivals cids texts m n))

-- What arrived in a list of bytes stays, whatever comes after it.
abbrev pub ArrivalsStay : Type 0
ArrivalsStay = (bytes more : List ℕ) → (rest : List ChannelArrival)
    × (channel_arrivals (bytes ++ more) ≡ channel_arrivals bytes ++ rest)

-- Between two successive packets of a channel each other channel gives one frame at most.
abbrev pub ChannelsTakeTurns : Type 0
ChannelsTakeTurns = (texts : List ChannelText) (n c d : ℕ) (p q : List ℕ) (before between after : List WovenFrame)
    → weave texts n ≡ before ++ (PacketFrame c p ∷ (between ++ (PacketFrame c q ∷ after)))
    → packets_given c between ≡ []
    → c < length texts → d < length texts → d ≢ c → length (filter (is_frame_of d) between) ≤ 1

-- And while a channel's packet waits, no frame is idle.
abbrev pub NoneIdleWhileOneWaits : Type 0
NoneIdleWhileOneWaits = (texts : List ChannelText) (frames : List WovenFrame) (c : ℕ) (p : List ℕ) → c < length texts
    → slice_get (get_or texts c no_text).packets (length (packets_given c frames)) ≡ Some p
    → next_frame texts frames ≢ IdleFrame

-- Where each channel that is asked gives what its text offers, or nothing where it offers nothing, the stream is the
-- weave of the texts.
abbrev pub WeaveStarts : Type 0
WeaveStarts = (texts : List ChannelText) → 0 < length texts → IsWeave texts woven_first

abbrev pub WeaveGoesOn : Type 0
WeaveGoesOn = (texts : List ChannelText) (at : Woven) (c : ℕ) → IsWeave texts at → c ≡ channel_at (length texts) at
    → IsWeave texts (woven_on (length texts) at (offer c (get_or texts c no_text) at.frames))

-- And the bytes that were emitted are its first bytes.
abbrev pub MadeIsTheWeave : Type 0
MadeIsTheWeave = (cids : List ℕ) (texts : List ChannelText) (at : Woven) (emitted : List ℕ) (maker : WeaverState)
    → HasWoven cids at emitted maker → IsWeave texts at
    → emitted ≡ weave_text cids texts (length emitted)
