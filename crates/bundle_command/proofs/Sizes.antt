-- Bytes of frames.
use Rattle.std.proofs.Common.{◌≡◌, ◌≢◌, ◌⊎◌, inl, inr, ◌<◌, ◌≤◌, ◌+◌, ◌-◌, ◌*◌, ℕ, zero, suc, Bool, true, false, cond, List, [], ◌∷◌, ◌++◌, length, map, take, get_or, refl, sym, ap, subst, ◌∙◌, append-nil, append_assoc, length-append, arith}
use Rattle.std.proofs.Math.Seq.{take-append_seam}
use Rattle.std.proofs.lemmas.Bool.{cases_lt, lt-ltb, le-ltb}
use Rattle.std.proofs.lemmas.List.{length-take-le}
use Rattle.std.proofs.lemmas.Grind.{flat_map-append}
use Rattle.gfp_frames.specs.GfpText.{Frame, text_of}
use Rattle.gfp_frames.specs.Within.{frame_size}
use Rattle.gfp_linear.specs.Laws.{IsFront}
use Rattle.gfp_linear.specs.Weave.{ChannelText, WovenFrame, IdleFrame, PacketFrame, LossFrame, made_of, packet_of, packets_given, weave, weave_text, woven_size, woven_within}
use Rattle.gfp_linear.specs.Weaver.{WeaverState, Woven, HasWoven}
use Rattle.gfp_linear.proofs.ChannelAreas.{packet_area_size, loss_area_size}
use Rattle.gfp_linear.proofs.Weaves.{given-push, weave-length}
use Rattle.odu_client.proofs.GfpTexts.{total, length-text}
use Rattle.bundle_command.specs.BundleStream.{woven_begun}
use Rattle.bundle_command.specs.Steps.Channels.{EndsWithPacket, PacketsEnd, woven_bytes}

-- ---- sums

pub bytes-append : (cids : List ℕ) (xs ys : List WovenFrame) → woven_bytes cids (xs ++ ys) ≡ woven_bytes cids xs + woven_bytes cids ys
unfolding woven_bytes
bytes-append cids [] ys = (let e : woven_bytes cids ys ≡ 0 + woven_bytes cids ys = omega arith in e)
bytes-append cids (x ∷ xs) ys = (let e = bytes-append cids xs ys in omega arith)

pub bytes-push : (cids : List ℕ) (xs : List WovenFrame) (x : WovenFrame) → woven_bytes cids (xs ++ x ∷ []) ≡ woven_bytes cids xs + woven_size cids x
unfolding woven_bytes
bytes-push cids xs x = bytes-append cids xs (x ∷ []) ∙ (let e : woven_bytes cids xs + (woven_size cids x + 0) ≡ woven_bytes cids xs + woven_size cids x = omega arith in e)

pub bytes-none : (cids : List ℕ) → woven_bytes cids [] ≡ 0
unfolding woven_bytes
bytes-none cids = refl

bytes-total : (cids : List ℕ) (frames : List WovenFrame) → total (map (made_of cids) frames) ≡ woven_bytes cids frames
unfolding woven_bytes total
bytes-total cids [] = refl
bytes-total cids (frame ∷ frames) = ap (λ n. woven_size cids frame + n) (bytes-total cids frames)

-- what was given and what is in hand
pub given_bytes : (cids : List ℕ) (at : Woven) (emitted : List ℕ) (maker : WeaverState) → HasWoven cids at emitted maker → length emitted + length maker.maker.hand ≡ woven_bytes cids at.frames
given_bytes cids at emitted maker woven =
    sym (length-append emitted maker.maker.hand) ∙ ap length woven.made.text ∙ length-text (map (made_of cids) at.frames) ∙ bytes-total cids at.frames

pub packet_bytes : (cids : List ℕ) (c : ℕ) (packet : List ℕ) → woven_size cids (PacketFrame c packet) ≡ length packet + 16
packet_bytes cids c packet = (let e = packet_area_size (get_or cids c 0) packet in omega arith)

pub loss_bytes : (cids : List ℕ) (c : ℕ) → woven_size cids (LossFrame c) ≡ 12
loss_bytes cids c = (let e = loss_area_size (get_or cids c 0) in omega arith)

pub size_some : (cids : List ℕ) (frame : WovenFrame) → 4 ≤ woven_size cids frame
size_some cids IdleFrame = omega arith
size_some cids (PacketFrame c packet) = omega arith
size_some cids (LossFrame c) = omega arith

pub many_bytes : (cids : List ℕ) (frames : List WovenFrame) → 4 * length frames ≤ woven_bytes cids frames
unfolding woven_bytes
many_bytes cids [] = omega arith
many_bytes cids (frame ∷ frames) = (let e = many_bytes cids frames in let s = size_some cids frame in omega arith)

-- n frames and one have n bytes at least
pub weave_text_size : (cids : List ℕ) (texts : List ChannelText) (n : ℕ) → length (weave_text cids texts n) ≡ n
weave_text_size cids texts n =
    let frames = weave texts n in
    let size = length-text (map (made_of cids) frames) ∙ bytes-total cids frames in
    let least = many_bytes cids frames in
    let many = weave-length texts n in
    length-take-le n (text_of (map (made_of cids) frames)) (omega (arith, size, least, many))

-- ---- the last packet

no_packets-push : (frames : List WovenFrame) (frame : WovenFrame) → ((c : ℕ) → packets_given c frames ≡ []) → ((c : ℕ) → packet_of c frame ≡ []) → (c : ℕ) → packets_given c (frames ++ frame ∷ []) ≡ []
no_packets-push frames frame none other c = given-push c frames frame ∙ ap (λ ps. ps ++ packet_of c frame) (none c) ∙ other c

pub end_packet : (cids : List ℕ) (frames : List WovenFrame) (c : ℕ) (packet : List ℕ) → PacketsEnd cids (frames ++ PacketFrame c packet ∷ []) (woven_bytes cids frames + (length packet + 16))
end_packet cids frames c packet = record {
  before = frames ++ PacketFrame c packet ∷ [];
  behind = [];
  parts = sym (append-nil (frames ++ PacketFrame c packet ∷ []));
  ends = inr (frames, c, packet, refl);
  none = λ d. refl;
  bytes = sym (bytes-push cids frames (PacketFrame c packet) ∙ ap (λ n. woven_bytes cids frames + n) (packet_bytes cids c packet));
}

pub end_other : (cids : List ℕ) (frames : List WovenFrame) (frame : WovenFrame) (end : ℕ) → ((c : ℕ) → packet_of c frame ≡ []) → PacketsEnd cids frames end → PacketsEnd cids (frames ++ frame ∷ []) end
end_other cids frames frame end other h = record {
  before = h.before;
  behind = h.behind ++ frame ∷ [];
  parts = ap (λ fs. fs ++ frame ∷ []) h.parts ∙ append_assoc h.before h.behind (frame ∷ []);
  ends = h.ends;
  none = no_packets-push h.behind frame h.none other;
  bytes = h.bytes;
}

pub end_first : (cids : List ℕ) → PacketsEnd cids (IdleFrame ∷ []) 0
end_first cids = record { before = []; behind = IdleFrame ∷ []; parts = refl; ends = inl refl; none = λ c. refl; bytes = sym (bytes-none cids) }
