-- What is left when the command has ended.
use Rattle.std.proofs.Common.{◌≡◌, ◌≢◌, ◌⊎◌, ◌↔◌, inl, inr, ◌<◌, ◌≤◌, ◌+◌, ◌-◌, ◌*◌, ◌/◌, ℕ, zero, suc, Bool, true, false, cond, List, [], ◌∷◌, ◌++◌, Option, Some, None, length, map, take, drop, get_or, refl, sym, ap, subst, ◌∙◌, append-nil, append_assoc, length-append, add-one, arith}
use Rattle.std.specs.Prelude.{not, ◌&&◌, ◌||◌, nat_le, slice_get}
use Rattle.std.specs.List.{concat, list_all}
use Rattle.std.proofs.Math.Seq.{take-length}
use Rattle.std.proofs.lemmas.Bool.{cases_lt}
use Rattle.std.proofs.lemmas.Bool.Decides.{nat_tests}
use Rattle.std.proofs.lemmas.List.{get_or_past, length-take-le, take-append-drop}
use Rattle.std.proofs.lemmas.Option.{slice_get-get_or, slice_get_within}
use Rattle.otn_base.specs.Counts.{saturated}
use Rattle.port_base.specs.PortViews.{SinkView, SinkGot, SinkWrites}
use Rattle.port_base.specs.Views.{State, Empty, Live, Dead, InView, BaysView, client_in_at, line_out_at}
use Rattle.port_base.specs.declared.drain.Written.{Written}
use Rattle.port_base.specs.declared.drain.Written.TheVariants as written
use Rattle.packet_text.specs.LinesStand.{LinesStand, ReadAsNeeded, lines_view, read_short, asked_for}
use Rattle.packet_text.specs.declared.line.Line.{Line}
use Rattle.packet_text.specs.declared.line.Line.TheVariants as line
use Rattle.gfp_linear.specs.Laws.{IsFront}
use Rattle.gfp_linear.specs.Weave.{ChannelText, WovenFrame, IdleFrame, no_text, packets_given, weave, weave_text, woven_size, woven_within}
use Rattle.gfp_linear.specs.Weaver.{Woven, HasWoven, IsWeave}
use Rattle.gfp_linear.proofs.Streams.{made_is}
use Rattle.gfp_linear.proofs.Weaves.{weave-length, weave_front}
use Rattle.odu_client.specs.ClientInput.{ClientInput}
use Rattle.tributary_line.specs.FeedTurn.{FeedStands, FeedView}
use Rattle.tributary_line.specs.TributaryFile.{AreTributaryFrames}
use Rattle.client_list.specs.ClientLists.{IsClientList}
use Rattle.client_list.proofs.ClientLists.{few_channels}
use Rattle.bundle_command.specs.ChannelInput.{channel_text, ends_whole, texts_of}
use Rattle.bundle_command.specs.BundleStream.{IsFinished, begun_of, channel_stream, channel_turns, first_slot, lines_told, parts_of, payload_sent, payload_whole, whole_of, woven_begun, woven_in}
use Rattle.bundle_command.specs.BundleLeft.{BundleRan, IsCut, LeftOf, MayBeInput, OnlyBundled, Tells, place_of}
use Rattle.bundle_command.specs.Steps.Channels.{ChannelAt, ChannelStands, HasChannel, IsUnasked, MayShow, MayShowAll, PacketsEnd, StandsSo, WeavingHas, woven_bytes}
use Rattle.bundle_command.specs.Steps.Settled.{AllEnded, DeadClients, IsEnded, IsSettled, line_of, lines_of}
use Rattle.bundle_command.specs.declared.channel.Channel.{Channel}
use Rattle.bundle_command.specs.declared.channel.Standing.{Standing}
use Rattle.bundle_command.specs.declared.channel.Standing.TheVariants as standing
use Rattle.port_base.specs.declared.ended.Ended.{Ended}
use Rattle.port_base.specs.declared.ended.Ended.TheVariants.{Done, Unfinished, Cut, ReportFault, Memory}
use Rattle.bundle_command.specs.declared.weaving.Weaving.{Weaving}
use Rattle.bundle_command.proofs.Asked.{text_at, texts_many}
use Rattle.bundle_command.proofs.Ends.{input_left, may_show, more_by}
use Rattle.bundle_command.proofs.Lists.{lines_on}
use Rattle.bundle_command.proofs.Sizes.{given_bytes, many_bytes, bytes-none, bytes-append, bytes-push}
use Rattle.bundle_command.proofs.Texts.{IsOver as is_over, more_text, over_text}
use Rattle.bundle_command.proofs.Within.{NotWhole, all_whole, begun_all, frame_counts, front_fewer, not_whole, weave_more, within_short}

-- ---- the stream behind the last turn

-- its frames are those that are begun, and behind them come others
pub record Stream (clients : List ℕ) (texts : List ChannelText) (turns : ℕ) (frames : List WovenFrame) : Type 0 where
  pub rest : List WovenFrame
  pub parts : woven_in texts turns ≡ frames ++ rest
  pub are : woven_begun clients (payload_sent turns) (woven_in texts turns) ≡ frames
  pub begun : (c : ℕ) → begun_of clients texts turns c ≡ packets_given c frames
  pub whole : (c : ℕ) → whole_of clients texts turns c ≡ packets_given c (woven_within clients (payload_whole turns) frames)
  pub front : (c : ℕ) → IsFront (packets_given c frames) (get_or texts c no_text).packets

last_frame : (frames : List WovenFrame) → 0 < length frames → (last : WovenFrame) × (frames ≡ take (length frames - 1) frames ++ last ∷ [])
last_frame frames some =
    let n = length frames - 1 in
    let last = get_or frames n IdleFrame in
    (last, sym (take-append-drop n frames) ∙ ap (λ fs. take n frames ++ fs) (tail frames some))
  where
    tail : (frames : List WovenFrame) → 0 < length frames → drop (length frames - 1) frames ≡ get_or frames (length frames - 1) IdleFrame ∷ []
    tail [] some = absurd (omega arith)
    tail (x ∷ []) some = refl
    tail (x ∷ y ∷ frames) some =
        let same : length (x ∷ y ∷ frames) - 1 ≡ suc (length (y ∷ frames) - 1) = omega arith in
        ap (λ n. drop n (x ∷ y ∷ frames)) same ∙ tail (y ∷ frames) (omega arith) ∙ ap (λ n. get_or (x ∷ y ∷ frames) n IdleFrame ∷ []) (sym same)

whole_less : (turns : ℕ) → payload_whole turns ≤ payload_sent turns
whole_less turns = elim (frame_counts (15168 * turns)) [
  | inl e ↦ omega arith
  | inr e ↦ (let f = e.0 in omega arith)
]

pub stream_at : (clients : List ℕ) (texts : List ChannelText) (turns hand : ℕ) (at : Woven) → IsWeave texts at → payload_sent turns + hand ≡ woven_bytes clients at.frames
    → woven_bytes clients (take (length at.frames - 1) at.frames) < payload_sent turns → Stream clients texts turns at.frames
stream_at clients texts turns hand at weaves all begun =
    let n = payload_sent turns in
    let frames = at.frames in
    let some : 0 < length frames = by_length (length frames) refl in
    let last = last_frame frames some in
    let init = take (length frames - 1) frames in
    let count = many_bytes clients init in
    let short : length init ≡ length frames - 1 = length-take-le (length frames - 1) frames (omega arith) in
    let k = weaves.begun in
    let size : length frames ≡ suc k = ap length weaves.begins ∙ weave-length texts k in
    let more = weave_more texts k n (omega (arith, count, short, size, begun)) in
    let parts : woven_in texts turns ≡ frames ++ more.0 = more.1 ∙ ap (λ fs. fs ++ more.0) (sym weaves.begins) in
    let bytes : woven_bytes clients frames ≡ woven_bytes clients init + woven_size clients last.0 = ap (woven_bytes clients) last.1 ∙ bytes-push clients init last.0 in
    let are : woven_begun clients n (woven_in texts turns) ≡ frames =
    ap (woven_begun clients n) (parts ∙ ap (λ fs. fs ++ more.0) last.1 ∙ append_assoc init (last.0 ∷ []) more.0) ∙ begun_all clients n init last.0 more.0 begun (omega (arith, bytes, all)) ∙ sym last.1 in
    record {
      rest = more.0;
      parts = parts;
      are = are;
      begun = λ c. ap (packets_given c) are;
      whole = λ c. ap (packets_given c) (ap (woven_within clients (payload_whole turns)) parts ∙ within_short clients (payload_whole turns) frames more.0 (let w = whole_less turns in omega (arith, all, w)));
      front = λ c. subst (λ fs. IsFront (packets_given c fs) (get_or texts c no_text).packets) (sym weaves.begins) (weave_front texts k c);
    }
  where
    nothing : (frames : List WovenFrame) → length frames ≡ 0 → frames ≡ []
    nothing [] e = refl
    nothing (x ∷ frames) e = absurd (omega arith)

    by_length : (n : ℕ) → length at.frames ≡ n → 0 < length at.frames
    by_length zero e = absurd (let none = nothing at.frames e in let b = ap (woven_bytes clients) none in let z = bytes-none clients in omega arith)
    by_length (suc n) e = omega arith

-- ---- a channel that was never asked

-- another's packet does not lie whole then
pub unasked_late : (clients : List ℕ) (turns hand end c : ℕ) (at : Woven) → IsClientList clients → c < length clients → 1 ≤ turns → IsUnasked clients at end c → payload_sent turns + hand ≡ woven_bytes clients at.frames
    → payload_whole turns < end
unasked_late clients turns hand end c at list here some h all =
    let few = few_channels clients c list here in
    let low = h.low in
    let most = h.most in
    let late = h.late in
    elim (frame_counts (15168 * turns)) [
      | inl e ↦ omega (arith, few, low, late, all, e)
      | inr e ↦ absurd (let x = e.0 in let y = e.1 in omega (arith, few, low, most, all, x, y, some))
    ]

-- ---- whether all is finished

shorter : (xs ys : List (List ℕ)) → IsFront xs ys → length xs ≤ length ys
shorter xs ys front = (let l = ap length front.1 in let a = length-append xs front.0 in omega arith)

-- where a packet's frame does not lie whole
pub not_finished : (clients : List ℕ) (turns end : ℕ) (inputs : ℕ → ClientInput) (frames : List WovenFrame) → Stream clients (texts_of (length clients) inputs) turns frames → PacketsEnd clients frames end → payload_whole turns < end
    → IsFinished clients turns inputs → ⊥
not_finished clients turns end inputs frames s ends late done =
    let texts = texts_of (length clients) inputs in
    let n = not_whole clients (payload_whole turns) end frames ends late in
    let front = shorter (packets_given n.c frames) (get_or texts n.c no_text).packets (s.front n.c) in
    let fewer = n.fewer in
    let w = ap length (s.whole n.c) in
    elim (cases_lt n.c (length clients)) [
      | inl here ↦
          (let t = ap (λ (t : ChannelText). length t.packets) (text_at (length clients) n.c inputs here) in let d = ap length (done.whole n.c here) in omega arith)
      | inr past ↦
          (let none = ap (λ (t : ChannelText). length t.packets) (get_or_past texts n.c no_text (let m = texts_many (length clients) inputs in omega arith)) in omega arith)
    ]
