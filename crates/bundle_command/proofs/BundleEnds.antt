-- The end of the command.
use Rattle.std.proofs.Common.{◌≡◌, ◌≢◌, ◌⊎◌, ◌↔◌, inl, inr, ◌<◌, ◌≤◌, ◌+◌, ◌-◌, ◌*◌, ◌/◌, ℕ, zero, suc, Bool, true, false, cond, List, [], ◌∷◌, ◌++◌, Option, Some, None, length, take, drop, get_or, refl, sym, ap, subst, ◌∙◌, append-nil, length-append, add-one, arith}
use Rattle.std.specs.Prelude.{not, ◌&&◌, ◌||◌, nat_le, slice_get}
use Rattle.std.specs.List.{concat}
use Rattle.std.proofs.Math.Seq.{take-length}
use Rattle.std.proofs.lemmas.Bool.Decides.{nat_tests}
use Rattle.std.proofs.lemmas.Option.{slice_get-get_or, slice_get_within}
use Rattle.otn_base.specs.Counts.{saturated}
use Rattle.port_base.specs.PortViews.{SinkView, SinkGot, SinkWrites}
use Rattle.port_base.specs.Views.{State, Empty, Live, Dead, is_dead, InView, BaysView, client_in_at, line_out_at}
use Rattle.port_base.proofs.GivenLaws.{dead_of}
use Rattle.port_base.specs.declared.drain.Written.{Written}
use Rattle.port_base.specs.declared.drain.Written.TheVariants as written
use Rattle.packet_text.specs.LinesStand.{LinesStand, ReadAsNeeded, lines_view, read_short, asked_for}
use Rattle.packet_text.specs.declared.line.Line.{Line}
use Rattle.packet_text.specs.declared.line.Line.TheVariants as line
use Rattle.gfp_linear.specs.Weave.{ChannelText, WovenFrame, no_text, packets_given, weave_text, woven_within}
use Rattle.gfp_linear.specs.Weaver.{HasWoven, IsWeave}
use Rattle.gfp_linear.proofs.Streams.{made_is}
use Rattle.odu_client.specs.ClientInput.{ClientInput}
use Rattle.odu_client.specs.ClientFrames.{client_frames}
use Rattle.tributary_line.specs.FeedTurn.{FeedStands, FeedView}
use Rattle.tributary_line.specs.TributaryFile.{AreTributaryFrames}
use Rattle.bundle_command.specs.ChannelInput.{channel_text, ends_whole, texts_of}
use Rattle.bundle_command.specs.BundleStream.{IsFinished, begun_of, channel_line, channel_stream, channel_turns, first_slot, lines_told, parts_of, payload_sent, payload_whole, whole_of}
use Rattle.bundle_command.specs.BundleLeft.{BundleRan, IsCut, LeftOf, MayBeInput, Tells, place_of}
use Rattle.bundle_command.specs.Steps.Channels.{ChannelAt, ChannelStands, HasChannel, MayShow, MayShowAll, StandsSo, WeavingHas, woven_bytes}
use Rattle.bundle_command.specs.Steps.Settled.{AllEnded, DeadClients, IsEnded, IsSettled, line_of, lines_of}
use Rattle.bundle_command.specs.declared.channel.Channel.{Channel}
use Rattle.bundle_command.specs.declared.channel.Standing.{Standing}
use Rattle.bundle_command.specs.declared.channel.Standing.TheVariants as standing
use Rattle.port_base.specs.declared.ended.Ended.{Ended}
use Rattle.port_base.specs.declared.ended.Ended.TheVariants.{Done, Unfinished, Cut, ReportFault, Memory}
use Rattle.bundle_command.specs.declared.weaving.Weaving.{Weaving}
use Rattle.bundle_command.proofs.Asked.{text_at, texts_many}
use Rattle.bundle_command.proofs.Ends.{input_left, may_show, more_by}
use Rattle.bundle_command.proofs.Finish.{Stream, not_finished, stream_at, unasked_late}
use Rattle.bundle_command.proofs.Frames.{gone_is}
use Rattle.bundle_command.proofs.Lists.{lines_on}
use Rattle.bundle_command.proofs.Sizes.{given_bytes}
use Rattle.bundle_command.proofs.Texts.{IsOver as is_over, is_ended_so, more_text, over_text}
use Rattle.bundle_command.proofs.Within.{all_whole, front_fewer}

-- ---- what is known of the channels, where their inputs are these

pub record Known (clients : List ℕ) (turns : ℕ) (first last : BaysView) (emitted : List ℕ) (weaving : Weaving) (inputs : ℕ → ClientInput) (settled : IsSettled (length clients) clients first last emitted weaving) : Type 0 where
  pub shows : MayShowAll weaving.channels.items settled.read inputs
  pub stream : Stream clients (texts_of (length clients) inputs) turns settled.at.frames

-- a channel of the list
pub channel_at : (clients : List ℕ) (channels : List Channel) (c : ℕ) → length channels ≡ length clients → c < length clients → (channel : Channel) × HasChannel channels c channel
channel_at clients [] c many less = absurd (omega arith)
channel_at clients (x ∷ channels) c many less = (get_or (x ∷ channels) c x, slice_get-get_or (x ∷ channels) c x (omega arith))

pub sat_low : (e w : ℕ) → saturated e ≤ w → w < 1000000000 → e ≤ w
sat_low e w low few = omega arith

pub sat_high : (e w : ℕ) → w < saturated e → w < e
sat_high e w high = omega arith

pub few_bytes : (turns : ℕ) → turns ≤ 16384 → payload_whole turns < 1000000000
few_bytes turns few = omega arith

-- all is finished where each text has ended and the last packet lies whole
pub is_finished : (clients : List ℕ) (turns : ℕ) (first last : BaysView) (emitted : List ℕ) (weaving : Weaving) (inputs : ℕ → ClientInput) (settled : IsSettled (length clients) clients first last emitted weaving)
    → Known clients turns first last emitted weaving inputs settled → ((c : ℕ) (channel : Channel) → HasChannel weaving.channels.items c channel → channel.standing ≡ standing.Ended) → settled.has.end ≤ payload_whole turns
    → IsFinished clients turns inputs
is_finished clients turns first last emitted weaving inputs settled known ended whole = record {
  ends = λ c here. (let k = channel_at clients weaving.channels.items c settled.has.many here in
      let t = over_text (place_of clients first c) (place_of clients last c) (settled.read c) (packets_given c settled.at.frames) k.0 (inputs c) (settled.has.each c k.0 k.1).stands (subst is_over (sym (ended c k.0 k.1)) tt) (known.shows c k.0 k.1) in
      t.ends ∙ ap is_ended_so (ended c k.0 k.1));
  whole = λ c here. (let k = channel_at clients weaving.channels.items c settled.has.many here in
      let t = over_text (place_of clients first c) (place_of clients last c) (settled.read c) (packets_given c settled.at.frames) k.0 (inputs c) (settled.has.each c k.0 k.1).stands (subst is_over (sym (ended c k.0 k.1)) tt) (known.shows c k.0 k.1) in
      known.stream.whole c ∙ all_whole clients (payload_whole turns) settled.has.end c settled.at.frames settled.has.ends whole ∙ sym (ap (λ (t : ChannelText). t.packets) t.text));
}

-- and not where one has not
pub open_one : (clients : List ℕ) (turns hand : ℕ) (first last : BaysView) (emitted : List ℕ) (weaving : Weaving) (inputs : ℕ → ClientInput) (settled : IsSettled (length clients) clients first last emitted weaving)
    → Known clients turns first last emitted weaving inputs settled → 1 ≤ turns → payload_sent turns + hand ≡ woven_bytes clients settled.at.frames → (c : ℕ) (channel : Channel) → HasChannel weaving.channels.items c channel → channel.standing ≢ standing.Ended
    → IsFinished clients turns inputs → ⊥
open_one clients turns hand first last emitted weaving inputs settled known some all c channel at other done = go channel.standing refl
  where
    here : c < length clients
    here = (let many = settled.has.many in let less = slice_get_within weaving.channels.items c channel at in omega arith)

    chan : ChannelAt clients first last (settled.read c) settled.at settled.has.end c channel
    chan = settled.has.each c channel at

    false_true : false ≢ true
    false_true e = cc

    not_ended : (s : Standing) → channel.standing ≡ s → is_over s → is_ended_so s ≡ false → ⊥
    not_ended s e over none =
        let t = over_text (place_of clients first c) (place_of clients last c) (settled.read c) (packets_given c settled.at.frames) channel (inputs c) chan.stands (subst is_over (sym e) over) (known.shows c channel at) in
        false_true (sym (t.ends ∙ ap is_ended_so e ∙ none) ∙ done.ends c here)

    fewer : length (packets_given c (woven_within clients (payload_whole turns) settled.at.frames)) ≤ length (packets_given c settled.at.frames)
    fewer = front_fewer clients (payload_whole turns) c settled.at.frames

    longer : (packet : List ℕ) (rest : List (List ℕ)) → (channel_text (inputs c)).packets ≡ packets_given c settled.at.frames ++ packet ∷ rest → ⊥
    longer packet rest e =
        (let l = ap length e in let a = length-append (packets_given c settled.at.frames) (packet ∷ rest) in let d = ap length (done.whole c here) in let w = ap length (known.stream.whole c) in let f = fewer in omega arith)

    go : (s : Standing) → channel.standing ≡ s → ⊥
    go standing.Ended e = other e
    go standing.Going e = settled.over c channel at here e
    go standing.Fresh e =
        not_finished clients turns settled.has.end inputs settled.at.frames known.stream settled.has.ends (unasked_late clients turns hand settled.has.end c settled.at settled.has.list here some (chan.unasked e) all) done
    go standing.Bad e = not_ended standing.Bad e tt refl
    go standing.Lost e = not_ended standing.Lost e tt refl
    go standing.More e = elim (more_text (place_of clients first c) (place_of clients last c) (settled.read c) (packets_given c settled.at.frames) channel (inputs c) chan.stands e (known.shows c channel at)) [
      | inl bad ↦ false_true (sym bad ∙ done.ends c here)
      | inr more ↦ longer more.0 more.1 more.2
    ]

pub by_false : (b : Bool) → (b ≡ false → ⊥) → b ≡ true
by_false true h = refl
by_false false h = absurd (h refl)

pub and_true : (a b : Bool) → (a && b) ≡ true → (a ≡ true) × (b ≡ true)
and_true true b e = (refl, e)
and_true false b e = absurd (cc)

pub and_false : (a b : Bool) → (a && b) ≡ false → (a ≡ false) ⊎ (b ≡ false)
and_false true b e = inr e
and_false false b e = inl refl

pub is_le : (a b : ℕ) → nat_le a b ≡ true → a ≤ b
is_le a b e = grind (arith, nat_tests)

pub is_gt : (a b : ℕ) → nat_le a b ≡ false → b < a
is_gt a b e = grind (arith, nat_tests)

-- ---- dead places

dead_is : (s : State) → s ≡ Dead → is_dead s ≡ true
dead_is s e = ap is_dead e

or_true : (a b : Bool) → (a || b) ≡ true → (a ≡ true) ⊎ (b ≡ true)
or_true true b e = inl refl
or_true false b e = inr e

or_left : (a b : Bool) → a ≡ true → (a || b) ≡ true
or_left a b e = ap (λ x. x || b) e

or_right : (a b : Bool) → b ≡ true → (a || b) ≡ true
or_right true b e = refl
or_right false b e = e

pub cut_of : (clients : List ℕ) (first last : BaysView) (emitted : List ℕ) (weaving : Weaving) (settled : IsSettled (length clients) clients first last emitted weaving) (dead : Bool) → DeadClients weaving.channels.items last dead
    → (dead || is_dead (line_out_at last 0).state) ≡ true → IsCut clients last
cut_of clients first last emitted weaving settled dead tells e = elim (or_true dead (is_dead (line_out_at last 0).state) e) [
  | inl d ↦
      let s = tells.some d in
      let here : s.0 < length clients = (let many = settled.has.many in let less = slice_get_within weaving.channels.items s.0 s.1 s.2 in omega arith) in
      let client = (settled.has.each s.0 s.1 s.2).client in
      inl (s.0, here, dead_of (place_of clients last s.0).state (ap (λ n. is_dead (client_in_at last n).state) (sym client) ∙ s.3))
  | inr o ↦ inr (dead_of (line_out_at last 0).state o)
]

pub of_cut : (clients : List ℕ) (first last : BaysView) (emitted : List ℕ) (weaving : Weaving) (settled : IsSettled (length clients) clients first last emitted weaving) (dead : Bool) → DeadClients weaving.channels.items last dead
    → IsCut clients last → (dead || is_dead (line_out_at last 0).state) ≡ true
of_cut clients first last emitted weaving settled dead tells (inr o) = or_right dead (is_dead (line_out_at last 0).state) (dead_is (line_out_at last 0).state o)
of_cut clients first last emitted weaving settled dead tells (inl (c, here, d)) =
    let k = channel_at clients weaving.channels.items c settled.has.many here in
    let client = (settled.has.each c k.0 k.1).client in
    or_left dead (is_dead (line_out_at last 0).state) (by_false dead (λ none.
    false_true (sym (tells.none none c k.0 k.1) ∙ ap (λ n. is_dead (client_in_at last n).state) client ∙ dead_is (place_of clients last c).state d)))
  where
    false_true : false ≢ true
    false_true e = cc

-- ---- the report

pub lines_are : (clients : List ℕ) (turns : ℕ) (first last : BaysView) (emitted : List ℕ) (weaving : Weaving) (inputs : ℕ → ClientInput) (settled : IsSettled (length clients) clients first last emitted weaving)
    → Known clients turns first last emitted weaving inputs settled → (k : ℕ) → k ≤ length clients
    → lines_of (take k weaving.channels.items) last ≡ lines_told clients (texts_of (length clients) inputs) turns (λ c. (place_of clients last c).state) k
unfolding lines_told lines_of
lines_are clients turns first last emitted weaving inputs settled known zero within = refl
lines_are clients turns first last emitted weaving inputs settled known (suc k) within =
    let texts = texts_of (length clients) inputs in
    let chan = channel_at clients weaving.channels.items k settled.has.many (omega arith) in
    let at = settled.has.each k chan.0 chan.1 in
    let packets : chan.0.packets ≡ saturated (length (begun_of clients texts turns k)) = at.stands.count ∙ ap (λ (ps : List (List ℕ)). saturated (length ps)) (sym (known.stream.begun k)) in
    ap (λ n. lines_of (take n weaving.channels.items) last) (let e : suc k ≡ k + 1 = omega arith in e) ∙ lines_on weaving.channels.items last k chan.0 chan.1
    ∙ ap (λ t. t ++ line_of chan.0 last) (lines_are clients turns first last emitted weaving inputs settled known k (omega arith))
    ∙ ap (λ l. lines_told clients texts turns (λ c. (place_of clients last c).state) k ++ l)
    (ap (λ n. channel_line n chan.0.packets (client_in_at last n).state) at.client ∙ ap (λ p. channel_line (get_or clients k 0) p (place_of clients last k).state) packets)
