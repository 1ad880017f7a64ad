-- The whole command.
use Rattle.std.proofs.Common.{◌≡◌, ◌≢◌, ◌⊎◌, inl, inr, ◌<◌, ◌≤◌, ◌+◌, ◌-◌, ◌*◌, ℕ, zero, suc, Bool, true, false, List, [], ◌∷◌, ◌++◌, Option, Some, None, length, take, refl, sym, ap, subst, ◌∙◌, append-nil, length-append, arith}
use Rattle.std.specs.Prelude.{not, ◌&&◌, ◌||◌, nat_le, slice_get}
use Rattle.std.specs.List.{concat}
use Rattle.std.proofs.Math.Seq.{take-length}
use Rattle.std.proofs.lemmas.Bool.{not-true, not_from_false}
use Rattle.std.proofs.lemmas.Option.{slice_get_within}
use Rattle.port_base.specs.PortViews.{SinkView, SinkGot, SinkWrites}
use Rattle.port_base.specs.Views.{State, is_dead, InView, BaysView, line_out_at}
use Rattle.port_base.specs.declared.drain.Written.TheVariants as written
use Rattle.packet_text.specs.LinesStand.{ReadAsNeeded, lines_view, read_short, asked_for}
use Rattle.packet_text.specs.declared.line.Line.{Line}
use Rattle.packet_text.specs.declared.line.Line.TheVariants as line
use Rattle.gfp_linear.specs.Weave.{ChannelText, packets_given, weave_text}
use Rattle.gfp_linear.specs.Weaver.{HasWoven, IsWeave}
use Rattle.gfp_linear.proofs.Streams.{made_is}
use Rattle.odu_client.specs.ClientFrames.{client_frames, frames_begun}
use Rattle.odu_client.specs.ClientInput.{ClientInput}
use Rattle.device_model.specs.LineAsked.{InputLeft}
use Rattle.tributary_line.proofs.FeedTurns.{file_sent}
use Rattle.tributary_line.specs.FeedTurn.{FeedStands, FeedView}
use Rattle.tributary_line.specs.TributaryFile.{AreTributaryFrames}
use Rattle.tributary_line.specs.Settling.{ended_by}
use Rattle.tributary_line.proofs.Endings.{EndsAs, ends_by}
use Rattle.bundle_command.specs.ChannelInput.{texts_of}
use Rattle.bundle_command.specs.BundleStream.{IsAskedIn, IsAskedWithin, IsFinished, begun_of, channel_stream, channel_turns, first_slot, lines_told, parts_of, payload_sent, payload_whole}
use Rattle.bundle_command.specs.BundleLeft.{BundleRan, IsCut, LeftOf, MayBeInput, Tells, WasAsked, place_of}
use Rattle.bundle_command.specs.Steps.Channels.{ChannelAt, ChannelStands, HasChannel, IsBadLine, MayShowAll, StandsSo, woven_bytes}
use Rattle.bundle_command.specs.Steps.Settled.{IsEnded, IsSettled, lines_of}
use Rattle.bundle_command.specs.declared.channel.Channel.{Channel}
use Rattle.bundle_command.specs.declared.channel.Standing.{Standing}
use Rattle.bundle_command.specs.declared.channel.Standing.TheVariants as standing
use Rattle.port_base.specs.declared.ended.Ended.{Ended}
use Rattle.port_base.specs.declared.ended.Ended.TheVariants.{ReportFault, Memory}
use Rattle.bundle_command.specs.declared.weaving.Weaving.{Weaving}
use Rattle.bundle_command.proofs.AskedAtEnd.{was_asked}
use Rattle.bundle_command.proofs.AskedTurns.{asked_in}
use Rattle.bundle_command.proofs.BundleEnds.{Known, channel_at, cut_of, is_finished, is_gt, is_le, few_bytes, lines_are, of_cut, open_one, sat_high, sat_low, and_false, and_true, by_false}
use Rattle.bundle_command.proofs.AskedTurns.{asked_in}
use Rattle.bundle_command.proofs.Ends.{input_left, may_show, more_by}
use Rattle.bundle_command.proofs.Finish.{not_finished, stream_at}
use Rattle.bundle_command.proofs.Frames.{begun_frames, gone_is}
use Rattle.bundle_command.proofs.Sizes.{given_bytes}
use Rattle.odu_client.proofs.FrameLists.{joined_size}

-- ---- what was read

asked_most : (s : Standing) (offered beyond : List (List ℕ)) (answer : Line) → StandsSo s offered beyond answer → asked_for answer (length (offered ++ beyond)) ≤ length offered + 1
asked_most standing.Fresh offered beyond answer so = rw (so.1, so.2) (let l = length-append offered [] in omega arith)
asked_most standing.Going offered beyond answer so = rw (so.0, so.1) (let l = length-append offered [] in omega arith)
asked_most standing.Ended offered beyond answer so = rw (so.0, so.1) (let l = length-append offered [] in omega arith)
asked_most standing.Lost offered beyond answer so = rw (so.0, so.1) (let l = length-append offered [] in omega arith)
asked_most standing.More offered beyond answer so = rw (so.1, so.2) (let l = length-append offered (so.0 ∷ []) in omega arith)
asked_most standing.Bad offered beyond answer (inr (packet, is, long, a)) = rw (is, a) (let l = length-append offered (packet ∷ []) in omega arith)
asked_most standing.Bad offered beyond answer (inl (none, bad)) = rw none (by_line answer bad)
  where
    by_line : (a : Line) → IsBadLine a → asked_for a (length (offered ++ [])) ≤ length offered + 1
    by_line (line.Bad n) b = (let l = length-append offered [] in omega arith)
    by_line line.Packet b = absurd b
    by_line line.End b = absurd b
    by_line line.Lost b = absurd b

read_more : (short : Bool) (asked most : ℕ) (read : List ℕ) → asked ≤ most → ReadAsNeeded short asked read → ReadAsNeeded short most read
read_more short asked most read few h = record {
  before = h.before;
  last = h.last;
  parts = h.parts;
  blocks = h.blocks;
  most = h.most;
  whole = h.whole;
  part = h.part;
  needed = h.needed;
  fewer = elim h.fewer [
    | inl none ↦ inl none
    | inr less ↦ inr (omega arith)
  ];
}

-- ---- whether more may stand behind what was taken

abbrev more_of : Option Channel → State → Bool
more_of (Some channel) state = more_by state (lines_view channel.lines).ended
more_of None state = false

more_is : (channels : List Channel) (c : ℕ) (channel : Channel) (state : State) → HasChannel channels c channel → more_of (slice_get channels c) state ≡ more_by state (lines_view channel.lines).ended
more_is channels c channel state at = ap (λ o. more_of o state) at

parts_many : (bytes : List ℕ) (turns : ℕ) → length (parts_of bytes turns) ≡ turns
unfolding parts_of
parts_many bytes zero = refl
parts_many bytes (suc t) = length-append (parts_of bytes t) _ ∙ (let e = parts_many bytes t in omega arith)

-- how the report was written, and the command ended
abbrev pub Outcome : (weaving : Weaving) (turns : ℕ) (last : BaysView) (report told : SinkView) → Ended → Type 0
Outcome weaving turns last report told ended =
    ((ended ≡ ReportFault) × SinkWrites written.Lost report (lines_of weaving.channels.items last) told)
    ⊎ (SinkWrites written.Whole report (lines_of weaving.channels.items last) told × IsEnded weaving turns last ended)

pub ran : (clients : List ℕ) (turns : ℕ) (first last : BaysView) (report told : SinkView) (due left emitted : List ℕ) (count : ℕ) (weaving : Weaving) (feed : FeedView) (ended : Ended) → 1 ≤ turns → turns ≤ 16384
    → IsSettled (length clients) clients first last emitted weaving → length emitted ≡ 15232 * count → due ++ left ≡ concat (client_frames [] count emitted) → length left < 15296 → length due ≡ 15168 * turns
    → FeedStands first_slot (line_out_at first 0) (line_out_at last 0) (parts_of due turns) feed → Outcome weaving turns last report told ended → BundleRan clients turns first last report told ended
ran clients turns first last report told due left emitted count weaving feed ended some few settled size frames part long fed outcome = record {
  read = settled.read;
  more = λ c. more_of (slice_get weaving.channels.items c) (place_of clients last c).state;
  client_in = λ c here.
      let k = channel_at clients weaving.channels.items c settled.has.many here in
      subst (InputLeft (place_of clients first c) (place_of clients last c) (settled.read c)) (sym (more_is weaving.channels.items c k.0 (place_of clients last c).state k.1))
      (input_left (place_of clients first c) (place_of clients last c) (settled.read c) (packets_given c settled.at.frames) k.0 (settled.has.each c k.0 k.1).stands);
  left = λ inputs may. left_of inputs (shows_of inputs may);
}
  where
    sent : payload_sent turns ≡ length emitted
    sent = ap (λ k. 15232 * k) (ap frames_begun (sym long) ∙ begun_frames (length due) count (length left) (sym (length-append due left) ∙ ap length frames ∙ joined_size [] count emitted) part) ∙ sym size

    all : payload_sent turns + length weaving.maker.maker.hand ≡ woven_bytes clients settled.at.frames
    all = ap (λ n. n + length weaving.maker.maker.hand) sent ∙ given_bytes clients settled.at emitted weaving.maker settled.has.woven

    some_given : 1 ≤ length emitted
    some_given = (let a = length-append due left in let b = ap length frames in let d = joined_size [] count emitted in omega arith)

    shows_of : (inputs : ℕ → ClientInput) → ((c : ℕ) → c < length clients → MayBeInput (place_of clients first c) (place_of clients last c) (settled.read c) (more_of (slice_get weaving.channels.items c) (place_of clients last c).state) (inputs c))
        → MayShowAll weaving.channels.items settled.read inputs
    shows_of inputs may c channel at =
        let here : c < length clients = (let many = settled.has.many in let less = slice_get_within weaving.channels.items c channel at in omega arith) in
        may_show (place_of clients first c) (place_of clients last c) (settled.read c) (packets_given c settled.at.frames) channel (inputs c) (settled.has.each c channel at).stands
        (subst (λ m. MayBeInput (place_of clients first c) (place_of clients last c) (settled.read c) m (inputs c)) (more_is weaving.channels.items c channel (place_of clients last c).state at) (may c here))

    tells_of : Outcome weaving turns last report told ended → Tells ended report (lines_of weaving.channels.items last) told
    tells_of (inl (e, lost)) = subst (λ x. Tells x report (lines_of weaving.channels.items last) told) (sym e) (lost.0, lost.1, lost.2)
    tells_of (inr (wrote, is)) = subst (λ x. Tells x report (lines_of weaving.channels.items last) told) (sym is.answer) (by_end _ _ wrote.0)
      where
        by_end : (dead more : Bool) → SinkGot report (lines_of weaving.channels.items last) told → Tells (ended_by dead more) report (lines_of weaving.channels.items last) told
        by_end true more got = got
        by_end false true got = got
        by_end false false got = got

    outcome_ended : Outcome weaving turns last report told ended → ended ≢ ReportFault → IsEnded weaving turns last ended
    outcome_ended (inl (e, lost)) other = absurd (other e)
    outcome_ended (inr (wrote, is)) other = is

    ends : (inputs : ℕ → ClientInput) → Known clients turns first last emitted weaving inputs settled → IsEnded weaving turns last ended → EndsAs ended (IsCut clients last) (IsFinished clients turns inputs → ⊥)
    ends inputs known is =
        let dead = is.dead || is_dead (line_out_at last 0).state in
        let finished = is.all && nat_le weaving.end (payload_whole turns) in
        subst (λ x. EndsAs x (IsCut clients last) (IsFinished clients turns inputs → ⊥)) (sym is.answer)
        (ends_by dead (not finished) (IsCut clients last) (IsFinished clients turns inputs → ⊥) (cut_of clients first last emitted weaving settled is.dead is.dead_is) (of_cut clients first last emitted weaving settled is.dead is.dead_is)
        (λ more done. elim (and_false is.all (nat_le weaving.end (payload_whole turns)) (not-true finished more)) [
          | inl open' ↦
              let s = is.all_is.some open' in
              open_one clients turns (length weaving.maker.maker.hand) first last emitted weaving inputs settled known some all s.0 s.1 s.2 s.3 done
          | inr late ↦
              not_finished clients turns settled.has.end inputs settled.at.frames known.stream settled.has.ends
              (sat_high settled.has.end (payload_whole turns) (subst (λ e. payload_whole turns < e) settled.has.end_is (is_gt weaving.end (payload_whole turns) late))) done
        ])
        (λ unfinished. not_from_false finished (not_so finished (λ yes.
        let both = and_true is.all (nat_le weaving.end (payload_whole turns)) yes in
        unfinished
        (is_finished clients turns first last emitted weaving inputs settled known (is.all_is.all both.0)
        (sat_low settled.has.end (payload_whole turns) (subst (λ e. e ≤ payload_whole turns) settled.has.end_is (is_le weaving.end (payload_whole turns) both.1)) (few_bytes turns few)))))))
      where
        not_so : (b : Bool) → (b ≡ true → ⊥) → b ≡ false
        not_so true h = absurd (h refl)
        not_so false h = refl

    left_of : (inputs : ℕ → ClientInput) → MayShowAll weaving.channels.items settled.read inputs → LeftOf clients turns first last report told ended settled.read (λ c. more_of (slice_get weaving.channels.items c) (place_of clients last c).state) inputs
    left_of inputs shows =
        let texts = texts_of (length clients) inputs in
        let weaves = settled.has.weave inputs shows in
        let known : Known clients turns first last emitted weaving inputs settled = record {
          shows = shows;
          stream = stream_at clients texts turns (length weaving.maker.maker.hand) settled.at weaves all (let b = settled.begun in let s = sent in let g = some_given in omega arith);
        } in
        let own : parts_of due turns ≡ channel_turns clients texts turns =
        ap (λ b. parts_of b turns) (gone_is clients texts due left emitted count (made_is clients texts settled.at emitted weaving.maker settled.has.woven weaves) size frames part ∙ ap (channel_stream clients texts) long) in
        let told_text : lines_of weaving.channels.items last ≡ lines_told clients texts turns (λ c. (place_of clients last c).state) (length clients) =
        ap (λ cs. lines_of cs last) (sym (ap (λ n. take n weaving.channels.items) (sym settled.has.many) ∙ take-length weaving.channels.items))
        ∙ lines_are clients turns first last emitted weaving inputs settled known (length clients) (omega arith) in
        record {
          output = record {
            frames = fed.has.made.made;
            file = record {
              puts = fed.has.puts;
              are_put = subst (λ ts. AreTributaryFrames first_slot ts (8 * turns) fed.has.puts) own (subst (λ n. AreTributaryFrames first_slot (parts_of due turns) (8 * n) fed.has.puts) (parts_many due turns) fed.has.are_put);
              are_frames = fed.has.made.are_frames;
            };
            sent = file_sent first_slot _ _ _ _ fed;
          };
          tells = subst (λ t. Tells ended report t told) told_text (tells_of outcome);
          needed = λ c here.
              let k = channel_at clients weaving.channels.items c settled.has.many here in
              let at = (settled.has.each c k.0 k.1).stands in (
                read_short (lines_view k.0.lines).ended (lines_view k.0.lines).answer,
                read_more _ _ (length (begun_of clients texts turns c) + 1) (settled.read c)
                    (subst (λ ps. asked_for (lines_view k.0.lines).answer (length (packets_given c settled.at.frames ++ at.beyond)) ≤ length ps + 1) (sym (known.stream.begun c))
                    (asked_most k.0.standing (packets_given c settled.at.frames) at.beyond (lines_view k.0.lines).answer at.so)) at.text.needed,
              );
          asked = λ c here.
              let k = channel_at clients weaving.channels.items c settled.has.many here in
              let at = (settled.has.each c k.0 k.1).stands in
              let each = settled.has.each c k.0 k.1 in
              let Asked : Type 0 = IsAskedWithin clients texts turns c in
              let was = place_of clients first c in
              let is = place_of clients last c in
              subst (λ m. WasAsked Asked (length (begun_of clients texts turns c)) m was is (settled.read c)) (sym (more_is weaving.channels.items c k.0 is.state k.1))
              (subst (λ (ps : List (List ℕ)). WasAsked Asked (length ps) (more_by is.state (lines_view k.0.lines).ended) was is (settled.read c)) (sym (known.stream.begun c))
              (was_asked Asked k.0.standing was is (settled.read c) (packets_given c settled.at.frames) at.beyond (lines_view k.0.lines) (settled.over c k.0 k.1 here)
              (λ other. subst (λ fs. IsAskedIn (length clients) fs c) (sym known.stream.are) (asked_in (length clients) settled.at c settled.told (each.asked other)))
              (λ fresh. (λ asked. (each.unasked fresh).none (subst (λ fs. IsAskedIn (length clients) fs c) known.stream.are asked), each.untouched fresh)) at.so at.text));
          cut = λ other. (ends inputs known (outcome_ended outcome other)).cut;
          unfinished = λ other. (ends inputs known (outcome_ended outcome other)).unfinished;
        }
