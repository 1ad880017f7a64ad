-- What a framer says is what the whole input says.
use Rattle.std.proofs.Common.{◌≡◌, ◌≢◌, ◌<◌, ◌≤◌, ◌+◌, ◌*◌, ◌/◌, ◌⊎◌, inl, inr, ℕ, Bool, true, false, nat_lt, nat_le, ◌&&◌, if◌then◌else◌, List, [], ◌++◌, length, take, drop, Some, None, arith, refl, sym, ap, subst, ◌∙◌, append-nil, length-append}
use Rattle.std.specs.Prelude.{option_map}
use Rattle.std.specs.List.{concat}
use Rattle.std.proofs.Math.Seq.{take-append_seam, drop-append_seam}
use Rattle.std.proofs.lemmas.Bool.Decides.{nat_tests}
use Rattle.port_base.specs.Views.{InView}
use Rattle.gfp_frames.specs.GfpText.{stream_frames, text_of, gfp_text}
use Rattle.gfp_frames.proofs.Streams.{given_is_stream}
use Rattle.packet_text.specs.LinesStand.{LinesView, MayBe, Told, GoesOnWith, HasBad, asked_for, read_short, ReadAsNeeded}
use Rattle.otn_base.specs.Counts.{saturated}
use Rattle.packet_text.specs.PacketText.{Packets, Ended, packets_of}
use Rattle.packet_text.specs.declared.line.Line.{Line}
use Rattle.packet_text.specs.declared.line.Line.TheVariants as line
use Rattle.odu_client.specs.ClientFrames.{client_frames, frames_begun, payload_begun, client_stream, stream_part}
use Rattle.odu_client.specs.ClientInput.{input_of, input_ending, gfp_length, begun_within, packets_begun, packets_asked, ending_seen, is_end, is_spent, bad_at, bad_line}
use Rattle.odu_client.specs.Framing.{StreamState, FramerState, StreamMade, TextStands, Framed, ClientStands, Fills, MayDie}
use Rattle.odu_client.specs.Steps.FramerSteps.{FramedSome, Makes}
use Rattle.odu_client.proofs.GfpTexts.{first_frames, no_idles, all_begun, all_begun_of, longer, text_of_more}
use Rattle.odu_client.proofs.FrameLists.{joined_size}
use Rattle.odu_client.proofs.Framing.{within_packets, makes_none}

told_going : (a : Line) (packets : List (List ℕ)) (p : Packets) → Told a packets p → a ≡ line.Packet → GoesOnWith packets p
told_going line.Packet packets p h e = h
told_going line.End packets p h e = absurd (cc)
told_going (line.Bad n) packets p h e = absurd (cc)
told_going line.Lost packets p h e = absurd (cc)

told_over : (a : Line) (packets : List (List ℕ)) (p : Packets) → Told a packets p → a ≢ line.Packet → p.packets ≡ packets
told_over line.Packet packets p h other = absurd (other refl)
told_over line.End packets p h other = ap (λ q. q.packets) h
told_over (line.Bad n) packets p h other = ap (λ q. q.packets) h.ends
told_over line.Lost packets p h other = ap (λ q. q.packets) h

-- what is known of the whole text's packets, where these packets were read of it and these bytes made of them
record OfWhole (packets all : List (List ℕ)) (payload : List ℕ) (s : StreamState) : Type 0 where
  stream : payload ≡ gfp_text all s.fcs (length payload)
  begun : begun_within (length payload) (stream_frames all s.fcs 0) ≡ length packets
  going : s.answer ≡ line.Packet → length payload ≤ gfp_length all s.fcs
  over : s.answer ≢ line.Packet → all ≡ packets

whole_going : (packets later : List (List ℕ)) (payload : List ℕ) (s : StreamState) → s.answer ≡ line.Packet → StreamMade packets payload s → OfWhole packets (packets ++ later) payload s
whole_going packets later payload s e h =
    let fits = within_packets packets payload s h e in
    let text : payload ++ s.maker.hand ≡ text_of (first_frames packets s.fcs) = h.made.text ∙ ap (λ k. text_of (stream_frames packets s.fcs k)) (h.going e) ∙ ap text_of (no_idles packets s.fcs) in
    record {
      stream = sym (take-append_seam payload s.maker.hand) ∙ ap (take (length payload)) text ∙ sym (text_of_more packets later s.fcs (length payload) fits);
      begun = all_begun_of packets later s.fcs (length payload) fits ∙ all_begun packets s.fcs (length payload) h.begun;
      going = λ _. (let more = longer packets later s.fcs in omega arith);
      over = λ other. absurd (other e);
    }

whole_over : (packets : List (List ℕ)) (payload : List ℕ) (s : StreamState) → s.answer ≢ line.Packet → StreamMade packets payload s → OfWhole packets packets payload s
whole_over packets payload s other h = record {
  stream = given_is_stream packets s.fcs h.idles payload s.maker h.made;
  begun = ap (begun_within (length payload)) (no_idles packets s.fcs) ∙ all_begun packets s.fcs (length payload) h.begun;
  going = λ e. absurd (other e);
  over = λ _. refl;
}

is_packet_answer : (a : Line) → (a ≡ line.Packet) ⊎ (a ≢ line.Packet)
is_packet_answer line.Packet = inl refl
is_packet_answer line.End = inr (λ e. cc)
is_packet_answer (line.Bad n) = inr (λ e. cc)
is_packet_answer line.Lost = inr (λ e. cc)

of_whole : (first now : InView) (read : List ℕ) (packets : List (List ℕ)) (payload : List ℕ) (lines : LinesView) (s : StreamState) (text : List ℕ) → TextStands first now read packets lines s → StreamMade packets payload s
    → MayBe lines read text → OfWhole packets (packets_of text).packets payload s
of_whole first now read packets payload lines s text t h may = elim (is_packet_answer s.answer) [
  | inl e ↦
      let told = told_going lines.answer packets (packets_of text) (t.stands.told text may) (sym t.answer ∙ e) in
      let all : (packets_of text).packets ≡ packets ++ told.later.packets = ap (λ q. q.packets) told.parts in
      let P : List (List ℕ) → Type 0 = λ ps. OfWhole packets ps payload s in subst P (sym all) (whole_going packets told.later.packets payload s e h)
  | inr other ↦
      let all : (packets_of text).packets ≡ packets = told_over lines.answer packets (packets_of text) (t.stands.told text may) (λ e. other (t.answer ∙ e)) in
      let P : List (List ℕ) → Type 0 = λ ps. OfWhole packets ps payload s in subst P (sym all) (whole_over packets payload s other h)
]

-- all bytes that are emitted are the first of the client's stream
pub gone_is_stream : (first now : InView) (read emitted : List ℕ) (lines : LinesView) (f : FramerState) (text : List ℕ) → ClientStands first now read emitted lines f → MayBe lines read text
    → emitted ≡ client_stream f.sapi (packets_of text).packets f.stream.fcs (length emitted)
unfolding client_stream
gone_is_stream first now read emitted lines f text h may =
    let w = of_whole first now read h.packets h.payload lines f.stream text h.text h.framed.stream may in
    let payload : h.payload ≡ gfp_text (packets_of text).packets f.stream.fcs (payload_begun (length emitted)) = w.stream ∙ ap (gfp_text (packets_of text).packets f.stream.fcs) h.framed.size in
    sym (take-append_seam emitted f.left) ∙ ap (take (length emitted)) (h.framed.frames ∙ ap (λ g. concat (client_frames f.sapi (frames_begun (length emitted)) g)) payload)

pub part_is_stream : (first now : InView) (read emitted bytes : List ℕ) (lines : LinesView) (f : FramerState) (text : List ℕ) → ClientStands first now read (emitted ++ bytes) lines f → MayBe lines read text
    → bytes ≡ stream_part f.sapi (packets_of text).packets f.stream.fcs (length emitted) (length bytes)
part_is_stream first now read emitted bytes lines f text h may =
    sym (drop-append_seam emitted bytes)
    ∙ ap (drop (length emitted)) (gone_is_stream first now read (emitted ++ bytes) lines f text h may ∙ ap (client_stream f.sapi (packets_of text).packets f.stream.fcs) (length-append emitted bytes))

-- a framer whose frame in hand was begun
pub stands_from : (first now : InView) (read emitted : List ℕ) (lines : LinesView) (f : FramerState) → length f.left < 15296 → FramedSome first now read emitted lines f → ClientStands first now read emitted lines f
stands_from first now read emitted lines f short h =
    let size : length emitted + length f.left ≡ 15296 * h.count = sym (length-append emitted f.left) ∙ ap length h.framed.frames ∙ joined_size f.sapi h.count h.payload in
    let count : h.count ≡ frames_begun (length emitted) = omega arith in
    record {
      packets = h.packets;
      payload = h.payload;
      text = h.text;
      framed = (let P : ℕ → Type 0 = λ n. Framed h.packets h.payload n emitted f in subst P count h.framed);
    }

pub framed_from : (first now : InView) (read emitted : List ℕ) (lines : LinesView) (f : FramerState) → ClientStands first now read emitted lines f → FramedSome first now read emitted lines f × (length f.left < 15296)
framed_from first now read emitted lines f h =
    let size : length emitted + length f.left ≡ 15296 * frames_begun (length emitted) = sym (length-append emitted f.left) ∙ ap length h.framed.frames ∙ joined_size f.sapi (frames_begun (length emitted)) h.payload in
    (record { packets = h.packets; payload = h.payload; count = frames_begun (length emitted); text = h.text; framed = h.framed }, omega arith)

-- ---- the counts

pub packets_are : (first now : InView) (read emitted : List ℕ) (lines : LinesView) (f : FramerState) (text : List ℕ) → ClientStands first now read emitted lines f → MayBe lines read text
    → f.stream.packets ≡ saturated (packets_begun (packets_of text).packets f.stream.fcs (length emitted))
packets_are first now read emitted lines f text h may =
    let w = of_whole first now read h.packets h.payload lines f.stream text h.text h.framed.stream may in
    h.framed.stream.count ∙ ap saturated (sym w.begun ∙ ap (λ n. begun_within n (stream_frames (packets_of text).packets f.stream.fcs 0)) h.framed.size)

yes_lt : (a b : ℕ) → a < b → nat_lt a b ≡ true
yes_lt a b h = grind (arith, nat_tests)

no_lt : (a b : ℕ) → b ≤ a → nat_lt a b ≡ false
no_lt a b h = grind (arith, nat_tests)

yes_le : (a b : ℕ) → a ≤ b → nat_le a b ≡ true
yes_le a b h = grind (arith, nat_tests)

no_le : (a b : ℕ) → b < a → nat_le a b ≡ false
no_le a b h = grind (arith, nat_tests)

-- how a framer stands to the whole text: how long its packets' frames are, and how many bytes were made
record Counts (f : FramerState) (emitted : List ℕ) (all : List (List ℕ)) : Type 0 where
  size : length emitted + length f.left ≡ 15296 * frames_begun (length emitted)
  going : f.stream.answer ≡ line.Packet → 15232 * frames_begun (length emitted) ≤ gfp_length all f.stream.fcs
  seen : f.stream.answer ≢ line.Packet → gfp_length all f.stream.fcs < 15232 * frames_begun (length emitted)
  fresh : f.stream.answer ≢ line.Packet → f.fresh ≡ true → 15232 * frames_begun (length emitted) ≤ gfp_length all f.stream.fcs + 15232
  late : f.stream.answer ≢ line.Packet → f.fresh ≡ false → gfp_length all f.stream.fcs + 15232 < 15232 * frames_begun (length emitted)

counts_of : (first now : InView) (read emitted : List ℕ) (lines : LinesView) (f : FramerState) (text : List ℕ) → ClientStands first now read emitted lines f → MayBe lines read text → Counts f emitted (packets_of text).packets
counts_of first now read emitted lines f text h may =
    let w = of_whole first now read h.packets h.payload lines f.stream text h.text h.framed.stream may in
    let n = frames_begun (length emitted) in
    record {
      size = sym (length-append emitted f.left) ∙ ap length h.framed.frames ∙ joined_size f.sapi n h.payload;
      going = λ e. (let a = w.going e in let b = h.framed.size in omega arith);
      seen = λ other. (let a = h.framed.stream.seen other in let b = h.framed.size in let c = ap (λ ps. gfp_length ps f.stream.fcs) (w.over other) in omega arith);
      fresh = λ other e. (let a = h.framed.fresh other e in let c = ap (λ ps. gfp_length ps f.stream.fcs) (w.over other) in omega arith);
      late = λ other e. (let a = h.framed.late other e in let c = ap (λ ps. gfp_length ps f.stream.fcs) (w.over other) in omega arith);
    }

-- ---- what was read

asked_going : (a : Line) (n : ℕ) → a ≡ line.Packet → asked_for a n ≡ n
asked_going line.Packet n e = refl
asked_going line.End n e = absurd (cc)
asked_going (line.Bad k) n e = absurd (cc)
asked_going line.Lost n e = absurd (cc)

asked_over : (a : Line) (n : ℕ) → a ≢ line.Packet → asked_for a n ≡ n + 1
asked_over line.Packet n other = absurd (other refl)
asked_over line.End n other = refl
asked_over (line.Bad k) n other = refl
asked_over line.Lost n other = refl

-- as many packets were asked of the lines as the whole input says
asked_are : (first now : InView) (read emitted : List ℕ) (lines : LinesView) (f : FramerState) (text : List ℕ) → (h : ClientStands first now read emitted lines f) → MayBe lines read text
    → asked_for lines.answer (length h.packets) ≡ packets_asked (packets_of text).packets f.stream.fcs (length emitted)
asked_are first now read emitted lines f text h may = by_answer (is_packet_answer f.stream.answer)
  where
    all : List (List ℕ)
    all = (packets_of text).packets

    counts : Counts f emitted all
    counts = counts_of first now read emitted lines f text h may

    begun : length h.packets ≡ packets_begun all f.stream.fcs (length emitted)
    begun = (let w = of_whole first now read h.packets h.payload lines f.stream text h.text h.framed.stream may in sym w.begun ∙ ap (λ n. begun_within n (stream_frames all f.stream.fcs 0)) h.framed.size)

    none_more : (n : ℕ) → n ≡ n + 0
    none_more n = omega arith

    by_answer : (f.stream.answer ≡ line.Packet) ⊎ (f.stream.answer ≢ line.Packet) → asked_for lines.answer (length h.packets) ≡ packets_asked all f.stream.fcs (length emitted)
    by_answer (inl e) =
        let unseen : ending_seen all f.stream.fcs (length emitted) ≡ false = no_lt (gfp_length all f.stream.fcs) (15232 * frames_begun (length emitted)) (counts.going e) in
        asked_going lines.answer (length h.packets) (sym h.text.answer ∙ e) ∙ begun ∙ none_more (packets_begun all f.stream.fcs (length emitted))
        ∙ ap (λ t. packets_begun all f.stream.fcs (length emitted) + (if t then 1 else 0)) (sym unseen)
    by_answer (inr other) =
        let seen : ending_seen all f.stream.fcs (length emitted) ≡ true = yes_lt (gfp_length all f.stream.fcs) (15232 * frames_begun (length emitted)) (counts.seen other) in
        asked_over lines.answer (length h.packets) (λ e. other (h.text.answer ∙ e)) ∙ ap (λ n. n + 1) begun
        ∙ ap (λ t. packets_begun all f.stream.fcs (length emitted) + (if t then 1 else 0)) (sym seen)

pub read_as_asked : (first now : InView) (read emitted : List ℕ) (lines : LinesView) (f : FramerState) (text : List ℕ) → ClientStands first now read emitted lines f → MayBe lines read text
    → ReadAsNeeded (read_short lines.ended lines.answer) (packets_asked (packets_of text).packets f.stream.fcs (length emitted)) read
read_as_asked first now read emitted lines f text h may =
    subst (λ n. ReadAsNeeded (read_short lines.ended lines.answer) n read) (asked_are first now read emitted lines f text h may) h.text.stands.needed

-- ---- the frame in which the end is seen

and_false : (b : Bool) → (b && false) ≡ false
and_false true = refl
and_false false = refl

-- the frame in which the end is seen is not emitted while the lines go on
early : (all : List (List ℕ)) (f : FramerState) (emitted : List ℕ) → Counts f emitted all → f.stream.answer ≡ line.Packet → length emitted < 15296 * (gfp_length all f.stream.fcs / 15232 + 1)
early all f emitted h e = let a = h.going e in let b = h.size in omega arith

in_time : (all : List (List ℕ)) (f : FramerState) (emitted : List ℕ) → Counts f emitted all → f.stream.answer ≢ line.Packet → (f.fresh ≡ false) ⊎ (f.left ≡ []) → 15296 * (gfp_length all f.stream.fcs / 15232 + 1) ≤ length emitted
in_time all f emitted h other (inl e) = let a = h.late other e in let b = h.size in omega arith
in_time all f emitted h other (inr e) = let a = h.seen other in let b = h.size in let c = ap length e in omega arith

too_early : (all : List (List ℕ)) (f : FramerState) (emitted : List ℕ) → Counts f emitted all → f.stream.answer ≢ line.Packet → f.fresh ≡ true → 1 ≤ length f.left → length emitted < 15296 * (gfp_length all f.stream.fcs / 15232 + 1)
too_early all f emitted h other e some = let a = h.fresh other e in let b = h.size in omega arith

told_end : (a : Line) (packets : List (List ℕ)) (p : Packets) → Told a packets p → a ≡ line.End → p.ending ≡ Ended
told_end line.Packet packets p h e = absurd (cc)
told_end line.End packets p h e = ap (λ q. q.ending) h
told_end (line.Bad n) packets p h e = absurd (cc)
told_end line.Lost packets p h e = absurd (cc)

told_lost : (a : Line) (packets : List (List ℕ)) (p : Packets) → Told a packets p → a ≡ line.Lost → p.ending ≡ Ended
told_lost line.Packet packets p h e = absurd (cc)
told_lost line.End packets p h e = absurd (cc)
told_lost (line.Bad n) packets p h e = absurd (cc)
told_lost line.Lost packets p h e = ap (λ q. q.ending) h

told_bad : (a : Line) (packets : List (List ℕ)) (p : Packets) (n : ℕ) → Told a packets p → a ≡ line.Bad n → HasBad packets n p
told_bad line.Packet packets p n h e = absurd (cc)
told_bad line.End packets p n h e = absurd (cc)
told_bad (line.Bad k) packets p n h e = let same : k ≡ n = cc in subst (λ m. HasBad packets m p) same h
told_bad line.Lost packets p n h e = absurd (cc)

-- a client is not spent while the lines go on, after a bad line, or where its place died
pub not_spent : (first now : InView) (read emitted : List ℕ) (lines : LinesView) (f : FramerState) (died : Bool) (text : List ℕ) → f.stream.answer ≢ line.End → ClientStands first now read emitted lines f
    → MayBe lines read text → MayDie lines.answer died → false ≡ is_spent (input_of died text) f.stream.fcs (length emitted)
not_spent first now read emitted lines f died text other h may die = sym (by_answer lines.answer refl)
  where
    told : Told lines.answer h.packets (packets_of text)
    told = h.text.stands.told text may

    late : Bool
    late = nat_le (15296 * (gfp_length (packets_of text).packets f.stream.fcs / 15232 + 1)) (length emitted)

    by_answer : (a : Line) → lines.answer ≡ a → (is_end (input_ending died (packets_of text).ending) && late) ≡ false
    by_answer line.Packet e =
        ap (λ b. is_end (input_ending died (packets_of text).ending) && b)
        (no_le _ (length emitted) (early (packets_of text).packets f emitted (counts_of first now read emitted lines f text h may) (h.text.answer ∙ e)))
        ∙ and_false (is_end (input_ending died (packets_of text).ending))
    by_answer line.End e = absurd (other (h.text.answer ∙ e))
    by_answer (line.Bad n) e = ap (λ t. is_end (input_ending died t) && late) (ap (λ q. q.ending) (told_bad lines.answer h.packets (packets_of text) n told e).ends)
    by_answer line.Lost e =
        ap (λ t. is_end (input_ending died t) && late) (told_lost lines.answer h.packets (packets_of text) told e) ∙ ap (λ d. is_end (input_ending d Ended) && late) (die.lost e)

-- where the text has ended, it is spent where the frame in which that was seen is emitted
pub spent_end : (first now : InView) (read emitted : List ℕ) (lines : LinesView) (f : FramerState) (died : Bool) (text : List ℕ) (result : Bool) → f.stream.answer ≡ line.End
    → (result ≡ true → (f.fresh ≡ false) ⊎ (f.left ≡ [])) → (result ≡ false → (f.fresh ≡ true) × (1 ≤ length f.left)) → ClientStands first now read emitted lines f
    → MayBe lines read text → MayDie lines.answer died → result ≡ is_spent (input_of died text) f.stream.fcs (length emitted)
spent_end first now read emitted lines f died text result end is_emitted is_left h may die = by_result result refl ∙ sym (ended)
  where
    answer : lines.answer ≡ line.End
    answer = sym h.text.answer ∙ end

    other : f.stream.answer ≢ line.Packet
    other e = (let g = sym end ∙ e in cc)

    counts : Counts f emitted (packets_of text).packets
    counts = counts_of first now read emitted lines f text h may

    limit : ℕ
    limit = 15296 * (gfp_length (packets_of text).packets f.stream.fcs / 15232 + 1)

    ended : is_spent (input_of died text) f.stream.fcs (length emitted) ≡ nat_le limit (length emitted)
    ended =
        ap (λ t. is_end (input_ending died t) && nat_le limit (length emitted)) (told_end lines.answer h.packets (packets_of text) (h.text.stands.told text may) answer)
        ∙ ap (λ d. is_end (input_ending d Ended) && nat_le limit (length emitted)) (die.ended answer)

    by_result : (r : Bool) → result ≡ r → r ≡ nat_le limit (length emitted)
    by_result true e = sym (yes_le limit (length emitted) (in_time (packets_of text).packets f emitted counts other (is_emitted e)))
    by_result false e = sym (no_le limit (length emitted) (too_early (packets_of text).packets f emitted counts other (is_left e).0 (is_left e).1))

-- the bad line, once it is seen
pub bad_is : (first now : InView) (read emitted : List ℕ) (lines : LinesView) (f : FramerState) (died : Bool) (text : List ℕ) (number : ℕ) → f.stream.answer ≡ line.Bad number → ClientStands first now read emitted lines f
    → MayBe lines read text → Some number ≡ option_map saturated (bad_line (input_of died text) f.stream.fcs (length emitted))
bad_is first now read emitted lines f died text number bad h may =
    let told = told_bad lines.answer h.packets (packets_of text) number (h.text.stands.told text may) (sym h.text.answer ∙ bad) in
    let counts = counts_of first now read emitted lines f text h may in
    let seen = yes_lt (gfp_length (packets_of text).packets f.stream.fcs) (payload_begun (length emitted)) (counts.seen (λ e. (let g = sym bad ∙ e in cc))) in
    sym (ap (λ (b : Bool). option_map saturated (if b then bad_at (input_ending died (packets_of text).ending) else None)) seen
    ∙ ap (λ t. option_map saturated (bad_at (input_ending died t))) (ap (λ q. q.ending) told.ends)
    ∙ ap Some (sym told.counted))

none_bad : (died : Bool) → bad_at (input_ending died Ended) ≡ None
none_bad true = refl
none_bad false = refl

not_bad : (b : Bool) (died : Bool) → option_map saturated (if b then bad_at (input_ending died Ended) else None) ≡ None
not_bad true died = ap (option_map saturated) (none_bad died)
not_bad false died = refl

pub no_bad : (first now : InView) (read emitted : List ℕ) (lines : LinesView) (f : FramerState) (died : Bool) (text : List ℕ) → ((n : ℕ) → f.stream.answer ≢ line.Bad n) → ClientStands first now read emitted lines f
    → MayBe lines read text → None ≡ option_map saturated (bad_line (input_of died text) f.stream.fcs (length emitted))
no_bad first now read emitted lines f died text other h may = sym (by_answer lines.answer refl)
  where
    told : Told lines.answer h.packets (packets_of text)
    told = h.text.stands.told text may

    seen : Bool
    seen = nat_lt (gfp_length (packets_of text).packets f.stream.fcs) (payload_begun (length emitted))

    by_answer : (a : Line) → lines.answer ≡ a → option_map saturated (if seen then bad_at (input_ending died (packets_of text).ending) else None) ≡ None
    by_answer line.Packet e =
        let counts = counts_of first now read emitted lines f text h may in
        ap (λ (b : Bool). option_map saturated (if b then bad_at (input_ending died (packets_of text).ending) else None)) (no_lt (gfp_length (packets_of text).packets f.stream.fcs) (payload_begun (length emitted)) (counts.going (h.text.answer ∙ e)))
    by_answer line.End e = ap (λ t. option_map saturated (if seen then bad_at (input_ending died t) else None)) (told_end lines.answer h.packets (packets_of text) told e) ∙ not_bad seen died
    by_answer (line.Bad n) e = absurd (other n (h.text.answer ∙ e))
    by_answer line.Lost e = ap (λ t. option_map saturated (if seen then bad_at (input_ending died t) else None)) (told_lost lines.answer h.packets (packets_of text) told e) ∙ not_bad seen died

-- ---- a whole call

pub makes_start : (first now : InView) (read emitted : List ℕ) (lines : LinesView) (f : FramerState) → ClientStands first now read emitted lines f → Makes first now read (emitted ++ []) lines lines f f
makes_start first now read emitted lines f h =
    let P : List ℕ → Type 0 = λ g. Makes first now read g lines lines f f in
    subst P (sym (append-nil emitted)) (makes_none first now read emitted lines f (framed_from first now read emitted lines f h).0)

pub fills_from : (first now : InView) (read emitted bytes : List ℕ) (a c : LinesView) (was is : FramerState) → length is.left < 15296 → Makes first now read (emitted ++ bytes) a c was is → Fills first now read emitted bytes a c was is
fills_from first now read emitted bytes a c was is short m =
    let stands = stands_from first now (read ++ m.further) (emitted ++ bytes) c is short m.stands in
    record {
      further = m.further;
      stands = stands;
      earlier = m.earlier;
      emitted = λ text may. part_is_stream first now (read ++ m.further) emitted bytes c is text stands may
          ∙ ap (λ s. stream_part s (packets_of text).packets is.stream.fcs (length emitted) (length bytes)) m.sapi
          ∙ ap (λ b. stream_part was.sapi (packets_of text).packets b (length emitted) (length bytes)) m.fcs;
      sapi = m.sapi;
      fcs = m.fcs;
    }
