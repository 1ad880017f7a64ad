-- Believed: where the lines of a place stand.
use Rattle.std.specs.Prelude.{◌≡◌, ◌≢◌, ◌<◌, ◌≤◌, ◌%◌, ◌+◌, ◌⊎◌, if◌then◌else◌, ℕ, Bool, true, false, List, [], ◌∷◌, ◌++◌, length, take}
use Rattle.otn_base.specs.Counts.{saturated}
use Rattle.port_base.specs.Views.{InView, Live, Dead}
use Rattle.port_base.specs.Given.{Gave}
use Rattle.port_base.specs.Reads.{HasEnded}
use Rattle.packet_text.specs.TextLines.{lines_of, full_lines, text_of_dead}
use Rattle.packet_text.specs.PacketText.{Packets, Ended, BadAt, behind, packets_behind, packets_of, shows_bad, empty_lines}
use Rattle.packet_text.specs.Cutting.{cut_view}
use Rattle.packet_text.specs.declared.line.Line.{Line}
use Rattle.packet_text.specs.declared.line.Line.TheVariants.{Packet, End, Bad, Lost}
use Rattle.packet_text.specs.declared.packet_lines.PacketLines.{PacketLines}

-- what is seen of the lines of a place: the bytes that were read and not used, whether the end was seen, the last
-- answer and its packet, how many lines there were, and how many empty ones in a row at the end of them
pub record LinesView : Type 0 where
  pub hand : List ℕ
  pub ended : Bool
  pub answer : Line
  pub packet : List ℕ
  pub number : ℕ
  pub empty : ℕ

-- the lines of a place as they are seen
abbrev pub lines_view : PacketLines → LinesView
lines_view p = record {
  hand = (cut_view p.cutter).hand;
  ended = p.cutter.ended;
  answer = p.answer;
  packet = take p.len p.packet.items;
  number = p.number;
  empty = p.empty;
}

-- a text that begins with these bytes
pub record Begins (bytes text : List ℕ) : Type 0 where
  pub rest : List ℕ
  pub parts : text ≡ bytes ++ rest

-- The texts that a place may turn out to have, of which these bytes were taken: once the end was seen, these bytes;
-- while nothing is decided, any text that begins with their whole lines; behind a bad line anything; and of a place
-- that died, what is left of it.
abbrev pub may_be : Bool → Line → List ℕ → List ℕ → Type 0
may_be true answer read text = text ≡ read
may_be false Packet read text = Begins (full_lines read) text
may_be false (Bad n) read text = Begins read text
may_be false End read text = text ≡ read
may_be false Lost read text = text ≡ text_of_dead read

-- the same by what is seen of the lines
abbrev pub MayBe : LinesView → List ℕ → List ℕ → Type 0
MayBe view read text = may_be view.ended view.answer read text

-- these packets are the first of a text's
pub record GoesOnWith (packets : List (List ℕ)) (text : Packets) : Type 0 where
  pub later : Packets
  pub parts : text ≡ behind packets later

-- the text ends behind these packets with a bad line, whose number is this one as far as it counts
pub record HasBad (packets : List (List ℕ)) (number : ℕ) (text : Packets) : Type 0 where
  pub line : ℕ
  pub counted : number ≡ saturated line
  pub ends : text ≡ record { packets = packets; ending = BadAt line }

-- what an answer says of the packets of a text, when these were given
abbrev pub Told : Line → List (List ℕ) → Packets → Type 0
Told Packet packets text = GoesOnWith packets text
Told End packets text = text ≡ record { packets = packets; ending = Ended }
Told (Bad n) packets text = HasBad packets n text
Told Lost packets text = text ≡ record { packets = packets; ending = Ended }

-- The lines so far, which gave these packets, are used; the rest of what was taken is in hand.
pub record GoesOn (read : List ℕ) (packets : List (List ℕ)) (view : LinesView) : Type 0 where
  pub lines : List (List ℕ)
  pub used : List ℕ
  pub parts : read ≡ used ++ view.hand
  pub split : view.ended ≡ false → (rest : List ℕ) → lines_of (used ++ rest) ≡ lines ++ lines_of rest
  pub full : view.ended ≡ false → (rest : List ℕ) → full_lines (used ++ rest) ≡ used ++ full_lines rest
  pub over : view.ended ≡ true → lines_of read ≡ lines ++ lines_of view.hand
  pub sound : (later : List (List ℕ)) → packets_behind [] (lines ++ later) ≡ behind packets (packets_behind lines later)
  pub number : view.number ≡ saturated (length lines)
  pub empty : view.empty ≡ empty_lines lines
  pub blocks : view.ended ≡ false → length read % 4096 ≡ 0

-- whether the last read came short, at the place's end or its death
abbrev pub read_short : Bool → Line → Bool
read_short ended Packet = ended
read_short ended End = ended
read_short ended (Bad n) = ended
read_short ended Lost = true

-- how many packets were asked for, when these were given: once there is no more packet, one more
abbrev pub asked_for : Line → (packets : ℕ) → ℕ
asked_for Packet packets = packets
asked_for End packets = packets + 1
asked_for (Bad n) packets = packets + 1
asked_for Lost packets = packets + 1

-- How these bytes were read, when so many packets were asked for: by blocks of 4,096 bytes, but for a last read that
-- came short. The last read was needed: what was taken before it shows no bad line, and its whole lines have fewer
-- packets.
pub record ReadAsNeeded (short : Bool) (asked : ℕ) (read : List ℕ) : Type 0 where
  pub before : List ℕ
  pub last : List ℕ
  pub parts : read ≡ before ++ last
  pub blocks : length before % 4096 ≡ 0
  pub most : length last ≤ 4096
  pub whole : short ≡ false → length last % 4096 ≡ 0
  pub part : short ≡ true → length last < 4096
  pub needed : shows_bad before ≡ false
  pub fewer : (read ≡ []) ⊎ (length (packets_of (full_lines before)).packets < asked)

-- `first` and `now` are views of a place, between which these bytes were taken, and these packets given: whatever text
-- it may turn out to have, they are its first packets, and the last answer is right. Before the end is seen no line is
-- found bad but where the bytes that were taken show it, and then nothing more is read. While packets come less than a
-- block is in hand. Where the end was not seen, the place has answered none: so nothing is asked of it behind its end.
pub record LinesStand (first now : InView) (read : List ℕ) (packets : List (List ℕ)) (view : LinesView) : Type 0 where
  pub gave : Gave first read now
  pub over : view.ended ≡ true → now.state ≡ Live → HasEnded now.left now.ended
  pub unended : view.ended ≡ false → now.ended ≡ first.ended
  pub alive : view.answer ≢ Lost → now.state ≡ first.state
  pub ended : view.answer ≡ End → view.ended ≡ true
  pub lost : view.answer ≡ Lost → (view.ended ≡ false) × (now.state ≡ Dead) × (first.state ≡ Live)
  pub goes : view.answer ≡ Packet → GoesOn read packets view
  pub told : (text : List ℕ) → MayBe view read text → Told view.answer packets (packets_of text)
  pub shown : (n : ℕ) → view.answer ≡ Bad n → view.ended ≡ false → shows_bad read ≡ true
  pub needed : ReadAsNeeded (read_short view.ended view.answer) (asked_for view.answer (length packets)) read
  pub near : view.answer ≡ Packet → length view.hand < 4096

-- what the lines of a place are before anything was read
abbrev pub fresh_lines : LinesView
fresh_lines = record { hand = []; ended = false; answer = Packet; packet = []; number = 0; empty = 0 }

-- a last answer Packet has one packet more
abbrev pub given_by : Line → List ℕ → List (List ℕ)
given_by Packet packet = packet ∷ []
given_by End packet = []
given_by (Bad n) packet = []
given_by Lost packet = []

-- whether an answer is Packet
abbrev pub is_packet : Line → Bool
is_packet Packet = true
is_packet End = false
is_packet (Bad n) = false
is_packet Lost = false

-- after an answer: more bytes were taken, there is a packet more where it is Packet, and a text that the place may have
-- from then on it might have before
pub record TakeStands (first : InView) (read : List ℕ) (packets : List (List ℕ)) (old new : LinesView)
    (now : InView) : Type 0 where
  pub further : List ℕ
  pub stands : LinesStand first now (read ++ further)
      (packets ++ (if is_packet old.answer then given_by new.answer new.packet else [])) new
  pub earlier : (text : List ℕ) → MayBe new (read ++ further) text → MayBe old read text
