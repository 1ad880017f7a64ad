-- The moves of the parts of a pipe.
use Rattle.std.proofs.Common.{◌≡◌, ◌≢◌, ◌+◌, ◌-◌, ◌∙◌, ℕ, suc, Bool, false, List, [], ◌∷◌, ◌++◌, length, take, drop, slice_range, Option, arith, refl, sym, ap, subst, length-append}
use Rattle.std.specs.Prelude.{option_map}
use Rattle.maintenance_signals.specs.Emitted.{StreamPlace, HasEmitted}
use Rattle.maintenance_signals.specs.declared.signal.Signal.{Signal}
use Rattle.odu_client.specs.ClientFrames.{stream_part}
use Rattle.odu_client.specs.ClientInput.{ClientInput, input_of, input_emits, emitted_before, pace_of, packets_begun, is_spent, bad_line}
use Rattle.odu_client.specs.Framing.{FramerState, ClientStands, Fills, MayDie}
use Rattle.odu_client.specs.FramerSteps.{fresh_framer}
use Rattle.port_base.specs.Views.{InView}
use Rattle.port_base.proofs.Lists.{take_all}
use Rattle.packet_text.specs.LinesStand.{LinesView, lines_view, fresh_lines, MayBe}
use Rattle.otn_base.specs.Counts.{saturated}
use Rattle.packet_text.specs.PacketText.{packets_of}
use Rattle.packet_text.specs.declared.line.Line.{Line}
use Rattle.packet_text.specs.declared.line.Line.TheVariants as line
use Rattle.packet_text.specs.declared.packet_lines.PacketLines.{PacketLines}
use Rattle.plan_file.specs.declared.connection.Connection.{Connection}
use Rattle.plan_file.specs.declared.connection.FromEnd.{FromEnd}
use Rattle.plan_file.specs.declared.connection.FromEnd.TheVariants as from_end
use Rattle.plan_file.specs.declared.connection.ToEnd.{ToEnd}
use Rattle.plan_file.specs.declared.connection.ToEnd.TheVariants as to_end
use Rattle.otn_base.specs.Bursts.{BurstView}
use Rattle.otn_base.specs.LineSlots.{LineSlots}
use Rattle.trib_sink.specs.Sink.{Sink, StandsAfter as SinkStands, ended_view}
use Rattle.trib_source.specs.Source.{Source, StandsAfter as SourceStands}
use Rattle.tributary_model.specs.Carries.{past_of}
use Rattle.tributary_model.specs.Places.{Tributary, Taken, View, tributary_of}
use Rattle.device_model.specs.Entries.{first_turn}
use Rattle.device_model.specs.Through.{OwnInput, of_line, of_client, of_signal, got_by}
use Rattle.cross_matrix.specs.Parts.{TakesFrom, GivesTo, TakingStands, GivingStands, IsInputOf, TextStands, MayShow, MayTell}
use Rattle.cross_matrix.specs.Steps.Parts.{TextTook}
use Rattle.cross_matrix.specs.declared.taking.ClientText.{ClientText}
use Rattle.cross_matrix.specs.declared.taking.TakingPart.{TakingPart}
use Rattle.cross_matrix.specs.declared.taking.TakingPart.TheVariants as taking
use Rattle.cross_matrix.specs.declared.giving.GivingPart.TheVariants as giving

-- ---- from a buffer

-- the front of a buffer, which the burst then has
pub front_of : (count len : ℕ) (all items : List ℕ) (burst : BurstView) (r : ℕ) → burst ≡ record { bytes = slice_range (take len (all ++ drop (length all) items)) 0 count; room = r }
    → length all ≡ len → burst.bytes ≡ take count all
front_of count len all items burst r is whole =
    let from_0 : count - 0 ≡ count = omega arith in
    let front : take (count - 0) all ≡ take count all = rw from_0 refl in
    ap (λ (b : BurstView). b.bytes) is ∙ ap (λ (bytes : List ℕ). slice_range bytes 0 count) (take_all len all (drop (length all) items) whole) ∙ front

-- ---- from a line

pub line_took : (from : FromEnd) (x : Connection) (input : OwnInput) (j : ℕ) (frames more : List Taken) (old new : Sink)
    → ((own : Tributary) (past : List (Option View)) → SinkStands own past frames old → SinkStands own past more new)
    → TakingStands from x input j frames false (taking.Line old) → TakingStands from x input j more false (taking.Line new)
line_took (from_end.Line a port slots) x (of_line shows) j frames more old new step h = step (tributary_of slots port) (past_of shows (first_turn x) j) h
line_took (from_end.Line a port slots) x (of_client input) j frames more old new step h = absurd h
line_took (from_end.Line a port slots) x of_signal j frames more old new step h = absurd h
line_took (from_end.Client n) x (of_line shows) j frames more old new step h = absurd h
line_took (from_end.Client n) x (of_client input) j frames more old new step h = absurd h
line_took (from_end.Client n) x of_signal j frames more old new step h = absurd h
line_took (from_end.Signal signal) x (of_line shows) j frames more old new step h = absurd h
line_took (from_end.Signal signal) x (of_client input) j frames more old new step h = absurd h
line_took (from_end.Signal signal) x of_signal j frames more old new step h = absurd h

pub line_from : (from : FromEnd) (x : Connection) (old new : Sink) → new.slots ≡ old.slots → new.port ≡ old.port → TakesFrom from x (taking.Line old) → TakesFrom from x (taking.Line new)
line_from (from_end.Line a port slots) x old new slots_is port_is h = (slots_is ∙ h.0, port_is ∙ h.1)
line_from (from_end.Client n) x old new slots_is port_is h = absurd h
line_from (from_end.Signal signal) x old new slots_is port_is h = absurd h

pub line_ended : (a port : ℕ) (slots : LineSlots) (x : Connection) (shows : ℕ → Option View) (j : ℕ) (whole : Bool) (frames : List Taken) (old new : Sink)
    → ((own : Tributary) (past : List (Option View)) (frames : List Taken) → SinkStands own past frames old → SinkStands own (ended_view own whole frames ∷ past) [] new)
    → TakingStands (from_end.Line a port slots) x (of_line shows) j frames false (taking.Line old) → ended_view (tributary_of slots port) whole frames ≡ shows (first_turn x + j)
    → SinkStands (tributary_of slots port) (shows (first_turn x + j) ∷ past_of shows (first_turn x) j) [] new
line_ended a port slots x shows j whole frames old new step h e =
    subst (λ view. SinkStands (tributary_of slots port) (view ∷ past_of shows (first_turn x) j) [] new) e (step (tributary_of slots port) (past_of shows (first_turn x) j) frames h)

-- ---- from a signal

-- what holds of the end and the input of a signal whose stream stands so, holds wherever its part stands
pub on_signal : (P : FromEnd → OwnInput → Type 0) (from : FromEnd) (x : Connection) (input : OwnInput) (j : ℕ) (frames : List Taken) (ended : Bool) (old : StreamPlace)
    → ((signal : Signal) → HasEmitted signal (emitted_before x.pace j) old → P (from_end.Signal signal) of_signal) → TakingStands from x input j frames ended (taking.Signal old) → P from input
on_signal P (from_end.Line a port slots) x (of_line shows) j frames ended old holds h = absurd h
on_signal P (from_end.Line a port slots) x (of_client input) j frames ended old holds h = absurd h
on_signal P (from_end.Line a port slots) x of_signal j frames ended old holds h = absurd h
on_signal P (from_end.Client n) x (of_line shows) j frames ended old holds h = absurd h
on_signal P (from_end.Client n) x (of_client input) j frames ended old holds h = absurd h
on_signal P (from_end.Client n) x of_signal j frames ended old holds h = absurd h
on_signal P (from_end.Signal signal) x (of_line shows) j frames ended old holds h = absurd h
on_signal P (from_end.Signal signal) x (of_client input) j frames ended old holds h = absurd h
on_signal P (from_end.Signal signal) x of_signal j frames ended old holds h = holds signal h

pub signal_from : (from : FromEnd) (x : Connection) (count : ℕ) (old new : StreamPlace) → ((signal : Signal) (emitted : ℕ) → HasEmitted signal emitted old → HasEmitted signal (emitted + count) new)
    → TakesFrom from x (taking.Signal old) → TakesFrom from x (taking.Signal new)
signal_from (from_end.Line a port slots) x count old new step h = absurd h
signal_from (from_end.Client n) x count old new step h = absurd h
signal_from (from_end.Signal signal) x count old new step h = (h.0 + count, step signal h.0 h.1)

pub signal_restarted : (from : FromEnd) (x : Connection) (input : OwnInput) (old new : StreamPlace) → ((signal : Signal) (emitted : ℕ) → HasEmitted signal emitted old → HasEmitted signal 0 new)
    → TakesFrom from x (taking.Signal old) → IsInputOf from input → TakingStands from x input 0 [] false (taking.Signal new)
unfolding emitted_before
signal_restarted (from_end.Line a port slots) x input old new step h of = absurd h
signal_restarted (from_end.Client n) x input old new step h of = absurd h
signal_restarted (from_end.Signal signal) x (of_line shows) old new step h of = absurd of
signal_restarted (from_end.Signal signal) x (of_client input) old new step h of = absurd of
signal_restarted (from_end.Signal signal) x of_signal old new step h of = step signal h.0 h.1

-- ---- from a client

pub text_restarted : (x : Connection) (first : InView) (trace : List ℕ) (fcs : Bool) (lines : PacketLines) (framer : FramerState) → trace ≡ x.trace → fcs ≡ x.fcs
    → lines_view lines ≡ fresh_lines → framer ≡ fresh_framer trace fcs → ClientStands first first [] [] fresh_lines framer
    → TextStands x first first [] 0 (record { framer = framer; lines = lines; trace = trace; fcs = fcs })
unfolding emitted_before
text_restarted x first trace fcs lines framer trace_is fcs_is fresh framed stands = record {
  emitted = [];
  count = refl;
  stands = subst (λ view. ClientStands first first [] [] view framer) (sym fresh) stands;
  sapi = ap (λ (f : FramerState). f.sapi) framed ∙ trace_is;
  fcs = ap (λ (f : FramerState). f.stream.fcs) framed ∙ fcs_is;
}

-- what a place may turn out to be once more was read, it might be before
may_die : (old new : LinesView) (answer : Line) (died : Bool) → answer ≡ old.answer → (answer ≢ line.Packet → new ≡ old) → MayDie new.answer died → MayDie old.answer died
may_die old new answer died same over h = record {
  ended = λ e. h.ended (ap (λ (l : LinesView). l.answer) (over (λ p. cc)) ∙ e);
  lost = λ e. h.lost (ap (λ (l : LinesView). l.answer) (over (λ p. cc)) ∙ e);
}

same_part : (s s' : List ℕ) (p p' : List (List ℕ)) (b b' : Bool) (from from' n n' : ℕ) → s ≡ s' → p ≡ p' → b ≡ b' → from ≡ from' → n ≡ n' → stream_part s p b from n ≡ stream_part s' p' b' from' n'
same_part s s' p p' b b' from from' n n' h1 h2 h3 h4 h5 =
    ap (λ a. stream_part a p b from n) h1 ∙ ap (λ a. stream_part s' a b from n) h2 ∙ ap (λ a. stream_part s' p' a from n) h3 ∙ ap (λ a. stream_part s' p' b' a n) h4 ∙ ap (stream_part s' p' b' from') h5

pub emits_part : (x : Connection) (input : ClientInput) (n : ℕ) → stream_part x.trace input.packets x.fcs (emitted_before x.pace n) (pace_of x.pace n) ≡ input_emits x.trace x.fcs x.pace input n
unfolding input_emits
emits_part x input n = refl

pub emitted_next : (paces : List ℕ) (n : ℕ) → emitted_before paces (suc n) ≡ emitted_before paces n + pace_of paces n
unfolding emitted_before
emitted_next paces n = refl

-- a client's text, as its part is kept
abbrev text_part : (framer : FramerState) (lines : PacketLines) (old : ClientText) → TakingPart
text_part framer lines old = taking.Client (record { framer = framer; lines = lines; trace = old.trace; fcs = old.fcs })

pub text_took : (x : Connection) (first was now : InView) (read : List ℕ) (n count : ℕ) (old : ClientText) (lines : PacketLines) (framer : FramerState) (bytes : List ℕ)
    → count ≡ pace_of x.pace n → length bytes ≡ count → (old.framer.stream.answer ≢ line.Packet → lines ≡ old.lines)
    → ((read emitted : List ℕ) → ClientStands first was read emitted (lines_view old.lines) old.framer → Fills first now read emitted bytes (lines_view old.lines) (lines_view lines) old.framer framer)
    → TextStands x first was read n old
    → TextTook x first now read n (taking.Client old) (text_part framer lines old) bytes
text_took x first was now read n count old lines framer bytes pace size over fills h =
    let f = fills read h.emitted h.stands in
    record {
      more = f.further;
      stands = record {
        emitted = h.emitted ++ bytes;
        count = length-append h.emitted bytes ∙ ap (λ k. k + length bytes) h.count ∙ ap (λ k. emitted_before x.pace n + k) (size ∙ pace) ∙ sym (emitted_next x.pace n);
        stands = f.stands;
        sapi = f.sapi ∙ h.sapi;
        fcs = f.fcs ∙ h.fcs;
      };
      earlier = earlier f.further f.earlier;
      emitted = λ input m. f.emitted m.text m.may
          ∙ same_part old.framer.sapi x.trace (packets_of m.text).packets input.packets old.framer.stream.fcs x.fcs (length h.emitted) (emitted_before x.pace n) (length bytes) (pace_of x.pace n)
          h.sapi (ap (λ (i : ClientInput). i.packets) (sym m.is)) h.fcs h.count (size ∙ pace)
          ∙ emits_part x input n;
    }
  where
    earlier : (more : List ℕ) → ((text : List ℕ) → MayBe (lines_view lines) (read ++ more) text → MayBe (lines_view old.lines) read text) → (input : OwnInput)
        → MayShow (text_part framer lines old) (read ++ more) input → MayShow (taking.Client old) read input
    earlier more before (of_line shows) m = absurd m
    earlier more before (of_client input) m = record {
      died = m.died;
      text = m.text;
      may = before m.text m.may;
      die = may_die (lines_view old.lines) (lines_view lines) old.framer.stream.answer m.died h.stands.text.answer (λ other. ap lines_view (over other)) m.die;
      is = m.is;
    }
    earlier more before of_signal m = absurd m

pub text_counted : (x : Connection) (first now : InView) (read : List ℕ) (n : ℕ) (input : ClientInput) (client : ClientText) (packets : ℕ) (spent : Bool) (bad : Option ℕ)
    → ((emitted text : List ℕ) → ClientStands first now read emitted (lines_view client.lines) client.framer → MayBe (lines_view client.lines) read text
    → packets ≡ saturated (packets_begun (packets_of text).packets client.framer.stream.fcs (length emitted)))
    → ((emitted : List ℕ) (died : Bool) (text : List ℕ) → ClientStands first now read emitted (lines_view client.lines) client.framer → MayBe (lines_view client.lines) read text
    → MayDie (lines_view client.lines).answer died → spent ≡ is_spent (input_of died text) client.framer.stream.fcs (length emitted))
    → ((emitted : List ℕ) (died : Bool) (text : List ℕ) → ClientStands first now read emitted (lines_view client.lines) client.framer → MayBe (lines_view client.lines) read text
    → MayDie (lines_view client.lines).answer died → bad ≡ option_map saturated (bad_line (input_of died text) client.framer.stream.fcs (length emitted)))
    → TextStands x first now read n client → MayTell (lines_view client.lines) read input
    → ◌≡◌ {A = ℕ × Bool × Option ℕ} (packets, spent, bad)
    (saturated (packets_begun input.packets x.fcs (emitted_before x.pace n)), is_spent input x.fcs (emitted_before x.pace n), option_map saturated (bad_line input x.fcs (emitted_before x.pace n)))
text_counted x first now read n input client packets spent bad p s b h m =
    let fcs = client.framer.stream.fcs in
    let emitted = length h.emitted in
    let i = input_of m.died m.text in
    pair (p h.emitted m.text h.stands m.may) (s h.emitted m.died m.text h.stands m.may m.die) (b h.emitted m.died m.text h.stands m.may m.die)
    ∙ ap (λ f. all i f emitted) h.fcs ∙ ap (all i x.fcs) h.count ∙ ap (λ j. all j x.fcs (emitted_before x.pace n)) (sym m.is)
  where
    all : ClientInput → Bool → ℕ → ℕ × Bool × Option ℕ
    all j f k = (saturated (packets_begun j.packets f k), is_spent j f k, option_map saturated (bad_line j f k))

    pair : {p' : ℕ} {s' : Bool} {b' : Option ℕ} → packets ≡ p' → spent ≡ s' → bad ≡ b' → ◌≡◌ {A = ℕ × Bool × Option ℕ} (packets, spent, bad) (p', s', b')
    pair e1 e2 e3 = cc

-- ---- to a line

pub source_restarted : (to : ToEnd) (x : Connection) (input : OwnInput) (old new : Source) → ((port : ℕ) → SourceStands (tributary_of old.slots port) ([] ∷ []) 0 new)
    → GivesTo to (giving.Line old) → GivingStands to x input 0 0 (giving.Line new)
unfolding got_by
source_restarted (to_end.Line b port slots) x input old new step h = subst (λ s. SourceStands (tributary_of s port) ([] ∷ []) 0 new) h (step port)
source_restarted (to_end.Client n) x input old new step h = absurd h
