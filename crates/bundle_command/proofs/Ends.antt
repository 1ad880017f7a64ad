-- What is known at the end.
use Rattle.std.proofs.Common.{◌≡◌, ◌≢◌, ◌⊎◌, ◌↔◌, inl, inr, ◌<◌, ◌≤◌, ◌+◌, ◌-◌, ◌*◌, ◌/◌, ℕ, zero, suc, Bool, true, false, cond, List, [], ◌∷◌, ◌++◌, Some, length, take, drop, get_or, refl, sym, ap, subst, ◌∙◌, append-nil, append_assoc, length-append, arith}
use Rattle.std.specs.Prelude.{not, ◌&&◌, ◌||◌, nat_le, slice_get}
use Rattle.std.specs.List.{concat}
use Rattle.std.proofs.Math.Seq.{take-length}
use Rattle.std.proofs.lemmas.Bool.{cases_lt, le-leb, false≢true}
use Rattle.std.proofs.lemmas.Bool.Decides.{nat_tests}
use Rattle.std.proofs.lemmas.List.{length-take-le, take-append-drop}
use Rattle.std.proofs.lemmas.Option.{slice_get-get_or, slice_get_within}
use Rattle.otn_base.specs.Counts.{saturated}
use Rattle.port_base.specs.Reads.{HasEnded}
use Rattle.port_base.specs.Views.{State, Empty, Live, Dead, InView, BaysView, client_in_at, line_out_at}
use Rattle.packet_text.specs.LinesStand.{LinesView, LinesStand, may_be, lines_view}
use Rattle.packet_text.proofs.StandingLines.{died_unended}
use Rattle.packet_text.specs.TextLines.{full_lines, text_of_dead}
use Rattle.packet_text.specs.declared.line.Line.{Line}
use Rattle.packet_text.specs.declared.line.Line.TheVariants.{Packet, End, Bad, Lost}
use Rattle.packet_text.proofs.Texts.{full_lines-front}
use Rattle.odu_client.specs.ClientInput.{ClientInput, input_given}
use Rattle.odu_client.specs.Framing.{MayDie}
use Rattle.device_model.specs.Inputs.{has_died}
use Rattle.device_model.specs.LineAsked.{MayHave, InputLeft}
use Rattle.bundle_command.specs.BundleLeft.{MayBeInput, place_of}
use Rattle.bundle_command.specs.Steps.Channels.{ChannelStands, MayShow}
use Rattle.bundle_command.specs.declared.channel.Channel.{Channel}

-- ---- what a client may turn out to be

among : (ended : Bool) (a : Line) (read available rest : List ℕ) → available ≡ read ++ rest → (ended ≡ true → rest ≡ []) → (a ≡ End → ended ≡ true) → a ≢ Lost → may_be ended a read available
among true a read available rest parts none end alive = parts ∙ ap (λ bytes. read ++ bytes) (none refl) ∙ append-nil read
among false Packet read available rest parts none end alive =
    let f = full_lines-front read in
    record { rest = f.rest ++ rest; parts = parts ∙ ap (λ bytes. bytes ++ rest) f.parts ∙ append_assoc (full_lines read) f.rest rest }
among false (Bad n) read available rest parts none end alive = record { rest = rest; parts = parts }
among false End read available rest parts none end alive = absurd (let e = end refl in cc)
among false Lost read available rest parts none end alive = absurd (alive refl)

dead_text : (ended : Bool) (a : Line) (read available : List ℕ) → ended ≡ false → a ≡ Lost → available ≡ read → may_be ended a read (text_of_dead available)
dead_text ended a read available e f g = rw (e, f, g) refl

same_alive : (s : State) → has_died s s ≡ false
same_alive Live = refl
same_alive Empty = refl
same_alive Dead = refl

is_lost : (a : Line) → (a ≡ Lost) ⊎ (a ≢ Lost)
is_lost Lost = inl refl
is_lost Packet = inr (λ e. cc)
is_lost End = inr (λ e. cc)
is_lost (Bad n) = inr (λ e. cc)

end_not_lost : End ≢ Lost
end_not_lost e = cc

-- more may stand behind what was taken of a live place, as long as its end was not seen
abbrev pub more_by : State → (ended : Bool) → Bool
more_by Live ended = not ended
more_by Empty ended = false
more_by Dead ended = false

more_live : (s : State) (ended : Bool) → more_by s ended ≡ true → s ≡ Live
more_live Live ended e = refl
more_live Empty ended e = absurd (cc)
more_live Dead ended e = absurd (cc)

pub none_ended : (s : State) (ended : Bool) → ended ≡ true → more_by s ended ≡ false
none_ended Live ended e = ap not e
none_ended Empty ended e = refl
none_ended Dead ended e = refl

ended_live : (s : State) (ended : Bool) → more_by s ended ≡ false → s ≡ Live → ended ≡ true
ended_live Live true none live = refl
ended_live Live false none live = absurd (cc)
ended_live Empty ended none live = absurd (cc)
ended_live Dead ended none live = absurd (cc)

-- whether it died, as its lines tell it
dies : (first was : InView) (read : List ℕ) (packets : List (List ℕ)) (view : LinesView) → LinesStand first was read packets view → MayDie view.answer (has_died first.state was.state)
dies first was read packets view h = record {
  ended = λ e. ap (has_died first.state) (h.alive (λ l. end_not_lost (sym e ∙ l))) ∙ same_alive first.state;
  lost = λ e. (let l = h.lost e in rw (l.1, l.2) refl);
}

text_among : (first was : InView) (read raw rest : List ℕ) (packets : List (List ℕ)) (view : LinesView) → LinesStand first was read packets view → raw ≡ read ++ rest
    → (more_by was.state view.ended ≡ false → rest ≡ []) → may_be view.ended view.answer read (cond (has_died first.state was.state) (text_of_dead raw) raw)
text_among first was read raw rest packets view h parts over = by_answer (is_lost view.answer)
  where
    by_answer : (view.answer ≡ Lost) ⊎ (view.answer ≢ Lost) → may_be view.ended view.answer read (cond (has_died first.state was.state) (text_of_dead raw) raw)
    by_answer (inl lost) =
        let l = h.lost lost in
        let died : has_died first.state was.state ≡ true = (dies first was read packets view h).lost lost in
        let none : more_by was.state view.ended ≡ false = ap (λ s. more_by s view.ended) l.1 in
        let same : raw ≡ read = parts ∙ ap (λ bytes. read ++ bytes) (over none) ∙ append-nil read in
        subst (λ d. may_be view.ended view.answer read (cond d (text_of_dead raw) raw)) (sym died) (dead_text view.ended view.answer read raw l.0 lost same)
    by_answer (inr alive) =
        let lives : has_died first.state was.state ≡ false = ap (has_died first.state) (h.alive alive) ∙ same_alive first.state in
        subst (λ d. may_be view.ended view.answer read (cond d (text_of_dead raw) raw)) (sym lives)
        (among view.ended view.answer read raw rest parts (λ e. over (none_ended was.state view.ended e)) h.ended alive)

-- the bytes that a place gave in the whole run are those that its lines tell of
pub may_show : (first last : InView) (read : List ℕ) (offered : List (List ℕ)) (channel : Channel) (input : ClientInput) → ChannelStands first last read offered channel
    → MayBeInput first last read (more_by last.state (lines_view channel.lines).ended) input → MayShow (lines_view channel.lines) read input
may_show first last read offered channel input h may = record {
  died = has_died first.state last.state;
  text = cond (has_died first.state last.state) (text_of_dead may.available) may.available;
  may = text_among first last read may.available may.may.rest (offered ++ h.beyond) (lines_view channel.lines) h.text may.may.parts may.may.over;
  die = dies first last read (offered ++ h.beyond) (lines_view channel.lines) h.text;
  is = may.is;
}

-- what was taken of it
pub input_left : (first last : InView) (read : List ℕ) (offered : List (List ℕ)) (channel : Channel) → ChannelStands first last read offered channel
    → InputLeft first last read (more_by last.state (lines_view channel.lines).ended)
input_left first last read offered channel h = record {
  gave = h.text.gave;
  live = more_live last.state (lines_view channel.lines).ended;
  over = λ none live. h.text.over (ended_live last.state (lines_view channel.lines).ended none live) live;
  died = died_unended first last read (offered ++ h.beyond) (lines_view channel.lines) h.text;
}
