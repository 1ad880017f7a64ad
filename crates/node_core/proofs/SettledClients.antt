-- What the end of a run makes of a client input: what was taken of it, and what its text may turn out to be.
use Rattle.std.proofs.Common.{◌≡◌, ◌≢◌, ◌⊎◌, inl, inr, ◌+◌, ◌-◌, ◌∙◌, ◌&&◌, ℕ, Bool, true, false, List, [], ◌++◌, length, refl, sym, ap, subst, append_assoc, append-nil}
use Rattle.std.specs.Prelude.{not, if◌then◌else◌}
use Rattle.otn_base.specs.declared.kind.PortName.TheVariants as port
use Rattle.port_base.specs.Given.{Lives}
use Rattle.port_base.specs.Views.{State, Empty, Live, Dead, is_dead, InView}
use Rattle.packet_text.specs.TextLines.{full_lines, text_of_dead}
use Rattle.packet_text.specs.LinesStand.{LinesView, LinesStand, ReadAsNeeded, read_short, lines_view, may_be}
use Rattle.packet_text.specs.PacketText.{packets_of}
use Rattle.packet_text.specs.declared.line.Line.{Line}
use Rattle.packet_text.specs.declared.line.Line.TheVariants.{Packet, End, Bad, Lost}
use Rattle.packet_text.proofs.StandingLines.{died_unended}
use Rattle.packet_text.proofs.Texts.{full_lines-front}
use Rattle.odu_client.specs.ClientInput.{ClientInput, emitted_before, input_given, packets_asked}
use Rattle.odu_client.specs.Framing.{MayDie}
use Rattle.odu_client.proofs.Totals.{read_as_asked}
use Rattle.plan_file.specs.declared.connection.Connection.{Connection}
use Rattle.device_model.specs.Inputs.{has_died}
use Rattle.device_model.specs.Through.{of_client}
use Rattle.cross_matrix.specs.Parts.{ClientInStands, MayShow}
use Rattle.cross_matrix.specs.declared.taking.TakingPart.{TakingPart}
use Rattle.cross_matrix.specs.declared.taking.TakingPart.TheVariants as taking
use Rattle.device_model.specs.LineAsked.{MayHave, InputLeft}
use Rattle.device_model.specs.RetiredPlaces.{after_retire}
use Rattle.node_links.specs.declared.link.Link.{Link}
use Rattle.node_links.specs.Links.{joins}
use Rattle.node_moments.proofs.Retired.{some_passes}

-- ---- where more may stand

abbrev is_live : State → Bool
is_live Empty = false
is_live Live = true
is_live Dead = false

-- the text has not ended
abbrev pub goes_on : TakingPart → Bool
goes_on (taking.Line sink) = false
goes_on (taking.Client client) = not (lines_view client.lines).ended
goes_on (taking.Signal stream) = false

-- more of client n may stand behind what was taken: its place was live and did not die, and its text has not ended
abbrev pub more_of : (n : ℕ) → List Link → (first last : InView) → Bool
more_of n links first last = is_live first.state && (not (is_dead last.state) && some_passes (λ link. goes_on link.pipe.taking) (joins (port.ClientIn n)) links)

abbrev more_in : (first was : State) → (goes : Bool) → Bool
more_in first was goes = is_live first && (not (is_dead was) && goes)

-- ---- a place that was emptied

pub dead_kept : (r : Bool) (v : InView) (s : State) → v.state ≡ s → is_dead (after_retire r v).state ≡ is_dead v.state
dead_kept false v s e = refl
dead_kept true v Live e = rw e refl
dead_kept true v Empty e = rw e refl
dead_kept true v Dead e = rw e refl

died_kept : (r : Bool) (v : InView) (first s : State) → v.state ≡ s → has_died first (after_retire r v).state ≡ has_died first v.state
died_kept false v first s e = refl
died_kept true v Live Live e = rw e refl
died_kept true v Live Empty e = rw e refl
died_kept true v Live Dead e = rw e refl
died_kept true v Empty s e = refl
died_kept true v Dead s e = refl

-- ---- the place of a text

live_where : (first was : State) (f g : ℕ) (goes : Bool) → Lives first was f g → more_in first was goes ≡ true → was ≡ Live
live_where Live Live f g goes h e = refl
live_where Live Dead f g goes h e = absurd (cc)
live_where Live Empty f g goes (inl (same, n)) e = same
live_where Live Empty f g goes (inr (l, d, k)) e = absurd (cc)
live_where Empty was f g goes h e = absurd (cc)
live_where Dead was f g goes h e = absurd (cc)

over_where : (first was : State) (f g : ℕ) (goes : Bool) → Lives first was f g → more_in first was goes ≡ false → was ≡ Live → goes ≡ false
over_where Live Live f g goes h e live = e
over_where Live Dead f g goes h e live = absurd (cc)
over_where Live Empty f g goes h e live = absurd (cc)
over_where Empty Live f g goes (inl (same, n)) e live = absurd (cc)
over_where Empty Live f g goes (inr (l, d, k)) e live = absurd (cc)
over_where Empty Empty f g goes h e live = absurd (cc)
over_where Empty Dead f g goes h e live = absurd (cc)
over_where Dead Live f g goes (inl (same, n)) e live = absurd (cc)
over_where Dead Live f g goes (inr (l, d, k)) e live = absurd (cc)
over_where Dead Empty f g goes h e live = absurd (cc)
over_where Dead Dead f g goes h e live = absurd (cc)

not_goes : (b : Bool) → not b ≡ false → b ≡ true
not_goes true e = refl
not_goes false e = absurd (cc)

-- what was taken of it, and whether more may stand behind that
pub text_left : (x : Connection) (first was : InView) (read : List ℕ) (k : ℕ) (part : TakingPart) (more : Bool) → ClientInStands x first was read k part
    → more ≡ more_in first.state was.state (goes_on part) → InputLeft first was read more
text_left x first was read k (taking.Client client) more h e =
    let lines = h.stands.text.stands in record {
      gave = lines.gave;
      live = λ m. live_where first.state was.state first.faults was.faults (goes_on (taking.Client client)) lines.gave.state (sym e ∙ m);
      over = λ m live. lines.over (not_goes (lines_view client.lines).ended (over_where first.state was.state first.faults was.faults (goes_on (taking.Client client)) lines.gave.state (sym e ∙ m) live)) live;
      died = died_unended first was read h.stands.packets (lines_view client.lines) lines;
    }
text_left x first was read k (taking.Line sink) more h e = absurd h
text_left x first was read k (taking.Signal stream) more h e = absurd h

-- ---- the text

among : (ended : Bool) (a : Line) (read available rest : List ℕ) → available ≡ read ++ rest → (ended ≡ true → rest ≡ []) → (a ≡ End → ended ≡ true) → a ≢ Lost → may_be ended a read available
among true a read available rest parts none end alive = parts ∙ ap (λ bytes. read ++ bytes) (none refl) ∙ append-nil read
among false Packet read available rest parts none end alive =
    let f = full_lines-front read in
    record { rest = f.rest ++ rest; parts = parts ∙ ap (λ bytes. bytes ++ rest) f.parts ∙ append_assoc (full_lines read) f.rest rest }
among false (Bad n) read available rest parts none end alive = record { rest = rest; parts = parts }
among false End read available rest parts none end alive = absurd (let e = end refl in cc)
among false Lost read available rest parts none end alive = absurd (alive refl)

dead_text : (ended : Bool) (a : Line) (read available : List ℕ) → ended ≡ false → a ≡ Lost → available ≡ read → may_be ended a read (text_of_dead available)
dead_text ended a read available e f g = rw (e, f, g) refl

same_alive : (s : State) → has_died s s ≡ false
same_alive Live = refl
same_alive Empty = refl
same_alive Dead = refl

is_lost : (a : Line) → (a ≡ Lost) ⊎ (a ≢ Lost)
is_lost Lost = inl refl
is_lost Packet = inr (λ e. cc)
is_lost End = inr (λ e. cc)
is_lost (Bad n) = inr (λ e. cc)

end_not_lost : End ≢ Lost
end_not_lost e = cc

-- none follows once the end was seen, or the place died
none_ended : (first was : State) (goes : Bool) → goes ≡ false → more_in first was goes ≡ false
none_ended Live Live goes e = e
none_ended Live Dead goes e = refl
none_ended Live Empty goes e = e
none_ended Empty was goes e = refl
none_ended Dead was goes e = refl

none_dead : (first was : State) (goes : Bool) → was ≡ Dead → more_in first was goes ≡ false
none_dead Live Live goes e = absurd (cc)
none_dead Live Dead goes e = refl
none_dead Live Empty goes e = absurd (cc)
none_dead Empty was goes e = refl
none_dead Dead was goes e = refl

-- whether it died, as its lines tell it
dies : (first was : InView) (read : List ℕ) (packets : List (List ℕ)) (view : LinesView) → LinesStand first was read packets view → MayDie view.answer (has_died first.state was.state)
dies first was read packets view h = record {
  ended = λ e. ap (has_died first.state) (h.alive (λ l. end_not_lost (sym e ∙ l))) ∙ same_alive first.state;
  lost = λ e. (let l = h.lost e in rw (l.1, l.2) refl);
}

text_among : (first was : InView) (read raw rest : List ℕ) (packets : List (List ℕ)) (view : LinesView) → LinesStand first was read packets view → raw ≡ read ++ rest
    → (more_in first.state was.state (not view.ended) ≡ false → rest ≡ []) → may_be view.ended view.answer read (if has_died first.state was.state then text_of_dead raw else raw)
text_among first was read raw rest packets view h parts over = by_answer (is_lost view.answer)
  where
    by_answer : (view.answer ≡ Lost) ⊎ (view.answer ≢ Lost) → may_be view.ended view.answer read (if has_died first.state was.state then text_of_dead raw else raw)
    by_answer (inl lost) =
        let l = h.lost lost in
        let died : has_died first.state was.state ≡ true = (dies first was read packets view h).lost lost in
        let same : raw ≡ read = parts ∙ ap (λ bytes. read ++ bytes) (over (none_dead first.state was.state (not view.ended) l.1)) ∙ append-nil read in
        subst (λ d. may_be view.ended view.answer read (if d then text_of_dead raw else raw)) (sym died) (dead_text view.ended view.answer read raw l.0 lost same)
    by_answer (inr alive) =
        let lives : has_died first.state was.state ≡ false = ap (has_died first.state) (h.alive alive) ∙ same_alive first.state in
        subst (λ d. may_be view.ended view.answer read (if d then text_of_dead raw else raw)) (sym lives)
        (among view.ended view.answer read raw rest parts (λ e. over (none_ended first.state was.state (not view.ended) (ap not e))) h.ended alive)

-- what a client may turn out to be at the end its lines may tell
pub text_may : (x : Connection) (first was : InView) (read raw : List ℕ) (k : ℕ) (part : TakingPart) (more : Bool) (input : ClientInput) → ClientInStands x first was read k part
    → more ≡ more_in first.state was.state (goes_on part) → MayHave more read raw → input ≡ input_given (has_died first.state was.state) raw → MayShow part read (of_client input)
text_may x first was read raw k (taking.Client client) more input h e may is =
    let lines = h.stands.text.stands in record {
      died = has_died first.state was.state;
      text = if has_died first.state was.state then text_of_dead raw else raw;
      may = text_among first was read raw may.rest h.stands.packets (lines_view client.lines) lines may.parts (λ m. may.over (e ∙ m));
      die = dies first was read h.stands.packets (lines_view client.lines) lines;
      is = is;
    }
text_may x first was read raw k (taking.Line sink) more input h e may is = absurd h
text_may x first was read raw k (taking.Signal stream) more input h e may is = absurd h

-- what was read of it was needed
pub text_read : (x : Connection) (first was : InView) (read : List ℕ) (k : ℕ) (part : TakingPart) (input : ClientInput) → ClientInStands x first was read k part → MayShow part read (of_client input)
    → (short : Bool) × ReadAsNeeded short (packets_asked input.packets x.fcs (emitted_before x.pace k)) read
text_read x first was read k (taking.Client client) input h m =
    let view = lines_view client.lines in
    let all = (packets_of m.text).packets in
    let short = read_short view.ended view.answer in
    let asked : packets_asked all client.framer.stream.fcs (length h.emitted) ≡ packets_asked input.packets x.fcs (emitted_before x.pace k) =
    ap (λ f. packets_asked all f (length h.emitted)) h.fcs ∙ ap (packets_asked all x.fcs) h.count ∙ ap (λ (i : ClientInput). packets_asked i.packets x.fcs (emitted_before x.pace k)) (sym m.is) in
    (short, subst (λ n. ReadAsNeeded short n read) asked (read_as_asked first was read h.emitted view client.framer m.text h.stands m.may))
text_read x first was read k (taking.Line sink) input h m = absurd h
text_read x first was read k (taking.Signal stream) input h m = absurd h

-- ---- the end of a connection

-- the place as it was left, for what it was before
pub more_before : (n : ℕ) (links : List Link) (first was last : InView) (r : Bool) (part : TakingPart) → last ≡ after_retire r was
    → some_passes (λ link. goes_on link.pipe.taking) (joins (port.ClientIn n)) links ≡ goes_on part → more_of n links first last ≡ more_in first.state was.state (goes_on part)
more_before n links first was last r part place goes =
    ap (λ (b : Bool). is_live first.state && (not (is_dead last.state) && b)) goes
    ∙ ap (λ (v : InView). is_live first.state && (not (is_dead v.state) && goes_on part)) place
    ∙ ap (λ (b : Bool). is_live first.state && (not b && goes_on part)) (dead_kept r was was.state refl)

pub died_before : (first was last : InView) (r : Bool) → last ≡ after_retire r was → has_died first.state last.state ≡ has_died first.state was.state
died_before first was last r place = ap (λ (v : InView). has_died first.state v.state) place ∙ died_kept r was first.state was.state refl
