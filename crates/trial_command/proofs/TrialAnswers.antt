-- The trial, of its four runs.
use Rattle.std.proofs.Common.{◌≡◌, ◌≤◌, ◌<◌, ◌+◌, ◌*◌, ℕ, zero, suc, List, ◌∷◌, ◌++◌, length, map, Some, ap, ◌∙◌, subst, sym, arith, append_assoc, length-append, []}
use Rattle.std.specs.Prelude.{All}
use Rattle.std.specs.List.{concat}
use Rattle.std.proofs.lemmas.List.Elements.{All-head, All-tail}
use Rattle.port_base.specs.Bytes.{raised}
use Rattle.port_base.specs.PortViews.{SinkView, SinkWrites}
use Rattle.port_base.specs.Views.{BaysView}
use Rattle.port_base.specs.declared.drain.Written.{Written}
use Rattle.port_base.proofs.GivenLaws.{raised-twice}
use Rattle.device_model.specs.Through.{Inputs}
use Rattle.packet_text.specs.PacketText.{packet_line, hex_text}
use Rattle.trial_command.specs.TrialAnswers.{TrialRan}
use Rattle.trial_plans.specs.TrialCarried.{AreTrialPackets, AreTrialRuns}
use Rattle.trial_plans.specs.TrialDraw.{packets_of_trial}
use Rattle.trial_command.specs.TrialReport.{check_line, client_lines, trial_report}
use Rattle.trial_command.specs.Steps.TrialRuns.{AllClientsLive, FirstRan, MiddleRan, LastRan, GotPackets, ClientsTold, last_text}
use Rattle.trial_plans.proofs.TrialCarried.{all_packets_come_back}
use Rattle.trial_plans.proofs.TrialDraw.{trial_is_packets, trial_packets_are}
use Rattle.trial_command.proofs.TrialReport.{long_packet}

-- one of four by its number
abbrev four : {A : Type 0} → (a b c d : A) → ℕ → A
four a b c d zero = a
four a b c d (suc zero) = b
four a b c d (suc (suc zero)) = c
four a b c d (suc (suc (suc n))) = d

read_on : (one two three four_th : Inputs) (f g h : List (List ℕ)) → two.line 0 ≡ concat f → three.line 0 ≡ concat g → four_th.line 0 ≡ concat h
    → (run : ℕ) → run < 3 → (four one two three four_th (run + 1)).line 0 ≡ concat (four f g h h run)
read_on one two three four_th f g h a b c zero few = a
read_on one two three four_th f g h a b c (suc zero) few = b
read_on one two three four_th f g h a b c (suc (suc zero)) few = c
read_on one two three four_th f g h a b c (suc (suc (suc n))) few = absurd (omega arith)

each_asked : (a b c d e : ℕ) → b ≡ raised a 256 → c ≡ raised b 256 → d ≡ raised c 256 → e ≡ raised d 256 → e ≡ raised a 1024
each_asked a b c d e f g h i =
    i
    ∙ ap (λ n. raised n 256) (h ∙ ap (λ n. raised n 256) (g ∙ ap (λ n. raised n 256) f ∙ raised-twice a 256 256) ∙ raised-twice a 512 256)
    ∙ raised-twice a 768 256

report_is : (f g h : List (List ℕ)) (first second third lines text : List ℕ) (packets : (c : ℕ) → List (List ℕ)) → first ≡ concat f → second ≡ concat g → third ≡ concat h
    → lines ≡ client_lines packets 8 → text ≡ ((check_line 0 first ++ check_line 1 second) ++ check_line 2 third) ++ lines → text ≡ trial_report (four f g h h) packets
unfolding trial_report
report_is f g h first second third lines text packets a b c told is =
    is
    ∙ ap (λ l. ((check_line 0 l ++ check_line 1 second) ++ check_line 2 third) ++ lines) a
    ∙ ap (λ l. ((check_line 0 (concat f) ++ check_line 1 l) ++ check_line 2 third) ++ lines) b
    ∙ ap (λ l. ((check_line 0 (concat f) ++ check_line 1 (concat g)) ++ check_line 2 l) ++ lines) c
    ∙ ap (λ l. ((check_line 0 (concat f) ++ check_line 1 (concat g)) ++ check_line 2 (concat h)) ++ l) told
    ∙ append_assoc (check_line 0 (concat f) ++ check_line 1 (concat g)) (check_line 2 (concat h)) (client_lines packets 8)
    ∙ append_assoc (check_line 0 (concat f)) (check_line 1 (concat g)) (check_line 2 (concat h) ++ client_lines packets 8)

-- ---- the texts of the clients

short_packets : (packets : List (List ℕ)) → All (λ packet. (1 ≤ length packet) × (length packet ≤ 1500)) packets → length (hex_text packets) ≤ 3001 * length packets
unfolding hex_text
short_packets [] h = omega arith
short_packets (packet ∷ packets) h =
    let P : List ℕ → Type 0 = λ packet. (1 ≤ length packet) × (length packet ≤ 1500) in
    let few = (All-head P packet packets h).1 in
    let here = long_packet packet in
    let rest = short_packets packets (All-tail P packet packets h) in
    let both = length-append (packet_line packet) (hex_text packets) in
    omega arith

short_text : (packets : List (List ℕ)) → AreTrialPackets packets → length (hex_text packets) ≤ 48016
short_text packets are =
    let short = short_packets packets are.sizes in
    let many = are.many in
    omega arith

-- the four runs of a trial, and the texts of the clients then
record Trial (number : ℕ) (inputs : (run : ℕ) → Inputs) (frames : (run : ℕ) → List (List ℕ)) : Type 0 where
  runs : AreTrialRuns (packets_of_trial number) inputs frames
  texts : (c : ℕ) → c < 8 → last_text (inputs 3) c ≡ hex_text (packets_of_trial number c)
  short : (c : ℕ) → c < 8 → length (last_text (inputs 3) c) ≤ 48016

the_trial : (room number : ℕ) (first second third : List ℕ) (bays : BaysView) (a b c d e : ℕ) (one : FirstRan number first a b) (two : MiddleRan 1 first second b c)
    (three : MiddleRan 2 second third c d) (last : LastRan room third bays d e)
    → Trial number (four one.inputs two.inputs three.inputs last.inputs) (four one.frames two.frames three.frames three.frames)
the_trial room number first second third bays a b c d e one two three last = record {
  runs = runs;
  texts = texts;
  short = λ n few. subst (λ t. length t ≤ 48016) (sym (texts n few)) (short_text (packets_of_trial number n) (trial_packets_are number n));
}
  where
    inputs : (run : ℕ) → Inputs
    inputs = four one.inputs two.inputs three.inputs last.inputs

    frames : (run : ℕ) → List (List ℕ)
    frames = four one.frames two.frames three.frames three.frames

    runs : AreTrialRuns (packets_of_trial number) inputs frames
    runs = record {
      clients = one.clients;
      first = one.made;
      second = two.made;
      third = three.made;
      read = read_on one.inputs two.inputs three.inputs last.inputs one.frames two.frames three.frames (two.line ∙ one.is) (three.line ∙ two.is) (last.line ∙ three.is);
    }

    texts : (n : ℕ) → n < 8 → last_text (inputs 3) n ≡ hex_text (packets_of_trial number n)
    texts n few = (all_packets_come_back (packets_of_trial number) inputs frames n runs few (trial_packets_are number n)).1

-- each client's place lives, where there is room for its text
pub all_live : (room number : ℕ) (first second third : List ℕ) (bays : BaysView) (a b c d e : ℕ) → FirstRan number first a b → MiddleRan 1 first second b c
    → MiddleRan 2 second third c d → LastRan room third bays d e → 48016 < room → AllClientsLive bays
all_live room number first second third bays a b c d e one two three last enough n few =
    let trial = the_trial room number first second third bays a b c d e one two three last in
    let short = trial.short n few in
    (last.clients n few (omega arith)).live

pub trial_ran : (room number : ℕ) (first second third lines text : List ℕ) (bays : BaysView) (written : Written) (old new : SinkView) (a b c d e : ℕ)
    → FirstRan number first a b → MiddleRan 1 first second b c → MiddleRan 2 second third c d → LastRan room third bays d e → 48016 < room → ClientsTold 8 bays lines
    → text ≡ ((check_line 0 first ++ check_line 1 second) ++ check_line 2 third) ++ lines → SinkWrites written old text new → TrialRan number written old new a e
trial_ran room number first second third lines text bays written old new a b c d e one two three last enough told is wrote =
    let packets = packets_of_trial number in
    let inputs = four one.inputs two.inputs three.inputs last.inputs in
    let frames = four one.frames two.frames three.frames three.frames in
    let trial = the_trial room number first second third bays a b c d e one two three last in
    let came : GotPackets bays packets = record {
      each = λ n few. (last.clients n few (let short = trial.short n few in omega arith)).got ∙ ap Some (trial.texts n few);
      are = λ n few. trial_is_packets number n;
    } in
    record {
      inputs = inputs;
      frames = frames;
      runs = trial.runs;
      wrote = subst (λ t. SinkWrites written old t new) (report_is one.frames two.frames three.frames first second third lines text packets one.is two.is three.is (told.told packets came) is) wrote;
      asked_each = each_asked a b c d e one.asked_each two.asked_each three.asked_each last.asked_each;
    }
