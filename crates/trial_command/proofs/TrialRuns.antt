-- What each run of the trial made, by what it left.
use Rattle.std.proofs.Common.{◌≡◌, ◌≤◌, ◌<◌, ◌+◌, ◌*◌, ◌==◌, ◌⊎◌, inl, inr, ℕ, zero, suc, Bool, true, false, List, [], ◌∷◌, ◌++◌, length, length-append, map, Option, None, Some, refl, sym, ap, ◌∙◌, subst, arith, append-nil}
use Rattle.std.specs.Prelude.{All}
use Rattle.std.specs.List.{concat, Contains, list_any, range_with_len}
use Rattle.std.proofs.lemmas.Bool.{cases_lt}
use Rattle.std.proofs.lemmas.Bool.Decides.{nat_tests}
use Rattle.std.proofs.lemmas.List.Elements.{All-from_get_or}
use Rattle.std.proofs.lemmas.List.Folds.{list_any_none}
use Rattle.std.proofs.lemmas.List.FromFn.{length-map-range_with_len, get_or-map-range_with_len}
use Rattle.otn_base.specs.declared.kind.PortName.TheVariants as port
use Rattle.bounded_ports.specs.Full.{FailsFull}
use Rattle.port_base.specs.Bytes.{before, after, HasFailed}
use Rattle.port_base.specs.Given.{Lives}
use Rattle.port_base.specs.Reads.{HasEnded}
use Rattle.port_base.specs.Views.{State, Live, InView, OutView, BaysView, line_in_at, line_out_at, client_in_at, client_out_at}
use Rattle.plan_file.specs.declared.connection.Connection.{Connection}
use Rattle.device_model.specs.Inputs.{has_died}
use Rattle.device_model.specs.LineFiles.{IsLineFile}
use Rattle.device_model.specs.Moments.{touches, uses}
use Rattle.device_model.specs.Report.{Numbers}
use Rattle.device_model.specs.Through.{Inputs}
use Rattle.device_model.specs.LineAsked.{MayHave, InputLeft}
use Rattle.device_model.specs.RunLeft.{Takings, MayBeInputs, OutputLeft, RunLeft}
use Rattle.line_side.specs.LineOutput.{FramePut, AreLineFrames}
use Rattle.odu_client.specs.ClientInput.{AtEnd, input_given}
use Rattle.packet_text.specs.PacketText.{hex_text}
use Rattle.packet_text.proofs.ReadingBack.{reads_back}
use Rattle.trial_plans.specs.TrialDraw.{packets_of_trial}
use Rattle.trial_plans.specs.TrialPlans.{trial_connection, trial_plan}
use Rattle.trial_command.specs.TrialRuns.{holding, waiting}
use Rattle.trial_command.specs.Steps.TrialRuns.{ReadsWell, FirstPlaces, MiddlePlaces, LastPlaces, RunWent, FirstRan, MiddleRan, LastRan, GotAll, last_text}
use Rattle.trial_plans.proofs.TrialDraw.{trial_is_packets}

-- ---- the ports that a plan uses

none_used : (run : ℕ) (p : Connection → Bool) → ((k : ℕ) → k < 8 → p (trial_connection run k) ≡ false) → list_any p (trial_plan run).connections ≡ true → ⊥
none_used run p none used =
    let f = trial_connection run in
    let long = length-map-range_with_len f 0 8 in
    let each : All (λ x. p x ≡ false) (map f (range_with_len 0 8)) = All-from_get_or (λ x. p x ≡ false) (map f (range_with_len 0 8)) (f 0)
    (λ i h. (let few : i < 8 = omega arith in let P : Connection → Type 0 = λ x. p x ≡ false in subst P (sym (get_or-map-range_with_len f 0 8 i i (f 0) few (omega arith))) (none i few))) in
    let off : list_any p (map f (range_with_len 0 8)) ≡ false = list_any_none p (map f (range_with_len 0 8)) each in
    let bad : false ≡ true = sym off ∙ used in
    cc

-- the runs but the first read line 0, and no other
zero_alone : (a : ℕ) (p : Connection → Bool) (run : ℕ) → ((k : ℕ) → p (trial_connection run k) ≡ (0 == a)) → list_any p (trial_plan run).connections ≡ true → a ≡ 0
zero_alone zero p run same used = refl
zero_alone (suc a) p run same used =
    let other : (0 == suc a) ≡ false = grind (arith, nat_tests) in
    absurd (none_used run p (λ k h. same k ∙ other) used)

-- the first run has the clients 0 to 7, and no other
client_known : (n : ℕ) → uses (trial_plan 0) (port.ClientIn n) ≡ true → n < 8
client_known n used = by_size (cases_lt n 8)
  where
    by_size : (n < 8) ⊎ (8 ≤ n) → n < 8
    by_size (inl h) = h
    by_size (inr h) = absurd (none_used 0 (touches (port.ClientIn n)) (λ k few. (let e : (k == n) ≡ false = grind (arith, nat_tests) in e)) used)

pub known_client : (run c : ℕ) → c < 8 → Contains (trial_plan run).connections (trial_connection run c)
known_client run c h =
    let long = length-map-range_with_len (trial_connection run) 0 8 in
    (c, omega arith, get_or-map-range_with_len (trial_connection run) 0 8 c c (trial_connection run c) h (omega arith))

-- ---- an input in memory

told_all : (available read : List ℕ) (more : Bool) (l : Option (List ℕ)) (ended : Bool) → Some available ≡ before read l → (more ≡ false → HasEnded l ended) → MayHave more read available
told_all available read more None ended e over = absurd (cc)
told_all available read more (Some rest) ended e over = record { rest = rest; over = λ m. (over m).nothing; parts = (let same : available ≡ read ++ rest = cc in same) }

lives_on : (first now : State) (a b : ℕ) → first ≡ Live → a ≡ 0 → b ≡ 0 → Lives first now a b → now ≡ Live
lives_on first now a b live none well (inl same) = same.0 ∙ live
lives_on first now a b live none well (inr (was, dead, inl more)) = absurd (omega arith)
lives_on first now a b live none well (inr (was, dead, inr full)) = absurd (let some : 0 < b = omega arith in omega arith)

pub record Kept (available read : List ℕ) (more : Bool) (last : InView) : Type 0 where
  pub lives : last.state ≡ Live
  pub follow : MayHave more read available

kept : (available read : List ℕ) (more : Bool) (first last : InView) → first ≡ holding available → last.faults ≡ 0 → InputLeft first last read more → Kept available read more last
kept available read more first last is well left =
    let gave = left.gave in
    let state = gave.state in
    let takes = gave.takes in
    let told = takes.left in
    let lives = lives_on first.state last.state first.faults last.faults (ap (λ (v : InView). v.state) is) (ap (λ (v : InView). v.faults) is) well state in
    record {
      lives = lives;
      follow = told_all available read more last.left last.ended (sym (ap (λ (v : InView). v.left) is) ∙ told) (λ no. left.over no lives);
    }

-- ---- an output in memory

made_whole : (first last : OutView) (due went file : List ℕ) → first ≡ waiting → OutputLeft first due went last → last.state ≡ Live → last.got ≡ Some file → file ≡ due
made_whole first last due went file is left live got =
    let gained = left.gained in
    let sends = gained.sends in
    let gains : last.got ≡ after first.got went = sends.got in
    let empty : first.got ≡ Some [] = ap (λ (v : OutView). v.got) is in
    let now : last.got ≡ Some went = gains ∙ ap (λ l. after l went) empty in
    let same : file ≡ went = (let e : Some file ≡ Some went = sym got ∙ now in cc) in
    same ∙ sym (append-nil went) ∙ ap (λ r. went ++ r) (sym (left.whole live)) ∙ left.parts

went_in_all : (first last : OutView) (due went : List ℕ) → first ≡ waiting → OutputLeft first due went last → last.got ≡ Some went
went_in_all first last due went is left =
    let gained = left.gained in
    let sends = gained.sends in
    let gains : last.got ≡ after first.got went = sends.got in
    gains ∙ ap (λ l. after l went) (ap (λ (v : OutView). v.got) is)

has_failed : (old new : ℕ) → HasFailed old new → 0 < new
has_failed old new (inl more) = omega arith
has_failed old new (inr most) = omega arith

-- a place to which fewer bytes are due than it has room for lives
still_lives : (room : ℕ) (first last : OutView) (due went : List ℕ) → first ≡ waiting → OutputLeft first due went last
    → ((got : List ℕ) → 0 < last.faults → last.got ≡ Some got → length got ≡ room) → length due < room → last.state ≡ Live
still_lives room first last due went is left full few = by_state left.gained.state
  where
    by_state : Lives first.state last.state first.faults last.faults → last.state ≡ Live
    by_state (inl same) = same.0 ∙ ap (λ (v : OutView). v.state) is
    by_state (inr (was, dead, failed)) =
        let many : length went ≡ room = full went (has_failed first.faults last.faults failed) (went_in_all first last due went is left) in
        let parts : length (went ++ left.rest) ≡ length due = ap length left.parts in
        let both = length-append went left.rest in
        absurd (omega arith)

file_size : (n : ℕ) (before : List (List ℕ)) (puts : List FramePut) (made : List (List ℕ)) → AreLineFrames n before puts made → length (concat made) ≡ 16320 * length puts
file_size n before [] [] h = refl
file_size n before (put ∷ puts) (frame ∷ made) h =
    let rest = file_size n (before ++ frame ∷ []) puts made h.1 in
    omega (arith, length-append frame (concat made), h.0.size, rest)
file_size n before (put ∷ puts) [] h = absurd h
file_size n before [] (frame ∷ made) h = absurd h

record Made (run : ℕ) (inputs : Inputs) (file : List ℕ) : Type 0 where
  frames : List (List ℕ)
  made : IsLineFile (trial_plan run) inputs run 128 frames
  is : file ≡ concat frames

file_made : (run : ℕ) (first last : BaysView) (takings : Takings) (numbers : Numbers) (inputs : Inputs) (file : List ℕ) → RunLeft (trial_plan run) first last takings numbers
    → MayBeInputs (trial_plan run) first last takings inputs → uses (trial_plan run) (port.LineOut run) ≡ true
    → line_out_at first run ≡ waiting → (line_out_at last run).state ≡ Live → (line_out_at last run).got ≡ Some file → Made run inputs file
file_made run first last takings numbers inputs file left may used waits live got =
    let ran = left.of_inputs inputs may in
    let outputs = ran.outputs in
    let line = outputs.line run used in
    let due = line.is_due in
    record {
      frames = due.frames;
      made = due.file;
      is = made_whole (line_out_at first run) (line_out_at last run) line.due (ran.written.line run) file waits line.left live got ∙ due.bytes;
    }

file_lives : (room run : ℕ) (first last : BaysView) (takings : Takings) (numbers : Numbers) (inputs : Inputs) → RunLeft (trial_plan run) first last takings numbers
    → MayBeInputs (trial_plan run) first last takings inputs → uses (trial_plan run) (port.LineOut run) ≡ true
    → line_out_at first run ≡ waiting → FailsFull room last → 2088960 < room → (line_out_at last run).state ≡ Live
file_lives room run first last takings numbers inputs left may used waits full few =
    let ran = left.of_inputs inputs may in
    let outputs = ran.outputs in
    let line = outputs.line run used in
    let due = line.is_due in
    let file = due.file in
    let puts = file.are_put in
    let long : length (concat due.frames) ≡ 16320 * length file.puts = file_size run [] file.puts due.frames file.are_frames in
    let many : length file.puts ≡ 128 = puts.many in
    let bytes : length line.due ≡ length (concat due.frames) = ap length due.bytes in
    still_lives room (line_out_at first run) (line_out_at last run) line.due (ran.written.line run) waits line.left (full.line run) (omega arith)

-- ---- the first run

first_inputs : (number : ℕ) → Inputs
first_inputs number = record { line = λ a. []; client = λ n. record { packets = packets_of_trial number n; ending = AtEnd } }

text_input : (number n : ℕ) (dead : Bool) → dead ≡ false → record { packets = packets_of_trial number n; ending = AtEnd } ≡ input_given dead (hex_text (packets_of_trial number n))
text_input number n true e = absurd (cc)
text_input number n false e = rw (reads_back (packets_of_trial number n) (trial_is_packets number n)) refl

not_died : (first last : State) → first ≡ Live → last ≡ Live → has_died first last ≡ false
not_died first last a b = rw (a, b) refl

first_may : (number : ℕ) (first last : BaysView) (takings : Takings) (numbers : Numbers) → FirstPlaces number first → RunLeft (trial_plan 0) first last takings numbers → ReadsWell last
    → MayBeInputs (trial_plan 0) first last takings (first_inputs number)
unfolding first_inputs
first_may number first last takings numbers places left well = record {
  line = λ a used. absurd (none_used 0 (touches (port.LineIn a)) (λ k h. refl) used);
  client = λ n used.
      let few = client_known n used in
      let place = places.clients n few in
      let client = left.client_in (trial_connection 0 n) n (known_client 0 n few) refl in
      let same : client_in_at last n ≡ client.was = client.place in
      let faults : client.was.faults ≡ 0 = ap (λ (v : InView). v.faults) (sym same) ∙ well.clients n in
      let k = kept (hex_text (packets_of_trial number n)) (takings.client n) (takings.client_more n) (client_in_at first n) client.was place faults client.left in (
        hex_text (packets_of_trial number n),
        k.follow,
        text_input number n (has_died (client_in_at first n).state (client_in_at last n).state)
            (not_died (client_in_at first n).state (client_in_at last n).state (ap (λ (v : InView). v.state) place) (ap (λ (v : InView). v.state) same ∙ k.lives)),
      );
}

pub first_ran : (number : ℕ) (first last : BaysView) (file : List ℕ) (asked asked_now : ℕ) → FirstPlaces number first → RunWent 0 first last asked asked_now
    → (line_out_at last 0).state ≡ Live → (line_out_at last 0).got ≡ Some file → FirstRan number file asked asked_now
unfolding first_inputs
first_ran number first last file asked asked_now places went live got =
    let may = first_may number first last went.takings went.numbers places went.left went.well in
    let made = file_made 0 first last went.takings went.numbers (first_inputs number) file went.left may refl places.out live got in
    record { inputs = first_inputs number; frames = made.frames; clients = λ c h. refl; made = made.made; is = made.is; asked_each = went.asked_each }

pub first_lives : (room number : ℕ) (first last : BaysView) (asked asked_now : ℕ) → FirstPlaces number first → RunWent 0 first last asked asked_now
    → FailsFull room last → 2088960 < room → (line_out_at last 0).state ≡ Live
unfolding first_inputs
first_lives room number first last asked asked_now places went full few =
    let may = first_may number first last went.takings went.numbers places went.left went.well in
    file_lives room 0 first last went.takings went.numbers (first_inputs number) went.left may refl places.out full few

-- ---- a run that reads a line

line_inputs : (read : List ℕ) → Inputs
line_inputs read = record { line = λ a. read; client = λ n. record { packets = []; ending = AtEnd } }

line_may : (run : ℕ) (read : List ℕ) (first last : BaysView) (takings : Takings) (numbers : Numbers) → ((a k : ℕ) → touches (port.LineIn a) (trial_connection run k) ≡ (0 == a))
    → ((n k : ℕ) → touches (port.ClientIn n) (trial_connection run k) ≡ false) → uses (trial_plan run) (port.LineIn 0) ≡ true
    → line_in_at first 0 ≡ holding read → RunLeft (trial_plan run) first last takings numbers → ReadsWell last
    → MayBeInputs (trial_plan run) first last takings (line_inputs read)
unfolding line_inputs
line_may run read first last takings numbers lines clients reads place left well = record {
  line = λ a used.
      let zero_is : a ≡ 0 = zero_alone a (touches (port.LineIn a)) run (lines a) used in
      let k = kept read (takings.line 0) (takings.line_more 0) (line_in_at first 0) (line_in_at last 0) place (well.lines 0) (left.line_in 0 reads) in
      (read, subst (λ b. MayHave (takings.line_more b) (takings.line b) read) (sym zero_is) k.follow, refl);
  client = λ n used. absurd (none_used run (touches (port.ClientIn n)) (λ k h. clients n k) used);
}

second_ran : (first last : BaysView) (read file : List ℕ) (asked asked_now : ℕ) → MiddlePlaces 1 read first → RunWent 1 first last asked asked_now
    → (line_out_at last 1).state ≡ Live → (line_out_at last 1).got ≡ Some file → MiddleRan 1 read file asked asked_now
unfolding line_inputs
second_ran first last read file asked asked_now places went live got =
    let may = line_may 1 read first last went.takings went.numbers (λ a k. refl) (λ n k. refl) refl places.line went.left went.well in
    let made = file_made 1 first last went.takings went.numbers (line_inputs read) file went.left may refl places.out live got in
    record { inputs = line_inputs read; frames = made.frames; line = refl; made = made.made; is = made.is; asked_each = went.asked_each }

third_ran : (first last : BaysView) (read file : List ℕ) (asked asked_now : ℕ) → MiddlePlaces 2 read first → RunWent 2 first last asked asked_now
    → (line_out_at last 2).state ≡ Live → (line_out_at last 2).got ≡ Some file → MiddleRan 2 read file asked asked_now
unfolding line_inputs
third_ran first last read file asked asked_now places went live got =
    let may = line_may 2 read first last went.takings went.numbers (λ a k. refl) (λ n k. refl) refl places.line went.left went.well in
    let made = file_made 2 first last went.takings went.numbers (line_inputs read) file went.left may refl places.out live got in
    record { inputs = line_inputs read; frames = made.frames; line = refl; made = made.made; is = made.is; asked_each = went.asked_each }

second_lives : (room : ℕ) (first last : BaysView) (read : List ℕ) (asked asked_now : ℕ) → MiddlePlaces 1 read first → RunWent 1 first last asked asked_now
    → FailsFull room last → 2088960 < room → (line_out_at last 1).state ≡ Live
unfolding line_inputs
second_lives room first last read asked asked_now places went full few =
    let may = line_may 1 read first last went.takings went.numbers (λ a k. refl) (λ n k. refl) refl places.line went.left went.well in
    file_lives room 1 first last went.takings went.numbers (line_inputs read) went.left may refl places.out full few

third_lives : (room : ℕ) (first last : BaysView) (read : List ℕ) (asked asked_now : ℕ) → MiddlePlaces 2 read first → RunWent 2 first last asked asked_now
    → FailsFull room last → 2088960 < room → (line_out_at last 2).state ≡ Live
unfolding line_inputs
third_lives room first last read asked asked_now places went full few =
    let may = line_may 2 read first last went.takings went.numbers (λ a k. refl) (λ n k. refl) refl places.line went.left went.well in
    file_lives room 2 first last went.takings went.numbers (line_inputs read) went.left may refl places.out full few

pub middle_lives : (room run : ℕ) (first last : BaysView) (read : List ℕ) (asked asked_now : ℕ) → 1 ≤ run → run ≤ 2 → MiddlePlaces run read first
    → RunWent run first last asked asked_now → FailsFull room last → 2088960 < room → (line_out_at last run).state ≡ Live
middle_lives room zero first last read asked asked_now least most places went full few = absurd (omega arith)
middle_lives room (suc zero) first last read asked asked_now least most places went full few = second_lives room first last read asked asked_now places went full few
middle_lives room (suc (suc zero)) first last read asked asked_now least most places went full few = third_lives room first last read asked asked_now places went full few
middle_lives room (suc (suc (suc n))) first last read asked asked_now least most places went full few = absurd (omega arith)

pub middle_ran : (run : ℕ) (first last : BaysView) (read file : List ℕ) (asked asked_now : ℕ) → 1 ≤ run → run ≤ 2 → MiddlePlaces run read first → RunWent run first last asked asked_now
    → (line_out_at last run).state ≡ Live → (line_out_at last run).got ≡ Some file → MiddleRan run read file asked asked_now
middle_ran zero first last read file asked asked_now least most places went live got = absurd (omega arith)
middle_ran (suc zero) first last read file asked asked_now least most places went live got = second_ran first last read file asked asked_now places went live got
middle_ran (suc (suc zero)) first last read file asked asked_now least most places went live got = third_ran first last read file asked asked_now places went live got
middle_ran (suc (suc (suc n))) first last read file asked asked_now least most places went live got = absurd (omega arith)

-- ---- the last run

got_all : (room : ℕ) (first last : OutView) (due sent : List ℕ) → first ≡ waiting → OutputLeft first due sent last
    → ((got : List ℕ) → 0 < last.faults → last.got ≡ Some got → length got ≡ room) → length due < room → GotAll last due
got_all room first last due sent is left full few = record {
  live = live;
  got = went_in_all first last due sent is left ∙ ap Some (sym (append-nil sent) ∙ ap (λ r. sent ++ r) (sym (left.whole live)) ∙ left.parts);
}
  where
    live : last.state ≡ Live
    live = still_lives room first last due sent is left full few

pub last_ran : (room : ℕ) (first last : BaysView) (read : List ℕ) (asked asked_now : ℕ) → LastPlaces read first → RunWent 3 first last asked asked_now → FailsFull room last
    → LastRan room read last asked asked_now
unfolding line_inputs
last_ran room first last read asked asked_now places went full =
    let inputs = line_inputs read in
    let may = line_may 3 read first last went.takings went.numbers (λ a k. refl) (λ n k. refl) refl places.line went.left went.well in
    let ran = went.left.of_inputs inputs may in
    let outputs = ran.outputs in
    record {
      inputs = inputs;
      line = refl;
      clients = λ c h few.
          let client = outputs.client (trial_connection 3 c) c (known_client 3 c h) refl in
          let same : client_out_at last c ≡ client.was = client.place in
          let Full : OutView → Type 0 = λ v. (got : List ℕ) → 0 < v.faults → v.got ≡ Some got → length got ≡ room in
          subst (λ v. GotAll v (last_text inputs c)) (sym same)
          (got_all room (client_out_at first c) client.was (last_text inputs c) (ran.written.client c) (places.clients c h) client.left (subst Full same (full.client c)) few);
      asked_each = went.asked_each;
    }
