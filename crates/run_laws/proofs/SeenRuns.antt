-- What runs leave on a connection, by what is seen of the places before and after.
use Rattle.std.proofs.Common.{◌≡◌, ◌<◌, ◌≤◌, ◌+◌, ◌-◌, ◌*◌, ◌/◌, ◌%◌, ◌&&◌, ℕ, Bool, true, false, List, [], ◌∷◌, ◌++◌, length, Option, Some, refl, sym, ap, ◌∙◌, subst, inl, inr, arith, append-nil, ◌==◌, if◌then◌else◌}
use Rattle.std.specs.List.{concat, list_any, Contains}
use Rattle.std.proofs.lemmas.Bool.{and_parts}
use Rattle.std.proofs.lemmas.Bool.Decides.{nat_tests}
use Rattle.std.proofs.lemmas.List.{append_cancel_left}
use Rattle.std.proofs.lemmas.Option.{slice_get_read}
use Rattle.otn_base.specs.LineSlots.{LineSlots, slots_of}
use Rattle.otn_base.specs.declared.kind.PortName.TheVariants as port
use Rattle.port_base.specs.Bytes.{after}
use Rattle.port_base.specs.Given.{Grew, IsWritten, written_between}
use Rattle.port_base.specs.Views.{State, Empty, Live, Dead, OutView, line_out_at, client_in_at, client_out_at}
use Rattle.packet_text.specs.PacketText.{hex_text}
use Rattle.line_side.specs.LineForm.{size_of, through_mask}
use Rattle.line_side.specs.LineOutput.{FramePut}
use Rattle.maintenance_signals.specs.Stream.{signal_bytes}
use Rattle.maintenance_signals.specs.declared.signal.Signal.{Signal}
use Rattle.odu_client.specs.ClientFrames.{client_stream}
use Rattle.odu_client.specs.ClientInput.{ClientInput, emitted_before, input_given}
use Rattle.plan_file.specs.declared.connection.Connection.{Connection}
use Rattle.plan_file.specs.declared.connection.FromEnd.{FromEnd}
use Rattle.plan_file.specs.declared.connection.FromEnd.TheVariants as from_end
use Rattle.plan_file.specs.declared.connection.ToEnd.{ToEnd}
use Rattle.plan_file.specs.declared.connection.ToEnd.TheVariants as to_end
use Rattle.plan_file.specs.declared.plan.Plan.{Plan}
use Rattle.tributary_model.specs.Carries.{sent}
use Rattle.tributary_model.specs.Places.{tributary_of}
use Rattle.tributary_model.specs.Puts.{IsPut}
use Rattle.device_model.specs.Agreements.{AgreeOnTributary}
use Rattle.connection_laws.specs.Carried.{numbers_got}
use Rattle.connection_laws.specs.Delivery.{AreOffered, whole_packets}
use Rattle.device_model.specs.Entries.{first_turn, own_turn, form_in, form_out, is_from_line, is_from_client, is_to_line}
use Rattle.device_model.specs.Inputs.{has_died}
use Rattle.device_model.specs.LineFiles.{IsFrameOf, IsLineFile}
use Rattle.device_model.specs.LineViews.{view_at}
use Rattle.device_model.specs.Moments.{uses}
use Rattle.connection_laws.specs.OneFile.{SameInputsTo}
use Rattle.device_model.specs.Through.{Inputs, OwnInput, of_line, of_client, own_of, own_input, text_by}
use Rattle.connection_laws.specs.TwoWorlds.{AgreeOnEnd, SameInput}
use Rattle.connection_laws.specs.UpToTurn.{AgreeInTurn, BringAlike, AgreeUpTo}
use Rattle.connection_laws.proofs.WorldInputs.{leaves_the_same}
use Rattle.connection_laws.proofs.UpToTurn.{looks_not_ahead, shows_the_same_up_to}
use Rattle.device_model.specs.LineAsked.{MayHave}
use Rattle.device_model.specs.RunLeft.{Takings, MayBeInputs}
use Rattle.run_laws.specs.RunsAlike.{World, IsWorld, bytes_out}
use Rattle.run_laws.specs.RunsThrough.{IsFrontOf, CarriedOn}
use Rattle.run_laws.specs.SeenRuns.{Run, IsRun, LineGave, ClientGave, AgreeOnInput, ShareInput, LineGot, ClientGot, LineLived, ClientLived, SameText, SameOnLine, SameOutput, AgreeOnInputUpTo, ShareInputUpTo, SameOutputUpTo, Shows, Gave, GaveTo, FileGot, PutThrough, read_back, CarriesOver}
use Rattle.run_laws.proofs.GivenRuns.{some_passes, line_had, client_had}
use Rattle.run_laws.proofs.RunsAlike.{left_alike, places_as_got, all_gone, all_of, line_left, one_front}
use Rattle.run_laws.proofs.RunsThrough.{left_through, carried_in}
use Rattle.device_model.proofs.ConnectionPorts.{from_line_used, one_passes}

-- ---- what went out is what the port got

of_one : (xs ys : List ℕ) → Some xs ≡ Some ys → xs ≡ ys
of_one xs ys e = cc

grew_by : (first last : Option (List ℕ)) (written left : List ℕ) → last ≡ after first left → Grew first last written → written ≡ left
grew_by first last written left e k =
    append_cancel_left k.before written left
    (of_one (k.before ++ written) (k.before ++ left) (sym k.has ∙ e ∙ ap (λ got. after got left) k.had))

by_states : (was is : State) (keeps : Bool) (first last : OutView) (all left written : List ℕ) → first.state ≡ was → last.state ≡ is → last.keeps ≡ keeps → IsFrontOf first last all left → written_between was is keeps first.got last.got written → written ≡ left
by_states Live Live keeps first last all left written f l h front k = grew_by first.got last.got written left (front.got f (inl (λ e. cc))) k
by_states Live Dead keeps first last all left written f l h front k = grew_by first.got last.got written left (front.got f (inl (λ e. cc))) k
by_states Live Empty true first last all left written f l h front k = grew_by first.got last.got written left (front.got f (inr h)) k
by_states Live Empty false first last all left written f l h front k = absurd k
by_states Empty is keeps first last all left written f l h front k = k ∙ sym (front.idle (λ e. cc))
by_states Dead is keeps first last all left written f l h front k = k ∙ sym (front.idle (λ e. cc))

pub got_is : (first last : OutView) (all left written : List ℕ) → IsFrontOf first last all left → IsWritten first last written → written ≡ left
got_is first last all left written front k = by_states first.state last.state last.keeps first last all left written refl refl refl front k

-- ---- what the inputs may have been

-- a line and a client that may have been
abbrev pub MayLine : Run → Takings → (a : ℕ) → (line : List ℕ) → Type 0
MayLine run takings a line = (available : List ℕ) × MayHave (takings.line_more a) (takings.line a) available × (line ≡ through_mask (form_in run.plan a).scrambled available)

abbrev pub MayClient : Run → Takings → (n : ℕ) → ClientInput → Type 0
MayClient run takings n input = (available : List ℕ) × MayHave (takings.client_more n) (takings.client n) available
    × (input ≡ input_given (has_died (client_in_at run.before n).state (client_in_at run.after n).state) available)

-- inputs that may have been
abbrev pub MayBe : Run → Takings → Inputs → Type 0
MayBe run takings inputs = MayBeInputs run.plan run.before run.after takings inputs

-- what was taken of each, and nothing behind it
abbrev pub taken_inputs : Run → Takings → Inputs
taken_inputs run takings = record {
  line = λ a. through_mask (form_in run.plan a).scrambled (takings.line a);
  client = λ n. input_given (has_died (client_in_at run.before n).state (client_in_at run.after n).state) (takings.client n);
}

all_taken : (more : Bool) (read : List ℕ) → MayHave more read read
all_taken more read = record { rest = []; over = λ e. refl; parts = sym (append-nil read) }

pub taken_may : (run : Run) (takings : Takings) → MayBe run takings (taken_inputs run takings)
taken_may run takings = record {
  line = λ a used. (takings.line a, all_taken (takings.line_more a) (takings.line a), refl);
  client = λ n used. (takings.client n, all_taken (takings.client_more n) (takings.client n), refl);
}

-- with another line a, or client n
abbrev pub with_line : (a : ℕ) → (line : List ℕ) → Inputs → Inputs
with_line a line inputs = record { line = λ c. if c == a then line else inputs.line c; client = inputs.client }

abbrev pub with_client : (n : ℕ) → ClientInput → Inputs → Inputs
with_client n input inputs = record { line = inputs.line; client = λ c. if c == n then input else inputs.client c }

same_number : (a b : ℕ) → (a == b) ≡ true → a ≡ b
same_number a b e = grind (arith, nat_tests)

one_number : (a : ℕ) → (a == a) ≡ true
one_number a = grind (arith, nat_tests)

line_is : (a : ℕ) (line : List ℕ) (inputs : Inputs) → (with_line a line inputs).line a ≡ line
line_is a line inputs = ap (λ test. if test then line else inputs.line a) (one_number a)

client_is : (n : ℕ) (input : ClientInput) (inputs : Inputs) → (with_client n input inputs).client n ≡ input
client_is n input inputs = ap (λ test. if test then input else inputs.client n) (one_number n)

with_line_may : (run : Run) (takings : Takings) (a : ℕ) (line : List ℕ) (inputs : Inputs) → MayBe run takings inputs → MayLine run takings a line → MayBe run takings (with_line a line inputs)
with_line_may run takings a line inputs may own = record { line = λ c used. go c (c == a) refl (may.line c used); client = may.client }
  where
    go : (c : ℕ) (test : Bool) → (c == a) ≡ test → MayLine run takings c (inputs.line c) → MayLine run takings c (if test then line else inputs.line c)
    go c true e other = subst (λ i. MayLine run takings i line) (sym (same_number c a e)) own
    go c false e other = other

with_client_may : (run : Run) (takings : Takings) (n : ℕ) (input : ClientInput) (inputs : Inputs) → MayBe run takings inputs → MayClient run takings n input → MayBe run takings (with_client n input inputs)
with_client_may run takings n input inputs may own = record { line = may.line; client = λ c used. go c (c == n) refl (may.client c used) }
  where
    go : (c : ℕ) (test : Bool) → (c == n) ≡ test → MayClient run takings c (inputs.client c) → MayClient run takings c (if test then input else inputs.client c)
    go c true e other = subst (λ i. MayClient run takings i input) (sym (same_number c n e)) own
    go c false e other = other

-- ---- inputs with what its own port had to give

abbrev pub own_line_inputs : (run : Run) → IsRun run → (a : ℕ) → (line : List ℕ) → Inputs
own_line_inputs run is a line = with_line a line (taken_inputs run is.takings)

own_line_may : (run : Run) (is : IsRun run) (x : Connection) (a number : ℕ) (slots : LineSlots) (line : List ℕ) → Contains run.plan.connections x → x.from ≡ from_end.Line a number slots → LineGave run a line
    → MayBe run is.takings (own_line_inputs run is a line)
own_line_may run is x a number slots line has from gave =
    let at = slice_get_read run.plan.connections (length run.plan.connections) has.0 x refl has.1 (sym has.2) in
    let used = from_line_used run.plan has.0 a number slots x at from in
    with_line_may run is.takings a line (taken_inputs run is.takings) (taken_may run is.takings)
    (gave.available, line_had run.plan run.before run.after is.takings is.numbers a gave.available is.left used gave.had, gave.frames)

abbrev pub own_client_inputs : (run : Run) → IsRun run → (n : ℕ) → ClientInput → Inputs
own_client_inputs run is n input = with_client n input (taken_inputs run is.takings)

own_client_may : (run : Run) (is : IsRun run) (x : Connection) (n : ℕ) (input : ClientInput) → Contains run.plan.connections x → x.from ≡ from_end.Client n → ClientGave run n input
    → MayBe run is.takings (own_client_inputs run is n input)
own_client_may run is x n input has from gave =
    with_client_may run is.takings n input (taken_inputs run is.takings) (taken_may run is.takings)
    (gave.available, client_had run.plan run.before run.after is.takings is.numbers x n gave.available is.left has from gave.had, gave.packets)

-- ---- the run, as one of these inputs

abbrev pub world_of : (run : Run) → IsRun run → Inputs → World
world_of run is inputs = record { plan = run.plan; first = run.before; last = run.after; takings = is.takings; numbers = is.numbers; inputs = inputs }

abbrev pub is_world : (run : Run) (is : IsRun run) (inputs : Inputs) → MayBe run is.takings inputs → IsWorld (world_of run is inputs)
is_world run is inputs may = record { accepted = is.accepted; left = is.left; may_be = may }

-- what its line got, in a world of the run
pub line_got : (world : World) (x : Connection) (is : IsWorld world) → Contains world.plan.connections x → (b number : ℕ) (slots : LineSlots) (written : List ℕ) → x.to ≡ to_end.Line b number slots
    → IsWritten (line_out_at world.first b) (line_out_at world.last b) written → written ≡ (bytes_out world is).line b
line_got world x is has b number slots written to got =
    let file = (left_through world x is has).line b number slots to in
    got_is (line_out_at world.first b) (line_out_at world.last b) (through_mask (form_out world.plan b).scrambled (concat file.frames)) ((bytes_out world is).line b) written file.front got

pub client_got : (world : World) (x : Connection) (is : IsWorld world) → Contains world.plan.connections x → (n : ℕ) (written : List ℕ) → x.to ≡ to_end.Client n
    → IsWritten (client_out_at world.first n) (client_out_at world.last n) written → written ≡ (bytes_out world is).client n
client_got world x is has n written to got =
    got_is (client_out_at world.first n) (client_out_at world.last n) (text_by x (own_input world.inputs x) (x.stop - first_turn x)) ((bytes_out world is).client n) written
    ((left_through world x is has).client n to) got

-- ---- two runs

-- inputs that both may have had, and that agree on what the end comes from
record AgreeingInputs (one other : Run) (first : IsRun one) (second : IsRun other) (from : FromEnd) : Type 0 where
  mine : Inputs
  theirs : Inputs
  may : MayBe one first.takings mine
  may_too : MayBe other second.takings theirs
  agree : AgreeOnEnd from mine theirs

agreeing : (one other : Run) (first : IsRun one) (second : IsRun other) (x : Connection) (from : FromEnd) → x.from ≡ from → Contains one.plan.connections x → Contains other.plan.connections x
    → AgreeOnInput from one other → AgreeingInputs one other first second from
agreeing one other first second x (from_end.Line a number slots) e has has_too (line, others, gave, gave_too, agree) =
    let own = tributary_of slots number in
    record {
      mine = own_line_inputs one first a line;
      theirs = own_line_inputs other second a others;
      may = own_line_may one first x a number slots line has e gave;
      may_too = own_line_may other second x a number slots others has_too e gave_too;
      agree = subst (λ l. AgreeOnTributary own l ((own_line_inputs other second a others).line a)) (sym (line_is a line (taken_inputs one first.takings)))
          (subst (λ l. AgreeOnTributary own line l) (sym (line_is a others (taken_inputs other second.takings))) agree);
    }
agreeing one other first second x (from_end.Client n) e has has_too (input, gave, gave_too) = record {
  mine = own_client_inputs one first n input;
  theirs = own_client_inputs other second n input;
  may = own_client_may one first x n input has e gave;
  may_too = own_client_may other second x n input has_too e gave_too;
  agree = client_is n input (taken_inputs one first.takings) ∙ sym (client_is n input (taken_inputs other second.takings));
}
agreeing one other first second x (from_end.Signal signal) e has has_too same = record {
  mine = taken_inputs one first.takings;
  theirs = taken_inputs other second.takings;
  may = taken_may one first.takings;
  may_too = taken_may other second.takings;
  agree = tt;
}

pub seen_alike : (one other : Run) (x : Connection) → IsRun one → IsRun other → ShareInput one other x → SameOutput one other x
seen_alike one other x first second share =
    let w = agreeing one other first second x x.from refl share.first share.second share.agree in
    let is = is_world one first w.mine w.may in
    let is_too = is_world other second w.theirs w.may_too in
    let mine = world_of one first w.mine in
    let theirs = world_of other second w.theirs in
    let left = left_alike mine theirs x is is_too (record { first = share.first; second = share.second; agree = w.agree }) in
    let through = left_through mine x is share.first in
    let through_too = left_through theirs x is_too share.second in
    record {
      client = λ n written others to got got_too.
          let all = text_by x (own_input w.mine x) (x.stop - first_turn x) in
          let all_too = text_by x (own_input w.theirs x) (x.stop - first_turn x) in
          let e = got_is (client_out_at one.before n) (client_out_at one.after n) all ((bytes_out mine is).client n) written (through.client n to) got in
          let f = got_is (client_out_at other.before n) (client_out_at other.after n) all_too ((bytes_out theirs is_too).client n) others (through_too.client n to) got_too in
          subst (λ l. SameText one other n l others) (sym e)
          (subst (λ l. SameText one other n ((bytes_out mine is).client n) l) (sym f)
          (record { front = left.text n to; whole = λ l m. left.whole_text n to (record { first = l; second = m }) }));
      line = λ b number past n row column slots written others place mask got got_too.
          let file = through.line b number slots place.to in
          let file_too = through_too.line b number slots place.to in
          let e = got_is (line_out_at one.before b) (line_out_at one.after b) (through_mask (form_out one.plan b).scrambled (concat file.frames)) ((bytes_out mine is).line b) written file.front got in
          let f = got_is (line_out_at other.before b) (line_out_at other.after b) (through_mask (form_out other.plan b).scrambled (concat file_too.frames)) ((bytes_out theirs is_too).line b) others file_too.front got_too in
          let at = slots_of slots.kind * past + n in
          subst (λ l. SameOnLine one other b at row column l others) (sym e)
          (subst (λ l. SameOnLine one other b at row column ((bytes_out mine is).line b) l) (sym f)
          (record {
            gone = left.places b number past n row column slots place mask;
            whole = λ l m. left.all_places b number past n row column slots place mask (record { first = l; second = m });
          }));
    }

-- ---- two runs, up to a turn

-- inputs that both may have had, and that agree so far on what the end comes from
pub record AgreeingSoFar (one other : Run) (first : IsRun one) (second : IsRun other) (from : FromEnd) (x : Connection) (n : ℕ) : Type 0 where
  pub mine : Inputs
  pub theirs : Inputs
  pub may : MayBe one first.takings mine
  pub may_too : MayBe other second.takings theirs
  pub agree : AgreeUpTo from x n mine theirs

pub agreeing_so_far : (one other : Run) (first : IsRun one) (second : IsRun other) (x : Connection) (n : ℕ) (from : FromEnd) → x.from ≡ from → Contains one.plan.connections x → Contains other.plan.connections x
    → AgreeOnInputUpTo from x n one other → AgreeingSoFar one other first second from x n
agreeing_so_far one other first second x n (from_end.Line a number slots) e has has_too (line, others, gave, gave_too, agree) =
    let own = tributary_of slots number in
    record {
      mine = own_line_inputs one first a line;
      theirs = own_line_inputs other second a others;
      may = own_line_may one first x a number slots line has e gave;
      may_too = own_line_may other second x a number slots others has_too e gave_too;
      agree = λ j less. subst (λ l. AgreeInTurn own l ((own_line_inputs other second a others).line a) (first_turn x + j)) (sym (line_is a line (taken_inputs one first.takings)))
          (subst (λ l. AgreeInTurn own line l (first_turn x + j)) (sym (line_is a others (taken_inputs other second.takings))) (agree j less));
    }
agreeing_so_far one other first second x n (from_end.Client m) e has has_too (input, others, gave, gave_too, alike) = record {
  mine = own_client_inputs one first m input;
  theirs = own_client_inputs other second m others;
  may = own_client_may one first x m input has e gave;
  may_too = own_client_may other second x m others has_too e gave_too;
  agree = subst (λ i. BringAlike x.fcs (emitted_before x.pace n) i ((own_client_inputs other second m others).client m)) (sym (client_is m input (taken_inputs one first.takings)))
      (subst (λ i. BringAlike x.fcs (emitted_before x.pace n) input i) (sym (client_is m others (taken_inputs other second.takings))) alike);
}
agreeing_so_far one other first second x n (from_end.Signal signal) e has has_too same = record {
  mine = taken_inputs one first.takings;
  theirs = taken_inputs other second.takings;
  may = taken_may one first.takings;
  may_too = taken_may other second.takings;
  agree = tt;
}

-- the text of a client, where they agree on what it comes from in all own turns but the last
pub seen_text : (n : ℕ) (one other : Run) (x : Connection) → IsRun one → IsRun other → ShareInputUpTo n one other x → x.stop - first_turn x ≤ n + 1 → (m : ℕ) (written others : List ℕ) → x.to ≡ to_end.Client m
    → ClientGot one m written → ClientGot other m others → SameText one other m written others
seen_text n one other x first second share few m written others to got got_too =
    let w = agreeing_so_far one other first second x n x.from refl share.first share.second share.agree in
    let is = is_world one first w.mine w.may in
    let is_too = is_world other second w.theirs w.may_too in
    let alike = looks_not_ahead x n (own_input w.mine x) (own_input w.theirs x) (shows_the_same_up_to one.plan x n w.mine w.theirs first.accepted share.first w.agree) in
    let all = text_by x (own_input w.mine x) (x.stop - first_turn x) in
    let all_too = text_by x (own_input w.theirs x) (x.stop - first_turn x) in
    let same : all ≡ all_too = alike.text (x.stop - first_turn x) few in
    let front = (left_through (world_of one first w.mine) x is share.first).client m to in
    let front_too = (left_through (world_of other second w.theirs) x is_too share.second).client m to in
    let sent = (bytes_out (world_of one first w.mine) is).client m in
    let sent_too = (bytes_out (world_of other second w.theirs) is_too).client m in
    let e = got_is (client_out_at one.before m) (client_out_at one.after m) all sent written front got in
    let f = got_is (client_out_at other.before m) (client_out_at other.after m) all_too sent_too others front_too got_too in
    subst (λ l. SameText one other m l others) (sym e)
    (subst (λ l. SameText one other m sent l) (sym f)
    (record {
      front = one_front sent front.rest sent_too front_too.rest (front.parts ∙ same ∙ sym front_too.parts);
      whole = λ lived lived_too. all_of sent front.rest all front.parts (front.whole lived) ∙ same ∙ sym (all_of sent_too front_too.rest all_too front_too.parts (front_too.whole lived_too));
    }))

pub not_ahead : (n : ℕ) (one other : Run) (x : Connection) → IsRun one → IsRun other → ShareInputUpTo n one other x → SameOutputUpTo n one other x
not_ahead n one other x first second share =
    let w = agreeing_so_far one other first second x n x.from refl share.first share.second share.agree in
    let is = is_world one first w.mine w.may in
    let is_too = is_world other second w.theirs w.may_too in
    let mine = world_of one first w.mine in
    let theirs = world_of other second w.theirs in
    let alike = looks_not_ahead x n (own_input w.mine x) (own_input w.theirs x) (shows_the_same_up_to one.plan x n w.mine w.theirs first.accepted share.first w.agree) in
    record {
      client = λ m written others to few got got_too. seen_text n one other x first second share few m written others to got got_too;
      line = λ b number past k row column slots written others place mask so_far got got_too.
          let e = line_got mine x is share.first b number slots written place.to got in
          let f = line_got theirs x is_too share.second b number slots others place.to got_too in
          let at = slots_of slots.kind * past + k in
          let same = alike.got (own_turn x past + 1) (omega (arith, so_far)) in
          let bytes = places_as_got mine theirs x is is_too share.first share.second b number past k row column slots place same mask in
          subst (λ l. SameOnLine one other b at row column l others) (sym e)
          (subst (λ l. SameOnLine one other b at row column ((bytes_out mine is).line b) l) (sym f)
          (record {
            gone = bytes;
            whole = λ l m.
                bytes (all_gone mine x b number past k row column slots ((bytes_out mine is).line b) is share.first place (line_left mine x b number slots is share.first place.to) l)
                (all_gone theirs x b number past k row column slots ((bytes_out theirs is_too).line b) is_too share.second place (line_left theirs x b number slots is_too share.second place.to) m);
          }));
    }

-- ---- what is put through

-- inputs that the run may have had, of which the end's own is this
record ShownInputs (run : Run) (is : IsRun run) (from : FromEnd) (own : OwnInput) : Type 0 where
  inputs : Inputs
  may : MayBe run is.takings inputs
  own_is : own ≡ own_of inputs from

shown : (run : Run) (is : IsRun run) (x : Connection) (from : FromEnd) (own : OwnInput) → x.from ≡ from → Contains run.plan.connections x → Shows run from own → ShownInputs run is from own
shown run is x (from_end.Line a number slots) own e has (line, gave, same) = record {
  inputs = own_line_inputs run is a line;
  may = own_line_may run is x a number slots line has e gave;
  own_is = same ∙ ap (λ l. of_line (view_at (tributary_of slots number) l)) (sym (line_is a line (taken_inputs run is.takings)));
}
shown run is x (from_end.Client n) own e has (input, gave, same) = record {
  inputs = own_client_inputs run is n input;
  may = own_client_may run is x n input has e gave;
  own_is = same ∙ ap of_client (sym (client_is n input (taken_inputs run is.takings)));
}
shown run is x (from_end.Signal signal) own e has same = record { inputs = taken_inputs run is.takings; may = taken_may run is.takings; own_is = same }

text_through : (run : Run) (x : Connection) → IsRun run → Contains run.plan.connections x → (n : ℕ) (own : OwnInput) (written : List ℕ) → x.to ≡ to_end.Client n → Shows run x.from own → ClientGot run n written
    → IsFrontOf (client_out_at run.before n) (client_out_at run.after n) (text_by x own (x.stop - first_turn x)) written
text_through run x is has n own written to shows got =
    let s = shown run is x x.from own refl has shows in
    let world = world_of run is s.inputs in
    let in_world = is_world run is s.inputs s.may in
    let all = text_by x (own_input s.inputs x) (x.stop - first_turn x) in
    let front = (left_through world x in_world has).client n to in
    let e = got_is (client_out_at run.before n) (client_out_at run.after n) all ((bytes_out world in_world).client n) written front got in
    subst (λ o. IsFrontOf (client_out_at run.before n) (client_out_at run.after n) (text_by x o (x.stop - first_turn x)) written) (sym s.own_is)
    (subst (λ l. IsFrontOf (client_out_at run.before n) (client_out_at run.after n) all l) (sym e) front)

-- ---- the file of a line, by the inputs of the connections that go to it

pub same_frame : (plan : Plan) (one other : Inputs) (b past n : ℕ) (put : FramePut) → SameInputsTo plan one other b → IsFrameOf plan one b past n put → IsFrameOf plan other b past n put
same_frame plan one other b past n put same h = record {
  mfas = h.mfas;
  many = h.many;
  used = h.used;
  free = h.free;
  size = h.size;
  own = λ x port slots sent. subst (λ turns. IsPut (tributary_of slots port) turns (own_turn x past) n put.bytes)
      (leaves_the_same x (own_input one x) (own_input other x) (own_turn x past + 1) (same x port slots sent.is_of sent.to)).got (h.own x port slots sent);
  other = h.other;
}

same_file : (plan : Plan) (one other : Inputs) (b count : ℕ) (frames : List (List ℕ)) → SameInputsTo plan one other b → IsLineFile plan one b count frames → IsLineFile plan other b count frames
same_file plan one other b count frames same h = record {
  puts = h.puts;
  are_put = record {
    many = h.are_put.many;
    each = λ f put at. same_frame plan one other b (f / size_of (form_out plan b)) (f % size_of (form_out plan b)) put same (h.are_put.each f put at);
  };
  are_frames = h.are_frames;
}

to_it : (b : ℕ) (to : ToEnd) → is_to_line b to ≡ true → (port : ℕ) × (slots : LineSlots) × (to ≡ to_end.Line b port slots)
to_it b (to_end.Line c port slots) e = (port, slots, ap (λ c. to_end.Line c port slots) (same_number c b e))
to_it b (to_end.Client n) e = absurd (cc)

is_to_it : (b port : ℕ) (slots : LineSlots) (to : ToEnd) → to ≡ to_end.Line b port slots → is_to_line b to ≡ true
is_to_it b port slots to e = ap (is_to_line b) e ∙ one_number b

-- a connection goes from line a, or from client n, to line b
abbrev from_line_to : (a b : ℕ) → Connection → Bool
from_line_to a b y = is_from_line a y.from && is_to_line b y.to

abbrev from_client_to : (n b : ℕ) → Connection → Bool
from_client_to n b y = is_from_client n y.from && is_to_line b y.to

gave_line : (run : Run) (a : ℕ) (from : FromEnd) (inputs : Inputs) → is_from_line a from ≡ true → Gave run from inputs → LineGave run a (inputs.line a)
gave_line run a (from_end.Line c port slots) inputs e gave = subst (λ i. LineGave run i (inputs.line i)) (same_number c a e) gave
gave_line run a (from_end.Client n) inputs e gave = absurd (cc)
gave_line run a (from_end.Signal signal) inputs e gave = absurd (cc)

gave_client : (run : Run) (n : ℕ) (from : FromEnd) (inputs : Inputs) → is_from_client n from ≡ true → Gave run from inputs → ClientGave run n (inputs.client n) × (from ≡ from_end.Client n)
gave_client run n (from_end.Line c port slots) inputs e gave = absurd (cc)
gave_client run n (from_end.Client m) inputs e gave =
    let same = same_number m n e in
    (subst (λ i. ClientGave run i (inputs.client i)) same gave, ap from_end.Client same)
gave_client run n (from_end.Signal signal) inputs e gave = absurd (cc)

-- these inputs where they go to line b, and else what was taken
abbrev inputs_to : Run → Takings → (b : ℕ) → Inputs → Inputs
inputs_to run takings b inputs = record {
  line = λ a. if list_any (from_line_to a b) run.plan.connections then inputs.line a else (taken_inputs run takings).line a;
  client = λ n. if list_any (from_client_to n b) run.plan.connections then inputs.client n else (taken_inputs run takings).client n;
}

inputs_to_may : (run : Run) (is : IsRun run) (b : ℕ) (inputs : Inputs) → GaveTo run b inputs → MayBe run is.takings (inputs_to run is.takings b inputs)
inputs_to_may run is b inputs gave = record {
  line = λ a used. line_at a used (list_any (from_line_to a b) run.plan.connections) refl;
  client = λ n used. client_at n (list_any (from_client_to n b) run.plan.connections) refl;
}
  where
    line_at : (a : ℕ) → uses run.plan (port.LineIn a) ≡ true → (test : Bool) → list_any (from_line_to a b) run.plan.connections ≡ test
        → MayLine run is.takings a (if test then inputs.line a else (taken_inputs run is.takings).line a)
    line_at a used true e =
        let y = some_passes (from_line_to a b) run.plan.connections e in
        let both = and_parts (is_from_line a y.0.from) (is_to_line b y.0.to) y.2 in
        let to = to_it b y.0.to both.1 in
        let g = gave_line run a y.0.from inputs both.0 (gave y.0 to.0 to.1 y.1 to.2) in
        (g.available, line_had run.plan run.before run.after is.takings is.numbers a g.available is.left used g.had, g.frames)
    line_at a used false e = (is.takings.line a, all_taken (is.takings.line_more a) (is.takings.line a), refl)

    client_at : (n : ℕ) (test : Bool) → list_any (from_client_to n b) run.plan.connections ≡ test
        → MayClient run is.takings n (if test then inputs.client n else (taken_inputs run is.takings).client n)
    client_at n true e =
        let y = some_passes (from_client_to n b) run.plan.connections e in
        let both = and_parts (is_from_client n y.0.from) (is_to_line b y.0.to) y.2 in
        let to = to_it b y.0.to both.1 in
        let g = gave_client run n y.0.from inputs both.0 (gave y.0 to.0 to.1 y.1 to.2) in
        (g.0.available, client_had run.plan run.before run.after is.takings is.numbers y.0 n g.0.available is.left y.1 g.1 g.0.had, g.0.packets)
    client_at n false e = (is.takings.client n, all_taken (is.takings.client_more n) (is.takings.client n), refl)

same_to : (run : Run) (takings : Takings) (b : ℕ) (inputs : Inputs) → SameInputsTo run.plan (inputs_to run takings b inputs) inputs b
same_to run takings b inputs = λ x port slots has to. by_from x port slots has to x.from refl
  where
    by_from : (x : Connection) (number : ℕ) (slots : LineSlots) → Contains run.plan.connections x → x.to ≡ to_end.Line b number slots → (from : FromEnd) → x.from ≡ from
        → SameInput (own_of (inputs_to run takings b inputs) from) (own_of inputs from)
    by_from x number slots has to (from_end.Line a own list) e =
        let at = slice_get_read run.plan.connections (length run.plan.connections) has.0 x refl has.1 (sym has.2) in
        let from : is_from_line a x.from ≡ true = ap (is_from_line a) e ∙ one_number a in
        let on : list_any (from_line_to a b) run.plan.connections ≡ true = one_passes (from_line_to a b) run.plan.connections has.0 x at (rw (from, is_to_it b number slots x.to to) refl) in
        λ t. ap (λ test. view_at (tributary_of list own) (if test then inputs.line a else (taken_inputs run takings).line a) t) on
    by_from x number slots has to (from_end.Client n) e =
        let at = slice_get_read run.plan.connections (length run.plan.connections) has.0 x refl has.1 (sym has.2) in
        let from : is_from_client n x.from ≡ true = ap (is_from_client n) e ∙ one_number n in
        let on : list_any (from_client_to n b) run.plan.connections ≡ true = one_passes (from_client_to n b) run.plan.connections has.0 x at (rw (from, is_to_it b number slots x.to to) refl) in
        ap (λ test. if test then inputs.client n else (taken_inputs run takings).client n) on
    by_from x number slots has to (from_end.Signal signal) e = tt

file_through : (run : Run) (x : Connection) → IsRun run → Contains run.plan.connections x → (b number : ℕ) (slots : LineSlots) (inputs : Inputs) (written : List ℕ) → x.to ≡ to_end.Line b number slots
    → GaveTo run b inputs → LineGot run b written → FileGot run inputs b written
file_through run x is has b number slots inputs written to gave got =
    let known = inputs_to run is.takings b inputs in
    let in_world = is_world run is known (inputs_to_may run is b inputs gave) in
    let world = world_of run is known in
    let file = (left_through world x in_world has).line b number slots to in
    let all = through_mask (form_out run.plan b).scrambled (concat file.frames) in
    let e = got_is (line_out_at run.before b) (line_out_at run.after b) all ((bytes_out world in_world).line b) written file.front got in
    record { frames = file.frames; file = same_file run.plan known inputs b (size_of (form_out run.plan b) * run.plan.turns) file.frames (same_to run is.takings b inputs) file.file; front = subst (λ l. IsFrontOf (line_out_at run.before b) (line_out_at run.after b) all l) (sym e) file.front }

pub puts_through : (run : Run) (x : Connection) → IsRun run → Contains run.plan.connections x → PutThrough run x
puts_through run x is has = record { client = text_through run x is has; line = file_through run x is has }

-- ---- what is carried

line_over : (run : Run) (x : Connection) → IsRun run → Contains run.plan.connections x → (a from b number u w : ℕ) (slots others : LineSlots) (line written bytes p : List ℕ) → x.from ≡ from_end.Line a from slots
    → x.to ≡ to_end.Line b number others → LineGave run a line → LineGot run b written → LineLived run b → w ≤ u → w < x.stop
    → CarriedOn x from slots line bytes p u → CarriedOn x number others (read_back run b written) bytes (0 ∷ 0 ∷ 0 ∷ p) w
line_over run x is has a from b number u w slots others line written bytes p comes to gave got lived le less carried =
    let inputs = own_line_inputs run is a line in
    let world = world_of run is inputs in
    let in_world = is_world run is inputs (own_line_may run is x a from slots line has comes gave) in
    let e = line_got world x in_world has b number others written to got in
    subst (λ l. CarriedOn x number others (read_back run b l) bytes (0 ∷ 0 ∷ 0 ∷ p) w) (sym e)
    ((carried_in world x in_world has).line a from b number u w slots others bytes p comes to lived le less
    (subst (λ l. CarriedOn x from slots l bytes p u) (sym (line_is a line (taken_inputs run is.takings))) carried))

client_over : (run : Run) (x : Connection) → IsRun run → Contains run.plan.connections x → (m b number u n : ℕ) (slots : LineSlots) (input : ClientInput) (written : List ℕ) → x.from ≡ from_end.Client m
    → x.to ≡ to_end.Line b number slots → ClientGave run m input → LineGot run b written → LineLived run b → u < x.stop → u ≤ first_turn x + n
    → CarriedOn x number slots (read_back run b written) (client_stream x.trace input.packets x.fcs (emitted_before x.pace n)) (numbers_got x.pace n) u
client_over run x is has m b number u n slots input written comes to gave got lived less high =
    let inputs = own_client_inputs run is m input in
    let world = world_of run is inputs in
    let in_world = is_world run is inputs (own_client_may run is x m input has comes gave) in
    let e = line_got world x in_world has b number slots written to got in
    subst (λ l. CarriedOn x number slots (read_back run b l) (client_stream x.trace input.packets x.fcs (emitted_before x.pace n)) (numbers_got x.pace n) u) (sym e)
    (subst (λ i. CarriedOn x number slots (read_back run b ((bytes_out world in_world).line b)) (client_stream x.trace (ClientInput.packets i) x.fcs (emitted_before x.pace n)) (numbers_got x.pace n) u)
    (client_is m input (taken_inputs run is.takings)) ((carried_in world x in_world has).client m b number u n slots comes to lived less high))

signal_over : (run : Run) (x : Connection) → IsRun run → Contains run.plan.connections x → (signal : Signal) (b number u n : ℕ) (slots : LineSlots) (written : List ℕ) → x.from ≡ from_end.Signal signal
    → x.to ≡ to_end.Line b number slots → LineGot run b written → LineLived run b → u < x.stop → u ≤ first_turn x + n
    → CarriedOn x number slots (read_back run b written) (signal_bytes signal 0 (emitted_before x.pace n)) (numbers_got x.pace n) u
signal_over run x is has signal b number u n slots written comes to got lived less high =
    let inputs = taken_inputs run is.takings in
    let world = world_of run is inputs in
    let in_world = is_world run is inputs (taken_may run is.takings) in
    let e = line_got world x in_world has b number slots written to got in
    subst (λ l. CarriedOn x number slots (read_back run b l) (signal_bytes signal 0 (emitted_before x.pace n)) (numbers_got x.pace n) u) (sym e)
    ((carried_in world x in_world has).signal signal b number u n slots comes to lived less high)

packets_over : (run : Run) (x : Connection) → IsRun run → Contains run.plan.connections x → (a from n u k : ℕ) (slots : LineSlots) (sapi : List ℕ) (packets : List (List ℕ)) (fcs : Bool) (line written p : List ℕ)
    → x.from ≡ from_end.Line a from slots → x.to ≡ to_end.Client n → LineGave run a line → ClientGot run n written → ClientLived run n → x.stop ≤ u + 2 → AreOffered packets
    → CarriedOn x from slots line (client_stream sapi packets fcs k) p u → written ≡ hex_text (whole_packets packets fcs (sent p (x.stop - x.start - 2)))
packets_over run x is has a from n u k slots sapi packets fcs line written p comes to gave got lived most offered carried =
    let inputs = own_line_inputs run is a line in
    let world = world_of run is inputs in
    let in_world = is_world run is inputs (own_line_may run is x a from slots line has comes gave) in
    client_got world x in_world has n written to got
    ∙ (carried_in world x in_world has).packets a from n u k slots sapi packets fcs p comes to lived most offered
    (subst (λ l. CarriedOn x from slots l (client_stream sapi packets fcs k) p u) (sym (line_is a line (taken_inputs run is.takings))) carried)

pub carries_over : (run : Run) (x : Connection) → IsRun run → Contains run.plan.connections x → CarriesOver run x
carries_over run x is has = record { line = line_over run x is has; client = client_over run x is has; signal = signal_over run x is has; packets = packets_over run x is has }
