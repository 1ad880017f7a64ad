-- A call of `run` is a run over the very bytes that it was handed and that it handed out.
use Rattle.std.proofs.Common.{◌≡◌, ◌≢◌, ◌<◌, ◌+◌, ◌-◌, inl, inr, ℕ, zero, suc, Bool, true, false, if◌then◌else◌, nat_lt, List, [], get_or, Option, Some, Ok, refl, sym, ap, ◌∙◌, subst, arith, append-nil}
use Rattle.std.specs.List.{Contains}
use Rattle.std.specs.Prelude.{slice_get, length}
use Rattle.std.proofs.lemmas.Bool.Decides.{nat_tests}
use Rattle.std.proofs.lemmas.Option.{slice_get_read}
use Rattle.otn_base.specs.LineSlots.{LineSlots}
use Rattle.otn_base.specs.declared.kind.PortName.TheVariants as port
use Rattle.port_base.specs.Bytes.{HasFailed}
use Rattle.port_base.specs.Given.{HadToGive, IsWritten, Lives, written_between}
use Rattle.port_base.specs.PortViews.{SourceView, SinkView}
use Rattle.port_base.specs.Retiring.{retired_in_as, retired_out_as}
use Rattle.port_base.specs.Views.{State, Empty, Live, Dead, InView, OutView, BaysView, line_in_at, line_out_at, client_in_at, client_out_at}
use Rattle.line_side.specs.LineForm.{through_mask}
use Rattle.odu_client.specs.ClientInput.{input_given}
use Rattle.plan_file.specs.Answer.{plan_of_text}
use Rattle.plan_file.specs.declared.connection.Connection.{Connection}
use Rattle.plan_file.specs.declared.connection.FromEnd.TheVariants as from_end
use Rattle.plan_file.specs.declared.connection.ToEnd.TheVariants as to_end
use Rattle.plan_file.specs.declared.plan.Plan.{Plan}
use Rattle.device_model.specs.Entries.{form_in}
use Rattle.device_model.specs.Inputs.{has_died}
use Rattle.device_model.specs.Outcomes.{HasDead}
use Rattle.device_model.specs.Report.{Numbers}
use Rattle.device_model.specs.RetiredPlaces.{after_retire, out_after_retire}
use Rattle.device_model.specs.RunLeft.{Takings, RunLeft, RunOf, ClientInLeft}
use Rattle.device_model.specs.SoundPlans.{IsSoundEntry}
use Rattle.device_model.specs.Through.{Inputs}
use Rattle.device_model.specs.declared.outcome.Outcome.{Outcome}
use Rattle.device_model.specs.declared.outcome.Outcome.TheVariants as outcome
use Rattle.device_model.proofs.ConnectionPorts.{from_line_used, to_line_used, to_client_used}
use Rattle.connection_laws.proofs.WorldInputs.{sound_of}
use Rattle.run_laws.specs.SeenRuns.{Run}
use Rattle.command_base.specs.Codes.{code_of}
use Rattle.command_base.specs.Device.{Device}
use Rattle.command_base.specs.declared.status.Status.{Status}
use Rattle.command_base.specs.declared.status.Status.TheVariants as status
use Rattle.command_base.proofs.Lives.{still_alive}
use Rattle.check_command.specs.PlanReading.{IsAll, WasRead}
use Rattle.check_command.proofs.PlanChecks.{same_plan}
use Rattle.run_command.specs.RunAnswers.{PlanRan, RunAnswers, outcome_status}
use Rattle.run_command.specs.RunCalls.{CarriesPlan}
use Rattle.run_command.proofs.RunCalls.{accepted_plan, run_carries, same_answer}
use Rattle.run_command.proofs.SeenCalls.{all_read, ran_of}
use Rattle.command_words.specs.declared.words.Command.TheVariants as command
use Rattle.line_tool.specs.TrialRuns.{waiting}
use Rattle.otn_c.specs.Blocks.{part_of, words_said}
use Rattle.otn_c.specs.Calls.{Called, Gives, IsAnswered, IsRunForm, fresh_sink, no_call, no_memory, no_room, source_of}
use Rattle.otn_c.specs.Isolation.{Call, CarriedPlan, HasCarried, IsRunOf, IsWhole, WasCalled, bytes_by, input_of, output_of}
use Rattle.otn_c.specs.Places.{IsKept, input_as, output_at}
use Rattle.otn_c.proofs.LineBytes.{had_by}

-- ---- the code of a call that carried a plan

below : (code : ℕ) → HasCarried code → code < 7
below code (inl e) = omega arith
below code (inr (inl e)) = omega arith
below code (inr (inr (inl e))) = omega arith
below code (inr (inr (inr e))) = omega arith

never : (code refusal : ℕ) → code ≡ refusal → HasCarried code → 1 < refusal → refusal < 5 → ⊥
never code refusal is (inl e) more less = absurd (omega arith)
never code refusal is (inr (inl e)) more less = absurd (omega arith)
never code refusal is (inr (inr (inl e))) more less = absurd (omega arith)
never code refusal is (inr (inr (inr e))) more less = absurd (omega arith)

past_one : (code n : ℕ) → code ≡ n → IsWhole code → 1 < n → ⊥
past_one code n is (inl e) more = absurd (omega arith)
past_one code n is (inr e) more = absurd (omega arith)

pub not_memory : (code : ℕ) → HasCarried code → code ≢ no_memory
not_memory code ended same = absurd (let less = below code ended in omega arith)

pub not_call : (code : ℕ) → HasCarried code → code ≢ no_call
not_call code ended same = absurd (let less = below code ended in omega arith)

not_room : (code : ℕ) → HasCarried code → code ≢ no_room
not_room code ended same = absurd (let less = below code ended in omega arith)

is_carried : (answer : Status) (code : ℕ) → code ≡ code_of answer → HasCarried code → CarriesPlan answer
is_carried status.Done code is ended = tt
is_carried status.Unfinished code is ended = tt
is_carried status.Cut code is ended = tt
is_carried status.ReportFault code is ended = tt
is_carried status.Words code is ended = absurd (never code 2 is ended (omega arith) (omega arith))
is_carried (status.Plan error place) code is ended = absurd (never code 3 is ended (omega arith) (omega arith))
is_carried status.PlanFault code is ended = absurd (never code 4 is ended (omega arith) (omega arith))
is_carried status.Memory code is ended = absurd (not_memory code ended is)

-- ---- what `run` answers for

pub run_answers : (words : List (List ℕ)) (plan : List ℕ) (first last : BaysView) (report report_now : SinkView) (answer : Status) → IsAnswered words plan first last report report_now answer → IsRunForm words
    → (left : SourceView) × (asked : ℕ)
    × RunAnswers (record { plan = source_of plan; bays = first; report = report }) (record { plan = left; bays = last; report = report_now }) 0 asked answer
run_answers words plan first last report report_now answer is (inl form) = is.answers command.Run form
run_answers words plan first last report report_now answer is (inr (inl (number, form))) = is.answers (command.RunOrdered number) form
run_answers words plan first last report report_now answer is (inr (inr form)) = is.answers command.RunCaptures form

plan_ran : (answer : Status) (old new : Device) (asked now : ℕ) (plan : Plan) → (answers : RunAnswers old new asked now answer) → CarriesPlan answer → plan_of_text answers.text ≡ Ok plan
    → PlanRan plan old new asked now answer
plan_ran answer old new asked now plan answers c is =
    let p = run_carries answer old new asked now answers c in
    subst (λ q. PlanRan q old new asked now answer) (same_answer (plan_of_text answers.text) p.0 plan p.2 is) p.1

-- what it left, if nothing follows what was taken of its inputs
abbrev taken_inputs : Plan → (first last : BaysView) → Takings → Inputs
taken_inputs plan first last takings = record {
  line = λ a. through_mask (form_in plan a).scrambled (takings.line a);
  client = λ n. input_given (has_died (client_in_at first n).state (client_in_at last n).state) (takings.client n);
}

taken_run : (plan : Plan) (first last : BaysView) (takings : Takings) (numbers : Numbers) → RunLeft plan first last takings numbers
    → RunOf plan first last takings numbers (taken_inputs plan first last takings)
taken_run plan first last takings numbers left = left.of_inputs (taken_inputs plan first last takings) record {
  line = λ a used. (takings.line a, record { rest = []; over = λ e. refl; parts = sym (append-nil (takings.line a)) }, refl);
  client = λ n used. (takings.client n, record { rest = []; over = λ e. refl; parts = sym (append-nil (takings.client n)) }, refl);
}

-- a run that is Done or Unfinished is not cut
uncut : (answer : Status) (told : Outcome) (code : ℕ) → code ≡ code_of answer → IsWhole code → (answer ≢ status.ReportFault → answer ≡ outcome_status told) → told ≢ outcome.Cut
uncut answer told code is whole by cut =
    let not : answer ≢ status.ReportFault = λ fault. past_one code 5 (is ∙ ap code_of fault) whole (omega arith) in
    past_one code 6 (is ∙ ap code_of (by not ∙ ap outcome_status cut)) whole (omega arith)

-- ---- inputs

unfailed : (old new : ℕ) → old ≡ 0 → new ≡ 0 → HasFailed old new → ⊥
unfailed old new none still (inl more) = absurd (omega arith)
unfailed old new none still (inr top) = absurd (omega arith)

empty_lives : Empty ≢ Dead
empty_lives = λ e. cc

live_lives : Live ≢ Dead
live_lives = λ e. cc

alive_as : (flag : ℕ) (bytes : List ℕ) → (input_as flag bytes).state ≢ Dead
alive_as zero bytes = empty_lives
alive_as (suc n) bytes = live_lives

calm_as : (flag : ℕ) (bytes : List ℕ) → (input_as flag bytes).faults ≡ 0
calm_as zero bytes = refl
calm_as (suc n) bytes = refl

had_as : (flag : ℕ) (bytes : List ℕ) (last : InView) → last.state ≢ Dead → HadToGive (input_as flag bytes) last (bytes_by flag bytes)
had_as zero bytes last lives = refl
had_as (suc n) bytes last lives = had_by last.state bytes last.left lives

-- an input that did not fail has not died, and had its bytes to give
lives_on : (flag : ℕ) (bytes : List ℕ) (first last : InView) → first ≡ input_as flag bytes → Lives first.state last.state first.faults last.faults → last.faults ≡ 0 → last.state ≢ Dead
lives_on flag bytes first last is lives still =
    still_alive first last lives (λ failed. unfailed first.faults last.faults (ap (λ v. v.faults) is ∙ calm_as flag bytes) still failed)
    (λ dead. alive_as flag bytes (ap (λ v. v.state) (sym is) ∙ dead))

gave_all : (flag : ℕ) (bytes : List ℕ) (first last : InView) → first ≡ input_as flag bytes → last.state ≢ Dead → HadToGive first last (bytes_by flag bytes)
gave_all flag bytes first last is lives = subst (λ v. HadToGive v last (bytes_by flag bytes)) (sym is) (had_as flag bytes last lives)

-- a client's place that is dead behind its connection's stop was dead before
dead_by : (was : InView) (state : State) → was.state ≡ state → (retired_in_as state was).state ≡ Dead → retired_in_as state was ≡ was
dead_by was Live e dead = absurd (cc)
dead_by was Empty e dead = refl
dead_by was Dead e dead = refl

dead_before : (retires : Bool) (was last : InView) → last ≡ after_retire retires was → last.state ≡ Dead → last ≡ was
dead_before false was last place dead = place
dead_before true was last place dead = place ∙ dead_by was was.state refl (sym (ap (λ v. v.state) place) ∙ dead)

client_lives_on : (flag : ℕ) (bytes : List ℕ) (first last : InView) (retires more : Bool) (further : List ℕ) → first ≡ input_as flag bytes → ClientInLeft retires first last further more → last.faults ≡ 0 → last.state ≢ Dead
client_lives_on flag bytes first last retires more further is left still = λ dead.
    let same = dead_before retires left.was last left.place dead in
    lives_on flag bytes first left.was is left.left.gave.state (ap (λ v. v.faults) (sym same) ∙ still) (ap (λ v. v.state) (sym same) ∙ dead)

none_died : (was is : State) → is ≢ Dead → has_died was is ≡ false
none_died Live Live lives = refl
none_died Live Empty lives = refl
none_died Live Dead lives = absurd (lives refl)
none_died Empty Live lives = refl
none_died Empty Empty lives = refl
none_died Empty Dead lives = refl
none_died Dead Live lives = refl
none_died Dead Empty lives = refl
none_died Dead Dead lives = refl

-- ---- outputs

line_place : (bays : BaysView) (b : ℕ) → b < 4 → output_at bays b ≡ line_out_at bays b
line_place bays b less =
    let front : nat_lt b 4 ≡ true = grind (arith, nat_tests) in
    ap (λ t. if t then line_out_at bays b else client_out_at bays (b - 4)) front

client_place : (bays : BaysView) (n : ℕ) → output_at bays (4 + n) ≡ client_out_at bays n
client_place bays n =
    let back : nat_lt (4 + n) 4 ≡ false = grind (arith, nat_tests) in
    let number : 4 + n - 4 ≡ n = omega arith in
    ap (λ t. if t then line_out_at bays (4 + n) else client_out_at bays (4 + n - 4)) back ∙ ap (client_out_at bays) number

gone_by : (state : State) (got : Option (List ℕ)) (bytes : List ℕ) → got ≡ Some bytes
    → written_between Live state true (Some []) got bytes
gone_by Empty got bytes told = record { before = []; had = refl; has = told }
gone_by Live got bytes told = record { before = []; had = refl; has = told }
gone_by Dead got bytes told = record { before = []; had = refl; has = told }

got_all : (first last : OutView) (bytes : List ℕ) → first ≡ waiting → last.keeps ≡ true → IsKept last bytes
    → IsWritten first last bytes
got_all first last bytes is keeps kept =
    subst (λ v. IsWritten v last bytes) (sym is)
    (subst (λ k. written_between Live last.state k (Some []) last.got bytes) (sym keeps)
    (gone_by last.state last.got bytes kept))

-- a place whose port keeps what it got keeps it when it is retired
keeps_by : (was : OutView) (state : State) → (retired_out_as state was).keeps ≡ was.keeps
keeps_by was Live = refl
keeps_by was Empty = refl
keeps_by was Dead = refl

keeps_on : (retires : Bool) (was last : OutView) → last ≡ out_after_retire retires was → last.keeps ≡ was.keeps
keeps_on false was last place = ap (λ v. v.keeps) place
keeps_on true was last place = ap (λ v. v.keeps) place ∙ keeps_by was was.state

entry : (plan : Plan) (x : Connection) → (has : Contains plan.connections x) → slice_get plan.connections has.0 ≡ Some x
entry plan x has = slice_get_read plan.connections (length plan.connections) has.0 x refl has.1 (sym has.2)

-- ---- the run of a call

abbrev pub CallOf : Call → Type 0
CallOf call = Called call.words call.text call.inputs call.ends call.present call.code call.told call.outputs call.output_ends call.report

-- all that `run` was handed, before and after
abbrev device_first : (call : Call) → CallOf call → Device
device_first call c = record { plan = source_of call.text; bays = c.first; report = fresh_sink }

abbrev device_last : (call : Call) → CallOf call → SourceView → Device
device_last call c left = record { plan = left; bays = c.last; report = c.report_now }

-- a call that carried a plan, by what `run` answers for
record Carrying (call : Call) (c : CallOf call) : Type 0 where
  left : SourceView
  asked : ℕ
  answers : RunAnswers (device_first call c) (device_last call c left) 0 asked c.answer
  carried : CarriesPlan c.answer
  same_text : plan_of_text answers.text ≡ plan_of_text call.text
  code_is : call.code ≡ code_of c.answer
  gives : Gives c.last c.report_now call.told call.outputs call.output_ends call.report

carrying : (call : Call) (c : CallOf call) → IsRunForm (words_said call.words) → HasCarried call.code → Carrying call c
carrying call c form ended =
    let gives = c.handed.gives (not_room call.code ended) in
    let code_is : call.code ≡ code_of c.answer = gives.0 ∙ c.handed.tells.status in
    let carried = is_carried c.answer call.code code_is ended in
    let ran = run_answers (words_said call.words) call.text c.first c.last fresh_sink c.report_now c.answer c.answered form in
    record {
      left = ran.0;
      asked = ran.1;
      answers = ran.2;
      carried = carried;
      same_text = same_plan call.text ran.2.text ran.0 ran.2.read (all_read c.answer ran.2.text (source_of call.text) ran.0 carried ran.2.all);
      code_is = code_is;
      gives = gives.1;
    }

-- its text is that of a plan
text_of_plan : (call : Call) (c : CallOf call) → Carrying call c → (plan : Plan) × (plan_of_text call.text ≡ Ok plan)
text_of_plan call c k =
    let p = run_carries c.answer (device_first call c) (device_last call c k.left) 0 k.asked k.answers k.carried in
    (p.0, sym k.same_text ∙ p.2)

module _ (call : Call) (c : CallOf call) (k : Carrying call c) (is_plan : plan_of_text call.text ≡ Ok call.plan) where
  did : PlanRan call.plan (device_first call c) (device_last call c k.left) 0 k.asked c.answer
  did = plan_ran c.answer (device_first call c) (device_last call c k.left) 0 k.asked call.plan k.answers k.carried (k.same_text ∙ is_plan)

  of_taken : RunOf call.plan c.first c.last did.takings did.numbers (taken_inputs call.plan c.first c.last did.takings)
  of_taken = taken_run call.plan c.first c.last did.takings did.numbers did.left

  sound : (x : Connection) → Contains call.plan.connections x → IsSoundEntry call.plan x
  sound x has = sound_of call.plan x (accepted_plan call.text call.plan is_plan) has

  none_dead : IsWhole call.code → HasDead call.plan c.last → ⊥
  none_dead whole dead = uncut c.answer did.numbers.outcome call.code k.code_is whole did.answer (of_taken.numbers_are.outcome.cut.1 dead)

  line_opened : (x : Connection) (a number : ℕ) (slots : LineSlots) → Contains call.plan.connections x → x.from ≡ from_end.Line a number slots
      → line_in_at c.first a ≡ input_as (get_or call.present a 0) (part_of call.inputs call.ends a)
  line_opened x a number slots has from = c.opens.line_in a ((sound x has).from_line a number slots from).line

  line_gave : (x : Connection) (a number : ℕ) (slots : LineSlots) → Contains call.plan.connections x → x.from ≡ from_end.Line a number slots
      → HadToGive (line_in_at c.first a) (line_in_at c.last a) (input_of call a)
  line_gave x a number slots has from =
      let flag = get_or call.present a 0 in
      let bytes = part_of call.inputs call.ends a in
      let opened = line_opened x a number slots has from in
      let l = did.left.line_in a (from_line_used call.plan has.0 a number slots x (entry call.plan x has) from) in
      gave_all flag bytes (line_in_at c.first a) (line_in_at c.last a) opened (lives_on flag bytes (line_in_at c.first a) (line_in_at c.last a) opened l.gave.state (c.well.line_in a))

  client_opened : (x : Connection) (n : ℕ) → Contains call.plan.connections x → x.from ≡ from_end.Client n
      → client_in_at c.first n ≡ input_as (get_or call.present (4 + n) 0) (part_of call.inputs call.ends (4 + n))
  client_opened x n has from = c.opens.client_in n ((sound x has).from_client n from)

  client_lives : (x : Connection) (n : ℕ) → Contains call.plan.connections x → x.from ≡ from_end.Client n → (client_in_at c.last n).state ≢ Dead
  client_lives x n has from =
      client_lives_on (get_or call.present (4 + n) 0) (part_of call.inputs call.ends (4 + n)) (client_in_at c.first n) (client_in_at c.last n) x.retire (did.takings.client_more n) (did.takings.client n)
      (client_opened x n has from) (did.left.client_in x n has from) (c.well.client_in n)

  line_got : (x : Connection) (b number : ℕ) (slots : LineSlots) → Contains call.plan.connections x → x.to ≡ to_end.Line b number slots
      → IsWritten (line_out_at c.first b) (line_out_at c.last b) (output_of call b)
  line_got x b number slots has to =
      let less : b < 4 = ((sound x has).to_line b number slots to).line in
      let l = of_taken.outputs.line b (to_line_used call.plan has.0 b number slots x (entry call.plan x has) to) in
      let opened = c.opens.line_out b less in
      let among : b < 20 = omega (arith, less) in
      got_all (line_out_at c.first b) (line_out_at c.last b) (output_of call b) opened
      (l.left.gained.sends.keeps ∙ ap (λ v. v.keeps) opened)
      (subst (λ v. IsKept v (output_of call b)) (line_place c.last b less) (k.gives.outputs_got b among))

  client_got : (x : Connection) (n : ℕ) → Contains call.plan.connections x → x.to ≡ to_end.Client n
      → IsWritten (client_out_at c.first n) (client_out_at c.last n) (output_of call (4 + n))
  client_got x n has to =
      let less : n < 16 = (sound x has).to_client n to in
      let l = of_taken.outputs.client x n has to in
      let opened = c.opens.client_out n less in
      let among : 4 + n < 20 = omega (arith, less) in
      let keeps = keeps_on x.retire l.was (client_out_at c.last n) l.place in
      got_all (client_out_at c.first n) (client_out_at c.last n) (output_of call (4 + n)) opened
      (keeps ∙ l.left.gained.sends.keeps ∙ ap (λ v. v.keeps) opened)
      (subst (λ v. IsKept v (output_of call (4 + n))) (client_place c.last n) (k.gives.outputs_got (4 + n) among))

  is_run_here : IsRunOf call (record { plan = call.plan; before = c.first; after = c.last })
  is_run_here = record {
    ran = ran_of call.plan c.answer (device_first call c) (device_last call c k.left) 0 k.asked k.answers k.carried (k.same_text ∙ is_plan);
    carries = refl;
    line_in = λ x a number slots has from. record { available = input_of call a; had = line_gave x a number slots has from; frames = refl };
    client_in = λ x n has from.
        let lives = client_lives x n has from in
        record {
          available = input_of call (4 + n);
          had = gave_all (get_or call.present (4 + n) 0) (part_of call.inputs call.ends (4 + n)) (client_in_at c.first n) (client_in_at c.last n) (client_opened x n has from) lives;
          packets = ap (λ died. input_given died (input_of call (4 + n))) (sym (none_died (client_in_at c.first n).state (client_in_at c.last n).state lives));
        };
    line_out = line_got;
    client_out = client_got;
    line_lived = λ x b number slots whole has to. record {
      was = ap (λ v. v.state) (c.opens.line_out b ((sound x has).to_line b number slots to).line);
      is = λ dead. none_dead whole (record { name = port.LineOut b; used = to_line_used call.plan has.0 b number slots x (entry call.plan x has) to; dead = dead });
    };
    client_lived = λ x n whole has to. record {
      was = ap (λ v. v.state) (c.opens.client_out n ((sound x has).to_client n to));
      is = λ dead. none_dead whole (record { name = port.ClientOut n; used = to_client_used call.plan has.0 n x (entry call.plan x has) to; dead = dead });
    };
  }

-- ---- calls

abbrev pub called_of : (call : Call) → CarriedPlan call → CallOf call
called_of call has = has.called (not_memory call.code has.carried) (not_call call.code has.carried)

abbrev pub run_of : (call : Call) → CarriedPlan call → Run
run_of call has = record { plan = call.plan; before = (called_of call has).first; after = (called_of call has).last }

pub is_run : (call : Call) (has : CarriedPlan call) → IsRunOf call (run_of call has)
is_run call has = is_run_here call (called_of call has) (carrying call (called_of call has) has.form has.carried) has.is_plan

pub carries_plan : (call : Call) → WasCalled call → IsRunForm (words_said call.words) → HasCarried call.code → (plan : Plan) × CarriedPlan (record call { plan = plan })
carries_plan call called form ended =
    let c = called (not_memory call.code ended) (not_call call.code ended) in
    let text = text_of_plan call c (carrying call c form ended) in
    (text.0, record { called = called; form = form; carried = ended; is_plan = text.1 })
