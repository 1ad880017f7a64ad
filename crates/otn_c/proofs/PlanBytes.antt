-- What `check` and `run` answer to the text of a plan that was handed in.
use Rattle.std.proofs.Common.{◌≡◌, ◌≢◌, ◌<◌, ◌⊎◌, inl, inr, ℕ, List, [], Option, Some, Ok, Err, take, refl, sym, ap, ◌∙◌, subst, arith}
use Rattle.plan_file.specs.Answer.{plan_of_text}
use Rattle.plan_file.specs.Code as rule
use Rattle.plan_file.specs.declared.error.NoPlan.TheVariants.{Refused}
use Rattle.plan_file.specs.declared.error.PlanError.{PlanError}
use Rattle.plan_file.specs.declared.plan.Plan.{Plan}
use Rattle.check_command.specs.PlanCheck.{CheckAnswers, CheckEnds, plan_text}
use Rattle.run_command.specs.RunAnswers.{TextRan}
use Rattle.run_command.specs.RunLaws.{RunAnswersForItsText}
use Rattle.command_base.specs.Codes.{code_of}
use Rattle.command_base.specs.Device.{Device}
use Rattle.command_base.specs.declared.status.Status.{Status}
use Rattle.command_base.specs.declared.status.Status.TheVariants as status
use Rattle.command_words.specs.Words.{IsForm}
use Rattle.command_words.specs.declared.words.Command.TheVariants.{Check}
use Rattle.otn_c.specs.Blocks.{words_said}
use Rattle.otn_c.specs.Calls.{Called, IsRunForm, PlanOverBytes, fresh_sink, no_call, no_memory, no_room, place_told, rule_told, source_of}
use Rattle.otn_c.specs.declared.answer.Answer.{Answer}
use Rattle.otn_c.proofs.ByteRuns.{run_answers}
use Rattle.otn_c.proofs.LineBytes.{bytes_in}

-- what is known of `check` by the text of its plan
abbrev pub CheckLaw : Type 0
CheckLaw = (text : List ℕ) (old new : Device) (answer : Status) → CheckAnswers old new answer → old.plan.left ≡ Some text
    → answer ≢ status.Memory → answer ≢ status.PlanFault → CheckEnds answer text old.report.got new.report.got

other_code : (code n : ℕ) → code ≡ n → n < 4 → code < 4
other_code code n is less = omega arith

not_memory : (code : ℕ) → code < 4 → code ≢ no_memory
not_memory code less is = absurd (omega arith)

not_call : (code : ℕ) → code < 4 → code ≢ no_call
not_call code less is = absurd (omega arith)

not_room : (code : ℕ) → code < 4 → code ≢ no_room
not_room code less is = absurd (omega arith)

-- an answer by its code
abbrev ToldAccepted : (text : List ℕ) → Option (List ℕ) → Type 0
ToldAccepted text got = (plan : Plan) × (plan_of_text text ≡ Ok plan) × (bytes_in got ≡ plan_text plan)

by_done : (answer : Status) (text : List ℕ) (got : Option (List ℕ)) → code_of answer ≡ 0 → CheckEnds answer text (Some []) got → ToldAccepted text got
by_done status.Done text got code ends = (ends.0, ends.1.0, ap bytes_in ends.1.1)
by_done status.Unfinished text got code ends = absurd (omega (arith, code))
by_done status.Words text got code ends = absurd (omega (arith, code))
by_done (status.Plan error place) text got code ends = absurd (omega (arith, code))
by_done status.PlanFault text got code ends = absurd (omega (arith, code))
by_done status.ReportFault text got code ends = absurd (omega (arith, code))
by_done status.Cut text got code ends = absurd (omega (arith, code))
by_done status.Memory text got code ends = absurd (omega (arith, code))

abbrev ToldRefused : (text : List ℕ) → (broken at : ℕ) → Type 0
ToldRefused text broken at = (error : PlanError) × (place : ℕ) × (plan_of_text text ≡ Err (Refused error place)) × (broken ≡ rule.code_of error) × (at ≡ place)

by_plan : (answer : Status) (text : List ℕ) (broken at : ℕ) → code_of answer ≡ 3 → broken ≡ rule_told answer → at ≡ place_told answer
    → ((error : PlanError) (place : ℕ) → answer ≡ status.Plan error place → plan_of_text text ≡ Err (Refused error place)) → ToldRefused text broken at
by_plan (status.Plan error place) text broken at code r p ends = (error, place, ends error place refl, r, p)
by_plan status.Done text broken at code r p ends = absurd (omega (arith, code))
by_plan status.Unfinished text broken at code r p ends = absurd (omega (arith, code))
by_plan status.Words text broken at code r p ends = absurd (omega (arith, code))
by_plan status.PlanFault text broken at code r p ends = absurd (omega (arith, code))
by_plan status.ReportFault text broken at code r p ends = absurd (omega (arith, code))
by_plan status.Cut text broken at code r p ends = absurd (omega (arith, code))
by_plan status.Memory text broken at code r p ends = absurd (omega (arith, code))

no_memory_by : (answer : Status) → code_of answer < 4 → answer ≢ status.Memory
no_memory_by answer less e = let seven : code_of answer ≡ 7 = ap code_of e in absurd (omega (arith, less, seven))

no_fault_by : (answer : Status) → code_of answer < 4 → answer ≢ status.PlanFault
no_fault_by answer less e = let four : code_of answer ≡ 4 = ap code_of e in absurd (omega (arith, less, four))

check_refused : (text : List ℕ) (answer : Status) (error : PlanError) (place : ℕ) (old new : Option (List ℕ)) → answer ≡ status.Plan error place → CheckEnds answer text old new
    → plan_of_text text ≡ Err (Refused error place)
check_refused text answer error place old new is ends = (subst (λ a. CheckEnds a text old new) is ends).0

run_refused : (text : List ℕ) (answer : Status) (error : PlanError) (place : ℕ) (old new : Device) (asked now : ℕ) → answer ≡ status.Plan error place → TextRan answer text old new asked now
    → plan_of_text text ≡ Err (Refused error place)
run_refused text answer error place old new asked now is ran = subst (λ a. TextRan a text old new asked now) is ran

module _ (check_law : CheckLaw) (run_law : RunAnswersForItsText) (line text block ends present : List ℕ) (code : ℕ) (told : Answer) (outputs output_ends report : List ℕ)
    (called : (code ≢ no_memory) → (code ≢ no_call) → Called line text block ends present code told outputs output_ends report) where
  carried_out : (n : ℕ) → code ≡ n → n < 4 → Called line text block ends present code told outputs output_ends report
  carried_out n is less = called (not_memory code (other_code code n is less)) (not_call code (other_code code n is less))

  check_ends : (call : Called line text block ends present code told outputs output_ends report) → code_of call.answer < 4 → IsForm (words_said line) Check
      → CheckEnds call.answer text (Some []) call.report_now.got
  check_ends call less form =
      let answers = call.answered.answers Check form in
      let old : Device = record { plan = source_of text; bays = call.first; report = fresh_sink } in
      let new : Device = record { plan = answers.0; bays = call.last; report = call.report_now } in
      check_law text old new call.answer answers.2 refl (no_memory_by call.answer less) (no_fault_by call.answer less)

  is_accepted : IsForm (words_said line) Check → code ≡ 0 → (plan : Plan) × (plan_of_text text ≡ Ok plan) × (take told.report report ≡ plan_text plan)
  is_accepted form is =
      let call = carried_out 0 is (omega arith) in
      let gives = call.handed.gives (not_room code (other_code code 0 is (omega arith))) in
      let code_is : code_of call.answer ≡ 0 = sym (gives.0 ∙ call.handed.tells.status) ∙ is in
      let less : code_of call.answer < 4 = other_code (code_of call.answer) 0 code_is (omega arith) in
      let done = by_done call.answer text call.report_now.got code_is (check_ends call less form) in
      (done.0, done.1, ap bytes_in (sym gives.1.report_got) ∙ done.2)

  breaks_rule : (call : Called line text block ends present code told outputs output_ends report) → code_of call.answer < 4 → IsForm (words_said line) Check ⊎ IsRunForm (words_said line)
      → (error : PlanError) (place : ℕ) → call.answer ≡ status.Plan error place → plan_of_text text ≡ Err (Refused error place)
  breaks_rule call less (inl form) error place is = check_refused text call.answer error place (Some []) call.report_now.got is (check_ends call less form)
  breaks_rule call less (inr form) error place is =
      let answers = run_answers (words_said line) text call.first call.last fresh_sink call.report_now call.answer call.answered form in
      let old : Device = record { plan = source_of text; bays = call.first; report = fresh_sink } in
      let new : Device = record { plan = answers.0; bays = call.last; report = call.report_now } in
      run_refused text call.answer error place old new 0 answers.1 is (run_law text old new 0 answers.1 call.answer answers.2 refl)

  is_refused : IsForm (words_said line) Check ⊎ IsRunForm (words_said line) → code ≡ 3 → ToldRefused text told.rule told.place
  is_refused form is =
      let call = carried_out 3 is (omega arith) in
      let gives = call.handed.gives (not_room code (other_code code 3 is (omega arith))) in
      let code_is : code_of call.answer ≡ 3 = sym (gives.0 ∙ call.handed.tells.status) ∙ is in
      let less : code_of call.answer < 4 = other_code (code_of call.answer) 3 code_is (omega arith) in
      by_plan call.answer text told.rule told.place code_is call.handed.tells.rule call.handed.tells.place (breaks_rule call less form)

  pub plan_over_bytes : PlanOverBytes line text code told report
  plan_over_bytes = record { accepted = is_accepted; refused = is_refused }
