-- What `slot` and `pull` write of a line that was handed in.
use Rattle.std.proofs.Common.{◌≡◌, ◌≢◌, ◌<◌, ◌⊎◌, inl, inr, ℕ, zero, suc, List, [], Option, Some, None, get_or, take, refl, sym, ap, ◌∙◌, subst, arith}
use Rattle.port_base.specs.Given.{HadToGive, given_between}
use Rattle.port_base.specs.Views.{State, Empty, Live, Dead}
use Rattle.line_tool.specs.AnswerWords.{Reports}
use Rattle.line_tool.specs.Answers.{Answers, LineAnswers, PullRan, SlotRan}
use Rattle.line_tool.specs.Codes.{code_of}
use Rattle.line_tool.specs.Device.{Device, line_zero}
use Rattle.line_tool.specs.PullReport.{pull_report, tributary}
use Rattle.line_tool.specs.SlotReport.{slot_report}
use Rattle.line_tool.specs.TrialRuns.{holding}
use Rattle.command_base.specs.declared.status.Status.{Status}
use Rattle.command_base.specs.declared.status.Status.TheVariants as status
use Rattle.tributary_model.specs.Places.{Tributary}
use Rattle.command_words.specs.Words.{IsForm}
use Rattle.command_words.specs.declared.words.Command.{Command}
use Rattle.command_words.specs.declared.words.Command.TheVariants.{Slot, Pull}
use Rattle.otn_c.specs.Blocks.{part_of, words_said}
use Rattle.otn_c.specs.Calls.{Called, PullOverBytes, SlotOverBytes, fresh_sink, no_call, no_memory, no_room, source_of}
use Rattle.otn_c.specs.Places.{input_as}
use Rattle.otn_c.specs.declared.answer.Answer.{Answer}

flagged : (flag : ℕ) (bytes : List ℕ) → flag ≢ 0 → input_as flag bytes ≡ holding bytes
flagged zero bytes there = absurd (there refl)
flagged (suc n) bytes there = refl

pub had_by : (state : State) (available : List ℕ) (left : Option (List ℕ)) → (state ≡ Dead → ⊥) → given_between Live state (Some available) left available
had_by Empty available left lives = refl
had_by Live available left lives = refl
had_by Dead available left lives = absurd (lives refl)

abbrev pub bytes_in : Option (List ℕ) → List ℕ
bytes_in None = []
bytes_in (Some bytes) = bytes

-- a code that is 0 or 1 is no other one
not_other : (code n : ℕ) → code ≡ n → (code ≡ 0) ⊎ (code ≡ 1) → 1 < n → ⊥
not_other code n is (inl e) more = absurd (omega arith)
not_other code n is (inr e) more = absurd (omega arith)

not_five : (code : ℕ) → code ≡ 5 → (code ≡ 0) ⊎ (code ≡ 1) → ⊥
not_five code is ended = not_other code 5 is ended (omega arith)

not_six : (code : ℕ) → code ≡ 6 → (code ≡ 0) ⊎ (code ≡ 1) → ⊥
not_six code is ended = not_other code 6 is ended (omega arith)

not_seven : (code : ℕ) → (code ≡ 0) ⊎ (code ≡ 1) → code ≢ no_memory
not_seven code ended is = not_other code 7 is ended (omega arith)

not_eight : (code : ℕ) → (code ≡ 0) ⊎ (code ≡ 1) → code ≢ no_room
not_eight code ended is = not_other code 8 is ended (omega arith)

not_nine : (code : ℕ) → (code ≡ 0) ⊎ (code ≡ 1) → code ≢ no_call
not_nine code ended is = not_other code 9 is ended (omega arith)

-- what is known of a command over a line that tells its bytes: what it writes, and that it is Cut by a dead line
abbrev pub WritesOfGiven : ((old new : Device) → Status → Type 0) → (List ℕ → List ℕ) → Type 0
WritesOfGiven Ran wanted = (old new : Device) (answer : Status) (available : List ℕ) → Ran old new answer
    → HadToGive (line_zero old) (line_zero new) available → Reports answer old.report.got new.report.got (wanted available)

abbrev pub CutsWhereDead : ((old new : Device) → Status → Type 0) → Type 0
CutsWhereDead Ran = (old new : Device) (answer : Status) → Ran old new answer → answer ≢ status.ReportFault → (line_zero new).state ≡ Dead → answer ≡ status.Cut

module _ (Ran : (old new : Device) → Status → Type 0) (wanted : List ℕ → List ℕ) (law : WritesOfGiven Ran wanted) (cuts : CutsWhereDead Ran) where
  had : (old new : Device) (available : List ℕ) (answer : Status) → line_zero old ≡ holding available → Ran old new answer → (code_of answer ≡ 0) ⊎ (code_of answer ≡ 1)
      → HadToGive (line_zero old) (line_zero new) available
  had old new available answer is ran code =
      let whole : answer ≢ status.ReportFault = λ e. not_five (code_of answer) (ap code_of e) code in
      subst (λ v. HadToGive v (line_zero new) available) (sym is)
      (had_by (line_zero new).state available (line_zero new).left (λ dead. not_six (code_of answer) (ap code_of (cuts old new answer ran whole dead)) code))

  written : (old new : Device) (available : List ℕ) (answer : Status) → line_zero old ≡ holding available → old.report.got ≡ Some []
      → (code_of answer ≡ 0) ⊎ (code_of answer ≡ 1) → LineAnswers Ran old new answer → bytes_in new.report.got ≡ wanted available
  written old new available status.Done is fresh code lines =
      let ran = lines.ran (λ e. absurd (omega (arith, ap code_of e))) in
      let wrote : Reports status.Done (Some []) new.report.got (wanted available)
      = subst (λ g. Reports status.Done g new.report.got (wanted available)) fresh (law old new status.Done available ran (had old new available status.Done is ran code)) in
      ap bytes_in wrote
  written old new available status.Unfinished is fresh code lines =
      let ran = lines.ran (λ e. absurd (omega (arith, ap code_of e))) in
      let wrote : Reports status.Unfinished (Some []) new.report.got (wanted available)
      = subst (λ g. Reports status.Unfinished g new.report.got (wanted available)) fresh (law old new status.Unfinished available ran (had old new available status.Unfinished is ran code)) in
      ap bytes_in wrote
  written old new available status.Words is fresh (inl e) lines = absurd (omega (arith, e))
  written old new available status.Words is fresh (inr e) lines = absurd (omega (arith, e))
  written old new available (status.Plan error place) is fresh (inl e) lines = absurd (omega (arith, e))
  written old new available (status.Plan error place) is fresh (inr e) lines = absurd (omega (arith, e))
  written old new available status.PlanFault is fresh (inl e) lines = absurd (omega (arith, e))
  written old new available status.PlanFault is fresh (inr e) lines = absurd (omega (arith, e))
  written old new available status.ReportFault is fresh (inl e) lines = absurd (omega (arith, e))
  written old new available status.ReportFault is fresh (inr e) lines = absurd (omega (arith, e))
  written old new available status.Cut is fresh (inl e) lines = absurd (omega (arith, e))
  written old new available status.Cut is fresh (inr e) lines = absurd (omega (arith, e))
  written old new available status.Memory is fresh (inl e) lines = absurd (omega (arith, e))
  written old new available status.Memory is fresh (inr e) lines = absurd (omega (arith, e))

  -- the report of a call that did it over a line that was handed in
  over_bytes : (command : Command) (line plan block ends present : List ℕ) (code : ℕ) (told : Answer) (outputs output_ends report : List ℕ)
      → ((old new : Device) (asked now : ℕ) (answer : Status) → Answers command old new asked now answer → LineAnswers Ran old new answer)
      → ((code ≢ no_memory) → (code ≢ no_call) → Called line plan block ends present code told outputs output_ends report)
      → IsForm (words_said line) command → get_or present 0 0 ≢ 0 → (code ≡ 0) ⊎ (code ≡ 1) → take told.report report ≡ wanted (part_of block ends 0)
  over_bytes command line plan block ends present code told outputs output_ends report lines called form there ended =
      let call = called (not_seven code ended) (not_nine code ended) in
      let answers = call.answered.answers command form in
      let gives = call.handed.gives (not_eight code ended) in
      let is = call.opens.line_in 0 (omega arith) ∙ flagged (get_or present 0 0) (part_of block ends 0) there in
      let old : Device = record { plan = source_of plan; bays = call.first; report = fresh_sink } in
      let new : Device = record { plan = answers.0; bays = call.last; report = call.report_now } in
      let code_is : code ≡ code_of call.answer = gives.0 ∙ call.handed.tells.status in
      ap bytes_in (sym gives.1.report_got)
      ∙ written old new (part_of block ends 0) call.answer is refl (subst (λ n. (n ≡ 0) ⊎ (n ≡ 1)) code_is ended) (lines old new 0 answers.1 call.answer answers.2)

pub slot_over_bytes : ((slot : ℕ) (old new : Device) (answer : Status) (available : List ℕ) → SlotRan slot old new answer → HadToGive (line_zero old) (line_zero new) available
    → Reports answer old.report.got new.report.got (slot_report slot available))
    → (line plan block ends present : List ℕ) (code : ℕ) (told : Answer) (outputs output_ends report : List ℕ)
    → ((code ≢ no_memory) → (code ≢ no_call) → Called line plan block ends present code told outputs output_ends report)
    → SlotOverBytes line block ends present code told report
slot_over_bytes law line plan block ends present code told outputs output_ends report called slot form there ended =
    over_bytes (SlotRan slot) (slot_report slot) (law slot) (λ old new answer ran whole dead. ran.cut.1 dead) (Slot slot) line plan block ends present code told outputs output_ends report
    (λ old new asked now answer lines. lines) called form there ended

pub pull_over_bytes : ((own : Tributary) (old new : Device) (answer : Status) (available : List ℕ) → PullRan own old new answer → HadToGive (line_zero old) (line_zero new) available
    → Reports answer old.report.got new.report.got (pull_report own available))
    → (line plan block ends present : List ℕ) (code : ℕ) (told : Answer) (outputs output_ends report : List ℕ)
    → ((code ≢ no_memory) → (code ≢ no_call) → Called line plan block ends present code told outputs output_ends report)
    → PullOverBytes line block ends present code told report
pull_over_bytes law line plan block ends present code told outputs output_ends report called port slots form there ended =
    let own = tributary port slots.list in
    over_bytes (PullRan own) (pull_report own) (law own) (λ old new answer ran whole dead. (ran.cut whole).1 dead) (Pull port slots) line plan block ends present code told outputs output_ends report
    (λ old new asked now answer lines. lines) called form there ended
