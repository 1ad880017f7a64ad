-- Believed: what a call of the library answers for: the command of its words, over the bytes that it was handed.
use Rattle.std.specs.Prelude.{◌≡◌, ◌≢◌, ◌<◌, ◌≤◌, ◌-◌, ◌⊎◌, ◌↔◌, ℕ, false, true, List, [], Ok, Err, Some, get_or, length, take}
use Rattle.std.specs.Str.{IsUtf8}
use Rattle.otn_base.specs.LineSlots.{LineSlots}
use Rattle.port_base.specs.PortViews.{SourceView, SinkView}
use Rattle.port_base.specs.Views.{BaysView}
use Rattle.plan_file.specs.Answer.{plan_of_text}
use Rattle.plan_file.specs.Code as rule
use Rattle.plan_file.specs.declared.error.NoPlan.TheVariants.{Refused}
use Rattle.plan_file.specs.declared.error.PlanError.{PlanError}
use Rattle.plan_file.specs.declared.plan.Plan.{Plan}
use Rattle.line_tool.specs.AnswerWords.{IsRefusal}
use Rattle.line_tool.specs.Answers.{Answers, LeavesBays}
use Rattle.line_tool.specs.Codes.{code_of}
use Rattle.line_tool.specs.PlanCheck.{plan_text}
use Rattle.line_tool.specs.PullReport.{pull_report, tributary}
use Rattle.line_tool.specs.SlotReport.{slot_report}
use Rattle.line_tool.specs.Words.{IsForm, IsNoForm}
use Rattle.command_base.specs.declared.status.Status.{Status}
use Rattle.command_base.specs.declared.status.Status.TheVariants as status
use Rattle.command_words.specs.declared.words.Command.{Command}
use Rattle.command_words.specs.declared.words.Command.TheVariants.{Slot, Pull, Check, Run, RunOrdered, RunCaptures}
use Rattle.otn_c.specs.Blocks.{words_said, part_of, start_of, end_of}
use Rattle.otn_c.specs.Places.{OpensWith, InputsAreWell, HasNoPart, HasSize, IsKept, output_at}
use Rattle.otn_c.specs.declared.answer.Answer.{Answer}

-- a source of these bytes in memory, of which none was taken or asked for
abbrev pub source_of : List ℕ → SourceView
source_of bytes = record { boxed = false; left = Some bytes; ended = false; faults = 0 }

-- a sink in memory that got nothing yet
abbrev pub fresh_sink : SinkView
fresh_sink = record { boxed = false; got = Some []; keeps = true; faults = 0 }

-- The words were answered over a plan and places, with their output to a report, by a chooser that was never asked
-- before.
pub record IsAnswered (words : List (List ℕ)) (plan : List ℕ) (first last : BaysView) (report report_now : SinkView)
    (answer : Status) : Type 0 where
  -- Words is the answer exactly where they are the form of no command
  pub form : (answer ≡ status.Words) ↔ IsNoForm words
  -- their command is answered for, over all that it was handed
  pub answers : (command : Command) → IsForm words command → (left : SourceView) × (asked : ℕ)
      × Answers command (record { plan = source_of plan; bays = first; report = report })
      (record { plan = left; bays = last; report = report_now }) 0 asked answer
  -- after Words, PlanFault, Plan and Memory all is as it was
  pub refused : IsRefusal answer → (last ≡ first) × (report_now ≡ report)
  -- `check` and `trial` leave the places alone
  pub alone : (command : Command) → IsForm words command → LeavesBays command → last ≡ first

-- the rule of a plan that was broken, and its place, where that is the answer; and 0
abbrev pub rule_told : Status → ℕ
rule_told (status.Plan error place) = rule.code_of error
rule_told other = 0

abbrev pub place_told : Status → ℕ
place_told (status.Plan error place) = place
place_told other = 0

-- what is handed out beside the bytes: the status by its number, the broken rule and its place, and how many bytes
-- there are
pub record Tells (answer : Status) (told : Answer) : Type 0 where
  pub status : told.status ≡ code_of answer
  pub rule : told.rule ≡ rule_told answer
  pub place : told.place ≡ place_told answer

-- What was handed out: each output and the report stand, whole, in the room that there was.
pub record Gives (last : BaysView) (report_now : SinkView) (told : Answer)
    (outputs output_ends report : List ℕ) : Type 0 where
  pub outputs_got : (n : ℕ) → n < 20 → IsKept (output_at last n) (part_of outputs output_ends n)
  pub outputs_fit : (n : ℕ) → n < 20 → end_of output_ends n ≤ length outputs
  pub outputs_rise : (n : ℕ) → n < 20 → start_of output_ends n ≤ end_of output_ends n
  pub outputs_all : end_of output_ends 19 ≡ told.outputs
  pub report_got : report_now.got ≡ Some (take told.report report)
  pub report_fits : told.report ≤ length report

-- There was too little room for the outputs or for the report: how much is wanted.
pub record Needs (last : BaysView) (report_now : SinkView) (told : Answer)
    (outputs output_ends report : List ℕ) : Type 0 where
  pub little : (length outputs < told.outputs) ⊎ (length report < told.report)
  pub outputs_rise : (n : ℕ) → n < 20 → start_of output_ends n ≤ end_of output_ends n
  pub outputs_all : end_of output_ends 19 ≡ told.outputs
  pub outputs_size : (n : ℕ) → n < 20 → HasSize (output_at last n) (end_of output_ends n - start_of output_ends n)
  pub report_bytes : List ℕ
  pub report_got : report_now.got ≡ Some report_bytes
  pub report_size : length report_bytes ≡ told.report

-- the answer that says so
abbrev pub no_room : ℕ
no_room = 8

-- What outputs and a report got was handed out: the status is the answer where there was room.
pub record IsHandedOut (code : ℕ) (answer : Status) (last : BaysView) (report_now : SinkView) (told : Answer)
    (outputs output_ends report : List ℕ) : Type 0 where
  pub tells : Tells answer told
  pub gives : code ≢ no_room → (code ≡ told.status) × Gives last report_now told outputs output_ends report
  pub needs : code ≡ no_room → Needs last report_now told outputs output_ends report
  pub codes : code ≤ no_room

-- A call that was carried out, and what it answered and handed out.
pub record Called (line plan block ends present : List ℕ) (code : ℕ) (told : Answer)
    (outputs output_ends report : List ℕ) : Type 0 where
  -- there are places that opened with its inputs, none of which failed, and were left so; and this is what the report
  -- got
  pub answer : Status
  pub first : BaysView
  pub last : BaysView
  pub report_now : SinkView
  pub opens : OpensWith present block ends first
  pub well : InputsAreWell last
  pub answered : IsAnswered (words_said line) plan first last fresh_sink report_now answer
  pub handed : IsHandedOut code answer last report_now told outputs output_ends report

-- A call that is none: its lists have not 20 members, its words are no text, or an input is no part of the block.
abbrev pub IsNoCall : (line block ends present output_ends : List ℕ) → Type 0
IsNoCall line block ends present output_ends =
    (length ends ≢ 20) ⊎ (length present ≢ 20) ⊎ (length output_ends ≢ 20) ⊎ (IsUtf8 line → ⊥) ⊎ HasNoPart block ends

-- the answer that says so, and the answer where there was no memory
abbrev pub no_call : ℕ
no_call = 9

abbrev pub no_memory : ℕ
no_memory = 7

-- How a call ends, by its answer; but for want of memory.
pub record CallEnds (line plan block ends present : List ℕ) (code : ℕ) (told : Answer)
    (outputs output_ends report : List ℕ) : Type 0 where
  pub called : code ≢ no_call → Called line plan block ends present code told outputs output_ends report
  pub none : code ≡ no_call → (IsUtf8 line → ⊥) ⊎ HasNoPart block ends
  pub words : code ≢ no_call → IsUtf8 line
  pub parts : code ≢ no_call → HasNoPart block ends → ⊥

-- ---- commands over the bytes of a call

-- the words are those of `run`, with whatever option
abbrev pub IsRunForm : List (List ℕ) → Type 0
IsRunForm words = IsForm words Run ⊎ ((number : ℕ) × IsForm words (RunOrdered number)) ⊎ IsForm words RunCaptures

-- `slot K`: where line 0 is there and the answer is Done or Unfinished, the report is the payload bytes of the slot in
-- each whole frame of the very bytes of input 0, as many frames as the command reads.
abbrev pub SlotOverBytes : (line block ends present : List ℕ) (code : ℕ) (told : Answer) (report : List ℕ) → Type 0
SlotOverBytes line block ends present code told report = (slot : ℕ) → IsForm (words_said line) (Slot slot)
    → get_or present 0 0 ≢ 0
    → (code ≡ 0) ⊎ (code ≡ 1) → take told.report report ≡ slot_report slot (part_of block ends 0)

-- `pull PORT K,K`: likewise it is what the sink of this port and these slots emits, turn by turn.
abbrev pub PullOverBytes : (line block ends present : List ℕ) (code : ℕ) (told : Answer) (report : List ℕ) → Type 0
PullOverBytes line block ends present code told report = (port : ℕ) (slots : LineSlots)
    → IsForm (words_said line) (Pull port slots) → get_or present 0 0 ≢ 0
    → (code ≡ 0) ⊎ (code ≡ 1) → take told.report report ≡ pull_report (tributary port slots.list) (part_of block ends 0)

-- `check`, and `run`, by the text of the plan: an accepted one is told by the report of `check`; one that is refused
-- breaks the rule that is told, at the place that is told, and no rule before it.
pub record PlanOverBytes (line text : List ℕ) (code : ℕ) (told : Answer) (report : List ℕ) : Type 0 where
  pub accepted : IsForm (words_said line) Check → code ≡ 0
      → (plan : Plan) × (plan_of_text text ≡ Ok plan) × (take told.report report ≡ plan_text plan)
  pub refused : IsForm (words_said line) Check ⊎ IsRunForm (words_said line) → code ≡ 3
      → (error : PlanError) × (place : ℕ) × (plan_of_text text ≡ Err (Refused error place))
      × (told.rule ≡ rule.code_of error) × (told.place ≡ place)
