-- What a command answers for, said of the bytes that a call was handed.
use Rattle.std.proofs.Common.{◌≡◌, ◌↔◌, ℕ, Bool, false, true, List, [], Some, ap, ◌∙◌, subst}
use Rattle.port_base.specs.PortViews.{SourceView, SinkView}
use Rattle.port_base.specs.Views.{BaysView}
use Rattle.line_tool.specs.AnswerWords.{IsRefusal}
use Rattle.line_tool.specs.Answers.{Answers, LeavesBays}
use Rattle.line_tool.specs.Words.{IsForm, IsNoForm}
use Rattle.command_base.specs.declared.status.Status.{Status}
use Rattle.command_base.specs.declared.status.Status.TheVariants as status
use Rattle.command_words.specs.declared.words.Command.{Command}
use Rattle.otn_c.specs.Calls.{IsAnswered, fresh_sink, source_of}

pub source_is : (left bytes : List ℕ) (ended : Bool) → left ≡ bytes → ended ≡ false
    → record { boxed = false; left = Some left; ended = ended; faults = 0 } ≡ source_of bytes
source_is left bytes ended same still =
    ap (λ l. (let source : SourceView = record { boxed = false; left = Some l; ended = ended; faults = 0 } in source)) same
    ∙ ap (λ e. (let source : SourceView = record { boxed = false; left = Some bytes; ended = e; faults = 0 } in source)) still

pub sink_is : (got : List ℕ) (faults : ℕ) → got ≡ [] → faults ≡ 0 → record { boxed = false; got = Some got; keeps = true; faults = faults } ≡ fresh_sink
sink_is got faults none calm =
    ap (λ l. (let sink : SinkView = record { boxed = false; got = Some l; keeps = true; faults = faults } in sink)) none
    ∙ ap (λ n. (let sink : SinkView = record { boxed = false; got = Some []; keeps = true; faults = n } in sink)) calm

pub is_answered : (words : List (List ℕ)) (plan : List ℕ) (source left : SourceView) (first last : BaysView) (report report_now : SinkView) (asked now : ℕ) (answer : Status)
    → source ≡ source_of plan → asked ≡ 0 → (answer ≡ status.Words) ↔ IsNoForm words
    → ((command : Command) → IsForm words command → Answers command (record { plan = source; bays = first; report = report }) (record { plan = left; bays = last; report = report_now }) asked now answer)
    → (IsRefusal answer → (last ≡ first) × (report_now ≡ report))
    → ((command : Command) → IsForm words command → LeavesBays command → last ≡ first)
    → IsAnswered words plan first last report report_now answer
is_answered words plan source left first last report report_now asked now answer is unasked form answers refused alone = record {
  form = form;
  answers = λ command h. (
    left,
    now,
    subst (λ s. Answers command (record { plan = s; bays = first; report = report }) (record { plan = left; bays = last; report = report_now }) 0 now answer) is
        (subst (λ n. Answers command (record { plan = source; bays = first; report = report }) (record { plan = left; bays = last; report = report_now }) n now answer) unasked (answers command h)),
  );
  refused = refused;
  alone = alone;
}
