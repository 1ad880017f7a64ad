-- What is handed out, from what was put into the block.
use Rattle.std.proofs.Common.{◌≡◌, ◌≤◌, ◌<◌, ◌⊎◌, ℕ, List, Some, length, take, refl, sym, ap, ◌∙◌, subst, arith}
use Rattle.std.specs.Str.{IsUtf8}
use Rattle.port_base.specs.PortViews.{SinkView}
use Rattle.port_base.specs.Views.{BaysView}
use Rattle.line_tool.specs.Codes.{code_of}
use Rattle.command_base.specs.declared.status.Status.{Status}
use Rattle.command_base.specs.declared.status.Status.TheVariants as status
use Rattle.otn_c.specs.Blocks.{words_said}
use Rattle.otn_c.specs.Calls.{CallEnds, IsAnswered, IsHandedOut, Tells, fresh_sink}
use Rattle.otn_c.specs.Places.{OpensWith, HasNoPart, InputsAreWell, OutUpTo}
use Rattle.otn_c.specs.declared.answer.Answer.{Answer}

-- a status is no want of room
pub is_status : (answer : Status) → code_of answer < 8
is_status status.Done = omega arith
is_status status.Unfinished = omega arith
is_status status.Words = omega arith
is_status (status.Plan error place) = omega arith
is_status status.PlanFault = omega arith
is_status status.ReportFault = omega arith
is_status status.Cut = omega arith
is_status status.Memory = omega arith

module _ (answer : Status) (last : BaysView) (report_now : SinkView) (told : Answer) (outputs ends : List ℕ) (tells : Tells answer told)
    (total : ℕ) (all : told.outputs ≡ total) (out : OutUpTo 20 last outputs ends total) (bytes : List ℕ) (got : report_now.got ≡ Some bytes) (size : told.report ≡ length bytes) where
  pub handed_whole : (report : List ℕ) → total ≤ length outputs → length bytes ≤ length report → take (length bytes) report ≡ bytes
      → IsHandedOut told.status answer last report_now told outputs ends report
  handed_whole report room fits put = record {
    tells = tells;
    gives = λ other. (
      refl,
      record {
        outputs_got = out.parts room;
        outputs_fit = λ n h. (let within = out.within n h in omega arith);
        outputs_rise = out.rising;
        outputs_all = out.last ∙ sym all;
        report_got = got ∙ ap Some (sym put ∙ ap (λ k. take k report) (sym size));
        report_fits = subst (λ k. k ≤ length report) (sym size) fits;
      },
    );
    needs = λ same. absurd (let few = is_status answer in let is = tells.status in omega arith);
    codes = (let few = is_status answer in let is = tells.status in omega arith);
  }

  pub handed_wanting : (report : List ℕ) → (length outputs < told.outputs) ⊎ (length report < told.report) → IsHandedOut 8 answer last report_now told outputs ends report
  handed_wanting report little = record {
    tells = tells;
    gives = λ other. absurd (other refl);
    needs = λ same. record {
      little = little;
      outputs_rise = out.rising;
      outputs_all = out.last ∙ sym all;
      outputs_size = out.sizes;
      report_bytes = bytes;
      report_got = got;
      report_size = sym size;
    };
    codes = omega arith;
  }

pub is_called : (line plan block ends present : List ℕ) (code : ℕ) (told : Answer) (outputs output_ends report : List ℕ) (words : List (List ℕ)) (answer : Status)
    (first last : BaysView) (fresh report_now : SinkView) → words ≡ words_said line → fresh ≡ fresh_sink → OpensWith present block ends first → InputsAreWell last
    → IsAnswered words plan first last fresh report_now answer → IsHandedOut code answer last report_now told outputs output_ends report
    → IsUtf8 line → (HasNoPart block ends → ⊥)
    → CallEnds line plan block ends present code told outputs output_ends report
is_called line plan block ends present code told outputs output_ends report words answer first last fresh report_now said is opens well answered handed text parts = record {
  called = λ other. record {
    answer = answer;
    first = first;
    last = last;
    report_now = report_now;
    opens = opens;
    well = well;
    answered = subst (λ w. IsAnswered w plan first last fresh_sink report_now answer) said (subst (λ f. IsAnswered words plan first last f report_now answer) is answered);
    handed = handed;
  };
  none = λ same. absurd (let few = handed.codes in omega arith);
  words = λ other. text;
  parts = λ other. parts;
}
