-- What the top call answers for, of `protect`.
use Rattle.std.proofs.Common.{◌≡◌, ◌++◌, ℕ, Bool, List, [], refl, sym, ap, take, append-nil}
use Rattle.otn_base.specs.LineSlots.{LineSlots, slots_of}
use Rattle.otn_base.specs.declared.line_kind.LineKind.{LineKind}
use Rattle.otn_base.specs.declared.line_kind.LineKind.TheVariants.{Otu2}
use Rattle.port_base.specs.PortViews.{SinkLater}
use Rattle.port_base.specs.declared.ended.Ended.{Ended}
use Rattle.port_base.specs.declared.ended.Ended.TheVariants.{Done, Unfinished, Cut, ReportFault, Memory}
use Rattle.tributary_model.specs.Places.{Tributary, tributary_of}
use Rattle.device_model.specs.LineAsked.{MayHave}
use Rattle.protect_selector.specs.OfLines.{switch_text, switch_text_at}
use Rattle.protect_selector.specs.ProtectLeft.{LeftSo, ProtectRan}
use Rattle.protect_selector.specs.Protecting.{Ends}
use Rattle.line_commands.specs.PullReport.{tributary}

-- the tributary of slots of an OTU2 line
pub of_otu2 : (slots : LineSlots) (port : ℕ) → slots.kind ≡ Otu2 → tributary_of slots port ≡ tributary port slots.list
of_otu2 slots port kind = ap of_kind kind
  where
    of_kind : LineKind → Tributary
    of_kind k = record { line_slots = slots_of k; slots = slots.list; port = port }

-- the bytes taken are among those that a line may turn out to have
pub may_be_itself : (more : Bool) (read : List ℕ) → MayHave more read read
may_be_itself more read = record { rest = []; over = λ e. refl; parts = sym (append-nil read) }

-- the report got what is told, or a part of it
told : (ended : Ended) (own : Tributary) (turns n t : ℕ) (first last : Ends) (working protection w p : List ℕ) → LeftSo ended own turns n t first last working protection w p
    → SinkLater first.report last.report
told Done own turns n t first last working protection w p left = (switch_text own n w p turns, left.report)
told Unfinished own turns n t first last working protection w p left = (switch_text own n w p turns, left.report)
told Cut own turns n t first last working protection w p left = (switch_text own n w p turns, left.report)
told ReportFault own turns n t first last working protection w p left = (switch_text own n w p t ++ take left.1.written (switch_text_at own n w p t), left.1.report)
told Memory own turns n t first last working protection w p left = absurd left

pub protect_later : (ended : Ended) (own : Tributary) (turns n : ℕ) (first last : Ends) → ProtectRan own turns n first last ended → SinkLater first.report last.report
protect_later ended own turns n first last ran =
    told ended own turns n ran.stopped first last ran.working ran.protection ran.working ran.protection
    (ran.left ran.working ran.protection (may_be_itself ran.working_more ran.working) (may_be_itself ran.protection_more ran.protection))
