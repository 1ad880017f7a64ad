-- A report from one step of a command to the next.
use Rattle.std.proofs.Common.{◌≡◌, ◌∙◌, Option, None, Some, refl, subst}
use Rattle.port_base.proofs.PortLaws.{sink_later_none, sink_later_twice}
use Rattle.port_base.specs.Bytes.{HasFailed}
use Rattle.port_base.specs.PortViews.{SinkView}
use Rattle.command_base.specs.Ends.{FaultsBy, ReportAfter}
use Rattle.port_base.specs.declared.ended.Ended.{Ended}
use Rattle.port_base.specs.declared.ended.Ended.TheVariants.{Done, Unfinished, Cut, ReportFault, Memory}

pub report_same : (s : SinkView) → ReportAfter None s s
report_same s = record { later = sink_later_none s; faults = refl }

-- the count of faults after a step, where it was as at first before
faults_from : (answer : Option Ended) (a b c : SinkView) → b.faults ≡ a.faults → FaultsBy answer b c → FaultsBy answer a c
faults_from None a b c same h = h ∙ same
faults_from (Some Done) a b c same h = h ∙ same
faults_from (Some Unfinished) a b c same h = h ∙ same
faults_from (Some Cut) a b c same h = h ∙ same
faults_from (Some Memory) a b c same h = h ∙ same
faults_from (Some ReportFault) a b c same h = subst (λ n. HasFailed n c.faults) same h

pub report_more : (answer : Option Ended) (a b c : SinkView) → ReportAfter None a b → ReportAfter answer b c → ReportAfter answer a c
report_more answer a b c h k = record { later = sink_later_twice a b c h.later k.later; faults = faults_from answer a b c h.faults k.faults }
