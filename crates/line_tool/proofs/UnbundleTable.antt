-- What the top call answers for, of `unbundle`, and what follows of it.
use Rattle.std.proofs.Common.{◌≡◌, ◌≢◌, ◌∙◌, ◌⊎◌, inl, inr, ℕ, refl, sym, ap, subst}
use Rattle.port_base.proofs.PortLaws.{sink_written_later}
use Rattle.port_base.specs.PortViews.{SinkView, SinkLater}
use Rattle.port_base.specs.Views.{BaysView, line_in_at, client_out_at}
use Rattle.port_base.specs.declared.ended.Ended.{Ended}
use Rattle.port_base.specs.declared.ended.Ended.TheVariants.{Done, Unfinished, Cut, ReportFault, Memory}
use Rattle.run_laws.proofs.GivenRuns.{follows}
use Rattle.unbundle_command.specs.Unbundled.{arrived_before, report_text}
use Rattle.unbundle_command.specs.UnbundleLeft.{IsCut, written_by, UnbundleOf, UnbundleRan}
use Rattle.command_base.specs.Ends.{line_status}
use Rattle.line_tool.specs.UnbundleLaws.{AreOutputsWell, UnbundlesWhatWasGiven, UnbundleIsComplete}
use Rattle.command_base.specs.declared.status.Status.TheVariants as status
use Rattle.line_tool.proofs.Protected.{may_be_itself}
use Rattle.line_tool.proofs.ProtectTable.{still, took_by_number}

-- the report got what is told, or a part of it
pub unbundle_later : (ended : Ended) (turns : ℕ) (first last : BaysView) (was is : SinkView) → UnbundleRan turns first last was is ended → SinkLater was is
unbundle_later ended turns first last was is ran =
    sink_written_later (written_by ended) was is (report_text (arrived_before ran.read turns)) (ran.left ran.read (may_be_itself ran.more ran.read)).report

-- ---- by Given

pub what_was_unbundled : UnbundlesWhatWasGiven
what_was_unbundled turns old new ended available ran had =
    let first = line_in_at old.bays 0 in
    let last = line_in_at new.bays 0 in
    let left = ran.left available (follows first last ran.read ran.more available ran.line had) in
    record {
      outputs = left.outputs;
      report = left.report;
      cut = left.cut;
      unfinished = left.unfinished;
      took = λ below. took_by_number first last ran.read ran.more turns available ran.line left.took below;
    }

-- ---- without faults

never_cut : (turns : ℕ) (first last : BaysView) (was is : SinkView) → UnbundleRan turns first last was is Cut → AreOutputsWell first last → ⊥
never_cut turns first last was is ran well = go ((all.cut (λ e. cc)).0 refl)
  where
    all : UnbundleOf turns ran.read ran.read (arrived_before ran.read turns) first last was is Cut
    all = ran.left ran.read (may_be_itself ran.more ran.read)

    go : IsCut (arrived_before ran.read turns) last → ⊥
    go (inl dead) = still (line_in_at first 0).state (line_in_at last 0).state (line_in_at first 0).faults (line_in_at last 0).faults ran.line.gave.state well.line well.line_live dead
    go (inr d) =
        still (client_out_at first d.cid).state (client_out_at last d.cid).state (client_out_at first d.cid).faults (client_out_at last d.cid).faults (all.outputs.sent d.cid d.low).gained.state
        (well.outputs d.cid d.low) (well.outputs_live d.cid d.low) d.dead

pub unbundle_complete : UnbundleIsComplete
unbundle_complete turns old new answer h report well = by h.ended refl
  where
    by : (e : Ended) → h.ended ≡ e → (answer ≡ status.Done) ⊎ (answer ≡ status.Unfinished) ⊎ (answer ≡ status.Memory)
    by Done e = inl (h.answer ∙ ap line_status e)
    by Unfinished e = inr (inl (h.answer ∙ ap line_status e))
    by Memory e = inr (inr (h.answer ∙ ap line_status e))
    by ReportFault e = absurd (report (h.counts.fault (h.answer ∙ ap line_status e)))
    by Cut e =
        let some : h.ended ≢ Memory = λ none. let f : Cut ≡ Memory = sym e ∙ none in absurd (cc) in
        absurd (never_cut turns old.bays new.bays old.report new.report (subst (λ x. UnbundleRan turns old.bays new.bays old.report new.report x) e (h.ran some)) well)
