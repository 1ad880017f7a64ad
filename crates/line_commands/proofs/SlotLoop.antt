-- The loop of `slot` over the frames of a line.
use Rattle.std.proofs.Common.{◌≡◌, ◌≢◌, ◌<◌, ◌≤◌, ◌+◌, ◌*◌, ◌∙◌, ℕ, List, [], ◌++◌, Option, Some, None, length, take, refl, sym, ap, subst, inl, inr, arith, append-nil, length-append, lit≤}
use Rattle.std.proofs.Math.Seq.{take-append-add}
use Rattle.port_base.proofs.GivenLaws.{gave_none, gave_twice}
use Rattle.port_base.proofs.TakenTwice.{after-after}
use Rattle.port_base.specs.Bytes.{after}
use Rattle.port_base.specs.Given.{Gave}
use Rattle.port_base.specs.Views.{Dead, InView}
use Rattle.line_side.specs.LineFile.{frame_at}
use Rattle.port_base.specs.PortViews.{SinkView}
use Rattle.command_base.specs.Ends.{ReportAfter}
use Rattle.line_commands.specs.SlotReport.{slot_bytes, slot_bytes_until, slot_report, whole_frames_used}
use Rattle.line_commands.specs.SlotRuns.{SlotEnded}
use Rattle.line_commands.specs.Steps.SlotRuns.{SlotStep}
use Rattle.line_commands.specs.SlotReport.{StoppedInFrame}
use Rattle.command_base.specs.Gains.{GainsPart}
use Rattle.command_base.specs.Beyond.{ByteRun}
use Rattle.port_base.specs.declared.ended.Ended.{Ended}
use Rattle.port_base.specs.declared.ended.Ended.TheVariants.{Done, Unfinished, Cut, ReportFault, Memory}
use Rattle.line_commands.proofs.LineFrames.{last_frame, slot_report-at, slot_report-whole, until-append, until-more, until-none, used-at}

-- after i whole frames
pub record SoFar (slot i : ℕ) (first now : InView) (old new : Option (List ℕ)) : Type 0 where
  pub read : List ℕ
  pub gave : Gave first read now
  pub size : length read ≡ i * 16320
  pub state : now.state ≡ first.state
  pub unended : now.ended ≡ first.ended
  pub report : new ≡ after old (slot_bytes_until slot read i)

pub after-none : (got : Option (List ℕ)) → got ≡ after got []
after-none None = refl
after-none (Some got) = ap Some (sym (append-nil got))

pub so_far_none : (slot : ℕ) (first : InView) (old : Option (List ℕ)) → SoFar slot 0 first first old old
so_far_none slot first old = record {
  read = [];
  gave = gave_none first;
  size = refl;
  state = refl;
  unended = refl;
  report = after-none old ∙ ap (after old) (sym (until-none slot []));
}

-- what a part of the last frame's bytes is of the whole report
pub part_after : (old gained new : Option (List ℕ)) (before bytes : List ℕ) → gained ≡ after old before → GainsPart gained new bytes → GainsPart old new (before ++ bytes)
part_after old gained new before bytes e h = record {
  written = length before + h.written;
  part = omega (arith, length-append before bytes, h.part);
  gained = h.gained ∙ ap (λ r. after r (take h.written bytes)) e ∙ after-after old before (take h.written bytes) ∙ ap (after old) (sym (take-append-add before bytes h.written));
}

-- a write that failed, of the frame that came behind so many
pub stopped_in : (slot i : ℕ) (bytes frame : List ℕ) (old gained new : Option (List ℕ)) → length bytes ≡ i * 16320 → length frame ≡ 16320
    → gained ≡ after old (slot_bytes_until slot bytes i) → GainsPart gained new (slot_bytes slot frame) → StoppedInFrame slot (bytes ++ frame) (length (bytes ++ frame)) old new
stopped_in slot i bytes frame old gained new size wide before part =
    let here : gained ≡ after old (slot_bytes_until slot (bytes ++ frame) i) = before ∙ ap (after old) (sym (until-append slot bytes frame i (omega (arith, size)))) in
    record {
      f = i;
      last = omega (arith, length-append bytes frame, size, wide);
      gained = subst (λ r. GainsPart r new (slot_bytes slot (frame_at (bytes ++ frame) i))) here
          (subst (λ xs. GainsPart gained new (slot_bytes slot xs)) (sym (last_frame bytes frame i size wide)) part);
    }

-- it is a part of the whole report
pub part_of_report : (slot : ℕ) (read : List ℕ) (old new : Option (List ℕ)) → length read ≤ 131072 * 16320 + 1 → StoppedInFrame slot read (length read) old new
    → GainsPart old new (slot_report slot read)
part_of_report slot read old new few h =
    let whole = slot_report-whole slot read (h.f + 1) (omega (arith, h.last)) (omega (arith, h.last, few)) ∙ until-more slot read h.f in
    subst (GainsPart old new) (sym whole)
    (part_after old (after old (slot_bytes_until slot read h.f)) new (slot_bytes_until slot read h.f) (slot_bytes slot (frame_at read h.f)) refl h.gained)

-- the taken bytes end with a part of a frame
record EndsIn (slot i : ℕ) (first mid now : InView) (old new : Option (List ℕ)) (more : List ℕ) : Type 0 where
  pub read : List ℕ
  pub gave : Gave first (read ++ more) now
  pub size : length (read ++ more) ≡ i * 16320 + length more
  pub report : new ≡ after old (slot_report slot (read ++ more))
  pub used : whole_frames_used (length (read ++ more)) ≡ i

ended : (slot i : ℕ) (first mid now : InView) (old gained new : Option (List ℕ)) (more : List ℕ) → i ≤ 131072 → SoFar slot i first mid old gained
    → Gave mid more now → length more < 16320 → new ≡ gained → EndsIn slot i first mid now old new more
ended slot i first mid now old gained new more few h gave part same =
    let size : length (h.read ++ more) ≡ i * 16320 + length more = length-append h.read more ∙ ap (λ n. n + length more) h.size in
    record {
      read = h.read;
      gave = gave_twice first mid now h.read more h.gave gave;
      size = size;
      report = same ∙ h.report ∙ ap (after old) (sym (slot_report-at slot h.read more i h.size part few));
      used = ap whole_frames_used size ∙ used-at i (length more) part few;
    }

-- how the command ends with a step
pub ends_with : (ended : Ended) (slot i : ℕ) (first mid now : InView) (old gained new : Option (List ℕ)) → first.state ≢ Dead → i < 131072
    → SoFar slot i first mid old gained → SlotStep slot mid now gained new (Some ended) → SlotEnded slot first now old new ended
ends_with Done slot i first mid now old gained new alive few h step =
    let none : length step.read ≡ 0 = ap length step.ends.0 in
    let e = ended slot i first mid now old gained new step.read (omega arith) h step.gave (omega arith) step.ends.3 in
    record {
      read = e.read ++ step.read;
      gave = e.gave;
      died = λ dead. absurd (alive (sym h.state ∙ sym step.ends.1 ∙ dead));
      ends = (e.report, λ dead. alive (sym h.state ∙ sym step.ends.1 ∙ dead), step.ends.2, omega (arith, e.size, e.used, none), omega (arith, e.size, none, few));
    }
ends_with Unfinished slot i first mid now old gained new alive few h step =
    let some = step.ends.0 in
    let e = ended slot i first mid now old gained new step.read (omega arith) h step.gave step.ends.1 step.ends.4 in
    record {
      read = e.read ++ step.read;
      gave = e.gave;
      died = λ dead. absurd (alive (sym h.state ∙ sym step.ends.2 ∙ dead));
      ends = (e.report, λ dead. alive (sym h.state ∙ sym step.ends.2 ∙ dead), omega (arith, e.size, e.used, some), inl step.ends.3, omega (arith, e.size, step.ends.1, few));
    }
ends_with Cut slot i first mid now old gained new alive few h step =
    let e = ended slot i first mid now old gained new step.read (omega arith) h step.gave step.ends.0 step.ends.2 in
    record { read = e.read ++ step.read; gave = e.gave; died = λ _. step.ends.3 ∙ h.unended; ends = (e.report, step.ends.1, omega (arith, e.size, step.ends.0, few)) }
ends_with ReportFault slot i first mid now old gained new alive few h step = record {
  read = h.read ++ step.read;
  gave = gave_twice first mid now h.read step.read h.gave step.gave;
  died = λ dead. absurd (alive (sym h.state ∙ sym step.ends.1 ∙ dead));
  ends = (
    stopped_in slot i h.read step.read old gained new h.size step.ends.0 h.report step.ends.2,
    step.ends.1 ∙ h.state,
    omega (arith, length-append h.read step.read, h.size, step.ends.0, few),
  );
}
ends_with Memory slot i first mid now old gained new alive few h step = absurd step.ends

-- how it ends once the most frames are written and a further byte was asked for
pub ends_after : (ended : Ended) (slot : ℕ) (first mid now : InView) (old new : Option (List ℕ)) → first.state ≢ Dead
    → SoFar slot 131072 first mid old new → ByteRun mid now ended → SlotEnded slot first now old new ended
ends_after Done slot first mid now old new alive h byte =
    let none : length byte.read ≡ 0 = ap length byte.ends.0 in
    let e = ended slot 131072 first mid now old new new byte.read (lit≤ tt) h byte.gave (omega arith) refl in
    record {
      read = e.read ++ byte.read;
      gave = e.gave;
      died = λ dead. absurd (alive (sym h.state ∙ sym byte.ends.1 ∙ dead));
      ends = (e.report, λ dead. alive (sym h.state ∙ sym byte.ends.1 ∙ dead), byte.ends.2, omega (arith, e.size, e.used, none), omega (arith, e.size, none));
    }
ends_after Unfinished slot first mid now old new alive h byte =
    let one = byte.ends.0 in
    let e = ended slot 131072 first mid now old new new byte.read (lit≤ tt) h byte.gave (omega arith) refl in
    let size : length (e.read ++ byte.read) ≡ 131072 * 16320 + 1 = e.size ∙ ap (λ n. 131072 * 16320 + n) one in
    record {
      read = e.read ++ byte.read;
      gave = e.gave;
      died = λ dead. absurd (alive (sym h.state ∙ sym byte.ends.1 ∙ dead));
      ends = (e.report, λ dead. alive (sym h.state ∙ sym byte.ends.1 ∙ dead), omega (arith, e.size, e.used, one), inr size, omega (arith, size));
    }
ends_after Cut slot first mid now old new alive h byte =
    let none : length byte.read ≡ 0 = ap length byte.ends.0 in
    let e = ended slot 131072 first mid now old new new byte.read (lit≤ tt) h byte.gave (omega arith) refl in
    record { read = e.read ++ byte.read; gave = e.gave; died = λ _. byte.ends.2 ∙ h.unended; ends = (e.report, byte.ends.1, omega (arith, e.size, none)) }
ends_after ReportFault slot first mid now old new alive h byte = absurd byte.ends
ends_after Memory slot first mid now old new alive h byte = absurd byte.ends

-- a line that is dead gives nothing
pub dead_run : (slot : ℕ) (line : InView) (report : Option (List ℕ)) → line.state ≡ Dead → SlotEnded slot line line report report Cut
dead_run slot line report dead = record {
  read = [];
  gave = gave_none line;
  died = λ _. refl;
  ends = (after-none report ∙ ap (after report) (sym (slot_report-whole slot [] 0 refl (lit≤ tt) ∙ until-none slot [])), dead, lit≤ tt);
}

-- asking for one byte more is no write
pub never_fault : (answer : Ended) (was now : InView) (old new : SinkView) → ByteRun was now answer → ReportAfter None old new → ReportAfter (Some answer) old new
never_fault Done was now old new byte h = record { later = h.later; faults = h.faults }
never_fault Unfinished was now old new byte h = record { later = h.later; faults = h.faults }
never_fault Cut was now old new byte h = record { later = h.later; faults = h.faults }
never_fault ReportFault was now old new byte h = absurd byte.ends
never_fault Memory was now old new byte h = absurd byte.ends

-- nor does the command end for want of memory, once its frames are read
pub slot_has_memory : (ended : Ended) (slot : ℕ) (first now : InView) (old new : Option (List ℕ)) → SlotEnded slot first now old new ended → ended ≢ Memory
slot_has_memory Done slot first now old new h = λ e. cc
slot_has_memory Unfinished slot first now old new h = λ e. cc
slot_has_memory Cut slot first now old new h = λ e. cc
slot_has_memory ReportFault slot first now old new h = λ e. cc
slot_has_memory Memory slot first now old new h = absurd h.ends
