-- How the steps of `slot` over some frames add up.
use Rattle.std.proofs.Common.{◌≡◌, ◌≢◌, ◌<◌, ◌≤◌, ◌+◌, ◌*◌, ◌/◌, ◌%◌, ◌∙◌, ℕ, zero, suc, List, [], ◌++◌, Option, Some, None, length, take, drop, refl, sym, ap, subst, inl, arith, lit<, append-nil, append_assoc, length-append}
use Rattle.std.proofs.lemmas.List.{length-take-le}
use Rattle.std.proofs.Math.Seq.{drop-append-add}
use Rattle.port_base.proofs.GivenLaws.{gave_twice}
use Rattle.port_base.proofs.TakenTwice.{after-after}
use Rattle.port_base.specs.Bytes.{after}
use Rattle.port_base.specs.Given.{Gave}
use Rattle.port_base.specs.Reads.{Takes}
use Rattle.port_base.specs.Views.{Live, Dead, InView}
use Rattle.line_side.specs.LineFile.{frame_at}
use Rattle.command_base.specs.Gains.{GainsPart}
use Rattle.line_commands.specs.SlotReport.{slot_bytes, slot_bytes_until, StoppedInFrame}
use Rattle.line_commands.specs.SlotRuns.{SlotEnded}
use Rattle.line_commands.specs.Steps.SlotRuns.{SlotStep, FramesStep, progress_of}
use Rattle.line_commands.specs.declared.slot.Progress.TheVariants.{Frames, Stopped}
use Rattle.port_base.specs.declared.ended.Ended.{Ended}
use Rattle.port_base.specs.declared.ended.Ended.TheVariants.{Done, Unfinished, Cut, ReportFault, Memory}
use Rattle.line_commands.proofs.LineFrames.{until-append, until-further, until-more, until-none}
use Rattle.line_commands.proofs.SlotBatches.{bytes-length, until-part, until-front, frame_at-front}
use Rattle.line_commands.proofs.SlotLoop.{SoFar, ends_with, after-none, stopped_in}

-- ---- frames behind whole frames

-- a frame of the bytes behind whole frames
frame-behind : (read more : List ℕ) (i f : ℕ) → length read ≡ i * 16320 → frame_at (read ++ more) (i + f) ≡ frame_at more f
unfolding frame_at
frame-behind read more i f size =
    let place : 16320 * (i + f) ≡ length read + 16320 * f = omega (arith, size) in
    ap (λ n. take 16320 (drop n (read ++ more))) place ∙ ap (take 16320) (drop-append-add read more (16320 * f))

-- frames before and frames behind
pub until-join : (slot : ℕ) (read more : List ℕ) (i n : ℕ) → length read ≡ i * 16320 → n * 16320 ≤ length more
    → slot_bytes_until slot (read ++ more) (i + n) ≡ slot_bytes_until slot read i ++ slot_bytes_until slot more n
until-join slot read more i zero size there =
    let same : i + 0 ≡ i = omega arith in
    ap (slot_bytes_until slot (read ++ more)) same ∙ until-append slot read more i (omega (arith, size))
    ∙ sym (append-nil (slot_bytes_until slot read i)) ∙ ap (λ xs. slot_bytes_until slot read i ++ xs) (sym (until-none slot more))
until-join slot read more i (suc n) size there =
    let order : i + suc n ≡ i + n + 1 = omega arith in
    let next : suc n ≡ n + 1 = omega arith in
    let before = slot_bytes_until slot read i in
    let behind = slot_bytes_until slot more n in
    let last = slot_bytes slot (frame_at more n) in
    ap (slot_bytes_until slot (read ++ more)) order ∙ until-more slot (read ++ more) (i + n)
    ∙ ap (λ xs. xs ++ slot_bytes slot (frame_at (read ++ more) (i + n))) (until-join slot read more i n size (omega arith))
    ∙ ap (λ xs. (before ++ behind) ++ slot_bytes slot xs) (frame-behind read more i n size)
    ∙ append_assoc before behind last
    ∙ ap (λ xs. before ++ xs) (sym (until-more slot more n)) ∙ ap (λ k. before ++ slot_bytes_until slot more k) (sym next)

-- ---- a step

-- one frame is the first one
one_frame : (slot : ℕ) (frame : List ℕ) → length frame ≡ 16320 → slot_bytes slot frame ≡ slot_bytes_until slot frame 1
one_frame slot frame wide =
    let alone : slot_bytes_until slot ([] ++ frame) (0 + 1) ≡ slot_bytes_until slot [] 0 ++ slot_bytes slot frame = until-further slot [] frame 0 refl wide in
    sym (alone ∙ ap (λ xs. xs ++ slot_bytes slot frame) (until-none slot []))

-- a write that failed in it
one_stopped : (slot : ℕ) (frame : List ℕ) (old new : Option (List ℕ)) → length frame ≡ 16320 → GainsPart old new (slot_bytes slot frame)
    → StoppedInFrame slot frame (length frame) old new
one_stopped slot frame old new wide part =
    let before : old ≡ after old (slot_bytes_until slot [] 0) = after-none old ∙ ap (after old) (sym (until-none slot [])) in
    stopped_in slot 0 [] frame old old new refl wide before part

-- a step of one frame is one of some
pub step_of_one : (answer : Option Ended) (slot most : ℕ) (first now : InView) (old new : Option (List ℕ)) → 0 < most → SlotStep slot first now old new answer
    → FramesStep slot most first now old new (progress_of answer)
step_of_one None slot most first now old new some h = record {
  read = h.read;
  gave = h.gave;
  ends = (lit< tt, omega arith, h.ends.0, h.ends.1, h.ends.2 ∙ ap (after old) (one_frame slot h.read h.ends.0), h.ends.3);
}
step_of_one (Some ReportFault) slot most first now old new some h = record {
  read = h.read;
  gave = h.gave;
  ends = (one_stopped slot h.read old new h.ends.0 h.ends.2, h.ends.1, omega (arith, h.ends.0));
}
step_of_one (Some Done) slot most first now old new some h = record { read = h.read; gave = h.gave; ends = h.ends }
step_of_one (Some Unfinished) slot most first now old new some h = record { read = h.read; gave = h.gave; ends = h.ends }
step_of_one (Some Cut) slot most first now old new some h = record { read = h.read; gave = h.gave; ends = h.ends }
step_of_one (Some Memory) slot most first now old new some h = absurd h.ends

-- bytes at hand that a live place gave
pub gave_hand : (first now : InView) (bytes : List ℕ) → first.state ≡ Live → Takes first bytes now → now.state ≡ first.state → now.faults ≡ first.faults
    → Gave first bytes now
gave_hand first now bytes live takes state faults = record { takes = takes; state = inl (state, faults); idle = λ no. absurd (no live) }

-- all frames that were gathered went out
pub all_written : (slot most n : ℕ) (first now : InView) (old new : Option (List ℕ)) (hand bytes : List ℕ) → 0 < n → n ≤ most → n * 16320 ≤ length hand
    → bytes ≡ slot_bytes_until slot hand n → new ≡ after old bytes → Gave first (take (n * 16320) hand) now → now.state ≡ first.state → now.ended ≡ first.ended
    → FramesStep slot most first now old new (Frames n)
all_written slot most n first now old new hand bytes some few there gathered got gave state unended =
    let size : length (take (n * 16320) hand) ≡ n * 16320 = length-take-le (n * 16320) hand there in
    let front : slot_bytes_until slot (take (n * 16320) hand) n ≡ slot_bytes_until slot hand n = until-front slot hand (n * 16320) n (omega arith) there in
    record {
      read = take (n * 16320) hand;
      gave = gave;
      ends = (some, few, size, state, got ∙ ap (after old) (gathered ∙ sym front), unended);
    }

-- the write failed in a frame of those that were gathered
pub part_written : (slot most n count : ℕ) (first now : InView) (old new : Option (List ℕ)) (hand bytes : List ℕ) → 1 ≤ slot → slot ≤ 8 → n ≤ most
    → n * 16320 ≤ length hand → bytes ≡ slot_bytes_until slot hand n → count < n * 1904 → new ≡ after old (take count bytes)
    → Gave first (take ((count / 1904 + 1) * 16320) hand) now → now.state ≡ first.state → FramesStep slot most first now old new (Stopped ReportFault)
part_written slot most n count first now old new hand bytes low high few there gathered within got gave state =
    let f = count / 1904 in
    let r = count % 1904 in
    let m = (f + 1) * 16320 in
    let read = take m hand in
    let parts : count ≡ f * 1904 + r = omega arith in
    let part : r < 1904 = omega arith in
    let inside : f < n = omega arith in
    let enough : m ≤ length hand = omega (arith, inside, there) in
    let size : length read ≡ m = length-take-le m hand enough in
    let before : slot_bytes_until slot read f ≡ slot_bytes_until slot hand f = until-front slot hand m f (omega arith) enough in
    let frame : frame_at read f ≡ frame_at hand f = frame_at-front hand m f (omega arith) enough in
    let wrote : take count bytes ≡ slot_bytes_until slot hand f ++ take r (slot_bytes slot (frame_at hand f)) =
    ap (take count) gathered ∙ ap (λ k. take k (slot_bytes_until slot hand n)) parts ∙ until-part slot hand n f r low high inside (omega arith) in
    record {
      read = read;
      gave = gave;
      ends = (
        record {
          f = f;
          last = omega (arith, size);
          gained = record {
            written = r;
            part = omega (arith, bytes-length slot (frame_at read f) low high, part);
            gained = got ∙ ap (after old) wrote
                ∙ sym (after-after old (slot_bytes_until slot hand f) (take r (slot_bytes slot (frame_at hand f))))
                ∙ ap (λ xs. after (after old xs) (take r (slot_bytes slot (frame_at hand f)))) (sym before)
                ∙ ap (λ xs. after (after old (slot_bytes_until slot read f)) (take r (slot_bytes slot xs))) (sym frame);
          };
        },
        state,
        omega (arith, size, inside, few),
      );
    }

-- ---- the loop

-- some frames more
pub so_far_frames : (slot i most n : ℕ) (first mid now : InView) (old gained new : Option (List ℕ)) → SoFar slot i first mid old gained
    → FramesStep slot most mid now gained new (Frames n) → SoFar slot (i + n) first now old new
so_far_frames slot i most n first mid now old gained new h step = record {
  read = h.read ++ step.read;
  gave = gave_twice first mid now h.read step.read h.gave step.gave;
  size = omega (arith, length-append h.read step.read, h.size, step.ends.2);
  state = step.ends.3 ∙ h.state;
  unended = step.ends.5 ∙ h.unended;
  report = step.ends.4 ∙ ap (λ r. after r (slot_bytes_until slot step.read n)) h.report ∙ after-after old (slot_bytes_until slot h.read i) (slot_bytes_until slot step.read n)
      ∙ ap (after old) (sym (until-join slot h.read step.read i n h.size (omega (arith, step.ends.2))));
}

-- a write that failed in one of some frames behind whole ones
stopped_behind : (slot i : ℕ) (read more : List ℕ) (old gained new : Option (List ℕ)) → length read ≡ i * 16320 → gained ≡ after old (slot_bytes_until slot read i)
    → StoppedInFrame slot more (length more) gained new → StoppedInFrame slot (read ++ more) (length (read ++ more)) old new
stopped_behind slot i read more old gained new size report h =
    let there : h.f * 16320 ≤ length more = omega (arith, h.last) in
    let join : slot_bytes_until slot (read ++ more) (i + h.f) ≡ slot_bytes_until slot read i ++ slot_bytes_until slot more h.f = until-join slot read more i h.f size there in
    let before : after gained (slot_bytes_until slot more h.f) ≡ after old (slot_bytes_until slot (read ++ more) (i + h.f)) =
    ap (λ r. after r (slot_bytes_until slot more h.f)) report ∙ after-after old (slot_bytes_until slot read i) (slot_bytes_until slot more h.f) ∙ ap (after old) (sym join) in
    record {
      f = i + h.f;
      last = omega (arith, length-append read more, size, h.last);
      gained = subst (λ r. GainsPart r new (slot_bytes slot (frame_at (read ++ more) (i + h.f)))) before
          (subst (λ xs. GainsPart (after gained (slot_bytes_until slot more h.f)) new (slot_bytes slot xs)) (sym (frame-behind read more i h.f size)) h.gained);
    }

-- how the command ends with a step
pub ends_with_step : (ended : Ended) (slot i most : ℕ) (first mid now : InView) (old gained new : Option (List ℕ)) → first.state ≢ Dead → i + most ≤ 131072 → 0 < most
    → SoFar slot i first mid old gained → FramesStep slot most mid now gained new (Stopped ended) → SlotEnded slot first now old new ended
ends_with_step Done slot i most first mid now old gained new alive few some h step =
    ends_with Done slot i first mid now old gained new alive (omega arith) h (record { read = step.read; gave = step.gave; ends = step.ends })
ends_with_step Unfinished slot i most first mid now old gained new alive few some h step =
    ends_with Unfinished slot i first mid now old gained new alive (omega arith) h (record { read = step.read; gave = step.gave; ends = step.ends })
ends_with_step Cut slot i most first mid now old gained new alive few some h step =
    ends_with Cut slot i first mid now old gained new alive (omega arith) h (record { read = step.read; gave = step.gave; ends = step.ends })
ends_with_step ReportFault slot i most first mid now old gained new alive few some h step = record {
  read = h.read ++ step.read;
  gave = gave_twice first mid now h.read step.read h.gave step.gave;
  died = λ dead. absurd (alive (sym h.state ∙ sym step.ends.1 ∙ dead));
  ends = (
    stopped_behind slot i h.read step.read old gained new h.size h.report step.ends.0,
    step.ends.1 ∙ h.state,
    omega (arith, length-append h.read step.read, h.size, step.ends.2, few),
  );
}
ends_with_step Memory slot i most first mid now old gained new alive few some h step = absurd step.ends
