-- The end of the command.
use Rattle.std.proofs.Common.{◌≡◌, ◌≢◌, inl, inr, ◌<◌, ◌≤◌, ◌+◌, ◌-◌, ◌*◌, ◌^◌, ℕ, Bool, true, false, List, [], ◌∷◌, ◌++◌, length, refl, sym, ap, subst, ◌∙◌, append-nil, arith}
use Rattle.std.specs.Prelude.{not}
use Rattle.std.proofs.lemmas.Bool.{cases_lt}
use Rattle.otn_base.specs.declared.limits.TheConstants.{CLIENTS, MOST_TURNS}
use Rattle.port_base.specs.OnePlace.{OnlyLineIn}
use Rattle.port_base.specs.PortViews.{SinkView, SinkWrites}
use Rattle.port_base.specs.Sent.{IsSent}
use Rattle.port_base.specs.Views.{InView, BaysView, line_in_at, client_out_at}
use Rattle.port_base.specs.declared.drain.Written.TheVariants as written
use Rattle.line_side.specs.LineForm.{plain_otu2}
use Rattle.gfp_linear.specs.ChannelArrivals.{ChannelArrival}
use Rattle.gfp_linear.specs.Laws.{packets_on}
use Rattle.port_base.specs.Asked.{ByteAsked, ByteAnswer, has_come}
use Rattle.device_model.specs.LineAsked.{is_seen}
use Rattle.device_model.proofs.SettledLines.{may_at_end, end_of_line, line_left}
use Rattle.tributary_line.specs.Settling.{ended_by}
use Rattle.tributary_line.proofs.Endings.{EndsAs, ends_by}
use Rattle.unbundle_command.specs.Unbundled.{emitted_before, arrived_before, report_text}
use Rattle.unbundle_command.specs.Receiving.{ChannelView, OutputsView}
use Rattle.unbundle_command.specs.Steps.Receiving.{NoneHeld, OutputsStand, OnlyClientsOut}
use Rattle.unbundle_command.specs.Steps.Unbundling.{TurnsGone, IsReady, IsDeadAt, DeadChannel, HasDead}
use Rattle.tributary_line.specs.TurnsLeft.{HasMore}
use Rattle.unbundle_command.specs.UnbundleLeft.{IsCut, OutputsSent, written_by, UnbundleRan}
use Rattle.port_base.specs.declared.ended.Ended.{Ended}
use Rattle.port_base.specs.declared.ended.Ended.TheVariants.{ReportFault}
use Rattle.unbundle_command.specs.declared.unbundling.Unbundling.{Unbundling}
use Rattle.unbundle_command.proofs.Few.{client_few}
use Rattle.unbundle_command.proofs.Turns.{outputs_on, line_same}

-- ---- how the command ended

is_true : (b : Bool) → (b ≡ false → ⊥) → b ≡ true
is_true true h = refl
is_true false h = absurd (h refl)

pub whole_by : (dead more : Bool) → written_by (ended_by dead more) ≡ written.Whole
whole_by true more = refl
whole_by false true = refl
whole_by false false = refl

-- ---- a place that is dead

some_length : (ps : List (List ℕ)) → ps ≢ [] → 0 < length ps
some_length [] some = absurd (some refl)
some_length (p ∷ ps) some = omega arith

-- one channel more is none that is dead
pub none_dead_more : (cid : ℕ) (channels : List ChannelView) (last : BaysView) → (DeadChannel cid channels last → ⊥) → (IsDeadAt cid channels last → ⊥) → DeadChannel (cid + 1) channels last → ⊥
none_dead_more cid channels last before here d = elim (cases_lt d.cid cid) [
  | inl less ↦ before (record { cid = d.cid; low = less; at = d.at })
  | inr least ↦ (let low = d.low in let e : d.cid ≡ cid = omega arith in here (subst (λ k. IsDeadAt k channels last) e d.at))
]

cut_of : (first last : BaysView) (arrived : List ChannelArrival) (outputs : OutputsView) → OutputsStand first last arrived outputs → HasDead outputs.channels last → IsCut arrived last
cut_of first last arrived outputs held (inl dead) = inl dead
cut_of first last arrived outputs held (inr d) =
    let count = (held.channels.each d.cid d.low).packets in
    let some = d.at.arrived in
    inr (record { cid = d.cid; low = d.low; some = λ none. (let no : length (packets_on d.cid arrived) ≡ 0 = ap length none in absurd (omega arith)); dead = d.at.dead })

dead_of : (first last : BaysView) (arrived : List ChannelArrival) (outputs : OutputsView) → OutputsStand first last arrived outputs → IsCut arrived last → HasDead outputs.channels last
dead_of first last arrived outputs held (inl dead) = inl dead
dead_of first last arrived outputs held (inr d) =
    let count = (held.channels.each d.cid d.low).packets in
    let some = some_length (packets_on d.cid arrived) d.some in
    inr (record { cid = d.cid; low = d.low; at = record { arrived = omega arith; dead = d.dead } })

pub ends_whole : (first last : BaysView) (arrived : List ChannelArrival) (outputs : OutputsView) (turns : ℕ) (available : List ℕ) (dead more : Bool) → (dead ≡ true → HasDead outputs.channels last) → (dead ≡ false → HasDead outputs.channels last → ⊥)
    → OutputsStand first last arrived outputs → (more ≡ true → HasMore turns available) → (more ≡ false → HasMore turns available → ⊥) → EndsAs (ended_by dead more) (IsCut arrived last) (HasMore turns available)
ends_whole first last arrived outputs turns available dead more some none held a b =
    ends_by dead more (IsCut arrived last) (HasMore turns available) (λ e. cut_of first last arrived outputs held (some e)) (λ h. is_true dead (λ e. none e (dead_of first last arrived outputs held h))) a (λ h. is_true more (λ e. b e h))

-- ---- what is left

outputs_sent : (first last : BaysView) (arrived : List ChannelArrival) (outputs : OutputsView) → NoneHeld CLIENTS outputs.channels → OutputsStand first last arrived outputs → OutputsSent arrived first last
outputs_sent first last arrived outputs none held = record {
  sent = λ cid low. (let h = (held.channels.each cid low).lines in
      subst (λ due. IsSent (client_out_at first cid) due (client_out_at last cid)) (sym (append-nil h.due) ∙ ap (λ t. h.due ++ t) (sym (none.each cid low)) ∙ h.parts) h.sent);
  quiet = λ cid low. (held.channels.each cid low).lines.quiet;
}

few_arrive : (available : List ℕ) (turns : ℕ) → turns ≤ MOST_TURNS → length (emitted_before available turns) ≤ 15233 * turns → length (arrived_before available turns) ≤ 2 ^ 64 - 1
few_arrive available turns many few = let all = client_few (emitted_before available turns) in omega (arith, many, few, all)

pub ended_so : (first was mid is : BaysView) (turns : ℕ) (parts : Unbundling) (x x' : InView) (answer : Bool) (outputs : OutputsView) (report report' : SinkView) (ended : Ended) → IsReady parts → turns ≤ MOST_TURNS
    → OnlyLineIn 0 was mid → line_in_at was 0 ≡ x → line_in_at mid 0 ≡ x' → OnlyClientsOut mid is → ByteAnswer (not (is_seen parts.tap.line.reader.ending)) x x' answer
    → ((arrived : List ChannelArrival) → OutputsStand first mid arrived parts.outputs → OutputsStand first is arrived outputs) → NoneHeld CLIENTS outputs.channels
    → ((arrived : List ChannelArrival) → OutputsStand first is arrived outputs → length arrived ≤ 2 ^ 64 - 1 → SinkWrites (written_by ended) report (report_text arrived) report')
    → ((arrived : List ChannelArrival) (available : List ℕ) → OutputsStand first is arrived outputs → (answer ≡ true → HasMore turns available) → (answer ≡ false → HasMore turns available → ⊥) → ended ≢ ReportFault
    → EndsAs ended (IsCut arrived is) (HasMore turns available)) → TurnsGone first was turns parts → UnbundleRan turns first is report report' ended
ended_so first was mid is turns parts x x' answer outputs report report' ended ready many only a b clients asked flushed none wrote ends gone =
    let line = parts.tap.line in
    let asks = not (is_seen line.reader.ending) in
    let now = line_same mid is x' clients b in
    let asked' : ByteAsked asks (line_in_at was 0) (line_in_at is 0) asked.further =
    subst (λ v. ByteAsked asks v (line_in_at is 0) asked.further) (sym a) (subst (λ v. ByteAsked asks x v asked.further) (sym now) asked.asked) in
    let on = gone.stands.tap.line in
    record {
      read = gone.read ++ asked.further;
      more = has_come asked.further;
      line = line_left plain_otu2 (line_in_at first 0) (line_in_at was 0) (line_in_at is 0) gone.read asked.further turns line on asked';
      left = λ available may.
          let may' = may_at_end plain_otu2 (line_in_at first 0) (line_in_at was 0) (line_in_at is 0) gone.read asked.further available available turns line on asked' may refl in
          let end = end_of_line plain_otu2 (line_in_at first 0) (line_in_at was 0) (line_in_at is 0) gone.read asked.further available available turns line on ready.between.pieces asked' may refl in
          let arrived = arrived_before available turns in
          let held = flushed arrived (outputs_on first was mid arrived parts.outputs only.client_out (gone.stands.holds available may').held) in
          let more = λ (e : answer ≡ true). end.more (sym asked.tells ∙ e) in
          let all = λ (e : answer ≡ false) (h : HasMore turns available). (let none = end.none (sym asked.tells ∙ e) in let f : ⊥ = omega arith in f) in
          record {
            outputs = outputs_sent first is arrived outputs none held;
            report = wrote arrived held (few_arrive available turns many (gone.stands.few available may'));
            took = end.took;
            cut = λ some. (ends arrived available held more all some).cut;
            unfinished = λ some. (ends arrived available held more all some).unfinished;
          };
    }

-- where the report failed nothing else decides
pub ends_lost : (CutBy MoreBy : Type 0) → ReportFault ≢ ReportFault → EndsAs ReportFault CutBy MoreBy
ends_lost CutBy MoreBy some = absurd (some refl)
