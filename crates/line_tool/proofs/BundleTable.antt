-- What the top call answers for, of `bundle`, and what follows of it.
use Rattle.std.proofs.Common.{◌≡◌, ◌≢◌, ◌∙◌, ◌⊎◌, inl, inr, ◌<◌, ℕ, List, length, take, refl, sym, ap, subst}
use Rattle.port_base.specs.PortViews.{SinkView, SinkLater}
use Rattle.port_base.specs.Views.{BaysView, line_out_at}
use Rattle.port_base.specs.declared.ended.Ended.{Ended}
use Rattle.port_base.specs.declared.ended.Ended.TheVariants.{Done, Unfinished, Cut, ReportFault, Memory}
use Rattle.run_laws.proofs.GivenRuns.{follows}
use Rattle.odu_client.specs.ClientInput.{ClientInput}
use Rattle.bundle_command.specs.BundleLeft.{BundleRan, IsCut, LeftOf, MayBeInput, Tells, place_of}
use Rattle.line_tool.specs.BundleLaws.{AreBundledWell, BundleIsComplete, BundlesWhatWasGiven, inputs_of}
use Rattle.command_base.specs.Ends.{line_status}
use Rattle.command_base.specs.declared.status.Status.TheVariants as status
use Rattle.line_tool.proofs.Protected.{may_be_itself}
use Rattle.line_tool.proofs.ProtectTable.{still}
use Rattle.line_commands.proofs.PullTable.{taken_by_number}

-- what is left of the bytes taken alone
left_alone : (clients : List ℕ) (turns : ℕ) (first last : BaysView) (was is : SinkView) (ended : Ended) (ran : BundleRan clients turns first last was is ended)
    → LeftOf clients turns first last was is ended ran.read ran.more (inputs_of clients first last ran.read)
left_alone clients turns first last was is ended ran =
    ran.left (inputs_of clients first last ran.read) (λ c here. record { available = ran.read c; may = may_be_itself (ran.more c) (ran.read c); is = refl })

-- the report got what is told, or a part of it
later_of : (ended : Ended) (first : SinkView) (text : List ℕ) (last : SinkView) → Tells ended first text last → SinkLater first last
later_of Done first text last tells = (text, tells)
later_of Unfinished first text last tells = (text, tells)
later_of Cut first text last tells = (text, tells)
later_of ReportFault first text last (written, less, got) = (take written text, got)
later_of Memory first text last tells = absurd tells

pub bundle_later : (ended : Ended) (clients : List ℕ) (turns : ℕ) (first last : BaysView) (was is : SinkView) → BundleRan clients turns first last was is ended → SinkLater was is
bundle_later ended clients turns first last was is ran = later_of ended was _ is (left_alone clients turns first last was is ended ran).tells

-- ---- by Given

pub what_was_bundled : BundlesWhatWasGiven
what_was_bundled clients turns old new ended available ran had = record {
  output = left.output;
  report = left.tells;
  took = λ c here.
      let was = place_of clients old.bays c in
      let is = place_of clients new.bays c in
      let may = follows was is (ran.read c) (ran.more c) (available c) (ran.client_in c here) (had c here) in
      let needed = left.needed c here in
      record {
        read = ran.read c;
        rest = may.rest;
        parts = may.parts;
        more = ran.more c;
        over = may.over;
        short = needed.0;
        needed = needed.1;
        asked = left.asked c here;
        number = λ below. taken_by_number was is (ran.read c) (ran.client_in c here).gave below;
      };
  cut = left.cut;
  unfinished = left.unfinished;
}
  where
    inputs : ℕ → ClientInput
    inputs = inputs_of clients old.bays new.bays available

    left : LeftOf clients turns old.bays new.bays old.report new.report ended ran.read ran.more (inputs_of clients old.bays new.bays available)
    left = ran.left (inputs_of clients old.bays new.bays available) (λ c here. record {
      available = available c;
      may = follows (place_of clients old.bays c) (place_of clients new.bays c) (ran.read c) (ran.more c) (available c) (ran.client_in c here) (had c here);
      is = refl;
    })

-- ---- without faults

never_cut : (clients : List ℕ) (turns : ℕ) (first last : BaysView) (was is : SinkView) → BundleRan clients turns first last was is Cut → AreBundledWell clients first last → ⊥
never_cut clients turns first last was is ran well = go ((all.cut (λ e. cc)).0 refl)
  where
    all : LeftOf clients turns first last was is Cut ran.read ran.more (inputs_of clients first last ran.read)
    all = left_alone clients turns first last was is Cut ran

    go : IsCut clients last → ⊥
    go (inl (c, here, dead)) =
        still (place_of clients first c).state (place_of clients last c).state (place_of clients first c).faults (place_of clients last c).faults (ran.client_in c here).gave.state
        (well.clients_well c here) (well.live c here) dead
    go (inr dead) =
        still (line_out_at first 0).state (line_out_at last 0).state (line_out_at first 0).faults (line_out_at last 0).faults all.output.sent.gained.state well.line well.line_live dead

pub bundle_complete : BundleIsComplete
bundle_complete clients turns old new answer h report well = by h.ended refl
  where
    by : (e : Ended) → h.ended ≡ e → (answer ≡ status.Done) ⊎ (answer ≡ status.Unfinished) ⊎ (answer ≡ status.Memory)
    by Done e = inl (h.answer ∙ ap line_status e)
    by Unfinished e = inr (inl (h.answer ∙ ap line_status e))
    by Memory e = inr (inr (h.answer ∙ ap line_status e))
    by ReportFault e = absurd (report (h.counts.fault (h.answer ∙ ap line_status e)))
    by Cut e =
        let some : h.ended ≢ Memory = λ none. let f : Cut ≡ Memory = sym e ∙ none in absurd (cc) in
        absurd (never_cut clients turns old.bays new.bays old.report new.report (subst (λ x. BundleRan clients turns old.bays new.bays old.report new.report x) e (h.ran some)) well)
