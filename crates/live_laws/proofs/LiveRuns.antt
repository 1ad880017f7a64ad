-- What a live node leaves at its end is what a run leaves.
use Rattle.std.proofs.Common.{◌≡◌, ◌≢◌, ◌<◌, ℕ, Bool, true, false, List, Option, Some, refl, sym, ap, ◌∙◌, subst}
use Rattle.otn_base.specs.declared.kind.PortName.TheVariants as port
use Rattle.port_base.specs.Given.{Lives, HadToGive, given_between}
use Rattle.port_base.specs.Retiring.{retired_in_as}
use Rattle.port_base.specs.Views.{State, Empty, Live, Dead, InView, BaysView, line_in_at, client_in_at}
use Rattle.odu_client.specs.ClientInput.{input_given}
use Rattle.plan_file.specs.declared.plan.Plan.{Plan}
use Rattle.device_model.specs.Inputs.{has_died}
use Rattle.device_model.specs.Moments.{uses}
use Rattle.device_model.specs.Report.{Numbers}
use Rattle.device_model.specs.RetiredPlaces.{after_retire}
use Rattle.node_moments.specs.Stands.{InputBytes}
use Rattle.run_laws.specs.SeenRuns.{Run, LineGave, ClientGave}
use Rattle.run_laws.proofs.GivenRuns.{client_read}
use Rattle.live_laws.specs.Live.{holding, LeavesAsRun}
use Rattle.live_laws.specs.LiveTurns.{inputs_of}
use Rattle.live_laws.specs.LiveRuns.{LivesAreRuns}
use Rattle.live_laws.proofs.MayCome.{still_live, was_live}

-- ---- a place that did not die had to give all that was handed in

had_in : (state : State) (left : Option (List ℕ)) (bytes : List ℕ) → state ≢ Dead → given_between Live state (Some bytes) left bytes
had_in Empty left bytes well = refl
had_in Live left bytes well = refl
had_in Dead left bytes well = absurd (well refl)

had_all : (first last : InView) (bytes : List ℕ) → first ≡ holding bytes → last.state ≢ Dead → HadToGive first last bytes
had_all first last bytes is well = subst (λ (v : InView). HadToGive v last bytes) (sym is) (had_in last.state last.left bytes well)

unharmed : (state : State) → state ≢ Dead → has_died Live state ≡ false
unharmed Empty well = refl
unharmed Live well = refl
unharmed Dead well = absurd (well refl)

well_of : (first last : InView) (bytes : List ℕ) → first ≡ holding bytes → last.state ≢ Dead → has_died first.state last.state ≡ false
well_of first last bytes is well = ap (λ (v : InView). has_died v.state last.state) is ∙ unharmed last.state well

live_well : (state : State) → state ≡ Live → state ≢ Dead
live_well state live dead = cc

retired_well : (state : State) (was : InView) → was.state ≡ state → state ≡ Live → (retired_in_as state was).state ≢ Dead
retired_well Live was is live = λ dead. cc
retired_well Empty was is live = absurd (cc)
retired_well Dead was is live = absurd (cc)

after_well : (retires : Bool) (was : InView) → was.state ≡ Live → (after_retire retires was).state ≢ Dead
after_well false was live = live_well was.state live
after_well true was live = retired_well was.state was refl live

-- ---- the inputs

module _ (plan : Plan) (handed : InputBytes) (last : BaysView) (numbers : Numbers) (h : LeavesAsRun plan handed last numbers) where
  of_first : (first now : InView) (bytes : List ℕ) → first ≡ holding bytes → Lives first.state now.state first.faults now.faults → Lives Live now.state 0 now.faults
  of_first first now bytes is lives = subst (λ (v : InView). Lives v.state now.state v.faults now.faults) is lives

  line_well : (a : ℕ) → a < 4 → (used : Bool) → uses plan (port.LineIn a) ≡ used → (line_in_at last a).state ≢ Dead
  line_well a few true used =
      let lives = of_first (line_in_at h.first a) (line_in_at last a) (handed.line a) (h.opens.line_in a few) (h.left.line_in a used).gave.state in
      live_well (line_in_at last a).state (still_live (line_in_at last a).state (line_in_at last a).faults lives (h.calm.line_in a))
  line_well a few false used =
      live_well (line_in_at last a).state (ap (λ (v : InView). v.state) (h.left.idle (port.LineIn a) used) ∙ ap (λ (v : InView). v.state) (h.opens.line_in a few))

  client_well : (n : ℕ) → n < 16 → (used : Bool) → uses plan (port.ClientIn n) ≡ used → (client_in_at last n).state ≢ Dead
  client_well n few true used =
      let x = client_read plan n used in
      let c = h.left.client_in x.0 n x.1 x.2 in
      let lives = of_first (client_in_at h.first n) c.was (handed.client n) (h.opens.client_in n few) c.left.gave.state in
      let live = was_live x.0.retire c.was (client_in_at last n) c.place (h.calm.client_in n) lives in
      subst (λ (v : InView). v.state ≢ Dead) (sym c.place) (after_well x.0.retire c.was live)
  client_well n few false used =
      live_well (client_in_at last n).state (ap (λ (v : InView). v.state) (h.left.idle (port.ClientIn n) used) ∙ ap (λ (v : InView). v.state) (h.opens.client_in n few))

  the_run : Run
  the_run = record { plan = plan; before = h.first; after = last }

  line_gave : (a : ℕ) → a < 4 → LineGave the_run a ((inputs_of plan handed).line a)
  unfolding the_run
  line_gave a few = record {
    available = handed.line a;
    had = had_all (line_in_at h.first a) (line_in_at last a) (handed.line a) (h.opens.line_in a few) (line_well a few (uses plan (port.LineIn a)) refl);
    frames = refl;
  }

  client_gave : (n : ℕ) → n < 16 → ClientGave the_run n ((inputs_of plan handed).client n)
  unfolding the_run
  client_gave n few =
      let well = client_well n few (uses plan (port.ClientIn n)) refl in
      record {
        available = handed.client n;
        had = had_all (client_in_at h.first n) (client_in_at last n) (handed.client n) (h.opens.client_in n few) well;
        packets = ap (λ d. input_given d (handed.client n)) (sym (well_of (client_in_at h.first n) (client_in_at last n) (handed.client n) (h.opens.client_in n few) well));
      }

pub lives_are_runs : LivesAreRuns
unfolding the_run
lives_are_runs plan handed last numbers accepted h = record {
  run = the_run plan handed last numbers h;
  is_run = record { accepted = accepted; takings = h.takings; numbers = numbers; left = h.left };
  plan_is = refl;
  after_is = refl;
  opens = h.opens;
  line = line_gave plan handed last numbers h;
  client = client_gave plan handed last numbers h;
}
