-- A run in which no port failed is not cut.
use Rattle.std.proofs.Common.{◌≡◌, ◌≢◌, ◌∙◌, ◌⊎◌, ◌↔◌, inl, inr, ℕ, Bool, true, false, [], append-nil, refl, sym, ap, subst}
use Rattle.std.specs.List.{Contains}
use Rattle.std.proofs.lemmas.Bool.Decides.{eqb_tells}
use Rattle.otn_base.specs.declared.kind.PortName.{PortName}
use Rattle.otn_base.specs.declared.kind.PortName.TheVariants as port
use Rattle.port_base.specs.Bytes.{HasFailed}
use Rattle.port_base.specs.Given.{Lives}
use Rattle.port_base.specs.Retiring.{retired_in_as, retired_out_as}
use Rattle.port_base.specs.Views.{State, Empty, Live, Dead, BaysView, InView, OutView, line_in_at, line_out_at, client_in_at, client_out_at}
use Rattle.line_side.specs.LineForm.{through_mask}
use Rattle.odu_client.specs.ClientInput.{input_given}
use Rattle.plan_file.specs.declared.connection.Connection.{Connection}
use Rattle.plan_file.specs.declared.connection.ToEnd.{ToEnd}
use Rattle.plan_file.specs.declared.connection.ToEnd.TheVariants as to_end
use Rattle.plan_file.specs.declared.plan.Plan.{Plan}
use Rattle.device_model.specs.Entries.{form_in, is_to_client}
use Rattle.device_model.specs.Inputs.{has_died}
use Rattle.device_model.specs.Moments.{touches, uses}
use Rattle.device_model.specs.Outcomes.{HasDead, HasMore, HasOpen, place_state}
use Rattle.device_model.specs.Report.{Numbers}
use Rattle.device_model.specs.Through.{Inputs}
use Rattle.device_model.specs.declared.outcome.Outcome.{Outcome}
use Rattle.device_model.specs.declared.outcome.Outcome.TheVariants.{Done, Unfinished, Cut}
use Rattle.run_laws.specs.FaultlessRuns.{AreWell, EndsByInputs}
use Rattle.device_model.specs.RunLeft.{Takings, MayBeInputs, RunLeft, RunOf}
use Rattle.device_model.specs.RetiredPlaces.{after_retire, out_after_retire}
use Rattle.run_laws.proofs.GivenRuns.{client_read, some_passes}

-- ---- inputs that may be: those of which nothing follows

least_inputs : (plan : Plan) (first last : BaysView) (takings : Takings) → Inputs
least_inputs plan first last takings = record {
  line = λ a. through_mask (form_in plan a).scrambled (takings.line a);
  client = λ n. input_given (has_died (client_in_at first n).state (client_in_at last n).state) (takings.client n);
}

least_may_be : (plan : Plan) (first last : BaysView) (takings : Takings) → MayBeInputs plan first last takings (least_inputs plan first last takings)
unfolding least_inputs
least_may_be plan first last takings = record {
  line = λ a used. (takings.line a, record { rest = []; over = λ e. refl; parts = sym (append-nil (takings.line a)) }, refl);
  client = λ n used. (takings.client n, record { rest = []; over = λ e. refl; parts = sym (append-nil (takings.client n)) }, refl);
}

least_run : (plan : Plan) (first last : BaysView) (takings : Takings) (numbers : Numbers) → RunLeft plan first last takings numbers
    → RunOf plan first last takings numbers (least_inputs plan first last takings)
least_run plan first last takings numbers left = left.of_inputs (least_inputs plan first last takings) (least_may_be plan first last takings)

-- ---- a place that is dead

is_to : (n : ℕ) (to : ToEnd) → is_to_client n to ≡ true → to ≡ to_end.Client n
is_to n (to_end.Line b number slots) h = absurd (cc)
is_to n (to_end.Client m) h = elim (eqb_tells m n) [ inl t ↦ ap to_end.Client t.1 | inr t ↦ absurd (cc (t.0, h)) ]

client_written : (plan : Plan) (n : ℕ) → uses plan (port.ClientOut n) ≡ true → (x : Connection) × Contains plan.connections x × (x.to ≡ to_end.Client n)
client_written plan n used =
    let r = some_passes (touches (port.ClientOut n)) plan.connections used in
    (r.0, r.1, is_to n r.0.to r.2)

-- a place dies of its own port's fault alone
not_dead : (first last : State) (old new : ℕ) → Lives first last old new → first ≢ Dead → (HasFailed old new → ⊥) → last ≡ Dead → ⊥
not_dead first last old new (inl same) alive calm dead = alive (sym same.0 ∙ dead)
not_dead first last old new (inr died) alive calm dead = calm died.2

-- one that is dead behind its connection's stop was dead before, and is as it was
dead_by : (was : InView) (state : State) → was.state ≡ state → (retired_in_as state was).state ≡ Dead → retired_in_as state was ≡ was
dead_by was Live e dead = absurd (cc)
dead_by was Empty e dead = refl
dead_by was Dead e dead = refl

dead_before : (retires : Bool) (was last : InView) → last ≡ after_retire retires was → last.state ≡ Dead → last ≡ was
dead_before false was last place dead = place
dead_before true was last place dead = place ∙ dead_by was was.state refl (sym (ap (λ v. v.state) place) ∙ dead)

dead_out_by : (was : OutView) (state : State) → was.state ≡ state → (retired_out_as state was).state ≡ Dead → retired_out_as state was ≡ was
dead_out_by was Live e dead = absurd (cc)
dead_out_by was Empty e dead = refl
dead_out_by was Dead e dead = refl

dead_out_before : (retires : Bool) (was last : OutView) → last ≡ out_after_retire retires was → last.state ≡ Dead → last ≡ was
dead_out_before false was last place dead = place
dead_out_before true was last place dead = place ∙ dead_out_by was was.state refl (sym (ap (λ v. v.state) place) ∙ dead)

none_dead : (plan : Plan) (first last : BaysView) (takings : Takings) (numbers : Numbers) → RunLeft plan first last takings numbers → AreWell plan first last
    → (name : PortName) → uses plan name ≡ true → place_state last name ≡ Dead → ⊥
none_dead plan first last takings numbers left well (port.LineIn a) used dead =
    let l = left.line_in a used in
    not_dead (line_in_at first a).state (line_in_at last a).state (line_in_at first a).faults (line_in_at last a).faults l.gave.state (well.alive (port.LineIn a) used) (well.calm (port.LineIn a) used) dead
none_dead plan first last takings numbers left well (port.LineOut b) used dead =
    let l = (least_run plan first last takings numbers left).outputs.line b used in
    not_dead (line_out_at first b).state (line_out_at last b).state (line_out_at first b).faults (line_out_at last b).faults l.left.gained.state (well.alive (port.LineOut b) used) (well.calm (port.LineOut b) used) dead
none_dead plan first last takings numbers left well (port.ClientIn n) used dead =
    let x = client_read plan n used in
    let l = left.client_in x.0 n x.1 x.2 in
    let same = dead_before x.0.retire l.was (client_in_at last n) l.place dead in
    let lives : Lives (client_in_at first n).state (client_in_at last n).state (client_in_at first n).faults (client_in_at last n).faults
    = subst (λ v. Lives (client_in_at first n).state v.state (client_in_at first n).faults v.faults) (sym same) l.left.gave.state in
    not_dead (client_in_at first n).state (client_in_at last n).state (client_in_at first n).faults (client_in_at last n).faults lives (well.alive (port.ClientIn n) used) (well.calm (port.ClientIn n) used) dead
none_dead plan first last takings numbers left well (port.ClientOut n) used dead =
    let x = client_written plan n used in
    let l = (least_run plan first last takings numbers left).outputs.client x.0 n x.1 x.2 in
    let same = dead_out_before x.0.retire l.was (client_out_at last n) l.place dead in
    let lives : Lives (client_out_at first n).state (client_out_at last n).state (client_out_at first n).faults (client_out_at last n).faults
    = subst (λ v. Lives (client_out_at first n).state v.state (client_out_at first n).faults v.faults) (sym same) l.left.gained.state in
    not_dead (client_out_at first n).state (client_out_at last n).state (client_out_at first n).faults (client_out_at last n).faults lives (well.alive (port.ClientOut n) used) (well.calm (port.ClientOut n) used) dead

-- ---- how such a run ends

done_else : (outcome : Outcome) (A : Type 0) → outcome ≢ Cut → (outcome ≡ Unfinished) ↔ A → (outcome ≡ Done) ↔ (A → ⊥)
done_else Done A uncut ends = (λ e a. let f = ends.1 a in absurd (cc), λ none. refl)
done_else Unfinished A uncut ends = (λ e. absurd (cc), λ none. absurd (none (ends.0 refl)))
done_else Cut A uncut ends = absurd (uncut refl)

pub faultless : (plan : Plan) (first last : BaysView) (takings : Takings) (numbers : Numbers) → RunLeft plan first last takings numbers → AreWell plan first last
    → EndsByInputs plan first last takings numbers
faultless plan first last takings numbers left well =
    let none : HasDead plan last → ⊥ = λ h. none_dead plan first last takings numbers left well h.name h.used h.dead in
    let uncut : numbers.outcome ≢ Cut = λ cut. none ((least_run plan first last takings numbers left).numbers_are.outcome.cut.0 cut) in
    let unfinished : (inputs : Inputs) → MayBeInputs plan first last takings inputs → (numbers.outcome ≡ Unfinished) ↔ (HasMore plan inputs ⊎ HasOpen plan inputs)
    = λ inputs may.
    let ends = (left.of_inputs inputs may).numbers_are.outcome.unfinished in
    (λ e. (ends.0 e).1, λ h. ends.1 (none, h)) in
    record {
      uncut = uncut;
      unfinished = unfinished;
      done = λ inputs may. done_else numbers.outcome (HasMore plan inputs ⊎ HasOpen plan inputs) uncut (unfinished inputs may);
    }
