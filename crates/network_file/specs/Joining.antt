-- Believed: the network of a file and the plans of its nodes; and the last two rules, of these.
use Rattle.std.specs.Prelude.{List, [], ◌∷◌, Bool, true, false, not, ◌&&◌, is_some, Option, Some, None, slice_get}
use Rattle.otn_base.specs.declared.kind.PortName.TheVariants as port
use Rattle.otn_base.specs.declared.line_kind.LineKind.{LineKind}
use Rattle.otn_base.specs.declared.line_kind.LineKind.TheVariants.{Otu2, Otu3}
use Rattle.line_side.specs.LineForm.{LineForm}
use Rattle.device_model.specs.Entries.{form_in, form_out}
use Rattle.device_model.specs.Moments.{uses}
use Rattle.plan_file.specs.Answer.{fault_in}
use Rattle.plan_file.specs.Places.{places}
use Rattle.plan_file.specs.declared.plan.Plan.{Plan}
use Rattle.network_laws.specs.Networks.{FibreEnds, Network}
use Rattle.network_file.specs.declared.error.NetworkError.{NetworkError}
use Rattle.network_file.specs.declared.error.NetworkError.TheVariants.{PlanRefused, OtherForm}
use Rattle.network_file.specs.declared.file.NetworkFile.{NetworkFile}
use Rattle.network_file.specs.declared.place.Place.{Place}
use Rattle.network_file.specs.Places.{at_nodes, at_fibres, first_broken}

-- the network of a file and these plans, of its nodes in their order
abbrev pub network_of : NetworkFile → List Plan → Network
network_of file plans = record { plans = plans; fibres = file.fibres }

-- ---- forms

abbrev pub is_same_kind : LineKind → LineKind → Bool
is_same_kind Otu2 Otu2 = true
is_same_kind Otu3 Otu3 = true
is_same_kind _ _ = false

abbrev pub is_same_mask : Bool → Bool → Bool
is_same_mask true mask = mask
is_same_mask false mask = not mask

abbrev pub is_same_form : LineForm → LineForm → Bool
is_same_form form other = is_same_kind form.kind other.kind && is_same_mask form.scrambled other.scrambled

-- the ends of the fibre, both in use, at nodes of these plans, are of two forms
abbrev pub are_two_forms : FibreEnds → Plan → Plan → Bool
are_two_forms f plan next = (uses plan (port.LineOut f.out) && uses next (port.LineIn f.into))
    && not (is_same_form (form_in next f.into) (form_out plan f.out))

abbrev pub differ : FibreEnds → Option Plan → Option Plan → Bool
differ f (Some plan) (Some next) = are_two_forms f plan next
differ f _ _ = false

-- the ends of the fibre are of two forms
abbrev pub has_two_forms : List Plan → FibreEnds → Bool
has_two_forms plans f = differ f (slice_get plans f.here) (slice_get plans f.there)

-- ---- the rules

-- the plan is refused
abbrev pub is_refused : Plan → Bool
is_refused plan = is_some (fault_in plan)

abbrev pub joining_rules : List NetworkError
joining_rules = PlanRefused ∷ OtherForm ∷ []

-- where a file with these plans breaks the rule first
abbrev pub joining_place : NetworkFile → List Plan → NetworkError → Option Place
joining_place file plans PlanRefused = at_nodes (places is_refused plans)
joining_place file plans OtherForm = at_fibres (places (has_two_forms plans) file.fibres)
joining_place file plans _ = None

-- the first of the last two rules that is broken
abbrev pub joining_fault : NetworkFile → List Plan → Option (NetworkError × Place)
joining_fault file plans = first_broken (joining_place file plans) joining_rules
