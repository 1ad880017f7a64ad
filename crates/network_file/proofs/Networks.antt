-- A sound file with the plans of its nodes is a network exactly where neither of the last two rules is broken.
use Rattle.std.proofs.Common.{◌≡◌, ℕ, ◌<◌, Bool, true, false, ◌&&◌, not, is_some, List, length, Option, Some, None, slice_get, refl, ap, sym, ◌∙◌}
use Rattle.std.proofs.lemmas.Bool.{and_parts, false≢true}
use Rattle.std.specs.List.{Contains}
use Rattle.otn_base.specs.declared.kind.PortName.TheVariants as port
use Rattle.otn_base.specs.declared.line_kind.LineKind.{LineKind}
use Rattle.otn_base.specs.declared.line_kind.LineKind.TheVariants.{Otu2, Otu3}
use Rattle.line_side.specs.LineForm.{LineForm}
use Rattle.device_model.specs.Entries.{form_in, form_out}
use Rattle.device_model.specs.Moments.{uses}
use Rattle.plan_file.specs.Answer.{fault_in}
use Rattle.plan_file.specs.declared.error.PlanError.{PlanError}
use Rattle.plan_file.specs.declared.plan.Plan.{Plan}
use Rattle.network_laws.specs.Networks.{FibreEnds, IsNetwork}
use Rattle.network_file.specs.declared.error.NetworkError.TheVariants.{PlanRefused, OtherForm}
use Rattle.network_file.specs.declared.file.NetworkFile.{NetworkFile}
use Rattle.network_file.specs.Joining.{network_of, is_same_kind, is_same_mask, is_same_form, are_two_forms, differ, has_two_forms, is_refused, joining_rules, joining_place, joining_fault}
use Rattle.network_file.specs.Sound.{IsSound}
use Rattle.network_file.proofs.Places.{none_at, nodes_none, fibres_none, places_none, places_nowhere, element_of, is_element}

-- ---- forms

same_kind : (one other : LineKind) → is_same_kind one other ≡ true → one ≡ other
same_kind Otu2 Otu2 h = refl
same_kind Otu2 Otu3 h = cc
same_kind Otu3 Otu2 h = cc
same_kind Otu3 Otu3 h = refl

kind_itself : (kind : LineKind) → is_same_kind kind kind ≡ true
kind_itself Otu2 = refl
kind_itself Otu3 = refl

same_mask : (one other : Bool) → is_same_mask one other ≡ true → one ≡ other
same_mask true true h = refl
same_mask true false h = cc
same_mask false true h = cc
same_mask false false h = refl

mask_itself : (mask : Bool) → is_same_mask mask mask ≡ true
mask_itself true = refl
mask_itself false = refl

abbrev form_with : LineKind → Bool → LineForm
form_with kind scrambled = record { kind = kind; scrambled = scrambled }

same_form : (form other : LineForm) → is_same_form form other ≡ true → form ≡ other
same_form form other h =
    let parts = and_parts (is_same_kind form.kind other.kind) (is_same_mask form.scrambled other.scrambled) h in
    ap (λ kind. form_with kind form.scrambled) (same_kind form.kind other.kind parts.0)
    ∙ ap (form_with other.kind) (same_mask form.scrambled other.scrambled parts.1)

form_itself : (form : LineForm) → is_same_form form form ≡ true
form_itself form = rw (kind_itself form.kind, mask_itself form.scrambled) refl

-- ---- a fibre between two plans

and_both : (a b : Bool) → a ≡ true → b ≡ true → (a && b) ≡ true
and_both true true h k = refl
and_both true false h k = cc
and_both false b h k = cc

alike_of : (used form : Bool) → (used && not form) ≡ false → used ≡ true → form ≡ true
alike_of true true h k = refl
alike_of true false h k = cc
alike_of false form h k = cc

pub one_form : (f : FibreEnds) (plan next : Plan) → are_two_forms f plan next ≡ false → uses plan (port.LineOut f.out) ≡ true
    → uses next (port.LineIn f.into) ≡ true → form_in next f.into ≡ form_out plan f.out
one_form f plan next alike out into =
    let used = and_both (uses plan (port.LineOut f.out)) (uses next (port.LineIn f.into)) out into in
    same_form (form_in next f.into) (form_out plan f.out)
    (alike_of (uses plan (port.LineOut f.out) && uses next (port.LineIn f.into)) (is_same_form (form_in next f.into) (form_out plan f.out)) alike used)

two_step : (out into form : Bool) → (out ≡ true → into ≡ true → form ≡ true) → ((out && into) && not form) ≡ false
two_step true true true h = refl
two_step true true false h = absurd (false≢true (h refl refl))
two_step true false form h = refl
two_step false into form h = refl

alike : (form other : LineForm) → form ≡ other → is_same_form form other ≡ true
alike form other same = ap (λ z. is_same_form z other) same ∙ form_itself other

not_two_forms : (f : FibreEnds) (plan next : Plan) → (uses plan (port.LineOut f.out) ≡ true → uses next (port.LineIn f.into) ≡ true
    → form_in next f.into ≡ form_out plan f.out) → are_two_forms f plan next ≡ false
not_two_forms f plan next same =
    two_step (uses plan (port.LineOut f.out)) (uses next (port.LineIn f.into)) (is_same_form (form_in next f.into) (form_out plan f.out))
    (λ out into. alike (form_in next f.into) (form_out plan f.out) (same out into))

-- ---- rules that are not broken

plan_kept : (file : NetworkFile) (plans : List Plan) (i : ℕ) (plan : Plan) → joining_fault file plans ≡ None → slice_get plans i ≡ Some plan
    → is_refused plan ≡ false
plan_kept file plans i plan none known =
    places_none is_refused plans i plan (nodes_none _ (none_at (joining_place file plans) joining_rules 0 PlanRefused none refl)) known

fibre_kept : (file : NetworkFile) (plans : List Plan) (i : ℕ) (f : FibreEnds) → joining_fault file plans ≡ None → slice_get file.fibres i ≡ Some f
    → has_two_forms plans f ≡ false
fibre_kept file plans i f none known =
    places_none (has_two_forms plans) file.fibres i f (fibres_none _ (none_at (joining_place file plans) joining_rules 1 OtherForm none refl)) known

none_of : (fault : Option (PlanError × ℕ)) → is_some fault ≡ false → fault ≡ None
none_of None e = refl
none_of (Some broken) e = cc

some_of : (fault : Option (PlanError × ℕ)) → fault ≡ None → is_some fault ≡ false
some_of fault none = rw none refl

-- ---- to a network

forms_of : (plans : List Plan) (f : FibreEnds) (plan next : Plan) → has_two_forms plans f ≡ false → slice_get plans f.here ≡ Some plan
    → slice_get plans f.there ≡ Some next → are_two_forms f plan next ≡ false
forms_of plans f plan next kept here there = rw (here, there) at kept

ends_of : (file : NetworkFile) (plans : List Plan) → IsSound file → length plans ≡ length file.nodes → (f : FibreEnds) → Contains file.fibres f
    → (f.here < length plans) × (f.there < length plans) × (f.out < 4) × (f.into < 4)
ends_of file plans sound count f has = rw count (sound.ends f has)

single_of : (file : NetworkFile) → IsSound file → (f g : FibreEnds) → Contains file.fibres f → Contains file.fibres g → f.there ≡ g.there
    → f.into ≡ g.into → f ≡ g
single_of file sound f g has has' there into =
    let at_f = element_of file.fibres f has in
    let at_g = element_of file.fibres g has' in
    let same = sound.single has.0 has'.0 f g at_f at_g there into in
    some_same f g (sym at_f ∙ ap (slice_get file.fibres) same ∙ at_g)
  where
    some_same : (f g : FibreEnds) → ◌≡◌ {A = Option FibreEnds} (Some f) (Some g) → f ≡ g
    some_same f g e = cc

pub is_network : (file : NetworkFile) (plans : List Plan) → IsSound file → length plans ≡ length file.nodes → joining_fault file plans ≡ None
    → IsNetwork (network_of file plans)
is_network file plans sound count none = record {
  accepted = λ i plan known. none_of (fault_in plan) (plan_kept file plans i plan none known);
  ends = λ f has. ends_of file plans sound count f has;
  forms = λ f plan next has here there out into.
      let kept = fibre_kept file plans has.0 f none (element_of file.fibres f has) in
      one_form f plan next (forms_of plans f plan next kept here there) out into;
  single = λ f g has has' there into. single_of file sound f g has has' there into;
}

-- ---- from a network

differ_none : (f : FibreEnds) (here there : Option Plan) → ((plan next : Plan) → here ≡ Some plan → there ≡ Some next → are_two_forms f plan next ≡ false)
    → differ f here there ≡ false
differ_none f None there h = refl
differ_none f (Some plan) None h = refl
differ_none f (Some plan) (Some next) h = h plan next refl refl

pub no_fault : (file : NetworkFile) (plans : List Plan) → IsNetwork (network_of file plans) → joining_fault file plans ≡ None
no_fault file plans is =
    let refused = places_nowhere is_refused 1 plans (λ i plan known. some_of (fault_in plan) (is.accepted i plan known)) in
    let forms = places_nowhere (has_two_forms plans) 1 file.fibres (λ i f known. differ_none f (slice_get plans f.here) (slice_get plans f.there)
    (λ plan next here there. not_two_forms f plan next
    (λ out into. is.forms f plan next (is_element file.fibres i f known) here there out into))) in
    rw (refused, forms) refl

pub is_network_exactly : (file : NetworkFile) (plans : List Plan) → IsSound file → length plans ≡ length file.nodes
    → (joining_fault file plans ≡ None → IsNetwork (network_of file plans)) × (IsNetwork (network_of file plans) → joining_fault file plans ≡ None)
is_network_exactly file plans sound count = (is_network file plans sound count, no_fault file plans)
