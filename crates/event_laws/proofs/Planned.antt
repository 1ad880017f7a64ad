-- The tributaries that a plan has on a line.
use Rattle.std.proofs.Common.{◌≡◌, ◌≤◌, ℕ, suc, Bool, true, false, All, List, [], ◌∷◌, Some, None, slice_get, refl, ap, subst, arith}
use Rattle.std.specs.Prelude.{not, ◌&&◌, ◌==◌, if◌then◌else◌}
use Rattle.std.specs.List.{flat_map, list_any}
use Rattle.std.proofs.lemmas.Bool.{not-false}
use Rattle.std.proofs.lemmas.Bool.Decides.{nat_tests}
use Rattle.std.proofs.lemmas.List.Elements.{All-nil, All-cons, All-append}
use Rattle.otn_base.specs.LineSlots.{LineSlots, slots_of}
use Rattle.otn_base.specs.SlotList.{IsSlotList}
use Rattle.line_side.specs.LineForm.{LineForm}
use Rattle.plan_file.specs.Answer.{fault_in}
use Rattle.plan_file.specs.Entry.{seen, outline}
use Rattle.plan_file.specs.Rules.{is_name}
use Rattle.plan_file.specs.declared.connection.Connection.{Connection}
use Rattle.plan_file.specs.declared.connection.FromEnd.{FromEnd}
use Rattle.plan_file.specs.declared.connection.FromEnd.TheVariants as from_end
use Rattle.plan_file.specs.declared.connection.ToEnd.{ToEnd}
use Rattle.plan_file.specs.declared.connection.ToEnd.TheVariants as to_end
use Rattle.plan_file.specs.declared.error.PlanError.TheVariants.{BadName}
use Rattle.plan_file.specs.declared.plan.Plan.{Plan}
use Rattle.plan_file.proofs.Lists.{slice_get_known}
use Rattle.device_model.specs.Entries.{kind_by}
use Rattle.device_model.specs.SoundPlans.{IsSoundEntry, IsSoundLineEnd}
use Rattle.device_model.proofs.Kept.{KeepsAll, keeps_all}
use Rattle.device_model.proofs.SoundPlans.{sound_plan}
use Rattle.line_view.specs.ViewText.{Showing}
use Rattle.plan_views.specs.PlanViews.{form_by, shown_at, shown_by, shown_from, shown_to, showing}
use Rattle.plan_views.specs.declared.side.Side.{Side}
use Rattle.plan_views.specs.declared.side.Side.TheVariants.{In, Out}
use Rattle.view_events.specs.ViewLines.{IsWord}
use Rattle.event_laws.specs.Laws.{IsShown, PlannedAreShown}
use Rattle.event_laws.proofs.Words.{first_of, name_word}

-- ---- names

word_of : (name : List ℕ) (sapi : Bool) → not (is_name name && sapi) ≡ false → IsWord name
word_of name sapi e = name_word name (first_of (is_name name) sapi (not-false _ e))

word_kept : (plan : Plan) (i : ℕ) (x : Connection) → KeepsAll (outline plan) → slice_get plan.connections i ≡ Some x → IsWord x.name
word_kept plan i x keeps at = word_of x.name _ (keeps.alone 2 BadName i (seen x) refl (slice_get_known seen plan.connections i x at))

names_are_words : (plan : Plan) (i : ℕ) (x : Connection) → fault_in plan ≡ None → slice_get plan.connections i ≡ Some x → IsWord x.name
unfolding fault_in
names_are_words plan i x none at = word_kept plan i x (keeps_all (outline plan) none) at

-- ---- line ends

abbrev form_of : (otu3 scrambled : List ℕ) → (line : ℕ) → LineForm
form_of otu3 scrambled line = record { kind = kind_by otu3 line; scrambled = list_any (λ n. n == line) scrambled }

of_end : (x : Connection) (otu3 scrambled : List ℕ) (count a port : ℕ) (slots : LineSlots) → IsWord x.name → IsSoundLineEnd otu3 count a port slots
    → IsShown (form_of otu3 scrambled a) (showing x port slots)
of_end x otu3 scrambled count a port slots word end = record {
  name = word;
  line = ap slots_of end.kind;
  port = subst (λ k. port ≤ slots_of k) end.kind end.port_most;
  slots = subst (λ k. IsSlotList (slots_of k) slots.list) end.kind end.list;
}

all_flat : (form : LineForm) (f : Connection → List Showing) (xs : List Connection)
    → ((i : ℕ) (x : Connection) → slice_get xs i ≡ Some x → All (IsShown form) (f x))
    → All (IsShown form) (flat_map f xs)
all_flat form f [] each = All-nil (IsShown form)
all_flat form f (x ∷ xs) each = All-append (IsShown form) (f x) (flat_map f xs) (each 0 x refl) (all_flat form f xs (λ i y at. each (suc i) y at))

one_or_none : (form : LineForm) (b : Bool) (s : Showing) → (b ≡ true → IsShown form s) → All (IsShown form) (if b then s ∷ [] else [])
one_or_none form true s h = All-cons (IsShown form) s [] (h refl) (All-nil (IsShown form))
one_or_none form false s h = All-nil (IsShown form)

at_line : (x : Connection) (otu3 scrambled : List ℕ) (count a line port : ℕ) (slots : LineSlots) → IsWord x.name → IsSoundLineEnd otu3 count line port slots
    → (line == a) ≡ true → IsShown (form_of otu3 scrambled a) (showing x port slots)
at_line x otu3 scrambled count a line port slots word sound e =
    let same : line ≡ a = grind (arith, nat_tests) in
    subst (λ n. IsShown (form_of otu3 scrambled n) (showing x port slots)) same (of_end x otu3 scrambled count line port slots word sound)

of_from : (otu3 scrambled : List ℕ) (count a : ℕ) (x : Connection) (from : FromEnd) → IsWord x.name
    → ((line port : ℕ) (slots : LineSlots) → from ≡ from_end.Line line port slots → IsSoundLineEnd otu3 count line port slots)
    → All (IsShown (form_of otu3 scrambled a)) (shown_from a x from)
of_from otu3 scrambled count a x (from_end.Line line port slots) word sound =
    one_or_none (form_of otu3 scrambled a) (line == a) (showing x port slots)
    (at_line x otu3 scrambled count a line port slots word (sound line port slots refl))
of_from otu3 scrambled count a x (from_end.Client client) word sound = All-nil (IsShown (form_of otu3 scrambled a))
of_from otu3 scrambled count a x (from_end.Signal signal) word sound = All-nil (IsShown (form_of otu3 scrambled a))

of_to : (otu3 scrambled : List ℕ) (count b : ℕ) (x : Connection) (to : ToEnd) → IsWord x.name
    → ((line port : ℕ) (slots : LineSlots) → to ≡ to_end.Line line port slots → IsSoundLineEnd otu3 count line port slots)
    → All (IsShown (form_of otu3 scrambled b)) (shown_to b x to)
of_to otu3 scrambled count b x (to_end.Line line port slots) word sound =
    one_or_none (form_of otu3 scrambled b) (line == b) (showing x port slots)
    (at_line x otu3 scrambled count b line port slots word (sound line port slots refl))
of_to otu3 scrambled count b x (to_end.Client client) word sound = All-nil (IsShown (form_of otu3 scrambled b))

of_entry : (plan : Plan) (side : Side) (line : ℕ) (x : Connection) → IsWord x.name → IsSoundEntry plan x
    → All (IsShown (form_by plan side line)) (shown_at side line x)
of_entry plan In line x word sound = of_from plan.otu3_in plan.scrambled_in _ line x x.from word (λ a port slots e. sound.from_line a port slots e)
of_entry plan Out line x word sound = of_to plan.otu3_out plan.scrambled_out _ line x x.to word (λ b port slots e. sound.to_line b port slots e)

-- the connections of an accepted plan are tributaries of their lines
pub planned_are_shown : PlannedAreShown
unfolding shown_by
planned_are_shown = λ plan side line none. all_flat (form_by plan side line) (shown_at side line) plan.connections
    (λ i x at. of_entry plan side line x (names_are_words plan i x none at) ((sound_plan plan none).entries i x at))
