-- What an accepted plan says of its connections' names and line ends.
use Rattle.std.proofs.Common.{◌≡◌, ◌≤◌, ◌+◌, ◌∙◌, ◌⊎◌, inl, inr, ℕ, zero, suc, Bool, true, false, List, [], ◌∷◌, ◌++◌, Some, None, length, slice_get, refl, sym, ap, subst, arith}
use Rattle.std.specs.Prelude.{map, not, nat_le, ◌&&◌, ◌==◌, if◌then◌else◌}
use Rattle.std.specs.List.{flat_map, list_all}
use Rattle.std.proofs.lemmas.Bool.{not-false}
use Rattle.std.proofs.lemmas.Bool.Decides.{nat_tests}
use Rattle.std.proofs.lemmas.Option.{same_Some, slice_get_within}
use Rattle.otn_base.specs.LineSlots.{LineSlots, slots_of}
use Rattle.otn_base.specs.declared.line_kind.LineKind.{LineKind}
use Rattle.otn_base.specs.declared.line_kind.LineKind.TheVariants.{Otu2, Otu3}
use Rattle.line_side.specs.LineForm.{LineForm}
use Rattle.plan_file.specs.Answer.{fault_in}
use Rattle.plan_file.specs.Entry.{seen, outline}
use Rattle.plan_file.specs.Rules.{is_name, is_sapi}
use Rattle.plan_file.specs.declared.connection.Connection.{Connection}
use Rattle.plan_file.specs.declared.connection.FromEnd.{FromEnd}
use Rattle.plan_file.specs.declared.connection.FromEnd.TheVariants as from_end
use Rattle.plan_file.specs.declared.connection.ToEnd.{ToEnd}
use Rattle.plan_file.specs.declared.connection.ToEnd.TheVariants as to_end
use Rattle.plan_file.specs.declared.error.PlanError.TheVariants.{BadName}
use Rattle.plan_file.specs.declared.plan.Plan.{Plan}
use Rattle.plan_file.proofs.Lists.{slice_get_known}
use Rattle.device_model.specs.Entries.{kind_by}
use Rattle.device_model.specs.SoundPlans.{IsSoundEntry, IsSoundLineEnd}
use Rattle.device_model.proofs.Kept.{KeepsAll, keeps_all}
use Rattle.device_model.proofs.SoundPlans.{sound_plan}
use Rattle.line_view.specs.ViewText.{Showing}
use Rattle.line_view.specs.Watching.{IsOnLine, asked_of}
use Rattle.line_view.specs.declared.shown.Shown.{Shown}
use Rattle.plan_views.specs.PlanViews.{form_by, shown_at, shown_by, shown_from, shown_to, showing}
use Rattle.plan_views.specs.declared.side.Side.{Side}
use Rattle.plan_views.specs.declared.side.Side.TheVariants.{In, Out}

-- ---- names

first_of : (a b : Bool) → (a && b) ≡ true → a ≡ true
first_of true b e = refl
first_of false b e = cc

last_of : (a b : Bool) → (a && b) ≡ true → b ≡ true
last_of true b e = e
last_of false b e = cc

within : (n : ℕ) → nat_le n 32 ≡ true → n ≤ 32
within n e = grind (arith, nat_tests)

name_short : (name : List ℕ) (sapi : Bool) → not (is_name name && sapi) ≡ false → length name ≤ 32
name_short name sapi e =
    let good = first_of (is_name name) sapi (not-false _ e) in
    within (length name) (last_of (nat_le 1 (length name)) (nat_le (length name) 32) (first_of (nat_le 1 (length name) && nat_le (length name) 32) _ good))

short_kept : (plan : Plan) (i : ℕ) (x : Connection) → KeepsAll (outline plan) → slice_get plan.connections i ≡ Some x → length x.name ≤ 32
short_kept plan i x keeps at = name_short x.name _ (keeps.alone 2 BadName i (seen x) refl (slice_get_known seen plan.connections i x at))

pub names_short : (plan : Plan) (i : ℕ) (x : Connection) → fault_in plan ≡ None → slice_get plan.connections i ≡ Some x → length x.name ≤ 32
unfolding fault_in
names_short plan i x none at = short_kept plan i x (keeps_all (outline plan) none) at

-- ---- line ends

-- it is a tributary of a line of this kind
pub record IsOfLine (kind : LineKind) (s : Showing) : Type 0 where
  pub slots : s.own.line_slots ≡ slots_of kind
  pub low : 1 ≤ s.own.port
  pub high : s.own.port ≤ slots_of kind

of_end : (x : Connection) (otu3 : List ℕ) (count a port : ℕ) (slots : LineSlots) → IsSoundLineEnd otu3 count a port slots → IsOfLine (kind_by otu3 a) (showing x port slots)
of_end x otu3 count a port slots end = record {
  slots = ap slots_of end.kind;
  low = end.port_least;
  high = subst (λ k. port ≤ slots_of k) end.kind end.port_most;
}

-- so are all of these
abbrev pub AllOf : LineKind → List Showing → Type 0
AllOf kind [] = Unit {0}
AllOf kind (s ∷ shows) = IsOfLine kind s × AllOf kind shows

all_both : (kind : LineKind) (xs ys : List Showing) → AllOf kind xs → AllOf kind ys → AllOf kind (xs ++ ys)
all_both kind [] ys h k = k
all_both kind (x ∷ xs) ys h k = (h.0, all_both kind xs ys h.1 k)

all_flat : (kind : LineKind) (f : Connection → List Showing) (xs : List Connection) → ((i : ℕ) (x : Connection) → slice_get xs i ≡ Some x → AllOf kind (f x)) → AllOf kind (flat_map f xs)
all_flat kind f [] each = tt
all_flat kind f (x ∷ xs) each = all_both kind (f x) (flat_map f xs) (each 0 x refl) (all_flat kind f xs (λ i y at. each (suc i) y at))

one_or_none : (kind : LineKind) (b : Bool) (s : Showing) → (b ≡ true → IsOfLine kind s) → AllOf kind (if b then s ∷ [] else [])
one_or_none kind true s h = (h refl, tt)
one_or_none kind false s h = tt

of_from : (otu3 : List ℕ) (count a : ℕ) (x : Connection) (from : FromEnd) → ((line port : ℕ) (slots : LineSlots) → from ≡ from_end.Line line port slots → IsSoundLineEnd otu3 count line port slots)
    → AllOf (kind_by otu3 a) (shown_from a x from)
of_from otu3 count a x (from_end.Line line port slots) sound = one_or_none (kind_by otu3 a) (line == a) (showing x port slots)
    (λ e. let same : line ≡ a = grind (arith, nat_tests) in subst (λ n. IsOfLine (kind_by otu3 n) (showing x port slots)) same (of_end x otu3 count line port slots (sound line port slots refl)))
of_from otu3 count a x (from_end.Client client) sound = tt
of_from otu3 count a x (from_end.Signal signal) sound = tt

of_to : (otu3 : List ℕ) (count b : ℕ) (x : Connection) (to : ToEnd) → ((line port : ℕ) (slots : LineSlots) → to ≡ to_end.Line line port slots → IsSoundLineEnd otu3 count line port slots)
    → AllOf (kind_by otu3 b) (shown_to b x to)
of_to otu3 count b x (to_end.Line line port slots) sound = one_or_none (kind_by otu3 b) (line == b) (showing x port slots)
    (λ e. let same : line ≡ b = grind (arith, nat_tests) in subst (λ n. IsOfLine (kind_by otu3 n) (showing x port slots)) same (of_end x otu3 count line port slots (sound line port slots refl)))
of_to otu3 count b x (to_end.Client client) sound = tt

of_entry : (plan : Plan) (side : Side) (line : ℕ) (x : Connection) → IsSoundEntry plan x → AllOf (form_by plan side line).kind (shown_at side line x)
of_entry plan In line x sound = of_from plan.otu3_in _ line x x.from (λ a port slots e. sound.from_line a port slots e)
of_entry plan Out line x sound = of_to plan.otu3_out _ line x x.to (λ b port slots e. sound.to_line b port slots e)

all_of_plan : (plan : Plan) (side : Side) (line : ℕ) → fault_in plan ≡ None → AllOf (form_by plan side line).kind (shown_by plan side line)
unfolding shown_by
all_of_plan plan side line none = all_flat (form_by plan side line).kind (shown_at side line) plan.connections
    (λ i x at. of_entry plan side line x ((sound_plan plan none).entries i x at))

-- ---- what is asked for

same_kind : (a b : LineKind) → slots_of a ≡ slots_of b → a ≡ b
same_kind Otu2 Otu2 e = refl
same_kind Otu2 Otu3 e = absurd (omega (arith, e))
same_kind Otu3 Otu2 e = absurd (omega (arith, e))
same_kind Otu3 Otu3 e = refl

each_on : (kind : LineKind) (shown : List Shown) → AllOf kind (map asked_of shown) → (i : ℕ) (x : Shown) → slice_get shown i ≡ Some x → IsOnLine kind x
each_on kind [] h i x at = absurd (let less = slice_get_within [] i x at in omega arith)
each_on kind (y ∷ shown) h zero x at = subst (IsOnLine kind) (same_Some y x at) (record { kind_is = same_kind y.slots.kind kind h.0.slots; low = h.0.low; high = h.0.high })
each_on kind (y ∷ shown) h (suc i) x at = each_on kind shown h.1 i x at

-- they are on the line
pub all_on_line : (plan : Plan) (side : Side) (line : ℕ) (shown : List Shown) → fault_in plan ≡ None → map asked_of shown ≡ shown_by plan side line
    → (i : ℕ) (x : Shown) → slice_get shown i ≡ Some x → IsOnLine (form_by plan side line).kind x
all_on_line plan side line shown none same = each_on (form_by plan side line).kind shown (subst (AllOf (form_by plan side line).kind) (sym same) (all_of_plan plan side line none))

-- ---- the form of the line

pub form_is : (plan : Plan) (side : Side) (line : ℕ) (kind : LineKind) (scrambled : Bool) → kind ≡ (form_by plan side line).kind → scrambled ≡ (form_by plan side line).scrambled
    → record { kind = kind; scrambled = scrambled } ≡ form_by plan side line
form_is plan In line kind scrambled a b = ap (λ k. form k scrambled) a ∙ ap (form (form_by plan In line).kind) b
  where
    form : LineKind → Bool → LineForm
    form k s = record { kind = k; scrambled = s }
form_is plan Out line kind scrambled a b = ap (λ k. form k scrambled) a ∙ ap (form (form_by plan Out line).kind) b
  where
    form : LineKind → Bool → LineForm
    form k s = record { kind = k; scrambled = s }
