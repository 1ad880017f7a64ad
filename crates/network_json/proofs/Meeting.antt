-- Nothing is in the list of what is amiss exactly where nothing is in the text.
use Rattle.std.proofs.Common.{◌≡◌, ◌∙◌, ◌==◌, ◌&&◌, suc, Bool, true, false, List, [], ◌∷◌, ◌++◌, refl, sym, ap, length, arith}
use Rattle.std.specs.Prelude.{ℕ, flat_map, if◌then◌else◌, map}
use Rattle.std.proofs.lemmas.Bool.{eqb-true}
use Rattle.serde_json.specs.View.{view}
use Rattle.serde_json.specs.declared.value.Value.{Value}
use Rattle.network_laws.specs.Routes.{Leg}
use Rattle.network_view.specs.Entries.{Named, legs_of}
use Rattle.network_view.specs.NetworkText as text
use Rattle.network_view.specs.NetworkText.{is_met, is_met_by, round_line, trouble_line, unmet_line, untaken_line}
use Rattle.network_view.specs.Troubles.{is_round, is_unmet, is_untaken}
use Rattle.network_view.specs.declared.lines.Trouble.{Trouble}
use Rattle.network_view.specs.declared.lines.Trouble.TheVariants.{Unmet, Untaken, Round}
use Rattle.network_json.specs.NetworkJson.{only_if, round_data, trouble_at, troubles_in, unmet_data, untaken_data}

abbrev is_nil : {A : Type 0} → List A → Bool
is_nil [] = true
is_nil (x ∷ xs) = false

nil_append : {A : Type 0} (xs ys : List A) → is_nil (xs ++ ys) ≡ is_nil xs && is_nil ys
nil_append [] ys = refl
nil_append (x ∷ xs) ys = refl

same_nil : {A B C : Type 0} (f : A → List B) (g : A → List C) (xs : List A) → ((x : A) → is_nil (f x) ≡ is_nil (g x))
    → is_nil (flat_map f xs) ≡ is_nil (flat_map g xs)
same_nil f g [] each = refl
same_nil f g (x ∷ xs) each =
    nil_append (f x) (flat_map f xs) ∙ ap (λ b. b && is_nil (flat_map f xs)) (each x) ∙ ap (λ b. is_nil (g x) && b) (same_nil f g xs each)
    ∙ sym (nil_append (g x) (flat_map g xs))

same_parts : {A B : Type 0} (a b c : List A) (x y z : List B) → is_nil a ≡ is_nil x → is_nil b ≡ is_nil y → is_nil c ≡ is_nil z
    → is_nil (a ++ (b ++ c)) ≡ is_nil (x ++ (y ++ z))
same_parts a b c x y z one two three =
    nil_append a (b ++ c) ∙ ap (λ p. p && is_nil (b ++ c)) one
    ∙ ap (λ p. is_nil x && p) (nil_append b c ∙ ap (λ p. p && is_nil c) two ∙ ap (λ p. is_nil y && p) three ∙ sym (nil_append y z))
    ∙ sym (nil_append x (y ++ z))

-- ---- an entry

if_nil : {A B : Type 0} (b : Bool) (t : List A) (s : List B) → is_nil t ≡ false → is_nil s ≡ false → is_nil (if b then t else []) ≡ is_nil (if b then s else [])
if_nil true t s some too = some ∙ sym too
if_nil false t s some too = refl

same_unmet : (named : Named) (leg : Leg) → is_nil (unmet_line named leg) ≡ is_nil (only_if (is_unmet named.network leg) (unmet_data named leg))
unfolding unmet_line
same_unmet named leg = if_nil (is_unmet named.network leg) _ (unmet_data named leg ∷ []) refl refl

same_untaken : (named : Named) (leg : Leg) → is_nil (untaken_line named leg) ≡ is_nil (only_if (is_untaken named.network leg) (untaken_data named leg))
unfolding untaken_line
same_untaken named leg = if_nil (is_untaken named.network leg) _ (untaken_data named leg ∷ []) refl refl

same_round : (named : Named) (most : ℕ) (leg : Leg)
    → is_nil (round_line named most leg) ≡ is_nil (only_if (is_round named.network most leg) (round_data named leg))
unfolding round_line
same_round named most leg = if_nil (is_round named.network most leg) _ (round_data named leg ∷ []) refl refl

same_trouble : (named : Named) (most : ℕ) (trouble : Trouble) (leg : Leg)
    → is_nil (trouble_line named most trouble leg) ≡ is_nil (trouble_at named most trouble leg)
same_trouble named most Unmet leg = same_unmet named leg
same_trouble named most Untaken leg = same_untaken named leg
same_trouble named most Round leg = same_round named most leg

-- ---- all

same_all : (named : Named) (legs : List Leg) → is_nil (text.troubles_in named legs) ≡ is_nil (troubles_in named legs)
same_all named legs =
    same_parts _ _ _ _ _ _ (same_nil _ _ legs (same_trouble named (length legs) Unmet)) (same_nil _ _ legs (same_trouble named (length legs) Untaken))
    (same_nil _ _ legs (same_trouble named (length legs) Round))

by_nil : (text : List ℕ) → is_met_by text ≡ is_nil text
by_nil [] = refl
by_nil (byte ∷ text) = refl

nil_view : (list : List Value) → is_nil (map view list) ≡ is_nil list
nil_view [] = refl
nil_view (value ∷ list) = refl

met_by : (named : Named) (legs : List Leg) (list : List Value) → legs ≡ legs_of named.network → map view list ≡ troubles_in named legs
    → is_met named ≡ is_nil list
met_by named legs list all is =
    ap (λ xs. is_met_by (text.troubles_in named xs)) (sym all) ∙ by_nil (text.troubles_in named legs) ∙ same_all named legs ∙ ap is_nil (sym is) ∙ nil_view list

not_empty : (n : ℕ) (b : Bool) → (suc n == 0) ≡ b → false ≡ (suc n == 0)
not_empty n true t = absurd (let e : suc n ≡ 0 = eqb-true (suc n) 0 t in omega arith)
not_empty n false t = sym t

-- all meets exactly where no value is in the list
pub met_where : (named : Named) (legs : List Leg) (list : List Value) → legs ≡ legs_of named.network → map view list ≡ troubles_in named legs
    → is_met named ≡ (length list == 0)
met_where named legs list all is = met_by named legs list all is ∙ go list
  where
    go : (xs : List Value) → is_nil xs ≡ (length xs == 0)
    go [] = refl
    go (x ∷ xs) = not_empty (length xs) (suc (length xs) == 0) refl
