-- Nodes that are settled one after another.
use Rattle.std.proofs.Common.{◌≡◌, ◌≤◌, ◌<◌, ◌+◌, inl, inr, ℕ, zero, suc, List, [], ◌∷◌, ◌++◌, Some, length, get_or, set, refl, sym, ap, ◌∙◌, subst, arith}
use Rattle.std.specs.Prelude.{slice_get, IfOk, Result, Ok, Err}
use Rattle.std.proofs.lemmas.List.{length-append, length-set}
use Rattle.std.proofs.lemmas.Option.{same_Some, slice_get_within}
use Rattle.port_base.specs.declared.sink.Sink as sink
use Rattle.port_base.specs.declared.source.Source as source
use Rattle.device_model.specs.RunNumbers.{numbers_of_run}
use Rattle.device_model.specs.declared.numbers.RunNumbers.{RunNumbers}
use Rattle.node_moments.specs.NodeView.{NodeView}
use Rattle.network_run.specs.Ending.{AreSettled, IsSettled}
use Rattle.network_run.specs.Sites.{AllOver}
use Rattle.network_run.specs.declared.site.Site.{Site}
use Rattle.network_run.proofs.Each.{below_or_here, set_apart, set_here}

get_front : {A : Type 0} (xs ys : List A) (j : ℕ) → j < length xs → slice_get (xs ++ ys) j ≡ slice_get xs j
get_front [] ys j less = absurd (omega arith)
get_front (x ∷ xs) ys zero less = refl
get_front (x ∷ xs) ys (suc j) less = get_front xs ys j (omega arith)

get_last : {A : Type 0} (xs : List A) (y : A) → slice_get (xs ++ y ∷ []) (length xs) ≡ Some y
get_last [] y = refl
get_last (x ∷ xs) y = get_last xs y

pub if_ok : {A E : Type 0} (P Q : A → Type 0) (r : Result A E) → ((a : A) → P a → Q a) → IfOk r P → IfOk r Q
if_ok P Q (Ok a) goes h = goes a h
if_ok P Q (Err e) goes h = h

module _ {P K : Type 0} (p : source.Ghosts P) (k : sink.Ghosts K) where
  -- the first so many were settled, and the others are as they were
  pub record SettledBelow (i : ℕ) (olds news : List (Site P K)) (numbers : List RunNumbers) : Type 0 where
    pub most : i ≤ length olds
    pub count : length news ≡ length olds
    pub told : length numbers ≡ i
    pub past : (j : ℕ) (old new : Site P K) (n : RunNumbers) → j < i → slice_get olds j ≡ Some old → slice_get news j ≡ Some new
        → slice_get numbers j ≡ Some n → IsSettled p k old new (numbers_of_run n)
    pub ahead : (j : ℕ) → i ≤ j → slice_get news j ≡ slice_get olds j

  pub settled_none : (sites : List (Site P K)) → SettledBelow 0 sites sites []
  settled_none sites = record {
    most = omega arith;
    count = refl;
    told = refl;
    past = λ j old new n less. absurd (omega arith);
    ahead = λ j least. refl;
  }

  pub still_over : (olds news : List (Site P K)) (numbers : List RunNumbers) (i : ℕ) (site : Site P K) → slice_get news i ≡ Some site
      → SettledBelow i olds news numbers → AllOver olds → site.node.turns ≤ site.node.past
  still_over olds news numbers i site at h over = over i site (sym (h.ahead i (omega arith)) ∙ at)

  pub settled_more : (olds news : List (Site P K)) (numbers : List RunNumbers) (i : ℕ) (old new : Site P K) (n : RunNumbers)
      → slice_get news i ≡ Some old → IsSettled p k old new (numbers_of_run n) → SettledBelow i olds news numbers
      → SettledBelow (i + 1) olds (set news i new) (numbers ++ n ∷ [])
  settled_more olds news numbers i old new n at settled h =
      let within : i < length news = slice_get_within news i old at in
      record {
        most = (let count = h.count in omega arith);
        count = length-set news i new ∙ h.count;
        told = length-append numbers (n ∷ []) ∙ ap (λ m. m + 1) h.told;
        past = λ j was is m less here now number. elim (below_or_here j i less) as (λ t. IsSettled p k was is (numbers_of_run m)) [
          | inl l ↦
              let low : j < length numbers = (let told = h.told in omega arith) in
              h.past j was is m l here (sym (set_apart news i j new (apart j i l)) ∙ now) (sym (get_front numbers (n ∷ []) j low) ∙ number)
          | inr e ↦
              let one : old ≡ was = same_Some old was (sym at ∙ h.ahead i (omega arith) ∙ ap (slice_get olds) (sym e) ∙ here) in
              let two : new ≡ is = same_Some new is (sym (set_here news i new within) ∙ ap (slice_get (set news i new)) (sym e) ∙ now) in
              let three : n ≡ m = same_Some n m
              (sym (get_last numbers n) ∙ ap (slice_get (numbers ++ n ∷ [])) (h.told ∙ sym e) ∙ number) in
              subst (λ s. IsSettled p k s is (numbers_of_run m)) one
              (subst (λ s. IsSettled p k old s (numbers_of_run m)) two (subst (λ q. IsSettled p k old new (numbers_of_run q)) three settled))
        ];
        ahead = λ j least. set_apart news i j new (apart_above j i (omega arith)) ∙ h.ahead j (omega arith);
      }
    where
      apart : (j i : ℕ) → j < i → j ≡ i → ⊥
      apart j i less = λ e. (omega arith)

      apart_above : (j i : ℕ) → i < j → j ≡ i → ⊥
      apart_above j i less = λ e. (omega arith)

  pub all_settled : (olds news : List (Site P K)) (numbers : List RunNumbers) (i : ℕ) → length olds ≤ i → SettledBelow i olds news numbers
      → AreSettled p k olds news numbers
  all_settled olds news numbers i all h = record {
    count = h.count;
    told = (let told = h.told in let most = h.most in omega arith);
    each = λ j old new n here now number. h.past j old new n (let within = slice_get_within olds j old here in omega arith) here now number;
  }
