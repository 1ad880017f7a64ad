-- What a sink has seen that begins with the first turn of its tributary.
use Rattle.std.proofs.Common.{◌≡◌, ◌≤◌, ◌<◌, ◌+◌, ◌-◌, ◌∙◌, ℕ, zero, suc, Bool, true, false, List, [], ◌∷◌, Option, refl, sym, ap, subst, arith}
use Rattle.std.specs.Prelude.{nat_le}
use Rattle.std.proofs.lemmas.Bool.Decides.{nat_tests}
use Rattle.line_side.specs.LineForm.{LineForm, size_of}
use Rattle.tributary_model.specs.Carries.{past_of}
use Rattle.tributary_model.specs.Places.{Tributary, Taken, View}
use Rattle.trib_sink.specs.Sink.{StandsAfter}
use Rattle.device_model.specs.LineViews.{view_at, views_until}
use Rattle.device_model.specs.TurnFrames.{frames_in}
use Rattle.line_view.specs.Steps.Viewing.{HasSeen, frames_by, taken_by}
use Rattle.line_view.specs.ViewText.{views_from}
use Rattle.line_view.specs.Steps.Watching.{IsSame, begun, own_of}
use Rattle.line_view.specs.declared.watched.Watched.{Watched}
use Rattle.line_view.proofs.Steps.{same_own}

pub le_of : (m n : ℕ) → nat_le m n ≡ true → m ≤ n
le_of m n h = grind (arith, nat_tests)

pub less_of : (m n : ℕ) → nat_le m n ≡ false → n < m
less_of m n h = grind (arith, nat_tests)

pub begun_on : (first t : ℕ) → nat_le first t ≡ true → nat_le first (t + 1) ≡ true
begun_on first t h = grind (arith, nat_tests)

-- none up to the first turn
pub views_waits : (own : Tributary) (first : ℕ) (available : List ℕ) (t : ℕ) → t ≤ first → views_from own first available t ≡ []
unfolding views_from
views_waits own first available t early = let none : t - first ≡ 0 = omega (arith, early) in ap (past_of (view_at own available) first) none

-- one more with each turn from then on
pub views_more : (own : Tributary) (first : ℕ) (available : List ℕ) (t : ℕ) → nat_le first t ≡ true → views_from own first available (t + 1) ≡ view_at own available t ∷ views_from own first available t
unfolding views_from
views_more own first available t on =
    let low = le_of first t on in
    let more : t + 1 - first ≡ suc (t - first) = omega (arith, low) in
    let here : first + (t - first) ≡ t = omega (arith, low) in
    ap (past_of (view_at own available) first) more ∙ ap (λ i. view_at own available i ∷ past_of (view_at own available) first (t - first)) here

-- those of a sink that begins with turn 1
all_until : (own : Tributary) (available : List ℕ) (t : ℕ) → past_of (view_at own available) 0 t ≡ views_until own available t
unfolding views_until
all_until own available zero = refl
all_until own available (suc t) =
    let here : 0 + t ≡ t = omega arith in
    ap (λ i. view_at own available i ∷ past_of (view_at own available) 0 t) here ∙ ap (λ vs. view_at own available t ∷ vs) (all_until own available t)

pub views_all : (own : Tributary) (available : List ℕ) (t : ℕ) → views_from own 0 available t ≡ views_until own available t
unfolding views_from
views_all own available t = let all : t - 0 ≡ t = omega arith in ap (past_of (view_at own available) 0) all ∙ all_until own available t

pub none_by : (b : Bool) → frames_by b [] ≡ []
none_by true = refl
none_by false = refl

pub zero_by : (b : Bool) → taken_by b 0 ≡ 0
zero_by true = refl
zero_by false = refl

-- the sink of the same tributary, by the turns and the frames that it has seen
pub has_seen : (form : LineForm) (available : List ℕ) (t k : ℕ) (old new : Watched) (views : List (Option View)) (frames : List Taken) → IsSame old new
    → views ≡ views_from (own_of old) old.first available t → frames ≡ frames_by (begun old t) (frames_in (size_of form) available t k) → StandsAfter (own_of old) views frames new.sink
    → HasSeen form available t k new
has_seen form available t k old new views frames same v f h =
    let all = frames_in (size_of form) available t k in
    subst (λ o. StandsAfter o (views_from o new.first available t) (frames_by (begun new t) all) new.sink) (sym (same_own old new same))
    (subst (λ n. StandsAfter (own_of old) (views_from (own_of old) n available t) (frames_by (nat_le n t) all) new.sink) (sym same.first)
    (subst (λ vs. StandsAfter (own_of old) vs (frames_by (begun old t) all) new.sink) v (subst (λ fs. StandsAfter (own_of old) views fs new.sink) f h)))

-- a sink that is as it was
pub seen_still : (form : LineForm) (available : List ℕ) (t s k m : ℕ) (old new : Watched) → IsSame old new → new.sink ≡ old.sink
    → views_from (own_of old) old.first available t ≡ views_from (own_of old) old.first available s
    → frames_by (begun old t) (frames_in (size_of form) available t k) ≡ frames_by (begun old s) (frames_in (size_of form) available s m)
    → HasSeen form available t k old → HasSeen form available s m new
seen_still form available t s k m old new same sink v f h =
    has_seen form available s m old new (views_from (own_of old) old.first available t) (frames_by (begun old t) (frames_in (size_of form) available t k)) same v f
    (subst (λ x. StandsAfter (own_of old) (views_from (own_of old) old.first available t) (frames_by (begun old t) (frames_in (size_of form) available t k)) x) (sym sink) h)
