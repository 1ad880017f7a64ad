-- What a stretch keeps small.
use Rattle.std.proofs.Common.{◌≡◌, ℕ, ◌<◌, List, [], Option, Some, None, subst, sym, ◌∙◌}
use Rattle.tributary_model.specs.declared.turns.Hearing.{Hearing}
use Rattle.tributary_model.specs.declared.turns.Hearing.TheVariants.{Pair}
use Rattle.tributary_model.specs.Messages.{hears_message}
use Rattle.tributary_model.proofs.Heard.{small_message}
use Rattle.tributary_model.specs.declared.turns.Said.{Said}
use Rattle.tributary_model.specs.declared.turns.Standing.{Standing}
use Rattle.tributary_model.specs.declared.turns.Standing.TheVariants.{Up}
use Rattle.trib_sink.specs.Following.{FitsStanding, FitsDue, IsSmallSaid}
use Rattle.trib_sink.specs.Steps.Following.{FitsNext, IsSmallHearing}

fits_up : (slots : ℕ) (pending : List ℕ) (standing : Standing) (said : Said) → standing ≡ Up said → FitsStanding slots pending standing → IsSmallSaid slots said × FitsDue slots pending said.due
fits_up slots pending standing said e h = subst (FitsStanding slots pending) e h

-- a remainder that is due is less than a group
pub later_due : (slots due : ℕ) (pending : List ℕ) (standing : Standing) (said : Said) → standing ≡ Up said → FitsStanding slots pending standing → said.due ≡ Some due → due < slots
later_due slots due pending standing said e h is = subst (FitsDue slots pending) is (fits_up slots pending standing said e h).1

-- nothing is pending where none is due
pub first_pending : (slots : ℕ) (pending : List ℕ) (standing : Standing) (said : Said) → standing ≡ Up said → FitsStanding slots pending standing → said.due ≡ None → pending ≡ []
first_pending slots pending standing said e h is = subst (FitsDue slots pending) is (fits_up slots pending standing said e h).1

-- so it is with the next turn
pub next_due : (slots : ℕ) (pending left : List ℕ) (standing : Standing) (said next : Said) (o : Option Said) → standing ≡ Up said → FitsStanding slots pending standing
    → FitsNext slots o said.cnd → o ≡ Some next → FitsDue slots left next.due
next_due slots pending left standing said next o e h fits is = subst (FitsDue slots left) (sym (fits.due next is)) (fits_up slots pending standing said e h).0.1

-- a message that is heard says a pair of a multiframe, if any
pub heard_is_small : (slots : ℕ) (former : Option ℕ) (bytes : List ℕ) (heard : Hearing) → heard ≡ hears_message former slots bytes → IsSmallHearing slots (Some heard)
heard_is_small slots former bytes heard e =
    let small = small_message former slots bytes in
    record {
      cm_high = λ cm cnd equal f. small.cm_at_most cm cnd equal (sym e ∙ (let h : heard ≡ Pair cm cnd equal = cc in h));
      cnd_high = λ cm cnd equal f. small.cnd_below cm cnd equal (sym e ∙ (let h : heard ≡ Pair cm cnd equal = cc in h));
    }

pub nothing_is_small : (slots : ℕ) → IsSmallHearing slots None
nothing_is_small slots = record { cm_high = λ cm cnd equal f. cc; cnd_high = λ cm cnd equal f. cc }
