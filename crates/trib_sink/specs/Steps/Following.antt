-- Steps of `from_waiting`, `from_down` and others: what private contracts alone cite, beside the definitions of
-- `Following`.
use Rattle.std.specs.Prelude.{◌≡◌, ℕ, ◌<◌, ◌≤◌, [], Bool, Option, Some, None}
use Rattle.otn_base.specs.declared.limits.TheConstants.{GROUPS}
use Rattle.tributary_model.specs.declared.turns.Hearing.{Hearing}
use Rattle.tributary_model.specs.declared.turns.Hearing.TheVariants.{Damaged, Lost, Pair}
use Rattle.tributary_model.specs.declared.turns.Said.{Said}
use Rattle.tributary_model.specs.Machine.{former_of, cm_of}
use Rattle.trib_sink.specs.Following.{Following, IsSmallSaid}

-- the number that a listener keeps after a message
abbrev pub kept_after : Option ℕ → Hearing → Option ℕ
kept_after former (Pair cm cnd equal) = Some cm
kept_after former Damaged = former
kept_after former Lost = None

-- a pair that was heard is small: no more groups than a multiframe has, and a remainder less than a group
pub record IsSmallHearing (slots : ℕ) (heard : Option Hearing) : Type 0 where
  pub cm_high : (cm cnd : ℕ) (equal : Bool) → heard ≡ Some (Pair cm cnd equal) → cm ≤ GROUPS
  pub cnd_high : (cm cnd : ℕ) (equal : Bool) → heard ≡ Some (Pair cm cnd equal) → cnd < slots

-- what the first turn of a stretch says: small numbers, and no turn before
pub record FitsFirst (slots : ℕ) (first : Option Said) : Type 0 where
  pub small : (said : Said) → first ≡ Some said → IsSmallSaid slots said
  pub due : (said : Said) → first ≡ Some said → said.due ≡ None

-- what a later turn of a stretch says: small numbers, and this remainder of the turn before
pub record FitsNext (slots : ℕ) (next : Option Said) (left : ℕ) : Type 0 where
  pub small : (said : Said) → next ≡ Some said → IsSmallSaid slots said
  pub due : (said : Said) → next ≡ Some said → said.due ≡ Some left

-- a turn is over, none of the next one was taken, and its groups are data by the number of how the sink stands now
pub record IsBetween (before now : Following) : Type 0 where
  pub slots : now.extraction.slots ≡ before.extraction.slots
  pub listener : now.listener ≡ before.listener
  pub asked : now.extraction.asked ≡ 0
  pub cm : now.extraction.cm ≡ cm_of now.standing
  pub fresh : now.extraction.fresh ≡ []

-- what the listener keeps after a turn in which this was heard: where nothing was, what it kept
abbrev pub listener_after : Following → Option Hearing → Option ℕ
listener_after f None = f.listener
listener_after f (Some heard) = kept_after (former_of f.standing) heard
