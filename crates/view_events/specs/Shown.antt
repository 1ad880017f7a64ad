-- API: the tributaries that were shown on a line, in the order of their first lines, as a line of the view leaves them.
use Rattle.std.specs.Prelude.{◌≡◌, ◌≢◌, ℕ, List, [], ◌∷◌, ◌++◌, Some, slice_get, slice_set}
use Rattle.view_events.specs.declared.said.TributarySaid.{TributarySaid}
use Rattle.view_events.specs.declared.tributary.Tributary.{Tributary}
use Rattle.view_events.specs.TributaryEvents.{TributaryStands}

-- one more turn is said of a tributary: its label stays, and its numbers are those of the turns before and of this one
pub record TurnIsSaid (was is : Tributary) (said : TributarySaid) : Type 0 where
  pub label : is.label ≡ was.label
  pub stands : (past : List TributarySaid) → past ≢ [] → TributaryStands past was.tally
      → TributaryStands (said ∷ past) is.tally

-- one more turn is said of the tributary at this place; all others stay as they are, in their places
pub record IsToldAt (i : ℕ) (old new : List Tributary) : Type 0 where
  pub was : Tributary
  pub is : Tributary
  pub said : TributarySaid
  pub at : slice_get old i ≡ Some was
  pub told : TurnIsSaid was is said
  pub set : new ≡ slice_set old i is

-- a tributary of one turn is added at the end; all others stay as they are
pub record IsAdded (old new : List Tributary) : Type 0 where
  pub one : Tributary
  pub said : TributarySaid
  pub stands : TributaryStands (said ∷ []) one.tally
  pub added : new ≡ old ++ one ∷ []

-- what a line does to the list: nothing; or one that stands in it is told; or a new one is added
pub data AfterLine (old new : List Tributary) : Type 0 where
  AsBefore : new ≡ old → AfterLine old new
  ToldAt : (i : ℕ) → IsToldAt i old new → AfterLine old new
  Added : IsAdded old new → AfterLine old new
