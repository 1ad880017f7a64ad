-- Steps: the tributary that a line is of, in the list of those that were shown.
use Rattle.std.specs.Prelude.{◌≡◌, ◌==◌, ◌&&◌, ℕ, Bool, not, List, [], ◌∷◌, ◌++◌, slice_set}
use Rattle.std.specs.Str.{bytes_eq}
use Rattle.view_events.specs.EventText.{changes_text}
use Rattle.view_events.specs.EventsOf.{Said, label_of, right_byte, tributary_said, tributary_text, turn_now}
use Rattle.view_events.specs.TributaryEvents.{TributaryStands, tributary_event}
use Rattle.view_events.specs.ViewLines.{TributaryLine}
use Rattle.view_events.specs.declared.said.TributarySaid.{TributarySaid}
use Rattle.view_events.specs.declared.tributary.Tributary.{Tributary}

-- a line in this turn of a tributary of this label may be its
abbrev pub is_next : (turn : ℕ) → (label : List ℕ) → Tributary → Bool
is_next turn label one = not (one.tally.last == turn) && bytes_eq label one.label.items

-- the tributary at this place is told, of which that was said before
pub record IsKnownTold (said : Said) (x : TributaryLine) (past : List TributarySaid) (i : ℕ) (one : Tributary)
    (old new : List Tributary) (was is : List ℕ) : Type 0 where
  pub text : is ≡ was ++ changes_text (turn_now said.turns) one.label.items
      (tributary_event said.turns said.bytes past (tributary_said (turn_now said.turns) x) x.slots
      (right_byte x.port))
  pub next : Tributary
  pub label : next.label ≡ one.label
  pub stands : TributaryStands (tributary_said (turn_now said.turns) x ∷ past) next.tally
  pub set : new ≡ slice_set old i next

-- a new one is told, and is the last one
pub record IsNewTold (said : Said) (x : TributaryLine) (old new : List Tributary) (was is : List ℕ) : Type 0 where
  pub text : is ≡ was ++ tributary_text said [] x
  pub one : Tributary
  pub label : one.label.items ≡ label_of x
  pub stands : TributaryStands (tributary_said (turn_now said.turns) x ∷ []) one.tally
  pub added : new ≡ old ++ one ∷ []
