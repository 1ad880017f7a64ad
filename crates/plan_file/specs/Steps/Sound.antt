-- Steps of `sound_plan`, `made_plan` and others: a connection whose values fit the plan's types.
use Rattle.std.specs.Prelude.{◌≡◌, ℕ, ◌≤◌, ◌&&◌, IsTrue, Bool, true, false, List, Some, slice_get}
use Rattle.std.specs.List.{list_all}
use Rattle.otn_base.specs.LineSlots.{slots_of}
use Rattle.plan_file.specs.Entry.{End, at_line, at_client, of_signal, Entry, Top, Outline, slots_between}
use Rattle.plan_file.specs.Rules.{is_within, is_sapi, is_slot_list}
use Rattle.otn_base.specs.declared.limits.TheConstants.{MOST_SLOTS, MOST_TURNS}

-- the end is in range, where it is at a line with a line's slots
abbrev pub is_sound : End → Bool
is_sound (at_line line port kind slots) = (is_within 0 3 line && is_within 1 MOST_SLOTS port)
    && is_slot_list (slots_of kind) slots
is_sound (at_client client) = is_within 0 15 client
is_sound (of_signal signal) = true

-- the end is at a line or at a client
abbrev pub is_no_signal : End → Bool
is_no_signal (at_line line port kind slots) = true
is_no_signal (at_client client) = true
is_no_signal (of_signal signal) = false

-- a top that a plan can have
pub record IsSoundTop (top : Top) : Type 0 where
  pub turns : IsTrue (is_within 1 MOST_TURNS top.turns)
  pub otu3_in : IsTrue (list_all (is_within 0 3) top.otu3_in)
  pub otu3_out : IsTrue (list_all (is_within 0 3) top.otu3_out)
  pub scrambled_in : IsTrue (list_all (is_within 0 3) top.scrambled_in)
  pub scrambled_out : IsTrue (list_all (is_within 0 3) top.scrambled_out)

-- a connection that a plan can have
pub record IsSound (e : Entry) : Type 0 where
  pub sapi : IsTrue (is_sapi e.trace)
  pub from : IsTrue (is_sound e.from)
  pub to : IsTrue (is_sound e.to)
  pub no_signal : IsTrue (is_no_signal e.to)
  pub pace : IsTrue (list_all (is_within 0 4294967295) e.pace)
  pub few : slots_between e.from e.to ≤ MOST_SLOTS
  pub start : IsTrue (is_within 1 MOST_TURNS e.start)
  pub stop : IsTrue (is_within 1 MOST_TURNS e.stop)

-- each of the connections is one that a plan can have
pub record AreSound (es : List Entry) : Type 0 where
  pub each : (i : ℕ) (e : Entry) → slice_get es i ≡ Some e → IsSound e

-- an outline that a plan can have
pub record IsSoundOutline (o : Outline) : Type 0 where
  pub top : IsSoundTop o.top
  pub entries : AreSound o.entries
