-- API: the tributaries of a line that are watched, each by a sink that begins with its first turn.
use Rattle.std.specs.Prelude.{◌≡◌, ◌≤◌}
use Rattle.otn_base.specs.LineSlots.{slots_of}
use Rattle.otn_base.specs.declared.line_kind.LineKind.{LineKind}
use Rattle.tributary_model.specs.Places.{tributary_of}
use Rattle.line_view.specs.ViewText.{Showing}
use Rattle.line_view.specs.declared.shown.Shown.{Shown}

-- a tributary that is asked for
abbrev pub asked_of : Shown → Showing
asked_of shown = record {
  name = shown.name.bytes;
  own = tributary_of shown.slots shown.port;
  first = shown.first;
  stop = shown.stop;
}

-- it is one of a line of this kind
pub record IsOnLine (kind : LineKind) (shown : Shown) : Type 0 where
  pub kind_is : shown.slots.kind ≡ kind
  pub low : 1 ≤ shown.port
  pub high : shown.port ≤ slots_of kind
