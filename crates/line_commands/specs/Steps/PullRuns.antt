-- Steps of `write_turns` and `turn`: what private contracts alone cite, beside the definitions of `PullRuns`.
use Rattle.std.specs.Prelude.{◌≡◌, ◌+◌, ◌*◌, ℕ, List, [], Some, None, length, vec_len}
use Rattle.otn_base.specs.declared.limits.TheConstants.{GROUPS, OTU2_SLOTS}
use Rattle.port_base.specs.Bytes.{after}
use Rattle.port_base.specs.PortViews.{SinkView}
use Rattle.port_base.specs.Views.{InView}
use Rattle.port_base.specs.declared.ended.Ended.TheVariants.{ReportFault}
use Rattle.command_base.specs.Ends.{ReportAfter}
use Rattle.command_base.specs.Gains.{GainsPart}
use Rattle.tributary_model.specs.Places.{Tributary, tributary_of}
use Rattle.trib_sink.specs.Sink.{StandsAfter}
use Rattle.device_model.specs.LineViews.{views_until, emitted_at}
use Rattle.device_model.specs.TurnFrames.{frames_in}
use Rattle.tributary_line.specs.TapTurn.{TapStands, IsBetweenTurns}
use Rattle.line_commands.specs.PullReport.{emitted_until}
use Rattle.line_commands.specs.declared.pull.Pulling.{Pulling}

-- the tributary whose sink it is
abbrev pub own_of : Pulling → Tributary
own_of pulling = tributary_of pulling.tap.sink.slots pulling.tap.sink.port

-- it stands between turns, with room for what one emits
pub record IsReady (pulling : Pulling) : Type 0 where
  pub between : IsBetweenTurns pulling.tap
  pub room : vec_len pulling.room ≡ length pulling.tap.sink.slots.list * (GROUPS + 1)

-- it stands before the first turn of its line
abbrev pub IsNew : Pulling → Type 0
IsNew pulling = (first : InView) → TapStands (own_of pulling) first first [] 0 pulling.tap

-- after t turns of a line of these bytes: the sink has seen them, and what it emitted is written
pub record PullHolds (origin now : Pulling) (was is : SinkView) (available : List ℕ) (t : ℕ) : Type 0 where
  pub size : (own_of origin).line_slots ≡ OTU2_SLOTS
  pub sink : StandsAfter (own_of origin) (views_until (own_of origin) available t)
      (frames_in OTU2_SLOTS available t now.tap.line.pieces) now.tap.sink
  pub wrote : is.got ≡ after was.got (emitted_until (own_of origin) available t)
  pub report : ReportAfter None was is

-- after t turns and one whose bytes were written in part
pub record PullLost (origin now : Pulling) (was is : SinkView) (available : List ℕ) (t : ℕ) : Type 0 where
  pub wrote : GainsPart (after was.got (emitted_until (own_of origin) available t)) is.got
      (emitted_at (own_of origin) available t)
  pub report : ReportAfter (Some ReportFault) was is
