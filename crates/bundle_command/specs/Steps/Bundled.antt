-- Steps of `turn`, `run_turns` and others: the command within its turns, and at its end.
use Rattle.std.specs.Prelude.{◌≡◌, ◌≢◌, ◌*◌, ◌<◌, ◌≤◌, ◌/◌, ℕ, nat_le, ◌&&◌, ◌||◌, Bool, true, false, List, [], length}
use Rattle.std.specs.List.{list_all}
use Rattle.otn_base.specs.declared.limits.TheConstants.{NOMINAL}
use Rattle.port_base.specs.Views.{State, Empty, Live, Dead, BaysView, line_out_at}
use Rattle.tributary_line.specs.FeedTurn.{FeedStands}
use Rattle.bundle_command.specs.BundleStream.{first_slot, parts_of, payload_whole}
use Rattle.bundle_command.specs.BundleLeft.{OnlyBundled, place_of}
use Rattle.bundle_command.specs.Steps.Channels.{HasChannel, WeavingHas, IsBegun, WeavingStands}
use Rattle.bundle_command.specs.Steps.Framed.{FramesStand, AreReady}
use Rattle.bundle_command.specs.declared.bundling.Bundling.{Bundling}
use Rattle.bundle_command.specs.declared.channel.Channel.{Channel}
use Rattle.bundle_command.specs.declared.channel.Standing.{Standing}
use Rattle.bundle_command.specs.declared.channel.Standing.TheVariants.{Fresh, Going, Ended, Bad, Lost, More}
use Rattle.port_base.specs.declared.ended.Ended.{Ended as End}
use Rattle.port_base.specs.declared.ended.Ended.TheVariants.{Done, Unfinished, Cut}
use Rattle.bundle_command.specs.declared.weaving.Weaving.{Weaving}

-- so many turns went by
pub record TurnsGone (clients : List ℕ) (first now : BaysView) (t : ℕ) (parts : Bundling) : Type 0 where
  pub due : List ℕ
  pub framing : FramesStand clients first now due parts.framing
  pub size : length due ≡ NOMINAL * t
  pub fed : FeedStands first_slot (line_out_at first 0) (line_out_at now 0) (parts_of due t) parts.feed
  pub alone : OnlyBundled clients first now

-- it is so of some clients
pub record CanTurn (now : BaysView) (parts : Bundling) : Type 0 where
  pub clients : List ℕ
  pub first : BaysView
  pub t : ℕ
  pub ready : TurnsGone clients first now t parts
