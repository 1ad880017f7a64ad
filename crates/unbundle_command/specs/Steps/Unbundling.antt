-- Steps of `has_dead`, `has_dead_output` and others: what private contracts alone cite, beside the definitions of
-- `Unbundling`.
use Rattle.std.specs.Prelude.{◌≡◌, ◌⊎◌, ◌<◌, ◌≤◌, ◌+◌, ◌*◌, ℕ, suc, false, List, [], ◌∷◌, ◌++◌, length}
use Rattle.otn_base.specs.declared.limits.TheConstants.{CLIENTS, GROUPS}
use Rattle.otn_base.specs.declared.line_kind.LineKind.TheVariants.{Otu2}
use Rattle.port_base.specs.Views.{Dead, BaysView, line_in_at, client_out_at}
use Rattle.line_side.specs.MayBe.{MayBe}
use Rattle.tributary_line.specs.TapTurn.{TapStands, IsBetweenTurns}
use Rattle.odu_client.specs.View.{aligner_state}
use Rattle.unbundle_command.specs.Unbundled.{first_slot, emitted_before}
use Rattle.unbundle_command.specs.Receiving.{ChannelView}
use Rattle.unbundle_command.specs.Steps.Receiving.{channel_at, HoldsAfter}
use Rattle.unbundle_command.specs.declared.unbundling.Unbundling.{Unbundling}

-- The sink has seen t turns of the line, of which these bytes were taken: whatever else may come, all that it emitted
-- was read. In a turn it emits 15,233 bytes at most.
pub record Stands (first now : BaysView) (read : List ℕ) (t : ℕ) (parts : Unbundling) : Type 0 where
  pub tap : TapStands first_slot (line_in_at first 0) (line_in_at now 0) read t parts.tap
  pub holds : (available : List ℕ) → MayBe false parts.tap.line.reader.ending read available
      → HoldsAfter first now (emitted_before available t) (aligner_state parts.aligner) parts.reader parts.outputs
  pub few : (available : List ℕ) → MayBe false parts.tap.line.reader.ending read available
      → length (emitted_before available t) ≤ (GROUPS + 1) * t

-- turn t + 1, with the further bytes that were read in it
pub record TurnGone (first now : BaysView) (read : List ℕ) (t : ℕ) (parts : Unbundling) : Type 0 where
  pub further : List ℕ
  pub stands : Stands first now (read ++ further) (suc t) parts

-- the first t turns went by, in which these bytes were taken
pub record TurnsGone (first now : BaysView) (t : ℕ) (parts : Unbundling) : Type 0 where
  pub read : List ℕ
  pub stands : Stands first now read t parts

-- the sink stands between turns, and is one of slot 1
pub record IsReady (parts : Unbundling) : Type 0 where
  pub between : IsBetweenTurns parts.tap
  pub slots : parts.tap.sink.slots ≡ record { kind = Otu2; list = 1 ∷ [] }

-- a packet arrived on the channel of this CID, and its client output is dead
pub record IsDeadAt (cid : ℕ) (channels : List ChannelView) (last : BaysView) : Type 0 where
  pub arrived : 0 < (channel_at channels cid).packets
  pub dead : (client_out_at last cid).state ≡ Dead

-- that is so of one of the first channels, so many
pub record DeadChannel (count : ℕ) (channels : List ChannelView) (last : BaysView) : Type 0 where
  pub cid : ℕ
  pub low : cid < count
  pub at : IsDeadAt cid channels last

-- the line is dead, or the client output of a channel of which a packet arrived
abbrev pub HasDead : List ChannelView → BaysView → Type 0
HasDead channels last = ((line_in_at last 0).state ≡ Dead) ⊎ DeadChannel CLIENTS channels last
