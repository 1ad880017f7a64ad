-- Believed: what the command leaves, from its places and the report as they were first to how they are last.
use Rattle.std.specs.Prelude.{◌≡◌, ◌≢◌, ◌⊎◌, ◌↔◌, ◌<◌, ℕ, Bool, List, []}
use Rattle.otn_base.specs.declared.limits.TheConstants.{CLIENTS}
use Rattle.port_base.specs.PortViews.{SinkView, SinkWrites}
use Rattle.port_base.specs.Sent.{IsSent}
use Rattle.port_base.specs.Views.{Dead, BaysView, line_in_at, client_out_at}
use Rattle.port_base.specs.declared.drain.Written.{Written}
use Rattle.port_base.specs.declared.drain.Written.TheVariants as written
use Rattle.packet_text.specs.PacketText.{hex_text}
use Rattle.gfp_linear.specs.ChannelArrivals.{ChannelArrival}
use Rattle.gfp_linear.specs.Laws.{packets_on}
use Rattle.device_model.specs.LineAsked.{MayHave, InputLeft}
use Rattle.tributary_line.specs.TurnsLeft.{HasMore, TookOf}
use Rattle.unbundle_command.specs.Unbundled.{arrived_before, report_text}
use Rattle.port_base.specs.declared.ended.Ended.{Ended}
use Rattle.port_base.specs.declared.ended.Ended.TheVariants.{Done, Unfinished, Cut, ReportFault, Memory}

-- a client output is dead, and a packet of its channel arrived
pub record IsOutputDead (arrived : List ChannelArrival) (last : BaysView) : Type 0 where
  pub cid : ℕ
  pub low : cid < CLIENTS
  pub some : packets_on cid arrived ≢ []
  pub dead : (client_out_at last cid).state ≡ Dead

-- a place that the command used is dead
abbrev pub IsCut : List ChannelArrival → BaysView → Type 0
IsCut arrived last = ((line_in_at last 0).state ≡ Dead) ⊎ IsOutputDead arrived last

-- To the client output of each channel the text of the packets that arrived on it was due; where none did it is as it
-- was.
pub record OutputsSent (arrived : List ChannelArrival) (first last : BaysView) : Type 0 where
  pub sent : (cid : ℕ) → cid < CLIENTS → IsSent (client_out_at first cid) (hex_text (packets_on cid arrived))
      (client_out_at last cid)
  pub quiet : (cid : ℕ) → cid < CLIENTS → packets_on cid arrived ≡ [] → client_out_at last cid ≡ client_out_at first cid

-- the report was written whole, unless it failed
abbrev pub written_by : Ended → Written
written_by ReportFault = written.Lost
written_by Memory = written.Whole
written_by Done = written.Whole
written_by Unfinished = written.Whole
written_by Cut = written.Whole

-- With these bytes of the line, and where these arrived on channels: what went to the client outputs and the report,
-- how much was taken of the line, and how the command ended.
pub record UnbundleOf (turns : ℕ) (available read : List ℕ) (arrived : List ChannelArrival) (first last : BaysView)
    (was is : SinkView) (ended : Ended) : Type 0 where
  pub outputs : OutputsSent arrived first last
  pub report : SinkWrites (written_by ended) was (report_text arrived) is
  pub took : TookOf turns available read
  pub cut : ended ≢ ReportFault → (ended ≡ Cut) ↔ IsCut arrived last
  pub unfinished : ended ≢ ReportFault → (ended ≡ Unfinished) ↔ ((IsCut arrived last → ⊥) × HasMore turns available)

-- These bytes were taken of the line. More may stand behind them; whatever they all turn out to be, this is left.
pub record UnbundleRan (turns : ℕ) (first last : BaysView) (was is : SinkView) (ended : Ended) : Type 0 where
  pub read : List ℕ
  pub more : Bool
  pub line : InputLeft (line_in_at first 0) (line_in_at last 0) read more
  pub left : (available : List ℕ) → MayHave more read available
      → UnbundleOf turns available read (arrived_before available turns) first last was is ended
