-- API: what is seen of the places of a live node.
use Rattle.std.specs.Prelude.{◌≡◌, ◌<◌, ℕ, List, [], get_or}
use Rattle.port_base.specs.Racks.{bays_view, line_outs, client_outs}
use Rattle.port_base.specs.Views.{BaysView, line_in_at, line_out_at, client_in_at, client_out_at}
use Rattle.port_base.specs.declared.bays.Rack.{Rack}
use Rattle.port_base.specs.declared.out_place.OutPlaceOf.{OutPlaceOf}
use Rattle.port_base.specs.declared.out_place.OutPlaceOf.TheVariants as output
use Rattle.filled_ports.specs.Filled.{filled_kept}
use Rattle.filled_ports.specs.contracts.sink.FilledSinkSink.TheImpl as sink
use Rattle.filled_ports.specs.contracts.source.FilledSourceSource.TheImpl as source
use Rattle.filled_ports.specs.declared.sink.FilledSink.{FilledSink}
use Rattle.filled_ports.specs.declared.source.FilledSource.{FilledSource}
use Rattle.live_laws.specs.Live.{holding, telling}

-- its places as they are seen
abbrev pub places : Rack FilledSource FilledSink → BaysView
places rack = bays_view source.ghosts sink.ghosts rack

-- the bytes that the port of a place keeps: those that it got since it was last told to let go
abbrev pub kept_at : OutPlaceOf FilledSink → List ℕ
kept_at output.Empty = []
kept_at (output.Live port number) = filled_kept port
kept_at (output.Retired sealed) = []
kept_at (output.Dead sealed number) = []

abbrev pub line_kept : Rack FilledSource FilledSink → (b : ℕ) → List ℕ
line_kept rack b = kept_at (get_or (line_outs rack) b output.Empty)

abbrev pub client_kept : Rack FilledSource FilledSink → (n : ℕ) → List ℕ
client_kept rack n = kept_at (get_or (client_outs rack) n output.Empty)

-- the first n lines have places to which nothing was handed in, and that got nothing; the clients are as they were
pub record LinesUpTo (n : ℕ) (first now : BaysView) : Type 0 where
  pub line_in : (a : ℕ) → a < n → line_in_at now a ≡ holding []
  pub line_out : (b : ℕ) → b < n → line_out_at now b ≡ telling
  pub client_in : now.client_in ≡ first.client_in
  pub client_out : now.client_out ≡ first.client_out

-- the first n clients have, and the lines are as they were
pub record ClientsUpTo (n : ℕ) (first now : BaysView) : Type 0 where
  pub client_in : (m : ℕ) → m < n → client_in_at now m ≡ holding []
  pub client_out : (m : ℕ) → m < n → client_out_at now m ≡ telling
  pub line_in : now.line_in ≡ first.line_in
  pub line_out : now.line_out ≡ first.line_out
