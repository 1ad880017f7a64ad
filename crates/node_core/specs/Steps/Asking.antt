-- Steps of `has_dead`, `ask_lines` and others: what private contracts alone cite, beside the definitions of `Asking`.
use Rattle.std.specs.Prelude.{◌≡◌, ◌<◌, ℕ, Bool, true, false, ◌&&◌, not, nat_lt, List, Some, slice_get}
use Rattle.otn_base.specs.declared.kind.PortName.{PortName}
use Rattle.port_base.specs.Views.{BaysView, is_dead}
use Rattle.line_side.specs.LineStands.{LineView}
use Rattle.odu_client.specs.ClientInput.{is_spent}
use Rattle.port_base.specs.Asked.{has_come}
use Rattle.device_model.specs.Outcomes.{place_state}
use Rattle.device_model.specs.declared.outcome.Outcome.{Outcome}
use Rattle.device_model.specs.declared.outcome.Outcome.TheVariants.{Done, Unfinished, Cut}
use Rattle.turn_pieces.specs.Pieces.{PiecesView, wanted_of}
use Rattle.turn_pieces.specs.Ports.{index_of, port_count}
use Rattle.node_links.specs.Links.{OfItsClient}
use Rattle.node_links.specs.declared.link.Link.{Link}
use Rattle.plan_file.specs.declared.connection.FromEnd.TheVariants as from_end
use Rattle.node_core.specs.Asking.{LinesAsked}

-- and this says whether a byte of one of them came
pub record LinesAnswer (n : ℕ) (pieces : PiecesView) (lines : List LineView) (was is : BaysView)
    (more : Bool) : Type 0 where
  pub asked : LinesAsked n pieces lines was is
  pub some : more ≡ true → (a : ℕ) × (a < n) × (has_come (asked.further a) ≡ true)
  pub none : more ≡ false → (a : ℕ) → has_come (asked.further a) ≡ false

-- the port has pieces, and its place is dead
abbrev pub is_cut : PiecesView → BaysView → PortName → Bool
is_cut pieces bays name = nat_lt 0 (wanted_of pieces name) && is_dead (place_state bays name)

-- whether this is so of some port
pub record CutAnswer (pieces : PiecesView) (bays : BaysView) (answer : Bool) : Type 0 where
  pub some : answer ≡ true → (name : PortName) × (is_cut pieces bays name ≡ true)
  pub none : answer ≡ false → (name : PortName) → index_of name < port_count → is_cut pieces bays name ≡ false

-- this says whether the client that a connection comes from is spent
abbrev pub SaysSpent : Link → Bool → Type 0
SaysSpent link says = OfItsClient link (λ x input emitted. says ≡ is_spent input x.fcs emitted)

-- whether it comes from a client that is not spent
pub record OpenAnswer (link : Link) (answer : Bool) : Type 0 where
  pub client : (n : ℕ) → link.entry.from ≡ from_end.Client n → SaysSpent link (not answer)
  pub from : answer ≡ true → (n : ℕ) × (link.entry.from ≡ from_end.Client n)

-- a connection that comes from a client that is not spent
pub record OpenLink (links : List Link) : Type 0 where
  pub i : ℕ
  pub link : Link
  pub known : slice_get links i ≡ Some link
  pub n : ℕ
  pub from : link.entry.from ≡ from_end.Client n
  pub unspent : SaysSpent link false

-- whether one of the connections does
pub record OpensAnswer (links : List Link) (answer : Bool) : Type 0 where
  pub some : answer ≡ true → OpenLink links
  pub none : answer ≡ false → (i n : ℕ) (link : Link) → slice_get links i ≡ Some link
      → link.entry.from ≡ from_end.Client n → SaysSpent link true

-- how a run ends whose places are dead or not, of which more is there or not
abbrev pub outcome_by : (dead more : Bool) → Outcome
outcome_by true more = Cut
outcome_by false true = Unfinished
outcome_by false false = Done
