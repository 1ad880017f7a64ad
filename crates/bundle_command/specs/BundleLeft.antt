-- Believed: what the command leaves, from its places and the report as they were first to how they are last.
use Rattle.std.specs.Prelude.{◌≡◌, ◌≢◌, ◌⊎◌, ◌↔◌, ◌<◌, ◌≤◌, ◌+◌, ℕ, Bool, true, false, List, [], ◌++◌, All, length, take, slice_index}
use Rattle.std.specs.List.{Contains}
use Rattle.port_base.specs.PortViews.{SinkView, SinkGot}
use Rattle.port_base.specs.Views.{Dead, InView, BaysView, line_in_at, line_out_at, client_in_at}
use Rattle.packet_text.specs.LinesStand.{ReadAsNeeded}
use Rattle.packet_text.specs.PacketText.{packets_of, shows_bad}
use Rattle.packet_text.specs.TextLines.{full_lines}
use Rattle.odu_client.specs.ClientInput.{ClientInput, input_given}
use Rattle.device_model.specs.Inputs.{has_died}
use Rattle.device_model.specs.LineAsked.{MayHave, InputLeft}
use Rattle.tributary_line.specs.TurnsLeft.{OutputDue}
use Rattle.bundle_command.specs.ChannelInput.{texts_of}
use Rattle.bundle_command.specs.BundleStream.{IsAskedWithin, IsFinished, begun_of, channel_turns, first_slot, lines_told}
use Rattle.port_base.specs.declared.ended.Ended.{Ended}
use Rattle.port_base.specs.declared.ended.Ended.TheVariants.{Unfinished, Cut, ReportFault, Memory}

-- the place of a channel's client
abbrev pub place_of : (clients : List ℕ) → BaysView → (c : ℕ) → InView
place_of clients bays c = client_in_at bays (slice_index clients c)

-- a place of the command is dead
abbrev pub IsCut : (clients : List ℕ) → BaysView → Type 0
IsCut clients last = ((c : ℕ) × (c < length clients) × ((place_of clients last c).state ≡ Dead))
    ⊎ ((line_out_at last 0).state ≡ Dead)

-- what a client's input may turn out to be, of which these bytes were taken
pub record MayBeInput (first last : InView) (read : List ℕ) (more : Bool) (input : ClientInput) : Type 0 where
  pub available : List ℕ
  pub may : MayHave more read available
  pub is : input ≡ input_given (has_died first.state last.state) available

-- What was taken of an input tells what stands behind so many packets: nothing more may come of it, or it has a bad
-- line, or one packet more.
abbrev pub TellsBehind : (packets : ℕ) → (more : Bool) → (read : List ℕ) → Type 0
TellsBehind packets more read = (more ≡ false) ⊎ (shows_bad read ≡ true)
    ⊎ (packets < length (packets_of (full_lines read)).packets)

-- A client of which so many packets are begun: where its channel is asked in the turns it was asked once more behind
-- them, until what stands behind these packets is known; where it is not, its place is as it was.
pub record WasAsked (Asked : Type 0) (packets : ℕ) (more : Bool) (first last : InView) (read : List ℕ) : Type 0 where
  pub behind : Asked → TellsBehind packets more read
  pub untouched : (Asked → ⊥) → (last ≡ first) × (read ≡ [])

-- the report got this text; where it failed a part of it, from the front, and not all
abbrev pub Tells : Ended → SinkView → List ℕ → SinkView → Type 0
Tells ReportFault first text last = (written : ℕ) × (written < length text) × SinkGot first (take written text) last
Tells Memory first text last = ⊥
Tells ended first text last = SinkGot first text last

-- what is left where the clients' inputs are these
pub record LeftOf (clients : List ℕ) (turns : ℕ) (first last : BaysView) (report told : SinkView) (ended : Ended)
    (read : ℕ → List ℕ) (more : ℕ → Bool) (inputs : ℕ → ClientInput) : Type 0 where
  pub output : OutputDue first_slot (channel_turns clients (texts_of (length clients) inputs) turns) turns
      (line_out_at first 0) (line_out_at last 0)
  pub tells : Tells ended report (lines_told clients (texts_of (length clients) inputs) turns
      (λ c. (place_of clients last c).state) (length clients)) told
  -- of each text no block was read that was not needed for one packet more than are begun
  pub needed : (c : ℕ) → c < length clients
      → (short : Bool) × ReadAsNeeded short (length (begun_of clients (texts_of (length clients) inputs) turns c) + 1)
      (read c)
  -- and each whose channel is asked was asked for the one behind, and no other
  pub asked : (c : ℕ) → c < length clients
      → WasAsked (IsAskedWithin clients (texts_of (length clients) inputs) turns c)
      (length (begun_of clients (texts_of (length clients) inputs) turns c)) (more c)
      (place_of clients first c) (place_of clients last c) (read c)
  pub cut : ended ≢ ReportFault → (ended ≡ Cut) ↔ IsCut clients last
  pub unfinished : ended ≢ ReportFault → (ended ≡ Unfinished) ↔
      ((IsCut clients last → ⊥) × (IsFinished clients turns inputs → ⊥))

-- These bytes were taken of the clients. More may stand behind them; whatever their inputs turn out to be, this is
-- left.
pub record BundleRan (clients : List ℕ) (turns : ℕ) (first last : BaysView) (report told : SinkView)
    (ended : Ended) : Type 0 where
  pub read : ℕ → List ℕ
  pub more : ℕ → Bool
  pub client_in : (c : ℕ) → c < length clients
      → InputLeft (place_of clients first c) (place_of clients last c) (read c) (more c)
  pub left : (inputs : ℕ → ClientInput) → ((c : ℕ) → c < length clients
      → MayBeInput (place_of clients first c) (place_of clients last c) (read c) (more c) (inputs c))
      → LeftOf clients turns first last report told ended read more inputs

-- all other places are as they were
pub record OnlyBundled (clients : List ℕ) (first last : BaysView) : Type 0 where
  pub line_in : last.line_in ≡ first.line_in
  pub line_out : (b : ℕ) → b ≢ 0 → line_out_at last b ≡ line_out_at first b
  pub client_in : (n : ℕ) → (Contains clients n → ⊥) → client_in_at last n ≡ client_in_at first n
  pub client_out : last.client_out ≡ first.client_out
