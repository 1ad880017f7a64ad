-- Believed: what a channel has to give of its client's input.
use Rattle.std.specs.Prelude.{ℕ, nat_le, ◌&&◌, Bool, true, false, List, length, map}
use Rattle.std.specs.List.{list_all, range_with_len, take_while}
use Rattle.gfp_linear.specs.Weave.{ChannelText}
use Rattle.odu_client.specs.ClientInput.{InputEnding, AtEnd, AtBad, AtDeath, ClientInput, is_end}

-- a packet that a channel can carry: an area has 65,535 bytes at most, and 12 of these are headers and FCS
abbrev pub is_short : List ℕ → Bool
is_short packet = nat_le (length packet) 65523

-- whether an input ends where its place died
abbrev pub is_death : InputEnding → Bool
is_death AtEnd = false
is_death (AtBad n) = false
is_death AtDeath = true

-- The packets before the first that is too long. Its client is lost behind them where the place died; a packet that is
-- too long is as a bad line.
abbrev pub channel_text : ClientInput → ChannelText
channel_text input = record {
  packets = take_while is_short input.packets;
  is_lost = list_all is_short input.packets
      && is_death input.ending;
}

-- whether the channel's input ends at the end of its text
abbrev pub ends_whole : ClientInput → Bool
ends_whole input = list_all is_short input.packets && is_end input.ending

-- the texts of so many channels, of the inputs of their clients
abbrev pub texts_of : (count : ℕ) → (inputs : ℕ → ClientInput) → List ChannelText
texts_of count inputs = map (λ c. channel_text (inputs c)) (range_with_len 0 count)
