-- Believed: the draw of the trial: the packets of its clients, of the words of a generator in their order.
use Rattle.std.specs.Prelude.{◌≡◌, ℕ, zero, suc, ◌+◌, ◌%◌, List, [], ◌∷◌, ◌++◌, map}
use Rattle.std.specs.List.{range_with_len}
use Rattle.packet_text.specs.PacketText.{hex_text}
use Rattle.rand_pcg.specs.Lcg.{Lcg}
use Rattle.number_order.specs.NumberOrder.{generator_after, order_word}
use Rattle.trial_plans.specs.TrialCarried.{longest_packet}
use Rattle.trial_plans.specs.TrialPlans.{trial_packets}

-- how many bytes a packet has whose first word is this one: 1 to 1,500
abbrev pub drawn_size : (word : ℕ) → ℕ
drawn_size word = 1 + word % longest_packet

-- the packet that is drawn from the word of this place on: a word for its size, and one for each of its bytes, whose
-- low eight bits are the byte
abbrev pub drawn_packet : (words : ℕ → ℕ) → (place : ℕ) → List ℕ
drawn_packet words place = map (λ i. words i % 256) (range_with_len (place + 1) (drawn_size (words place)))

-- the place of the first word behind it
abbrev pub behind_packet : (words : ℕ → ℕ) → (place : ℕ) → ℕ
behind_packet words place = place + 1 + drawn_size (words place)

-- the place behind so many packets
unfoldable pub behind_packets : (words : ℕ → ℕ) → (place count : ℕ) → ℕ
behind_packets words place zero = place
behind_packets words place (suc count) = behind_packet words (behind_packets words place count)

-- so many packets, one after another
unfoldable pub drawn_packets : (words : ℕ → ℕ) → (place count : ℕ) → List (List ℕ)
drawn_packets words place zero = []
drawn_packets words place (suc count) = drawn_packets words place count
    ++ drawn_packet words (behind_packets words place count) ∷ []

-- where the packets of client c, from 0, begin: each client has 16
unfoldable pub client_place : (words : ℕ → ℕ) → (c : ℕ) → ℕ
client_place words zero = 0
client_place words (suc c) = behind_packets words (client_place words c) trial_packets

-- the packets of client c of the trial of a number
unfoldable pub packets_of_trial : (number c : ℕ) → List (List ℕ)
packets_of_trial number c = drawn_packets (order_word number) (client_place (order_word number) c) trial_packets

-- ---- a generator that gives these words

-- So many packets were drawn, and this is their text.
pub record DrawsText (count : ℕ) (old new : Lcg) (text : List ℕ) : Type 0 where
  pub drawn : (number place : ℕ) → old ≡ generator_after number place
      → text ≡ hex_text (drawn_packets (order_word number) place count)
  pub behind : (number place : ℕ) → old ≡ generator_after number place
      → new ≡ generator_after number (behind_packets (order_word number) place count)
