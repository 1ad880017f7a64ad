-- Steps of `draw_packet`: what private contracts alone cite, beside the definitions of `TrialDraw`.
use Rattle.std.specs.Prelude.{◌≡◌, ℕ, List}
use Rattle.rand_pcg.specs.Lcg.{Lcg}
use Rattle.number_order.specs.NumberOrder.{generator_after, order_word}
use Rattle.trial_plans.specs.TrialDraw.{drawn_packet, behind_packet}

-- From one state of a generator to a later one this packet was drawn: whatever number it was made from, and however
-- many words were given.
pub record DrawsPacket (old new : Lcg) (packet : List ℕ) : Type 0 where
  pub drawn : (number place : ℕ) → old ≡ generator_after number place → packet ≡ drawn_packet (order_word number) place
  pub behind : (number place : ℕ) → old ≡ generator_after number place
      → new ≡ generator_after number (behind_packet (order_word number) place)
