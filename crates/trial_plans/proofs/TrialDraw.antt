-- The packets of the trial, one after another.
use Rattle.std.proofs.Common.{◌≡◌, ◌≤◌, ◌<◌, ◌+◌, ◌%◌, length, length-append, ℕ, zero, suc, List, [], ◌∷◌, ◌++◌, map, refl, sym, ap, ◌∙◌, arith, add-one, append_assoc, append-nil}
use Rattle.std.specs.Prelude.{All}
use Rattle.std.specs.List.{range_with_len}
use Rattle.std.proofs.lemmas.List.Elements.{All-nil, All-push}
use Rattle.std.proofs.lemmas.List.FromFn.{length-map-range_with_len, map-range_with_len_more}
use Rattle.hex.specs.Hex.{IsBytes, encode_lower}
use Rattle.packet_text.specs.Laws.{IsPacket}
use Rattle.packet_text.specs.PacketText.{packet_line, hex_text}
use Rattle.rand_pcg.specs.Lcg.{Lcg}
use Rattle.rand_pcg.specs.Pcg.{pcg32}
use Rattle.number_order.specs.NumberOrder.{generator_after, order_word}
use Rattle.trial_plans.specs.TrialDraw.{drawn_size, drawn_packet, behind_packet, drawn_packets, behind_packets, client_place, packets_of_trial, DrawsText}
use Rattle.trial_plans.specs.Steps.TrialDraw.{DrawsPacket}
use Rattle.trial_plans.specs.TrialCarried.{AreTrialPackets}
use Rattle.number_order.proofs.NumberOrder.{generator_next}

-- ---- the bytes of a packet

abbrev pub drawn_bytes : (number place n : ℕ) → List ℕ
drawn_bytes number place n = map (λ i. order_word number i % 256) (range_with_len (place + 1) n)

-- behind the word for a packet's size, so many of its bytes were drawn
pub record DrawsBytes (n : ℕ) (old now : Lcg) (bytes : List ℕ) : Type 0 where
  pub drawn : (number place : ℕ) → old ≡ generator_after number place → bytes ≡ drawn_bytes number place n
  pub behind : (number place : ℕ) → old ≡ generator_after number place → now ≡ generator_after number (place + 1 + n)

pub no_byte : (old now : Lcg) (word : ℕ) (bytes : List ℕ) → (word, now) ≡ pcg32 old → bytes ≡ [] → DrawsBytes 0 old now bytes
no_byte old now word bytes next none = record {
  drawn = λ number place is. none;
  behind = λ number place is. ap (λ p. p.1) next ∙ ap (λ g. (pcg32 g).1) is ∙ sym (generator_next number place) ∙ ap (generator_after number) (let e : place + 1 ≡ place + 1 + 0 = omega arith in e);
}

pub next_byte : (n : ℕ) (old now new : Lcg) (word : ℕ) (bytes more : List ℕ) → DrawsBytes n old now bytes → (word, new) ≡ pcg32 now → more ≡ bytes ++ word % 256 ∷ [] → DrawsBytes (n + 1) old new more
next_byte n old now new word bytes more before next push = record {
  drawn = λ number place is.
      push
      ∙ ap (λ bs. bs ++ word % 256 ∷ []) (before.drawn number place is)
      ∙ ap (λ w. drawn_bytes number place n ++ w % 256 ∷ []) (ap (λ p. p.0) next ∙ ap (λ g. (pcg32 g).0) (before.behind number place is))
      ∙ sym (map-range_with_len_more (λ i. order_word number i % 256) (place + 1) n (place + 1 + n) refl);
  behind = λ number place is.
      ap (λ p. p.1) next ∙ ap (λ g. (pcg32 g).1) (before.behind number place is) ∙ sym (generator_next number (place + 1 + n))
      ∙ ap (generator_after number) (let e : place + 1 + n + 1 ≡ place + 1 + (n + 1) = omega arith in e);
}

pub all_bytes : (n : ℕ) (old first now : Lcg) (word : ℕ) (bytes : List ℕ) → (word, first) ≡ pcg32 old → n ≡ 1 + word % 1500 → DrawsBytes n old now bytes → DrawsPacket old now bytes
all_bytes n old first now word bytes next size all = record {
  drawn = λ number place is. all.drawn number place is ∙ ap (drawn_bytes number place) (sized number place is);
  behind = λ number place is. all.behind number place is ∙ ap (λ k. generator_after number (place + 1 + k)) (sized number place is);
}
  where
    sized : (number place : ℕ) → old ≡ generator_after number place → n ≡ drawn_size (order_word number place)
    sized number place is = size ∙ ap (λ w. 1 + w % 1500) (ap (λ p. p.0) next ∙ ap (λ g. (pcg32 g).0) is)

-- ---- the packets of a client

pub no_packet : (old : Lcg) (text : List ℕ) → text ≡ [] → DrawsText 0 old old text
unfolding drawn_packets behind_packets hex_text
no_packet old text none = record { drawn = λ number place is. none; behind = λ number place is. is }

drawn_next : (words : ℕ → ℕ) (place n : ℕ) → drawn_packets words place (n + 1) ≡ drawn_packets words place n ++ drawn_packet words (behind_packets words place n) ∷ []
unfolding drawn_packets
drawn_next words place n = ap (drawn_packets words place) (add-one n)

behind_next : (words : ℕ → ℕ) (place n : ℕ) → behind_packets words place (n + 1) ≡ behind_packet words (behind_packets words place n)
unfolding behind_packets
behind_next words place n = ap (behind_packets words place) (add-one n)

text_behind : (xs ys : List (List ℕ)) → hex_text (xs ++ ys) ≡ hex_text xs ++ hex_text ys
unfolding hex_text
text_behind [] ys = refl
text_behind (x ∷ xs) ys = ap (λ t. packet_line x ++ t) (text_behind xs ys) ∙ sym (append_assoc (packet_line x) (hex_text xs) (hex_text ys))

one_line : (packet : List ℕ) → hex_text (packet ∷ []) ≡ encode_lower packet ++ 10 ∷ []
unfolding hex_text
one_line packet = append-nil (packet_line packet)

text_next : (packets : List (List ℕ)) (packet : List ℕ) → hex_text (packets ++ packet ∷ []) ≡ (hex_text packets ++ encode_lower packet) ++ 10 ∷ []
text_next packets packet =
    text_behind packets (packet ∷ []) ∙ ap (λ t. hex_text packets ++ t) (one_line packet) ∙ sym (append_assoc (hex_text packets) (encode_lower packet) (10 ∷ []))

pub next_packet : (n : ℕ) (old now new : Lcg) (text packet more : List ℕ) → DrawsText n old now text → DrawsPacket now new packet → more ≡ (text ++ encode_lower packet) ++ 10 ∷ [] → DrawsText (n + 1) old new more
next_packet n old now new text packet more before drawn push = record {
  drawn = λ number place is.
      let words = order_word number in
      let here = before.behind number place is in
      push
      ∙ ap (λ t. (t ++ encode_lower packet) ++ 10 ∷ []) (before.drawn number place is)
      ∙ ap (λ p. (hex_text (drawn_packets words place n) ++ encode_lower p) ++ 10 ∷ []) (drawn.drawn number (behind_packets words place n) here)
      ∙ sym (text_next (drawn_packets words place n) (drawn_packet words (behind_packets words place n)))
      ∙ ap hex_text (sym (drawn_next words place n));
  behind = λ number place is.
      let words = order_word number in
      drawn.behind number (behind_packets words place n) (before.behind number place is) ∙ ap (generator_after number) (sym (behind_next words place n));
}

-- ---- what the packets are

drawn_size_is : (words : ℕ → ℕ) (place : ℕ) → length (drawn_packet words place) ≡ drawn_size (words place)
drawn_size_is words place = length-map-range_with_len (λ i. words i % 256) (place + 1) (drawn_size (words place))

bytes_are : (words : ℕ → ℕ) (a n : ℕ) → IsBytes (map (λ i. words i % 256) (range_with_len a n))
bytes_are words a zero i = (let none : 0 < 256 = omega arith in none)
bytes_are words a (suc n) zero = (let low : words a % 256 < 256 = omega arith in low)
bytes_are words a (suc n) (suc i) = bytes_are words (a + 1) n i

is_packet : (words : ℕ → ℕ) (place : ℕ) → IsPacket (drawn_packet words place)
is_packet words place =
    let size = drawn_size_is words place in
    let some : words place % 1500 < 1500 = omega arith in
    record { some = omega arith; most = omega arith; bytes = bytes_are words (place + 1) (drawn_size (words place)) }

are_packets : (words : ℕ → ℕ) (place n : ℕ) → All IsPacket (drawn_packets words place n)
unfolding drawn_packets
are_packets words place zero = All-nil IsPacket
are_packets words place (suc n) = All-push IsPacket (drawn_packets words place n) (drawn_packet words (behind_packets words place n)) (are_packets words place n) (is_packet words (behind_packets words place n))

sized : (words : ℕ → ℕ) (place : ℕ) → (1 ≤ length (drawn_packet words place)) × (length (drawn_packet words place) ≤ 1500)
sized words place =
    let size = drawn_size_is words place in
    let some : words place % 1500 < 1500 = omega arith in
    (omega arith, omega arith)

are_sized : (words : ℕ → ℕ) (place n : ℕ) → All (λ packet. (1 ≤ length packet) × (length packet ≤ 1500)) (drawn_packets words place n)
unfolding drawn_packets
are_sized words place zero = All-nil (λ packet. (1 ≤ length packet) × (length packet ≤ 1500))
are_sized words place (suc n) =
    All-push (λ packet. (1 ≤ length packet) × (length packet ≤ 1500)) (drawn_packets words place n) (drawn_packet words (behind_packets words place n)) (are_sized words place n) (sized words (behind_packets words place n))

many_drawn : (words : ℕ → ℕ) (place n : ℕ) → length (drawn_packets words place n) ≡ n
unfolding drawn_packets
many_drawn words place zero = refl
many_drawn words place (suc n) =
    let before = many_drawn words place n in
    let all = length-append (drawn_packets words place n) (drawn_packet words (behind_packets words place n) ∷ []) in
    omega arith

pub trial_is_packets : (number c : ℕ) → All IsPacket (packets_of_trial number c)
unfolding packets_of_trial
trial_is_packets number c = are_packets (order_word number) (client_place (order_word number) c) 16

pub trial_packets_are : (number c : ℕ) → AreTrialPackets (packets_of_trial number c)
unfolding packets_of_trial
trial_packets_are number c =
    let words = order_word number in
    record { many = many_drawn words (client_place words c) 16; sizes = are_sized words (client_place words c) 16 }

-- ---- the clients, one after another

pub first_client : (number : ℕ) → client_place (order_word number) 0 ≡ 0
unfolding client_place
first_client number = refl

pub text_drawn : (number n : ℕ) (old new : Lcg) (text : List ℕ) → old ≡ generator_after number (client_place (order_word number) n) → DrawsText 16 old new text
    → (text ≡ hex_text (packets_of_trial number n)) × (new ≡ generator_after number (client_place (order_word number) (n + 1)))
unfolding client_place packets_of_trial
text_drawn number n old new text is drawn =
    let place = client_place (order_word number) n in
    (drawn.drawn number place is, drawn.behind number place is ∙ ap (λ k. generator_after number (client_place (order_word number) k)) (sym (add-one n)))
