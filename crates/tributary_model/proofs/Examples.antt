-- Worked connections, computed from the definitions.
use Rattle.std.proofs.Common.{◌≡◌, ℕ, List, [], ◌∷◌, ◌++◌, Option, Some, None, refl, length}
use Rattle.std.specs.Prelude.{map, reverse, replicate}
use Rattle.std.specs.List.{range_with_len, flat_map}
use Rattle.jc_codec.specs.Message.{says, hears, turned, inverted_at, number_of, same, one_more, one_less, two_more, two_less}
use Rattle.cnd_codec.specs.Remainder.{says_cnd, hears_cnd}
use Rattle.crc_small.specs.LongDivision.{crc8_of, crc5_of, check_of, remainder_from, low_bits, bits_of}
use Rattle.tributary_model.specs.declared.turns.Hearing.TheVariants.{Damaged}
use Rattle.tributary_model.specs.declared.turns.SinkState.{SinkState}
use Rattle.tributary_model.specs.declared.turns.SinkState.TheVariants.{Waiting, Up, Down}
use Rattle.tributary_model.specs.Places.{Tributary, View, Taken, msi_in}
use Rattle.tributary_model.specs.Carries.{cm_in, cnd_in}
use Rattle.tributary_model.specs.Messages.{hears_message}
use Rattle.tributary_model.specs.Stretches.{Part, msi_read, course, state_of}
use Rattle.tributary_model.specs.Emission.{emitted_total, amount_of}

-- how many bytes each turn emits, in their order
amounts : Tributary → List (Option View) → List ℕ
amounts own past = reverse (map (amount_of (length own.slots)) (course own past))

-- how the sink stands after each turn, in their order
states_back : List Part → List SinkState
states_back [] = []
states_back (part ∷ parts) = state_of (part ∷ parts) ∷ states_back parts

states : Tributary → List (Option View) → List SinkState
states own past = reverse (states_back (course own past))

-- a turn with a message, and no MSI byte
with_message : List ℕ → Option View
with_message bytes = Some (record { groups = []; message = bytes; msi = [] })

-- an ODU0 on slot 3 of eight, port 1, at its nominal rate: the first message, a later one, and one whose JC3 is wrong
odu0 : Tributary
odu0 = record { line_slots = 8; slots = 3 ∷ []; port = 1 }

first : Option View
first = with_message (0xED ∷ 0x03 ∷ 0x2E ∷ 0 ∷ 0 ∷ 0 ∷ [])

steady : Option View
steady = with_message (0xED ∷ 0x00 ∷ 0x39 ∷ 0 ∷ 0 ∷ 0 ∷ [])

damaged : Option View
damaged = with_message (0xED ∷ 0x00 ∷ 0x38 ∷ 0 ∷ 0 ∷ 0 ∷ [])

-- turns 1 to 9 of a steady connection
nine : List (Option View)
nine = replicate 8 steady ++ first ∷ []

-- one damaged message, in turn 10, changes nothing
one_damaged : amounts odu0 (steady ∷ steady ∷ damaged ∷ nine) ≡ 0 ∷ 0 ∷ replicate 10 15168
unfolding amounts emitted_total odu0 first steady damaged nine with_message course msi_read hears_message says says_cnd hears hears_cnd turned inverted_at number_of same one_more one_less two_more two_less crc8_of crc5_of check_of remainder_from low_bits bits_of
one_damaged = refl

one_damaged_states : states odu0 (steady ∷ steady ∷ damaged ∷ nine) ≡ replicate 12 Up
unfolding states states_back odu0 first steady damaged nine with_message course msi_read hears_message says says_cnd hears hears_cnd turned inverted_at number_of same one_more one_less two_more two_less crc8_of crc5_of check_of remainder_from low_bits bits_of
one_damaged_states = refl

-- damaged in turns 10 to 15: turn 12 is the ending turn, 13 to 15 are Down, 16 accepts, 16 and 17 emit nothing
six_damaged : amounts odu0 (steady ∷ steady ∷ steady ∷ replicate 6 damaged ++ nine)
    ≡ 0 ∷ 0 ∷ replicate 10 15168 ++ (15168 ∷ 15168 ∷ 15168 ∷ 0 ∷ 0 ∷ 15168 ∷ [])
unfolding amounts emitted_total odu0 first steady damaged nine with_message course msi_read hears_message says says_cnd hears hears_cnd turned inverted_at number_of same one_more one_less two_more two_less crc8_of crc5_of check_of remainder_from low_bits bits_of
six_damaged = refl

six_damaged_states : states odu0 (steady ∷ steady ∷ steady ∷ replicate 6 damaged ++ nine) ≡ replicate 11 Up ++ (Down ∷ Down ∷ Down ∷ Down ∷ Up ∷ Up ∷ Up ∷ [])
unfolding states states_back odu0 first steady damaged nine with_message course msi_read hears_message says says_cnd hears hears_cnd turned inverted_at number_of same one_more one_less two_more two_less crc8_of crc5_of check_of remainder_from low_bits bits_of
six_damaged_states = refl

-- no multiframe in turn 10: it is the ending turn, 11 accepts, 11 and 12 emit nothing
one_lost : amounts odu0 (steady ∷ steady ∷ steady ∷ None ∷ nine) ≡ 0 ∷ 0 ∷ replicate 7 15168 ++ (15168 ∷ 0 ∷ 0 ∷ 15168 ∷ [])
unfolding amounts emitted_total odu0 first steady nine with_message course msi_read hears_message says says_cnd hears hears_cnd turned inverted_at number_of same one_more one_less two_more two_less crc8_of crc5_of check_of remainder_from low_bits bits_of
one_lost = refl

one_lost_states : states odu0 (steady ∷ steady ∷ steady ∷ None ∷ nine) ≡ replicate 9 Up ++ (Down ∷ Up ∷ Up ∷ Up ∷ [])
unfolding states states_back odu0 first steady nine with_message course msi_read hears_message says says_cnd hears hears_cnd turned inverted_at number_of same one_more one_less two_more two_less crc8_of crc5_of check_of remainder_from low_bits bits_of
one_lost_states = refl

-- no multiframe at all: Waiting for three turns, then AIS
never_accepted : amounts odu0 (replicate 5 None) ≡ 0 ∷ 0 ∷ 0 ∷ 15168 ∷ 15168 ∷ []
unfolding amounts odu0 course msi_read
never_accepted = refl

never_accepted_states : states odu0 (replicate 5 None) ≡ Waiting ∷ Waiting ∷ Down ∷ Down ∷ Down ∷ []
unfolding states states_back odu0 course msi_read
never_accepted_states = refl

-- messages that each say a pair after the pair before it
said_after : Option ℕ → List (ℕ × ℕ) → List (Option View)
said_after former [] = []
said_after former (pair ∷ pairs) = with_message (says former pair.0 ++ says_cnd pair.1) ∷ said_after (Some pair.0) pairs

flex : Tributary
flex = record { line_slots = 8; slots = 1 ∷ 2 ∷ 3 ∷ []; port = 1 }

remainders : amounts flex (reverse (said_after None ((0, 0) ∷ (15000, 1) ∷ (15000, 1) ∷ (15000, 2) ∷ (15000, 2) ∷ (15001, 0) ∷ (15000, 0) ∷ [])))
    ≡ 0 ∷ 0 ∷ 0 ∷ 45001 ∷ 45000 ∷ 45001 ∷ 45000 ∷ []
unfolding amounts emitted_total flex said_after with_message course msi_read hears_message says says_cnd hears hears_cnd turned inverted_at number_of same one_more one_less two_more two_less crc8_of crc5_of check_of remainder_from low_bits bits_of
remainders = refl

-- a slot is marked after two wrong MSI bytes in a row of its own, and no more after a right one
msi_turn : List (ℕ × ℕ) → Option View
msi_turn bytes = Some (record { groups = []; message = 0xED ∷ 0x00 ∷ 0x39 ∷ 0 ∷ 0 ∷ 0 ∷ []; msi = bytes })

marked_states : states odu0 (msi_turn ((3, 0x80) ∷ []) ∷ msi_turn ((3, 0x81) ∷ []) ∷ msi_turn ((3, 0x81) ∷ []) ∷ msi_turn ((3, 0x80) ∷ []) ∷ msi_turn ((3, 0xC0) ∷ []) ∷ first ∷ [])
    ≡ Up ∷ Up ∷ Up ∷ Up ∷ Down ∷ Up ∷ []
unfolding states states_back odu0 first msi_turn with_message course msi_read hears_message says says_cnd hears hears_cnd turned inverted_at number_of same one_more one_less two_more two_less crc8_of crc5_of check_of remainder_from low_bits bits_of
marked_states = refl

-- a client of three slots that brings 45,001 and 45,000 bytes in turn: the pairs that carry them
brought : List ℕ
brought = 0 ∷ 45001 ∷ 45000 ∷ 45001 ∷ 45000 ∷ 45001 ∷ 45000 ∷ []

carried_pairs : map {B = ℕ × ℕ} (λ t. (cm_in 3 brought t, cnd_in 3 brought t)) (range_with_len 0 7)
    ≡ (0, 0) ∷ (15000, 1) ∷ (15000, 1) ∷ (15000, 2) ∷ (15000, 2) ∷ (15001, 0) ∷ (15000, 0) ∷ []
unfolding brought
carried_pairs = refl

-- the MSI bytes of slots 1, 2 and 8 among the frames where 248 to 255, and 0 to 7, are expected
empty_frame : ℕ → Taken
empty_frame expected = record { frame = []; expected = expected }

three_slots : Tributary
three_slots = record { line_slots = 8; slots = 1 ∷ 2 ∷ 8 ∷ []; port = 2 }

msi_slots : (map (λ (x : ℕ × ℕ). x.0) (flat_map (msi_in three_slots) (map empty_frame (range_with_len 0 8))) ≡ 1 ∷ 2 ∷ [])
    × (map (λ (x : ℕ × ℕ). x.0) (flat_map (msi_in three_slots) (map empty_frame (range_with_len 8 8))) ≡ 8 ∷ [])
    × (map (λ (x : ℕ × ℕ). x.0) (flat_map (msi_in three_slots) (map empty_frame (range_with_len 248 8))) ≡ [])
unfolding empty_frame three_slots
msi_slots = (refl, refl, refl)

-- Why the numbers are to be steady: of 4, 1 and 4 bytes the third turn emits 3 and not 4, since the second one
-- completes no group with the fourth byte.
unsteady_pairs : map {B = ℕ × ℕ} (λ t. (cm_in 3 (4 ∷ 1 ∷ 4 ∷ []) t, cnd_in 3 (4 ∷ 1 ∷ 4 ∷ []) t)) (range_with_len 0 3) ≡ (1, 1) ∷ (0, 2) ∷ (2, 0) ∷ []
unsteady_pairs = refl

unsteady : amounts flex (reverse (said_after None ((1, 1) ∷ (0, 2) ∷ (2, 0) ∷ []))) ≡ 0 ∷ 0 ∷ 3 ∷ []
unfolding amounts emitted_total flex said_after with_message course msi_read hears_message says says_cnd hears hears_cnd turned inverted_at number_of same one_more one_less two_more two_less crc8_of crc5_of check_of remainder_from low_bits bits_of
unsteady = refl

-- Why they are to bring at most the groups of a multiframe: the message of one more is damaged.
too_many : hears_message None 1 (says None 15233 ++ says_cnd 0) ≡ Damaged
unfolding hears_message says says_cnd hears hears_cnd turned inverted_at number_of same one_more one_less two_more two_less crc8_of crc5_of check_of remainder_from low_bits bits_of
too_many = refl
