-- Examples from the standard's numbers, computed by the definitions.
use Rattle.std.proofs.Common.{◌≡◌, ℕ, List, [], ◌∷◌, ◌++◌, true, false, refl, take, drop}
use Rattle.crc_small.specs.LongDivision.{crc16_of, crc32_of, check_of, remainder_from, bits_of, low_bits, inverted}
use Rattle.gfp_scrambler.specs.Register.{scrambled, descrambled}
use Rattle.gfp_frames.specs.CoreHeader.{core_header, right_pli, near_pli, turned_pli, right_at, near_at}
use Rattle.gfp_frames.specs.Area.{client_area, packet_in}
use Rattle.gfp_frames.specs.GfpText.{text_of, laid_out, gfp_text}
use Rattle.gfp_frames.specs.Delineation.{hunting, sync_areas}
use Rattle.gfp_frames.specs.Delivered.{plain_areas, delivered}

idle_frame : core_header 0 ≡ 0xB6 ∷ 0xAB ∷ 0x31 ∷ 0xE0 ∷ []
unfolding core_header crc16_of check_of remainder_from bits_of low_bits
idle_frame = refl

-- 60 bytes with FCS
header_of_68 : core_header 68 ≡ 0xB6 ∷ 0xEF ∷ 0x39 ∷ 0xA0 ∷ []
unfolding core_header crc16_of check_of remainder_from bits_of low_bits
header_of_68 = refl

area_with_fcs : take 4 (client_area [] true) ≡ 0x10 ∷ 0x01 ∷ 0x13 ∷ 0x52 ∷ []
unfolding client_area crc16_of crc32_of check_of remainder_from bits_of low_bits inverted
area_with_fcs = refl

packets : List (List ℕ)
packets = (0x11 ∷ 0x11 ∷ []) ∷ (0x22 ∷ 0x22 ∷ []) ∷ (0x33 ∷ 0x33 ∷ []) ∷ (0x44 ∷ 0x44 ∷ []) ∷ []

stream : List ℕ
stream =
    0xB6 ∷ 0xAB ∷ 0x31 ∷ 0xE0 ∷ 0xB6 ∷ 0xAD ∷ 0x51 ∷ 0x26 ∷ 0x00 ∷ 0x01 ∷ 0x10 ∷ 0x21 ∷ 0x11 ∷ 0x11
    ∷ 0xB6 ∷ 0xAD ∷ 0x51 ∷ 0x26 ∷ 0x00 ∷ 0x23 ∷ 0x14 ∷ 0x03 ∷ 0x00 ∷ 0x02
    ∷ 0xB6 ∷ 0xAD ∷ 0x51 ∷ 0x26 ∷ 0x04 ∷ 0x63 ∷ 0x90 ∷ 0x41 ∷ 0x33 ∷ 0x73
    ∷ 0xB6 ∷ 0xAD ∷ 0x51 ∷ 0x26 ∷ 0x8C ∷ 0x73 ∷ 0x18 ∷ 0x07 ∷ 0x2A ∷ 0x35 ∷ 0xB6 ∷ 0xAB ∷ 0x31 ∷ 0xE0 ∷ []

stream_is : gfp_text packets false 48 ≡ stream
unfolding packets stream gfp_text text_of laid_out scrambled core_header client_area crc16_of crc32_of check_of remainder_from bits_of low_bits inverted
stream_is = refl

delivered_is : delivered stream ≡ packets
unfolding packets stream delivered plain_areas sync_areas hunting right_at near_at right_pli near_pli turned_pli descrambled packet_in core_header crc16_of crc32_of check_of remainder_from bits_of low_bits inverted
delivered_is = refl

-- one wrong bit in the second client header
one_wrong : List ℕ
unfolding stream
one_wrong = take 14 stream ++ 0xB7 ∷ drop 15 stream

corrected : delivered one_wrong ≡ packets
unfolding packets one_wrong stream delivered plain_areas sync_areas hunting right_at near_at right_pli near_pli turned_pli descrambled packet_in core_header crc16_of crc32_of check_of remainder_from bits_of low_bits inverted
corrected = refl

-- two wrong bits there: the second frame is lost in HUNT, the third is the PRESYNC frame, and the fourth is descrambled
-- wrong
two_wrong : List ℕ
unfolding stream
two_wrong = take 14 stream ++ 0xB5 ∷ drop 15 stream

lost : delivered two_wrong ≡ (0x11 ∷ 0x11 ∷ []) ∷ []
unfolding packets two_wrong stream delivered plain_areas sync_areas hunting right_at near_at right_pli near_pli turned_pli descrambled packet_in core_header crc16_of crc32_of check_of remainder_from bits_of low_bits inverted
lost = refl
