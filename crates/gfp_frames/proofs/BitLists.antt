-- The areas by the bit rules.
use Rattle.std.proofs.Common.{◌≡◌, ℕ, List, [], refl}
use Rattle.gfp_scrambler.specs.BitList.{AreBytes, IsScrambled, IsDescrambled}
use Rattle.gfp_scrambler.specs.Register.{scrambled, descrambled}
use Rattle.gfp_scrambler.proofs.Rules.{sent_on, plain_on, none_sent, none_taken}
use Rattle.gfp_frames.specs.GfpText.{Frame, areas_of, laid_out, text_of}
use Rattle.gfp_frames.specs.Delineation.{sync_areas}
use Rattle.gfp_frames.specs.Delivered.{joined, cut_as, plain_areas, packets_in, delivered}

text_is : (frames : List Frame) → text_of frames ≡ laid_out (scrambled 0 (areas_of frames)) frames
unfolding text_of
text_is frames = refl

delivered_is : (bytes : List ℕ) → delivered bytes ≡ packets_in (cut_as (sync_areas bytes) (descrambled 0 (joined (sync_areas bytes))))
unfolding delivered plain_areas
delivered_is bytes = refl

pub made_of_bits : (frames : List Frame) → AreBytes (areas_of frames) → (sent : List ℕ) × (IsScrambled (areas_of frames) sent × (text_of frames ≡ laid_out sent frames))
made_of_bits frames bytes = (scrambled 0 (areas_of frames), ((sent_on [] [] (areas_of frames) 0 none_sent bytes).rule, text_is frames))

pub read_of_bits : (bytes : List ℕ) → AreBytes (joined (sync_areas bytes))
    → (plain : List ℕ) × (IsDescrambled (joined (sync_areas bytes)) plain × (delivered bytes ≡ packets_in (cut_as (sync_areas bytes) plain)))
read_of_bits list bytes = (descrambled 0 (joined (sync_areas list)), ((plain_on [] [] (joined (sync_areas list)) 0 none_taken bytes).rule, delivered_is list))
