-- The bytes at hand of a place.
use Rattle.std.proofs.Common.{◌≡◌, ◌<◌, ℕ, length, refl, subst, arith}
use Rattle.port_base.specs.InPlace.{in_view}
use Rattle.port_base.specs.Views.{Live}
use Rattle.port_base.specs.Writes.{IsWriting}
use Rattle.port_base.specs.declared.drain.Written.TheVariants.{Whole, Lost}
use Rattle.port_base.specs.declared.drain.Written.{Written}
use Rattle.port_base.specs.declared.source.Source.{Ghosts}
use Rattle.port_base.specs.declared.in_place.InPlaceOf.{InPlaceOf}
use Rattle.port_base.specs.declared.in_place.InPlaceOf.TheVariants as place
use Rattle.port_base.specs.AtHand.{place_at_hand}

-- a place with bytes at hand is live
pub live_hand : {P : Type 0} (source : Ghosts P) (at : InPlaceOf P) → 0 < length (place_at_hand source at) → (in_view source at).state ≡ Live
live_hand source place.Empty some = absurd (omega arith)
live_hand source (place.Live port n) some = refl
live_hand source (place.Dead sealed n) some = absurd (omega arith)

-- how many bytes went
pub all_went : (answer : Written) (count all : ℕ) → answer ≡ Whole → IsWriting answer count all → count ≡ all
all_went answer count all is h = let w : IsWriting Whole count all = subst (λ a. IsWriting a count all) is h in w

pub fewer_went : (answer : Written) (count all : ℕ) → answer ≡ Lost → IsWriting answer count all → count < all
fewer_went answer count all is h = let w : IsWriting Lost count all = subst (λ a. IsWriting a count all) is h in w
