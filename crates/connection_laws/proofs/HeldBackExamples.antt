-- What is held back, worked through: groups of three bytes, of a sender that takes 4, 0, 0, 5, 0 and 0 bytes. Of the
-- first four a group is emitted; the byte over comes with the group that the five complete.
use Rattle.std.specs.Prelude.{◌≡◌, ℕ, List, [], ◌∷◌}
use Rattle.std.proofs.Common.{refl}
use Rattle.connection_laws.specs.HeldBack.{emitted_after}

abbrev read : List ℕ
read = 4 ∷ 0 ∷ 0 ∷ 5 ∷ 0 ∷ 0 ∷ []

a_group_of_the_first : emitted_after 3 read 3 ≡ 3
a_group_of_the_first = refl

nothing_more : emitted_after 3 read 4 ≡ 3
nothing_more = refl

the_byte_over : emitted_after 3 read 5 ≡ 4
the_byte_over = refl

all_of_it : emitted_after 3 read 6 ≡ 9
all_of_it = refl
