use Rattle.std.proofs.Common.{◌≡◌, ℕ, List, ◌++◌, sym, subst}
use Rattle.gfp_scrambler.specs.BitList.{AreBytes}
use Rattle.gfp_scrambler.specs.Register.{last_bits, descrambled, HasTaken}
use Rattle.gfp_scrambler.proofs.Rules.{plain_on}
use Rattle.gfp_scrambler.proofs.descrambler.Descrambler.descramble_into.Goals as goal

pub returns-clause-rule : goal.returns-clause-rule
returns-clause-rule c = λ earlier before has.
    let register = c.self.inside.register in
    let got = c.args.got.now in
    let plain = c.descramble_over-self-inside.new.plain in
    let bytes : AreBytes got = c.descramble_over-self-inside.ensures.came in
    let is : plain ≡ descrambled register got = c.descramble_over-self-inside.ensures.bytes in
    let last : c.descramble_over-self-inside.result ≡ last_bits register got = c.descramble_over-self-inside.ensures.register in
    let H : ℕ → Type 0 = λ r. HasTaken earlier before r in
    let P : List ℕ → Type 0 = λ y. HasTaken (earlier ++ got) (before ++ y) (last_bits register got) in
    let Q : ℕ → Type 0 = λ r. HasTaken (earlier ++ got) (before ++ plain) r in
    subst Q (sym last) (subst P (sym is) (plain_on earlier before got register (subst H (sym c.self.view_is) has) bytes))
