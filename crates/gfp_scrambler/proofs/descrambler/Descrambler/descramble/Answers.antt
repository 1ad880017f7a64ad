use Rattle.std.proofs.Common.{◌≡◌, ℕ, List, ◌++◌, sym, subst}
use Rattle.gfp_scrambler.specs.BitList.{AreBytes}
use Rattle.gfp_scrambler.specs.Register.{last_bits, descrambled, HasTaken}
use Rattle.gfp_scrambler.proofs.Rules.{plain_on}
use Rattle.gfp_scrambler.proofs.descrambler.Descrambler.descramble.Goals as goal

pub returns-clause-rule : goal.returns-clause-rule
returns-clause-rule c = λ got plain has.
    let register = c.self.inside.register in
    let old = c.args.bytes.now in
    let new = c.descramble_from-self-inside.new.bytes in
    let bytes : AreBytes old = c.descramble_from-self-inside.ensures.came in
    let is : new ≡ descrambled register old = c.descramble_from-self-inside.ensures.bytes in
    let last : c.descramble_from-self-inside.result ≡ last_bits register old = c.descramble_from-self-inside.ensures.register in
    let H : ℕ → Type 0 = λ r. HasTaken got plain r in
    let P : List ℕ → Type 0 = λ y. HasTaken (got ++ old) (plain ++ y) (last_bits register old) in
    let Q : ℕ → Type 0 = λ r. HasTaken (got ++ old) (plain ++ new) r in
    subst Q (sym last) (subst P (sym is) (plain_on got plain old register (subst H (sym c.self.view_is) has) bytes))
