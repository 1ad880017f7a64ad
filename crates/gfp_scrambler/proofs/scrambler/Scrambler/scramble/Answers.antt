use Rattle.std.proofs.Common.{◌≡◌, ℕ, List, ◌++◌, sym, subst}
use Rattle.gfp_scrambler.specs.BitList.{AreBytes}
use Rattle.gfp_scrambler.specs.Register.{last_bits, scrambled, HasSent}
use Rattle.gfp_scrambler.proofs.Rules.{sent_on}
use Rattle.gfp_scrambler.proofs.scrambler.Scrambler.scramble.Goals as goal

pub returns-clause-rule : goal.returns-clause-rule
returns-clause-rule c = λ plain sent has.
    let register = c.self.inside.register in
    let old = c.args.bytes.now in
    let new = c.scramble_from-self-inside.new.bytes in
    let bytes : AreBytes old = c.scramble_from-self-inside.ensures.came in
    let is : new ≡ scrambled register old = c.scramble_from-self-inside.ensures.bytes in
    let last : c.scramble_from-self-inside.result ≡ last_bits register new = c.scramble_from-self-inside.ensures.register in
    let H : ℕ → Type 0 = λ r. HasSent plain sent r in
    let P : List ℕ → Type 0 = λ y. HasSent (plain ++ old) (sent ++ y) (last_bits register y) in
    let Q : ℕ → Type 0 = λ r. HasSent (plain ++ old) (sent ++ new) r in
    subst Q (sym last) (subst P (sym is) (sent_on plain sent old register (subst H (sym c.self.view_is) has) bytes))
