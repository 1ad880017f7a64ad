use Rattle.std.proofs.Common.{◌≡◌, ℕ, ap, ◌∙◌, arith}
use Rattle.std.specs.Prelude.{bit_xor}
use Rattle.crc_small.proofs.Words.{words_looked_up}
use Rattle.crc_small.proofs.steps.four_words32.Goals as goal

both : {a b c d : ℕ} → a ≡ b → c ≡ d → bit_xor a c ≡ bit_xor b d
both {a} {b} {c} {d} e f = ap (λ x. bit_xor x c) e ∙ ap (bit_xor b) f

pub returns : goal.returns
returns c =
    both (both (both c.look_up-one.ensures c.look_up-two.ensures) c.look_up-three.ensures) c.look_up-four.ensures
    ∙ words_looked_up c.args.register c.args.first c.args.second c.args.third c.args.fourth (omega arith) (omega arith) (omega arith) (omega arith) (omega arith)
