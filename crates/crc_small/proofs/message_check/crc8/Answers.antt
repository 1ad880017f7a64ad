use Rattle.std.proofs.Common.{◌≡◌, subst, arith, [], ◌∷◌, ℕ}
use Rattle.crc_small.specs.Changes.{ChangesOneByte}
use Rattle.crc_small.specs.LongDivision.{crc8_of}
use Rattle.crc_small.proofs.Changes.{change_shows}
use Rattle.crc_small.proofs.Register.{crc8-two}
use Rattle.crc_small.proofs.message_check.crc8.Goals as goal

pub returns-clause-check : goal.returns-clause-check
returns-clause-check c = let two = crc8-two c.args.jc1 c.args.jc2 in cc

pub returns-clause-one_byte_changed : goal.returns-clause-one_byte_changed
returns-clause-one_byte_changed c = λ a b k ha hb changed.
    let two = crc8-two c.args.jc1 c.args.jc2 in
    let right : c.byte8-2.result ≡ crc8_of (c.args.jc1 ∷ c.args.jc2 ∷ []) = cc in
    let moved = subst (λ (r : ℕ). ChangesOneByte (c.args.jc1 ∷ c.args.jc2 ∷ r ∷ []) (a ∷ b ∷ k ∷ [])) right changed in
    change_shows c.args.jc1 c.args.jc2 a b k (omega arith) (omega arith) ha hb moved
