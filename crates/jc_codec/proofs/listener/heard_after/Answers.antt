use Rattle.std.proofs.Common.{◌∙◌, sym, arith}
use Rattle.jc_codec.proofs.Hears.{hears_right, hears_wrong, changed_damaged}
use Rattle.jc_codec.proofs.listener.heard_after.Goals as goal

pub returns-then-jc3-crc8-clause-heard : goal.returns-then-jc3-crc8-clause-heard
returns-then-jc3-crc8-clause-heard c =
    c.heard_word.ensures ∙ sym (hears_right c.args.former c.args.jc1 c.args.jc2 c.args.jc3 (c.if-jc3-crc8.true ∙ c.crc8.ensures.check))

pub returns-else-jc3-crc8-clause-heard : goal.returns-else-jc3-crc8-clause-heard
returns-else-jc3-crc8-clause-heard c =
    sym (hears_wrong c.args.former c.args.jc1 c.args.jc2 c.args.jc3 (λ e. c.if-jc3-crc8.false (e ∙ sym c.crc8.ensures.check)))

pub returns-then-jc3-crc8-clause-one_byte_changed : goal.returns-then-jc3-crc8-clause-one_byte_changed
returns-then-jc3-crc8-clause-one_byte_changed c = λ a b ha hb changed.
    c.heard_word.ensures ∙ sym (hears_right c.args.former c.args.jc1 c.args.jc2 c.args.jc3 (c.if-jc3-crc8.true ∙ c.crc8.ensures.check))
    ∙ changed_damaged c.args.former c.args.jc1 c.args.jc2 c.args.jc3 a b (omega arith) (omega arith) ha hb changed
