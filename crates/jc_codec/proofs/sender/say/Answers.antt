use Rattle.jc_codec.proofs.HeardBack.{says_word, hears_word_said}
use Rattle.jc_codec.proofs.OneRow.{one_change}
use Rattle.jc_codec.proofs.sender.say.Goals as goal

pub returns-clause-said : goal.returns-clause-said
returns-clause-said c = says_word c.args.former c.args.next c.word_for-word.result c.crc8.result c.word_for-word.ensures c.crc8.ensures.check

pub returns-clause-heard_back : goal.returns-clause-heard_back
returns-clause-heard_back c =
    hears_word_said c.args.former c.args.next c.word_for-word.result c.crc8.result c.requires.former c.requires.next
    c.word_for-word.ensures c.crc8.ensures.check

pub returns-clause-one_row : goal.returns-clause-one_row
returns-clause-one_row c = λ n. one_change n c.args.next
