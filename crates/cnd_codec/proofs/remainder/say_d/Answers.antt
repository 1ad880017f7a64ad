use Rattle.cnd_codec.proofs.HeardRest.{says_check, said_is_heard}
use Rattle.cnd_codec.proofs.remainder.say_d.Goals as goal

pub returns-clause-said : goal.returns-clause-said
returns-clause-said c = says_check c.args.d c.crc5.result c.crc5.ensures.check

pub returns-clause-heard_back : goal.returns-clause-heard_back
returns-clause-heard_back c = λ m h. said_is_heard c.args.d c.crc5.result m c.requires c.crc5.ensures.check c.crc5.ensures.five_bits h
