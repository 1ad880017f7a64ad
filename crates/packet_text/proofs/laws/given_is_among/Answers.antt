use Rattle.packet_text.proofs.GivenTexts.{given_among}
use Rattle.packet_text.proofs.laws.given_is_among.Goals as goal

pub returns : goal.returns
returns c = given_among
