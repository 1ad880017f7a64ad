use Rattle.odu_client.proofs.ArrivingText.{stays_delivered}
use Rattle.odu_client.proofs.laws.delivered_stays.Goals as goal

pub returns : goal.returns
returns c = stays_delivered
