use Rattle.std.proofs.Common.{rules}
use Rattle.device_model.proofs.MadeShows.{shows_its_connections}
use Rattle.device_model.proofs.MadeTurns.{has_its_multiframes}
use Rattle.device_model.proofs.made.made_files.Goals as goal

pub returns-clause-multiframes : goal.returns-clause-multiframes
returns-clause-multiframes c = search (rules, has_its_multiframes)

pub returns-clause-connections : goal.returns-clause-connections
returns-clause-connections c = search (rules, shows_its_connections)
