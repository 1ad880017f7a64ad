use Rattle.network_file.proofs.Networks.{is_network_exactly}
use Rattle.network_file.proofs.join.fault.Goals as goal

pub returns-clause-network : goal.returns-clause-network
returns-clause-network c = λ sound count.
    rw c.first_fault.ensures (is_network_exactly c.args.file.now c.args.plans.now sound count)
