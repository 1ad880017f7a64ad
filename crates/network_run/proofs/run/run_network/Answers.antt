use Rattle.network_run.proofs.Begun.{ran_if}
use Rattle.network_run.proofs.run.run_network.Goals as goal

pub returns-clause-ran : goal.returns-clause-ran
returns-clause-ran g c =
    ran_if g.P.Source g.K.Sink c.args.sites.now.items c.do_turns.new.sites.items c.settle_all.new.sites.items c.args.fillings.now.items
    c.do_turns.new.fillings.items c.do_turns.ensures.keeps c.do_turns.ensures.full c.settle_all.result (λ numbers. numbers.items) c.settle_all.ensures.settled
