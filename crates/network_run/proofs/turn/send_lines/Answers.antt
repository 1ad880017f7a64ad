use Rattle.network_run.proofs.Turning.{all_sent, each_sent, keeps_sent}
use Rattle.network_run.proofs.turn.send_lines.Goals as goal

pub returns-clause-keeps : goal.returns-clause-keeps
returns-clause-keeps g c =
    keeps_sent g.P.Source g.K.Sink c.args.sites.now.items c.write_all.new.sites.items c.fill_all.new.sites.items c.args.fillings.now.items
    c.fill_all.new.fillings.items c.write_all.ensures c.fill_all.ensures.keeps

pub returns-clause-moments : goal.returns-clause-moments
returns-clause-moments g c =
    each_sent g.P.Source g.K.Sink c.args.sites.now.items c.write_all.new.sites.items c.fill_all.new.sites.items c.write_all.ensures
    c.fill_all.ensures.nodes

pub returns-clause-sent : goal.returns-clause-sent
returns-clause-sent g c =
    all_sent g.P.Source g.K.Sink c.args.sites.now.items c.write_all.new.sites.items c.fill_all.new.sites.items c.write_all.ensures
    c.fill_all.ensures.nodes
