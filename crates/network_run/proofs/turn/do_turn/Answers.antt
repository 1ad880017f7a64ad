use Rattle.network_run.proofs.Turning.{each_turned, keeps_turn}
use Rattle.network_run.proofs.turn.do_turn.Goals as goal

pub returns-clause-keeps : goal.returns-clause-keeps
returns-clause-keeps g c =
    keeps_turn g.P.Source g.K.Sink c.args.sites.now.items c.send_lines.new.sites.items c.let_go_all.new.sites.items c.end_all.new.sites.items
    c.args.fillings.now.items c.send_lines.new.fillings.items c.send_lines.ensures.keeps c.let_go_all.ensures c.end_all.ensures

pub returns-clause-turned : goal.returns-clause-turned
returns-clause-turned g c =
    each_turned g.P.Source g.K.Sink c.args.sites.now.items c.send_lines.new.sites.items c.let_go_all.new.sites.items c.end_all.new.sites.items
    c.send_lines.ensures.moments c.let_go_all.ensures c.end_all.ensures
