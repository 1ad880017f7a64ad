use Rattle.std.proofs.Common.{◌≡◌, ◌∙◌, sym, ap, subst, rules}
use Rattle.std.specs.Prelude.{slice_get}
use Rattle.network_run.specs.Sites.{AllOver}
use Rattle.network_run.proofs.Over.{fewer, over_still}
use Rattle.network_run.proofs.Turning.{keeps_none, keeps_twice}
use Rattle.network_carry.proofs.Turning.{turned_from}
use Rattle.network_carry.proofs.turns.do_all_turns.Goals as goal

pub loop-fillings-init : goal.loop-fillings-init
loop-fillings-init g c = record { keeps = keeps_none g.P.Source g.K.Sink c.args.sites.now.items c.args.fillings.now.items }

pub loop-fillings-smaller : goal.loop-fillings-smaller
loop-fillings-smaller g c =
    let some = c.has_going.ensures.some (search rules) in
    fewer c.loop-fillings.sites.items c.do_turn.new.sites.items some.i some.site
    (ap (λ l. slice_get l some.i) (sym c.deref.ensures.value) ∙ some.at) some.going
    (turned_from c.loop-fillings.sites.items c.send_lines.new.sites.items c.do_turn.new.sites.items c.send_lines.ensures.moments c.do_turn.ensures.turned)

pub loop-fillings-preserved : goal.loop-fillings-preserved
loop-fillings-preserved g c = record {
  keeps = keeps_twice g.P.Source g.K.Sink c.args.sites.now.items c.loop-fillings.sites.items c.do_turn.new.sites.items c.args.fillings.now.items
      c.loop-fillings.fillings.items c.do_turn.new.fillings.items c.loop-fillings.invariant.keeps
      (keeps_twice g.P.Source g.K.Sink c.loop-fillings.sites.items c.send_lines.new.sites.items c.do_turn.new.sites.items c.loop-fillings.fillings.items
      c.send_lines.new.fillings.items c.do_turn.new.fillings.items c.send_lines.ensures.keeps c.do_turn.ensures.keeps);
}

pub returns-clause-keeps : goal.returns-clause-keeps
returns-clause-keeps g c =
    keeps_twice g.P.Source g.K.Sink c.args.sites.now.items c.loop-fillings.sites.items c.fill_all.new.sites.items c.args.fillings.now.items
    c.loop-fillings.fillings.items c.fill_all.new.fillings.items c.loop-fillings.invariant.keeps c.fill_all.ensures.keeps

pub returns-clause-over : goal.returns-clause-over
returns-clause-over g c =
    over_still c.loop-fillings.sites.items c.fill_all.new.sites.items c.fill_all.ensures.nodes
    (subst AllOver c.deref.ensures.value (c.has_going.ensures.none (search rules)))
