use Rattle.std.proofs.Common.{◌≡◌, Some, ◌∙◌, refl, arith, rules}
use Rattle.std.specs.Prelude.{slice_get}
use Rattle.network_run.specs.Sites.{SameNode}
use Rattle.std.proofs.lemmas.Option.{slice_get_within}
use Rattle.network_run.proofs.Each.{at_index}
use Rattle.network_run.proofs.Turning.{each_none, each_twice, full_more, keeps_filled, keeps_none, keeps_twice, nodes_filled}
use Rattle.network_run.proofs.turn.fill_all.Goals as goal

pub loop-n-init : goal.loop-n-init
loop-n-init g c = record {
  keeps = keeps_none g.P.Source g.K.Sink c.args.sites.now.items c.args.fillings.now.items;
  nodes = each_none SameNode c.args.sites.now.items (λ one. refl);
  full = λ m f none. absurd (omega arith);
  count = refl;
}

pub loop-n-preserved : goal.loop-n-preserved
loop-n-preserved g c =
    let i = c.loop-n.invariant in
    let olds = c.loop-n.sites.items in
    let news = c.fill.new.sites.items in
    let was = c.index_mut.result.now in
    let is = c.fill.new.filling in
    let fillings = c.loop-n.fillings.items in
    let at : slice_get fillings c.loop-n.n ≡ Some was =
    at_index fillings c.loop-n.n was
    (let test = c.loop-n-test.true in let ok = c.loop-n.fillings.ok in let count = i.count in let first = c.args.fillings.now.ok in omega arith)
    c.index_mut.ensures.value in
    record {
      keeps = keeps_twice g.P.Source g.K.Sink c.args.sites.now.items olds news c.args.fillings.now.items fillings _ i.keeps
          (keeps_filled g.P.Source g.K.Sink olds news fillings c.loop-n.n was is at c.fill.ensures);
      nodes = each_twice SameNode SameNode SameNode c.args.sites.now.items olds news (λ old mid new one two. two ∙ one) i.nodes
          (nodes_filled g.P.Source g.K.Sink olds news was is c.fill.ensures);
      full = full_more g.P.Source g.K.Sink olds news fillings c.loop-n.n was is at c.fill.ensures i.full;
      count = search rules;
    }

pub returns-clause-full : goal.returns-clause-full
returns-clause-full g c = λ n f at whole.
    let i = c.loop-n.invariant in
    i.full n f
    (let within = slice_get_within c.loop-n.fillings.items n f at in let test = c.loop-n-test.false in let ok = c.loop-n.fillings.ok in
    let count = i.count in let first = c.args.fillings.now.ok in omega arith)
    at whole
