use Rattle.std.proofs.Common.{◌≡◌, ◌+◌, [], ◌∷◌, ◌++◌, Some, set, sym, subst, arith, rules}
use Rattle.std.specs.Prelude.{slice_get}
use Rattle.network_run.proofs.Each.{at_index}
use Rattle.network_run.proofs.Settling.{SettledBelow, all_settled, settled_more, settled_none, still_over}
use Rattle.network_run.proofs.ending.settle_all.Goals as goal

pub loop-i-init : goal.loop-i-init
loop-i-init g c = record {
  below = subst (SettledBelow g.P.Source g.K.Sink 0 c.args.sites.now.items c.args.sites.now.items) (sym c.requires.empty)
      (settled_none g.P.Source g.K.Sink c.args.sites.now.items);
  room = omega arith;
}

pub settle-told-requires : goal.settle-told-requires
settle-told-requires g c =
    let sites = c.loop-i.sites.items in
    let i = c.loop-i.invariant.below in
    let at : slice_get sites c.loop-i.i ≡ Some c.index_mut.result.now =
    at_index sites c.loop-i.i c.index_mut.result.now
    (let test = c.loop-i-test.true in let ok = c.loop-i.sites.ok in let count = i.count in let first = c.args.sites.now.ok in omega arith)
    c.index_mut.ensures.value in
    record { over = still_over g.P.Source g.K.Sink c.args.sites.now.items sites c.loop-i.numbers.items c.loop-i.i c.index_mut.result.now at i c.requires.over }

pub loop-i-preserved : goal.loop-i-preserved
loop-i-preserved g c =
    let sites = c.loop-i.sites.items in
    let i = c.loop-i.invariant.below in
    let at : slice_get sites c.loop-i.i ≡ Some c.index_mut.result.now =
    at_index sites c.loop-i.i c.index_mut.result.now
    (let test = c.loop-i-test.true in let ok = c.loop-i.sites.ok in let count = i.count in let first = c.args.sites.now.ok in omega arith)
    c.index_mut.ensures.value in
    let pushed : c.push.new.self.items ≡ c.loop-i.numbers.items ++ c.settle-told.result ∷ [] = search rules in
    record {
      below = subst (SettledBelow g.P.Source g.K.Sink (c.loop-i.i + 1) c.args.sites.now.items (set sites c.loop-i.i c.settle-told.new.site)) (sym pushed)
          (settled_more g.P.Source g.K.Sink c.args.sites.now.items sites c.loop-i.numbers.items c.loop-i.i c.index_mut.result.now c.settle-told.new.site
          c.settle-told.result at c.settle-told.ensures i);
      room = search rules;
    }

pub returns-clause-settled : goal.returns-clause-settled
returns-clause-settled g c =
    all_settled g.P.Source g.K.Sink c.args.sites.now.items c.loop-i.sites.items c.loop-i.numbers.items c.loop-i.i
    (let test = c.loop-i-test.false in let first = c.args.sites.now.ok in omega arith) c.loop-i.invariant.below
