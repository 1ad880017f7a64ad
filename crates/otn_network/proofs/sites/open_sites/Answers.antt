use Rattle.std.proofs.Common.{◌≡◌, ◌∙◌, ◌+◌, ◌++◌, ◌∷◌, [], ℕ, List, Some, length, refl, sym, subst, arith, rules}
use Rattle.std.specs.Prelude.{slice_get}
use Rattle.std.proofs.lemmas.Iterator.Adapters.{YieldsList-from_vec}
use Rattle.std.proofs.lemmas.Iterator.Consumers.{YieldsList-turn, YieldsList-end}
use Rattle.std.proofs.lemmas.List.{length-append}
use Rattle.port_base.specs.declared.sink.Sink as sink
use Rattle.port_base.specs.declared.source.Source as source
use Rattle.plan_file.specs.declared.plan.Plan.{Plan}
use Rattle.network_laws.specs.Networks.{FibreEnds}
use Rattle.network_run.specs.declared.site.Site.{Site}
use Rattle.network_carry.specs.Opening.{SiteOpens}
use Rattle.network_carry.proofs.Opened.{OpenedBelow, opened_all, opened_more, opened_none}
use Rattle.otn_network.proofs.sites.open_sites.Goals as goal

-- a node more, over the fibres as they are
one_more : {P K : Type 0} (p : source.Ghosts P) (k : sink.Ghosts K) (fibres known : List FibreEnds) (plans : List Plan) (n index : ℕ)
    (olds news : List (Site P K)) (plan : Plan) (site : Site P K) → known ≡ fibres → index ≡ length olds → slice_get plans index ≡ Some plan
    → SiteOpens p k known index plan site → news ≡ olds ++ site ∷ [] → OpenedBelow p k fibres plans n olds → OpenedBelow p k fibres plans (n + 1) news
one_more p k fibres known plans n index olds news plan site same at has opens more before =
    let here : index ≡ n = at ∙ before.count in
    subst (OpenedBelow p k fibres plans (n + 1)) (sym more)
    (opened_more p k fibres plans n olds plan site (subst (λ i. slice_get plans i ≡ Some plan) here has)
    (subst (λ i. SiteOpens p k fibres i plan site) here (subst (λ l. SiteOpens p k l index plan site) same opens)) before)

pub loop-bays-init : goal.loop-bays-init
loop-bays-init g c =
    let none : c.new-sites.result.items ≡ [] = search rules in
    record {
      opened = subst (OpenedBelow g.P.Source g.K.Sink c.args.whole.now c.args.joined.now.plans.items 0) (sym none)
          (opened_none g.P.Source g.K.Sink c.args.whole.now c.args.joined.now.plans.items);
    }

pub plan-requires : goal.plan-requires
plan-requires g c =
    let turn = YieldsList-turn (YieldsList-from_vec {s = c.into_iter-bays-iterator.result} c.args.places.items (search rules) (search rules))
    c.loop-bays.yielded c.loop-bays.bays-iterator c.loop-bays.yielded_by c.next.result c.next.new.self c.in-Some.bays c.in-Some.is c.next.ensures.steps in
    let less = turn.0 in
    let count = c.loop-bays.invariant.opened.count in
    omega arith

pub loop-bays-preserved : goal.loop-bays-preserved
loop-bays-preserved g c = record {
  opened = subst (λ n. OpenedBelow g.P.Source g.K.Sink c.args.whole.now c.args.joined.now.plans.items n c.push.new.self.items)
      (sym (length-append c.loop-bays.yielded (c.in-Some.bays ∷ [])))
      (one_more g.P.Source g.K.Sink c.args.whole.now c.args.whole.now c.args.joined.now.plans.items (length c.loop-bays.yielded)
      c.len-index.result c.loop-bays.sites.items c.push.new.self.items c.plan.result.now c.in_ok-site.site refl (search rules)
      c.plan.ensures.at c.in_ok-site.ensures.opens c.in_ok-push.ensures.items c.loop-bays.invariant.opened);
}

pub returns : goal.returns
returns g c =
    let end = YieldsList-end (YieldsList-from_vec {s = c.into_iter-bays-iterator.result} c.args.places.items (search rules) (search rules))
    c.loop-bays.yielded c.loop-bays.bays-iterator c.loop-bays.yielded_by c.next.result c.next.new.self c.in-None.is c.next.ensures.steps in
    opened_all g.P.Source g.K.Sink c.args.whole.now c.args.joined.now.plans.items c.loop-bays.sites.items
    (subst (λ n. OpenedBelow g.P.Source g.K.Sink c.args.whole.now c.args.joined.now.plans.items n c.loop-bays.sites.items)
    (end.1 ∙ c.requires.each) c.loop-bays.invariant.opened)
