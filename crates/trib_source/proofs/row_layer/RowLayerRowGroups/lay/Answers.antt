use Rattle.std.proofs.Common.{◌≡◌, ◌+◌, ◌*◌, ◌∙◌, length, get_or, ap, sym, subst}
use Rattle.trib_source.specs.Steps.Rows.{data_bytes, byte_laid}
use Rattle.trib_source.proofs.RowsLaid.{length-groups_laid, laid_all}
use Rattle.trib_source.proofs.row_layer.RowLayerRowGroups.lay.Goals as goal

pub lay_groups-requires-clause-fresh : goal.lay_groups-requires-clause-fresh
lay_groups-requires-clause-fresh c =
    let i = c.self.inside in
    c.self.invariant.fresh
    ∙ sym (ap (λ n. data_bytes i.m n i.asked i.cycles) c.at-runner.ensures.cm)
    ∙ sym (ap (λ a. data_bytes i.m c.at-runner.result.cm a i.cycles) c.at-runner.ensures.asked)

pub lay_groups-requires-clause-size : goal.lay_groups-requires-clause-size
lay_groups-requires-clause-size c =
    let i = c.self.inside in
    c.requires ∙ sym (ap length c.self.view_is) ∙ length-groups_laid i.m i.cm i.asked i.cycles i.fresh.now

pub returns : goal.returns
returns c =
    let i = c.self.inside in
    let into = c.lay_groups.new.into in
    let size : length into ≡ i.m * i.cycles =
    c.lay_groups.auto.into ∙ c.requires ∙ sym (ap length c.self.view_is) ∙ length-groups_laid i.m i.cm i.asked i.cycles i.fresh.now in
    laid_all i.m i.cm i.asked i.cycles i.fresh.now into c.self.invariant.some size
    (λ x k l h. subst (λ n. get_or into (i.m * x + k) 0 ≡ byte_laid i.m n i.asked i.fresh.now x k) c.at-runner.ensures.cm
    (subst (λ a. get_or into (i.m * x + k) 0 ≡ byte_laid i.m c.at-runner.result.cm a i.fresh.now x k) c.at-runner.ensures.asked (c.lay_groups.ensures.bytes x k l h)))
    ∙ c.self.view_is
