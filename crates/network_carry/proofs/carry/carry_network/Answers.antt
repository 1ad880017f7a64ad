use Rattle.std.proofs.Common.{◌≡◌, ◌∙◌, map, ap, subst}
use Rattle.std.specs.List.{Contains}
use Rattle.network_file.specs.Cuts.{whole_fibres}
use Rattle.network_carry.specs.Fillings.{new_filling}
use Rattle.network_carry.proofs.Began.{all_near, are_of, ran_so}
use Rattle.network_carry.proofs.carry.carry_network.Goals as goal

pub new_fillings-requires : goal.new_fillings-requires
new_fillings-requires g c = record {
  near = λ f has. all_near c.args.file.now c.requires.sound f (subst (λ l. Contains l f) (c.as_slice.ensures ∙ c.in_ok-whole.ensures) has);
}

pub returns-clause-ran : goal.returns-clause-ran
returns-clause-ran g c =
    ran_so g.P.Source g.K.Sink c.args.file.now c.args.plans.now c.args.sites.now.items c.do_all_turns.new.sites.items c.settle_all.new.sites.items
    c.in_ok-fillings.fillings.items c.do_all_turns.new.fillings.items c.in_ok-numbers.numbers.items c.requires.sound c.requires.count
    c.requires.network c.requires.opened (c.in_ok-fillings.ensures ∙ ap (map new_filling) (c.as_slice.ensures ∙ c.in_ok-whole.ensures)) c.do_all_turns.ensures.keeps
    c.do_all_turns.ensures.full c.in_ok-numbers.ensures.settled

pub returns-clause-fibres : goal.returns-clause-fibres
returns-clause-fibres g c =
    are_of (whole_fibres c.args.file.now) c.in_ok-fillings.fillings.items c.do_all_turns.new.fillings.items
    (c.in_ok-fillings.ensures ∙ ap (map new_filling) (c.as_slice.ensures ∙ c.in_ok-whole.ensures)) c.do_all_turns.ensures.keeps.fibres
