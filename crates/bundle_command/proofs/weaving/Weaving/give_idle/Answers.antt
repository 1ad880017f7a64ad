use Rattle.std.proofs.Common.{◌≡◌, ◌≤◌, ◌+◌, ◌/◌, ◌++◌, ◌∙◌, ℕ, List, ap, length, refl, subst, sym, arith}
use Rattle.otn_base.specs.Counts.{saturated}
use Rattle.gfp_linear.specs.Weaver.{Woven, HasWoven, idles_on}
use Rattle.bundle_command.proofs.Idles.{idles_stand}
use Rattle.bundle_command.proofs.weaving.Weaving.give_idle.Goals as goal

pub returns-clause-stands : goal.returns-clause-stands
returns-clause-stands c = λ clients first now emitted h.
    let into = c.give_idle.new.into in
    let same : length c.args.into.now ≡ length into = sym c.give_idle.ensures.size in
    let woven : (cids : List ℕ) (at : Woven) (emitted : List ℕ) → HasWoven cids at emitted c.args.self.now.maker → HasWoven cids (idles_on ((length into + 3) / 4) at) (emitted ++ into) c.give_idle.new.self =
    λ cids at emitted w. subst (λ n. HasWoven cids (idles_on ((n + 3) / 4) at) (emitted ++ into) c.give_idle.new.self) same (c.give_idle.ensures.woven cids at emitted w) in
    idles_stand clients first now emitted into c.args.self.now
    (record { channels = c.args.self.now.channels; maker = c.give_idle.new.self; emitted = c.saturating_add-self.result; end = c.args.self.now.end })
    c.requires.idle c.requires.over (let room = c.requires.room in omega (arith, same, room)) woven refl refl c.saturating_add-self.ensures h
