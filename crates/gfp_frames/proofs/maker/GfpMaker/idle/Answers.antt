use Rattle.std.proofs.Common.{◌≡◌, drop, ap, sym, ◌∙◌, arith}
use Rattle.std.proofs.lemmas.Bool.{leb-true, le-leb}
use Rattle.gfp_frames.proofs.Lists.{nothing_left, all_dropped}
use Rattle.gfp_frames.proofs.maker.GfpMaker.idle.Goals as goal

pub returns : goal.returns
returns c =
    let is : drop c.self.inside.emitted c.self.inside.frame.items ≡ c.args.self.now.hand = ap (λ m. m.hand) c.self.view_is in (
      λ test. sym is ∙ all_dropped c.self.inside.frame.items c.self.inside.emitted (let h = leb-true c.len.result c.self.inside.emitted test in omega arith),
      λ none. le-leb c.len.result c.self.inside.emitted (let h = nothing_left c.self.inside.frame.items c.self.inside.emitted (is ∙ none) in omega arith),
    )
