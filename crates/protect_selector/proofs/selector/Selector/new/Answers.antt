use Rattle.std.proofs.Common.{◌≡◌, ◌%◌, ◌<◌, refl, sym, arith}
use Rattle.std.proofs.Math.Nat.{mod-eq_of_lt}
use Rattle.protect_selector.proofs.Turns.{selection_start}
use Rattle.protect_selector.proofs.selector.Selector.new.Goals as goal

pub returns : goal.returns
returns c =
    let start = selection_start c.args.m c.args.n in
    let none : 0 % c.args.m ≡ 0 = mod-eq_of_lt (let f : 0 < c.args.m = omega (arith, c.requires.some) in f) in
    record {
      slots = refl;
      waits = refl;
      up = omega arith;
      side = rw start refl;
      to_skip = rw start refl;
      due = rw start (sym none);
      working = sym none;
      protection = sym none;
    }
