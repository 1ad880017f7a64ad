use Rattle.std.proofs.Common.{sym}
use Rattle.odu_path.proofs.check.PathCheck.take_with.Goals as goal

pub returns : goal.returns
returns g c = λ frames has.
    let inside = rw (sym c.self.view_is) at has in
    c.take.ensures g.row.COLS 3 11 frames c.args.frame.now inside c.overhead.ensures c.requires
