use Rattle.crc_small.proofs.Vectors.{fold_vector, fold_lane}
use Rattle.crc_small.proofs.long_message.Window.fold.Goals as goal

pub returns-clause-vector : goal.returns-clause-vector
returns-clause-vector c =
    rw c.from_13-near.ensures
    (rw c.from_5-far.ensures
    (rw c.from_3-farther.ensures
    (rw c.from_15-alone.ensures
    (fold_vector c.args.self c.args.next c.requires.window c.requires.next))))

pub returns-clause-bytes : goal.returns-clause-bytes
returns-clause-bytes c =
    rw c.from_13-near.ensures
    (rw c.from_5-far.ensures
    (rw c.from_3-farther.ensures
    (rw c.from_15-alone.ensures
    (fold_lane c.args.self c.args.next c.requires.window c.requires.next))))
