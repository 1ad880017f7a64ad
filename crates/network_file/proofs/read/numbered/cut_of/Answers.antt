use Rattle.std.proofs.Common.{rules}
use Rattle.network_file.proofs.Turns.{read_back}
use Rattle.network_file.proofs.read.numbered.cut_of.Goals as goal

pub cut_in-requires-clause-from : goal.cut_in-requires-clause-from
cut_in-requires-clause-from c =
    let turn = (c.requires.turns (c.in-Some.from, c.in-Some.until) (search rules)).0 in
    rw (read_back c.in-Some.from turn) turn

pub cut_in-requires-clause-until : goal.cut_in-requires-clause-until
cut_in-requires-clause-until c =
    let turn = (c.requires.turns (c.in-Some.from, c.in-Some.until) (search rules)).1 in
    rw (read_back c.in-Some.until turn) turn
