use Rattle.std.proofs.Common.{◌≡◌, ◌*◌, length, sym, ◌∙◌}
use Rattle.frame_geometry.specs.Loans.{after_loan-whole}
use Rattle.frame_overhead.proofs.Puts.{put_first}
use Rattle.frame_overhead.proofs.runs.put_overhead.Goals as goal

pub returns-clause-put : goal.returns-clause-put
returns-clause-put g c =
    let lent = c.as_bytes_mut.ensures in
    let is = c.put_at.ensures in
    let same = lent.bytes in
    let size : length c.put_at.new.into ≡ 4 * g.row.COLS = c.put_at.auto.into ∙ lent.size in
    rw (after_loan-whole g.row.COLS c.args.frame.now c.put_at.new.into size)
    (rw (sym same) (put_first g.row.COLS c.args.row c.args.bytes.now c.as_bytes_mut.result.now c.put_at.new.into
    c.requires.row_low c.requires.row_high lent.width c.requires.size c.put_at.auto.into is.before is.run is.after))
