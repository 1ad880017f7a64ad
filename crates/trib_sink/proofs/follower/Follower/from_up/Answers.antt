use Rattle.std.proofs.Common.{◌++◌, drop}
use Rattle.trib_sink.proofs.Fits.{later_due, first_pending, next_due}
use Rattle.trib_sink.proofs.follower.Follower.from_up.Goals as goal

pub go_on-requires-clause-left : goal.go_on-requires-clause-left
go_on-requires-clause-left c =
    let now = c.args.self.now in
    next_due now.extraction.slots now.extraction.pending (drop c.in-Some-due.due now.extraction.fresh) now.standing c.args.said c.in-Some.next c.args.next c.requires.standing c.requires.fits c.requires.next c.in-Some.is

pub go_on-requires-clause-due : goal.go_on-requires-clause-due
go_on-requires-clause-due c =
    let now = c.args.self.now in
    later_due now.extraction.slots c.in-Some-due.due now.extraction.pending now.standing c.args.said c.requires.standing c.requires.fits c.in-Some-due.is

pub go_first-requires-clause-pending : goal.go_first-requires-clause-pending
go_first-requires-clause-pending c =
    let now = c.args.self.now in
    first_pending now.extraction.slots now.extraction.pending now.standing c.args.said c.requires.standing c.requires.fits c.in-None-due.is

pub go_first-requires-clause-left : goal.go_first-requires-clause-left
go_first-requires-clause-left c =
    let now = c.args.self.now in
    next_due now.extraction.slots now.extraction.pending (now.extraction.pending ++ now.extraction.fresh) now.standing c.args.said c.in-Some.next c.args.next c.requires.standing c.requires.fits c.requires.next c.in-Some.is
