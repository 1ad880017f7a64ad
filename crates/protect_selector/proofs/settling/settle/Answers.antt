use Rattle.std.proofs.Common.{refl}
use Rattle.port_base.proofs.BaysLaws.{line_in_seen, line_in_set, only_line_in}
use Rattle.port_base.specs.InPlace.{in_view}
use Rattle.port_base.specs.Racks.{bays_view, with_line_in}
use Rattle.protect_selector.proofs.ProtectTurns.{only_both, seen_of}
use Rattle.protect_selector.proofs.ProtectEnds.{settled_by}
use Rattle.protect_selector.proofs.settling.settle.Goals as goal

pub returns-clause-settled : goal.returns-clause-settled
returns-clause-settled g c = λ report.
    let bays = c.args.bays.now in
    let mid = with_line_in bays 0 c.ask_more-working.new.place in
    let last = with_line_in mid 1 c.ask_more-protection.new.place in
    let seen = seen_of (bays_view g.I.Source g.O.Sink bays) (bays_view g.I.Source g.O.Sink mid) (bays_view g.I.Source g.O.Sink last)
    (in_view g.I.Source c.line_in_mut.result.now) (in_view g.I.Source c.line_in_mut-2.result.now) (in_view g.I.Source c.ask_more-working.new.place) (in_view g.I.Source c.ask_more-protection.new.place)
    (only_line_in g.I.Source g.O.Sink bays 0 c.ask_more-working.new.place) (only_line_in g.I.Source g.O.Sink mid 1 c.ask_more-protection.new.place)
    (line_in_seen g.I.Source g.O.Sink bays 0 c.line_in_mut.result.now c.line_in_mut.ensures.value) (line_in_set g.I.Source g.O.Sink bays 0 c.line_in_mut.result.now c.ask_more-working.new.place c.line_in_mut.ensures.value)
    (line_in_seen g.I.Source g.O.Sink mid 1 c.line_in_mut-2.result.now c.line_in_mut-2.ensures.value) (line_in_set g.I.Source g.O.Sink mid 1 c.line_in_mut-2.result.now c.ask_more-protection.new.place c.line_in_mut-2.ensures.value) in
    settled_by c.args.parts.now (bays_view g.I.Source g.O.Sink bays) (bays_view g.I.Source g.O.Sink mid) (bays_view g.I.Source g.O.Sink last) report
    (in_view g.I.Source c.line_in_mut.result.now) (in_view g.I.Source c.line_in_mut-2.result.now) (in_view g.I.Source c.ask_more-working.new.place) (in_view g.I.Source c.ask_more-protection.new.place)
    c.args.parts.now.working.line c.args.parts.now.protection.line c.ask_more-working.result c.ask_more-protection.result c.has_dead-dead.result c.either.result c.ended_by.result seen refl refl c.ask_more-working.ensures c.ask_more-protection.ensures
    (c.has_dead-dead.ensures report) c.either.ensures c.ended_by.ensures.value

pub returns-clause-alone : goal.returns-clause-alone
returns-clause-alone g c =
    let bays = c.args.bays.now in
    let mid = with_line_in bays 0 c.ask_more-working.new.place in
    only_both _ _ _ (only_line_in g.I.Source g.O.Sink bays 0 c.ask_more-working.new.place) (only_line_in g.I.Source g.O.Sink mid 1 c.ask_more-protection.new.place)
