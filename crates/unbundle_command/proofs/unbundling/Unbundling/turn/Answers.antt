use Rattle.std.proofs.Common.{◌≡◌, ◌≤◌, ◌-◌, ◌++◌, ℕ, List, length, slice_range, sym, subst, arith, rules}
use Rattle.odu_client.specs.View.{aligner_state}
use Rattle.port_base.proofs.BaysLaws.{line_in_seen, line_in_set, only_line_in}
use Rattle.port_base.specs.InPlace.{in_view}
use Rattle.port_base.specs.Racks.{bays_view, with_line_in}
use Rattle.port_base.specs.Views.{BaysView}
use Rattle.unbundle_command.specs.Steps.Receiving.{HoldsAfter}
use Rattle.unbundle_command.proofs.Turns.{turn_gone, only_all, span}
use Rattle.unbundle_command.proofs.unbundling.Unbundling.turn.Goals as goal

pub returns-clause-gone : goal.returns-clause-gone
returns-clause-gone g c = λ first read t stood.
    let bays = c.args.bays.now in
    let mid = with_line_in bays 0 c.turn-emitted.new.place in
    let value = c.line_in_mut.ensures.value in
    let room = c.turn-emitted.new.room.items in
    let emitted = slice_range room c.turn-emitted.result.start c.turn-emitted.result.end in
    let old = c.args.self.now in
    let new = c.take_all.new in
    let whole : c.turn-emitted.new.room.len ≡ length room = search rules in
    let size : length emitted ≡ c.turn-emitted.result.end - c.turn-emitted.result.start =
    sym (span room c.turn-emitted.result.start c.turn-emitted.result.end c.turn-emitted.ensures.in_order (subst (λ k. c.turn-emitted.result.end ≤ k) whole c.turn-emitted.ensures.within)) in
    let few : length emitted ≤ 15233 = omega (arith, size, c.turn-emitted.ensures.within, c.turn-emitted.ensures.room_stays, c.requires.room) in
    let same : c.deref.result.now ≡ room = search rules in
    let Reads : List ℕ → Type 0 = λ items. (first : BaysView) (read : List ℕ) → HoldsAfter first (bays_view g.I.Source g.O.Sink mid) read (aligner_state old.aligner) old.reader old.outputs
    → HoldsAfter first (bays_view g.I.Source g.O.Sink new.bays) (read ++ slice_range items c.turn-emitted.result.start c.turn-emitted.result.end) (aligner_state new.aligner) new.reader new.outputs in
    turn_gone first (bays_view g.I.Source g.O.Sink bays) (bays_view g.I.Source g.O.Sink mid) (bays_view g.I.Source g.O.Sink c.take_all.new.bays) read t (in_view g.I.Source c.line_in_mut.result.now) (in_view g.I.Source c.turn-emitted.new.place)
    c.args.self.now c.turn-emitted.new.self c.take_all.new.aligner c.take_all.new.reader c.take_all.new.outputs emitted (only_line_in g.I.Source g.O.Sink bays 0 c.turn-emitted.new.place)
    (line_in_seen g.I.Source g.O.Sink bays 0 c.line_in_mut.result.now value) (line_in_set g.I.Source g.O.Sink bays 0 c.line_in_mut.result.now c.turn-emitted.new.place value) c.take_all.ensures.alone few
    c.turn-emitted.ensures.moves (subst Reads same c.take_all.ensures.holds) stood

pub returns-clause-alone : goal.returns-clause-alone
returns-clause-alone g c = only_all _ _ _ (only_line_in g.I.Source g.O.Sink c.args.bays.now 0 c.turn-emitted.new.place) c.take_all.ensures.alone
