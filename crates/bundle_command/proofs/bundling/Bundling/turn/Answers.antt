use Rattle.std.proofs.Common.{◌≡◌, ◌≤◌, ◌∷◌, [], ◌++◌, ◌∙◌, List, ℕ, drop, length, slice_range, sym, subst, take, arith, rules}
use Rattle.std.proofs.lemmas.List.{length-take-le}
use Rattle.port_base.proofs.BaysLaws.{line_out_seen, line_out_set, only_line_out}
use Rattle.port_base.specs.OutPlace.{out_view}
use Rattle.port_base.specs.Racks.{bays_view, with_line_out}
use Rattle.port_base.specs.Views.{line_out_at}
use Rattle.tributary_line.specs.FeedTurn.{Completes, FeedStands}
use Rattle.bundle_command.specs.BundleStream.{first_slot}
use Rattle.bundle_command.proofs.Lists.{front_range}
use Rattle.bundle_command.proofs.Turning.{ready_frames, turn_gone}
use Rattle.bundle_command.proofs.bundling.Bundling.turn.Goals as goal

pub fill_front-requires-clause-ready : goal.fill_front-requires-clause-ready
fill_front-requires-clause-ready g c = ready_frames (bays_view g.I.Source g.O.Sink c.args.bays.now) c.args.self.now c.requires.ready

pub returns-clause-gone : goal.returns-clause-gone
returns-clause-gone g c = λ clients first t h.
    let was = bays_view g.I.Source g.O.Sink c.args.bays.now in
    let mid = bays_view g.I.Source g.O.Sink c.fill_front.new.bays in
    let is = bays_view g.I.Source g.O.Sink (with_line_out c.fill_front.new.bays 0 c.turn.new.place) in
    let into = c.fill_front.new.into in
    let len = c.args.room.now.len in
    let whole : length into ≡ len = c.fill_front.ensures.size ∙ c.deref_mut.ensures.len in
    let room : 15168 ≤ len = (let r = c.requires.room in omega arith) in
    let rest = drop (length into) c.args.room.now.items in
    let front : slice_range (take len (into ++ rest)) 0 15168 ≡ take 15168 into = front_range into rest len 15168 whole in
    let size : length (take 15168 into) ≡ 15168 = length-take-le 15168 into (omega (arith, whole, room)) in
    let seen = line_out_seen g.I.Source g.O.Sink c.fill_front.new.bays 0 c.line_out_mut.result.now c.line_out_mut.ensures.value in
    let set = line_out_set g.I.Source g.O.Sink c.fill_front.new.bays 0 c.line_out_mut.result.now c.turn.new.place c.line_out_mut.ensures.value in
    turn_gone clients first was mid is (take 15168 into) t c.args.self.now (record { framing = c.fill_front.new.framing; feed = c.turn.new.self }) size c.fill_front.ensures.alone
    (only_line_out g.I.Source g.O.Sink c.fill_front.new.bays 0 c.turn.new.place) (λ due f. c.fill_front.ensures.stands clients first due f)
    (λ turns fed fits. subst (λ v. FeedStands first_slot (line_out_at first 0) v (turns ++ take 15168 into ∷ []) c.turn.new.self) (sym set)
    (subst (λ (b : List ℕ). Completes first_slot turns b → FeedStands first_slot (line_out_at first 0) (out_view g.O.Sink c.turn.new.place) (turns ++ b ∷ []) c.turn.new.self) front
    (c.turn.ensures.stands first_slot (line_out_at first 0) turns (subst (λ v. FeedStands first_slot (line_out_at first 0) v turns c.args.self.now.feed) seen fed)) fits)) h
