use Rattle.std.proofs.Common.{◌≡◌, ◌∙◌, [], ◌++◌, ap, sym, refl}
use Rattle.std.specs.Option.{is_some}
use Rattle.gfp_frames.specs.Reader.{news}
use Rattle.gfp_linear.specs.ChannelArrivals.{arrival_in, arrivals_in, channel_arrivals}
use Rattle.gfp_linear.proofs.Arrived.{Searched, rest_from, reads_with, arrives_with, before_with, passed_more, part_within, lent_one, lent_none, no_arrival}
use Rattle.gfp_linear.proofs.reader.ChannelReader.find_arrival.Goals as goal
use Rattle.gfp_linear.proofs.reader.ChannelReader.find_arrival.Goals.{else-found-via-then-found+else-arrives, else-found-via-else-found}

pub returns-then-arrives-clause-read : goal.returns-then-arrives-clause-read
returns-then-arrives-clause-read c =
    let new = c.find_area-count.new.self in
    let areas = news c.find_area-count.result.1 new in
    let e = c.find_area-count.ensures in
    let bytes = c.args.bytes.now in
    let at = c.loop-at.at in
    let mid = c.loop-at.self-inside.reader in
    let n = c.find_area-count.result.0 in
    let searched : Searched (rest_from bytes at) mid n areas new = record { has_read = e.read; areas_are = e.areas; before = e.none_before; within = e.within } in
    reads_with bytes c.args.self.now mid new at n areas c.loop-at.invariant.passed searched

pub returns-then-arrives-clause-arrivals : goal.returns-then-arrives-clause-arrivals
returns-then-arrives-clause-arrivals c = λ read has.
    let new = c.find_area-count.new.self in
    let areas = news c.find_area-count.result.1 new in
    let e = c.find_area-count.ensures in
    let bytes = c.args.bytes.now in
    let at = c.loop-at.at in
    let mid = c.loop-at.self-inside.reader in
    let n = c.find_area-count.result.0 in
    let searched : Searched (rest_from bytes at) mid n areas new = record { has_read = e.read; areas_are = e.areas; before = e.none_before; within = e.within } in
    arrives_with bytes c.args.self.now mid new at n areas c.loop-at.invariant.passed searched read has
    ∙ ap (λ y. channel_arrivals read ++ y) (lent_one c.find_area-count.result.1 new new.area (arrival_in new.area) c.if-found.true refl refl)

pub returns-then-arrives-clause-none_before : goal.returns-then-arrives-clause-none_before
returns-then-arrives-clause-none_before c =
    let new = c.find_area-count.new.self in
    let areas = news c.find_area-count.result.1 new in
    let e = c.find_area-count.ensures in
    let bytes = c.args.bytes.now in
    let at = c.loop-at.at in
    let mid = c.loop-at.self-inside.reader in
    let n = c.find_area-count.result.0 in
    let searched : Searched (rest_from bytes at) mid n areas new = record { has_read = e.read; areas_are = e.areas; before = e.none_before; within = e.within } in
    before_with bytes c.args.self.now mid new at n areas c.loop-at.invariant.passed searched

pub returns-then-arrives-clause-size : goal.returns-then-arrives-clause-size
returns-then-arrives-clause-size c = λ _. (c.find_area-count.ensures.size c.if-found.true).1

pub loop-at-preserved : goal.loop-at-preserved
loop-at-preserved c =
    let new = c.find_area-count.new.self in
    let areas = news c.find_area-count.result.1 new in
    let e = c.find_area-count.ensures in
    let bytes = c.args.bytes.now in
    let at = c.loop-at.at in
    let mid = c.loop-at.self-inside.reader in
    let n = c.find_area-count.result.0 in
    let searched : Searched (rest_from bytes at) mid n areas new = record { has_read = e.read; areas_are = e.areas; before = e.none_before; within = e.within } in
    let none : arrivals_in areas ≡ [] = elim c.else-found.branch [
      | else-found-via-then-found+else-arrives w ↦
          lent_one c.find_area-count.result.1 new new.area (arrival_in new.area) w.if-found.true refl refl
          ∙ no_arrival (arrival_in new.area) (sym (w.arrives.ensures ∙ ap (λ a. is_some (arrival_in a)) w.area.ensures) ∙ w.if-arrives.false)
      | else-found-via-else-found w ↦ lent_none c.find_area-count.result.1 new w.if-found.false
    ] in
    record {
      within = part_within bytes at n c.loop-at.invariant.within e.within;
      passed = passed_more bytes c.args.self.now mid new at n areas c.loop-at.invariant.passed searched none;
    }
