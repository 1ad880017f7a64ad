use Rattle.std.proofs.Common.{◌≤◌, rules, refl, arith}
use Rattle.number_lists.proofs.Reading.{all_below, all_read, behind_comma, no_last_number, no_number, read_on}
use Rattle.number_lists.proofs.list.numbers_of.Goals as goal

pub returns-in_err-push_number-clause-none : goal.returns-in_err-push_number-clause-none
returns-in_err-push_number-clause-none g c =
    let i = c.loop-comma.invariant in
    let small : c.args.limit ≤ 256 = omega (arith, c.ranges.limit.fits) in
    let none = no_number c.args.limit g.row.N c.args.text.now c.loop-comma.list.items c.loop-comma.rest.now c.loop-comma.comma small i.0 i.1 c.loop-comma-test.true c.in_err-push_number.ensures.none in
    search rules

pub loop-comma-preserved : goal.loop-comma-preserved
loop-comma-preserved g c =
    let i = c.loop-comma.invariant in
    let pushed = c.in_ok-push_number.ensures.pushed in (
      read_on c.args.limit c.args.text.now c.loop-comma.list.items c.loop-comma.rest.now c.push_number.new.list.items c.loop-comma.comma pushed.0 i.0 i.1 c.loop-comma-test.true
          pushed.1 pushed.2 pushed.3 _ (behind_comma c.loop-comma.rest.now _ c.loop-comma.comma refl c.loop-comma-test.true),
      c.comma_in-comma-in-loop-comma.ensures.comma,
      c.comma_in-comma-in-loop-comma.ensures.within,
    )

pub returns-in_err-push_number-2-clause-none : goal.returns-in_err-push_number-2-clause-none
returns-in_err-push_number-2-clause-none g c =
    let i = c.loop-comma.invariant in
    let small : c.args.limit ≤ 256 = omega (arith, c.ranges.limit.fits) in
    let none = no_last_number c.args.limit g.row.N c.args.text.now c.loop-comma.list.items c.loop-comma.rest.now c.loop-comma.comma small i.0 i.1 c.loop-comma-test.false c.in_err-push_number-2.ensures.none in
    search rules

pub returns-clause-numbers : goal.returns-clause-numbers
returns-clause-numbers g c =
    let i = c.loop-comma.invariant in
    let pushed = c.in_ok-push_number-2.ensures.pushed in
    let now = c.push_number-2.new.list.items in (
      all_below c.args.limit g.row.N c.loop-comma.list.items now pushed.0 i.0.below pushed.2 pushed.3 c.in_ok-push_number-2.ensures.room,
      all_read c.args.limit c.args.text.now c.loop-comma.list.items c.loop-comma.rest.now now c.loop-comma.comma pushed.0 i.0 i.1 c.loop-comma-test.false pushed.1 pushed.3,
    )
