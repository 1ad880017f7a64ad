use Rattle.std.proofs.Common.{rules, refl, ◌≡◌, ◌∙◌, ◌+◌, ◌∷◌, Bool, ap}
use Rattle.std.specs.Prelude.{◌&&◌, not, if◌then◌else◌, filter}
use Rattle.std.specs.List.{prefix_len}
use Rattle.view_events.specs.Tallies.{capped}
use Rattle.view_events.specs.TributaryEvents.{is_up, is_waiting, is_down, state_before, times_down, turns_down, most_turns_down}
use Rattle.view_events.proofs.Tallies.{counted_more, listed_more, max_of_both, run_more}
use Rattle.view_events.proofs.tributary_events.TributaryTally.take.Goals as goal

pub returns-clause-counts : goal.returns-clause-counts
returns-clause-counts c past stands =
    let old = c.args.self.now in
    let said = c.args.said in
    let goes : Bool = is_down said.state && not (is_down (state_before past)) in
    let went : c.goes_down.result ≡ goes = c.goes_down.ensures ∙ ap (λ s. is_down said.state && not (is_down s)) stands.state in
    let row : c.run_on-self-2.result ≡ turns_down (said ∷ past) =
    run_more (is_down said.state) old.row (prefix_len (λ turn. is_down turn.state) past) c.run_on-self-2.result stands.row
    (c.run_on-self-2.ensures ∙ ap (λ b. if b then capped (old.row + 1) else 0) c.is_down-2.ensures) in
    record {
      state = refl;
      without = run_more (not (is_up said.state)) old.without (prefix_len (λ turn. not (is_up turn.state)) past) c.run_on-self.result
          stands.without (c.run_on-self.ensures ∙ ap (λ b. if not b then capped (old.without + 1) else 0) c.is_up.ensures);
      up = listed_more (is_up said.state) said (filter (λ turn. is_up turn.state) past) old.up c.counted-self-2.result stands.up
          (c.counted-self-2.ensures ∙ ap (λ b. if b then capped (old.up + 1) else old.up) c.is_up-2.ensures);
      waiting = listed_more (is_waiting said.state) said (filter (λ turn. is_waiting turn.state) past) old.waiting c.counted-self-3.result
          stands.waiting (c.counted-self-3.ensures ∙ ap (λ b. if b then capped (old.waiting + 1) else old.waiting) c.is_waiting.ensures);
      down = listed_more (is_down said.state) said (filter (λ turn. is_down turn.state) past) old.down c.counted-self-4.result
          stands.down (c.counted-self-4.ensures ∙ ap (λ b. if b then capped (old.down + 1) else old.down) c.is_down.ensures);
      times = counted_more goes old.times (times_down past) c.counted-self.result stands.times
          (c.counted-self.ensures ∙ ap (λ b. if b then capped (old.times + 1) else old.times) went);
      row = row;
      longest = max_of_both old.longest c.run_on-self-2.result (most_turns_down past) (turns_down (said ∷ past)) c.max-self.result
          stands.longest row (search rules);
      last = refl;
    }
