use Rattle.std.proofs.Common.{◌∙◌, ◌++◌, ℕ, List, ap, append_assoc}
use Rattle.std.specs.List.{flat_map}
use Rattle.view_events.specs.EventText.{line_sums_text, sums_text}
use Rattle.view_events.proofs.Sums.{sums_are}
use Rattle.view_events.proofs.events.Events.end.Goals as goal

pub returns : goal.returns
returns c said stands =
    let s = c.args.self.now in
    let was = c.args.out.now.items in
    let line = c.args.line.now in
    let sums : List ℕ = line_sums_text s.line ++ flat_map sums_text s.tributaries.items in
    c.in_ok-put_sums.ensures ∙ ap (λ t. t ++ sums) c.in_ok-extend_from_slice.ensures.items ∙ append_assoc was line sums
    ∙ ap (λ t. was ++ (line ++ t)) (sums_are said s stands)
