-- The sums of all turns, by what was said of them.
use Rattle.std.proofs.Common.{◌≡◌, ◌∙◌, ℕ, List, [], ◌∷◌, ◌++◌, refl, ap}
use Rattle.std.specs.List.{flat_map}
use Rattle.view_events.specs.EventText.{line_sums_text, sums_text, tributary_sums_text}
use Rattle.view_events.specs.EventsOf.{OneSaid, Said, all_sums, line_numbers, one_sums, tributary_numbers}
use Rattle.view_events.specs.LineEvents.{LineStands}
use Rattle.view_events.specs.Stands.{EachStands, EventsStand}
use Rattle.view_events.specs.TributaryEvents.{TributaryStands}
use Rattle.view_events.specs.declared.events.Events.{Events}
use Rattle.view_events.specs.declared.line_events.LineTally.{LineTally}
use Rattle.view_events.specs.declared.said.TributarySaid.{TributarySaid}
use Rattle.view_events.specs.declared.said.TurnSaid.{TurnSaid}
use Rattle.view_events.specs.declared.tributary.Tributary.{Tributary}
use Rattle.view_events.specs.declared.tributary_events.TributaryTally.{TributaryTally}

line_are : (turns : List TurnSaid) (tally : LineTally) → LineStands turns tally → line_sums_text tally ≡ line_sums_text (line_numbers turns)
line_are turns tally h = cc (h.whole, h.lost, h.hunting, h.fas, h.sm, h.pm)

tributary_are : (past : List TributarySaid) (tally : TributaryTally) (label name : List ℕ) → label ≡ name → TributaryStands past tally
    → tributary_sums_text label tally ≡ tributary_sums_text name (tributary_numbers past)
tributary_are past tally label name same h =
    let k = h.counts in
    cc (same, h.first, k.up, k.waiting, k.down, k.times, k.longest, k.last)

each_are : (each : List OneSaid) (items : List Tributary) → EachStands each items → flat_map sums_text items ≡ flat_map one_sums each
each_are [] [] h = refl
each_are [] (t ∷ items) h = absurd h
each_are (one ∷ each) [] h = absurd h
each_are (one ∷ each) (t ∷ items) h =
    ap (λ xs. xs ++ flat_map sums_text items) (tributary_are one.past t.tally t.label.items one.label h.0.label h.0.stands)
    ∙ ap (λ xs. one_sums one ++ xs) (each_are each items h.1)

-- the numbers that were kept are those of all turns
pub sums_are : (said : Said) (events : Events) → EventsStand said events → line_sums_text events.line ++ flat_map sums_text events.tributaries.items ≡ all_sums said
unfolding all_sums
sums_are said events h =
    ap (λ xs. xs ++ flat_map sums_text events.tributaries.items) (line_are said.turns events.line h.line)
    ∙ ap (λ xs. line_sums_text (line_numbers said.turns) ++ xs) (each_are said.each events.tributaries.items h.each)
