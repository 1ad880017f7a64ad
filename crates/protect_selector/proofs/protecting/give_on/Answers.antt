use Rattle.std.proofs.Common.{◌≡◌, ◌≤◌, ◌+◌, ◌-◌, ℕ, List, [], ◌∷◌, ◌++◌, drop, length, slice_range, length-take, length-drop, sym, subst, rules, arith}
use Rattle.port_base.specs.OutPlace.{out_view}
use Rattle.tributary_model.proofs.Ranges.{back_of}
use Rattle.tributary_line.specs.FeedTurn.{FeedStands, Completes}
use Rattle.protect_selector.specs.OfLines.{bytes_of}
use Rattle.protect_selector.specs.declared.side.Side.{Side}
use Rattle.protect_selector.proofs.protecting.give_on.Goals as goal

-- a range without its first bytes
rest_of : (items : List ℕ) (first last skip : ℕ) → first ≤ last → last ≤ length items → skip ≤ length (slice_range items first last)
    → slice_range items (first + skip) last ≡ drop skip (slice_range items first last)
rest_of items first last skip ordered within few =
    let size : length (slice_range items first last) ≡ last - first = simp (length-take, length-drop) (omega arith) in
    sym (back_of items first last skip (omega arith))

pub returns-in-Working-clause-stands : goal.returns-in-Working-clause-stands
returns-in-Working-clause-stands g c =
    let chosen = λ (side : Side). bytes_of side (slice_range c.args.working_room.now.items c.args.working.start c.args.working.end) (slice_range c.args.protection_room.now.items c.args.protection.start c.args.protection.end) in
    let whole : c.args.working_room.now.len ≡ length c.args.working_room.now.items = search rules in
    let few = subst (λ side. c.args.choice.skip ≤ length (chosen side)) c.in-Working.is c.requires.skip in
    let same = rest_of c.args.working_room.now.items c.args.working.start c.args.working.end c.args.choice.skip c.requires.working_order (subst (λ k. c.args.working.end ≤ k) whole c.requires.working_within) few in
    subst (λ side. (own : _) (first : _) (turns : List (List ℕ)) → FeedStands own first (out_view g.O.Sink c.args.place.now) turns c.args.feed.now → Completes own turns (drop c.args.choice.skip (chosen side))
    → FeedStands own first (out_view g.O.Sink c.turn.new.place) (turns ++ drop c.args.choice.skip (chosen side) ∷ []) c.turn.new.self) (sym c.in-Working.is)
    (subst (λ (bytes : List ℕ). (own : _) (first : _) (turns : List (List ℕ)) → FeedStands own first (out_view g.O.Sink c.args.place.now) turns c.args.feed.now → Completes own turns bytes
    → FeedStands own first (out_view g.O.Sink c.turn.new.place) (turns ++ bytes ∷ []) c.turn.new.self) same c.turn.ensures.stands)

pub returns-in-Protection-clause-stands : goal.returns-in-Protection-clause-stands
returns-in-Protection-clause-stands g c =
    let chosen = λ (side : Side). bytes_of side (slice_range c.args.working_room.now.items c.args.working.start c.args.working.end) (slice_range c.args.protection_room.now.items c.args.protection.start c.args.protection.end) in
    let whole : c.args.protection_room.now.len ≡ length c.args.protection_room.now.items = search rules in
    let few = subst (λ side. c.args.choice.skip ≤ length (chosen side)) c.in-Protection.is c.requires.skip in
    let same = rest_of c.args.protection_room.now.items c.args.protection.start c.args.protection.end c.args.choice.skip c.requires.protection_order (subst (λ k. c.args.protection.end ≤ k) whole c.requires.protection_within) few in
    subst (λ side. (own : _) (first : _) (turns : List (List ℕ)) → FeedStands own first (out_view g.O.Sink c.args.place.now) turns c.args.feed.now → Completes own turns (drop c.args.choice.skip (chosen side))
    → FeedStands own first (out_view g.O.Sink c.turn-in-Protection.new.place) (turns ++ drop c.args.choice.skip (chosen side) ∷ []) c.turn-in-Protection.new.self) (sym c.in-Protection.is)
    (subst (λ (bytes : List ℕ). (own : _) (first : _) (turns : List (List ℕ)) → FeedStands own first (out_view g.O.Sink c.args.place.now) turns c.args.feed.now → Completes own turns bytes
    → FeedStands own first (out_view g.O.Sink c.turn-in-Protection.new.place) (turns ++ bytes ∷ []) c.turn-in-Protection.new.self) same c.turn-in-Protection.ensures.stands)
