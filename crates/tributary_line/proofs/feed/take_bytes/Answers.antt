use Rattle.std.proofs.Common.{rules, ◌≡◌, ◌≤◌, ◌+◌, ◌-◌, ◌*◌, ◌/◌, ◌∙◌, ℕ, List, [], ◌∷◌, ◌++◌, length, slice_range, length-take, length-drop, subst, sym, ap, arith}
use Rattle.tributary_model.specs.Carries.{sent}
use Rattle.tributary_model.specs.Places.{Tributary}
use Rattle.tributary_model.specs.Puts.{lengths_of}
use Rattle.trib_source.specs.Source.{StandsAfter}
use Rattle.tributary_line.proofs.FeedTurns.{all_taken}
use Rattle.tributary_line.proofs.feed.take_bytes.Goals as goal

span : (bytes : List ℕ) (first last : ℕ) → first ≤ last → last ≤ length bytes → length (slice_range bytes first last) ≡ last - first
span bytes first last ordered within = simp (length-take, length-drop) (omega arith)

pub returns-clause-stands : goal.returns-clause-stands
returns-clause-stands c = λ own turns filled h few.
    let s = c.args.source.now in
    let items = c.args.buffer.now.items in
    let first = c.args.bytes.start in
    let last = c.args.bytes.end in
    let whole : c.args.buffer.now.len ≡ length items = search rules in
    let size : length (slice_range items first last) ≡ last - first = span items first last c.requires.in_order (subst (λ k. last ≤ k) whole c.requires.within) in
    let fits : (sent (lengths_of turns) (length turns) + (last - first)) / length own.slots ≤ sent (lengths_of turns) (length turns) / length own.slots + 15232 =
    subst (λ k. (sent (lengths_of turns) (length turns) + k) / length own.slots ≤ sent (lengths_of turns) (length turns) / length own.slots + 15232) size few in
    let many : length s.slots.list ≡ length own.slots = sym (ap (λ (t : Tributary). length t.slots) h.own_is) in
    let free : c.room.result + s.cnd + 1 ≡ length own.slots * 15233 = c.room.ensures ∙ ap (λ m. m * 15233) many in
    let all : last - first ≤ c.room.result = all_taken (length own.slots) (sent (lengths_of turns) (length turns)) (last - first) c.room.result s.cnd free h.cnd fits in
    let end : first + c.min-count.result ≡ last = (let least = c.min-count.ensures in let ordered = c.requires.in_order in omega arith) in
    subst (λ last. StandsAfter own (turns ++ slice_range items first last ∷ []) 0 c.take_over.new.self) end (c.take_over.ensures.stands own turns filled h)
