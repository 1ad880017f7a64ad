use Rattle.std.proofs.Common.{◌≡◌, ◌≤◌, ◌+◌, ◌-◌, ◌*◌, ◌/◌, ◌∙◌, [], ◌∷◌, ◌++◌, length, slice_range, subst, sym, ap, arith}
use Rattle.tributary_model.specs.Carries.{sent}
use Rattle.tributary_model.specs.Places.{Tributary}
use Rattle.tributary_model.specs.Puts.{lengths_of}
use Rattle.trib_source.specs.Source.{StandsAfter}
use Rattle.cross_matrix.specs.Parts.{OnSource}
use Rattle.cross_matrix.proofs.TurnTotals.{room_is}
use Rattle.cross_matrix.proofs.giving.GivingPart.fence.Goals as goal

pub returns-in-Line-clause-stands : goal.returns-in-Line-clause-stands
returns-in-Line-clause-stands c = λ own turns filled h few.
    let s = c.in-Line.source in
    let was : StandsAfter own turns filled s = subst (λ part. OnSource part (StandsAfter own turns filled)) c.in-Line.is h in
    let buffer = c.hand_out-buffer.result.0 in
    let at = c.hand_out-buffer.result.1 in
    let out = c.hand_out-buffer.ensures in
    let fits : (sent (lengths_of turns) (length turns) + (at.end - at.start)) / length own.slots ≤ sent (lengths_of turns) (length turns) / length own.slots + 15232 =
    subst (λ k. (sent (lengths_of turns) (length turns) + k) / length own.slots ≤ sent (lengths_of turns) (length turns) / length own.slots + 15232) (sym out.count) few in
    let many : length s.slots.list ≡ length own.slots = sym (ap (λ (t : Tributary). length t.slots) was.own_is) in
    let free : c.room.result + s.cnd + 1 ≡ length own.slots * 15233 = c.room.ensures ∙ ap (λ m. m * 15233) many in
    let all : at.end - at.start ≤ c.room.result = room_is (length own.slots) (sent (lengths_of turns) (length turns)) (at.end - at.start) c.room.result s.cnd free was.cnd fits in
    let end : at.start + c.min-count.result ≡ at.end = (let least = c.min-count.ensures in let ordered = out.in_order in omega arith) in
    let given = subst (λ last. StandsAfter own (turns ++ slice_range buffer.items at.start last ∷ []) 0 c.take_over.new.self) end (c.take_over.ensures.stands own turns filled was) in
    subst (λ bytes. StandsAfter own (turns ++ bytes ∷ []) 0 c.take_over.new.self) out.bytes given
