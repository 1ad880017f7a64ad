-- Where a pipe stands in a turn, the next frame that it fills is the one behind those that were filled.
use Rattle.std.proofs.Common.{◌≡◌, ◌<◌, ◌∙◌, ℕ, suc, Bool, true, List, length, nat_lt, Some, refl, ap, subst, arith}
use Rattle.std.proofs.lemmas.Bool.Decides.{nat_tests}
use Rattle.otn_base.specs.LineSlots.{LineSlots, slots_of}
use Rattle.plan_file.specs.declared.connection.Connection.{Connection}
use Rattle.plan_file.specs.declared.connection.ToEnd.TheVariants as to_end
use Rattle.tributary_model.specs.Carries.{former_of}
use Rattle.tributary_model.specs.Places.{Taken}
use Rattle.tributary_model.specs.Puts.{lengths_of}
use Rattle.device_model.specs.Through.{OwnInput, got_by}
use Rattle.cross_matrix.specs.InTurn.{next_filled}
use Rattle.cross_matrix.specs.Parts.{GivesTo, GivingStands}
use Rattle.cross_matrix.specs.Pipes.{PipeView, PipeStands}
use Rattle.cross_matrix.specs.declared.giving.GivingPart.{GivingPart}
use Rattle.cross_matrix.specs.declared.giving.GivingPart.TheVariants as giving
use Rattle.cross_matrix.proofs.TurnTotals.{got_size}

is_less : (n m : ℕ) → n < m → nat_lt n m ≡ true
is_less n m h = grind (arith, nat_tests)

pub next_to_fill : (x : Connection) (b port : ℕ) (slots : LineSlots) (input : OwnInput) (j n : ℕ) (frames : List Taken) (ended : Bool) (pipe : PipeView) → x.to ≡ to_end.Line b port slots
    → n < slots_of slots.kind → PipeStands x input j frames ended n pipe → next_filled pipe.giving ≡ Some n
next_to_fill x b port slots input j n frames ended pipe e few h =
    on pipe.giving (subst (λ to. GivesTo to pipe.giving) e h.entry.giving) (subst (λ to. GivingStands to x input j n pipe.giving) e h.giving)
  where
    on : (part : GivingPart) → GivesTo (to_end.Line b port slots) part → GivingStands (to_end.Line b port slots) x input j n part → next_filled part ≡ Some n
    on (giving.Line source) of stands =
        let less : source.filled < slots_of source.slots.kind = rw (stands.filled_is, of) few in
        let said = stands.said ∙ ap (former_of (length slots.list) (lengths_of (got_by x input (suc j)))) (got_size x input (suc j)) in
        rw (said, is_less source.filled (slots_of source.slots.kind) less, stands.filled_is) refl
    on (giving.Client receiver) of stands = absurd of
