use Rattle.std.proofs.Common.{◌≡◌, ℕ, ◌+◌, ◌*◌, ◌%◌, ◌∙◌, ap, arith, length}
use Rattle.std.proofs.Math.Nat.{mul-mod_right}
use Rattle.otn_base.specs.LineSlots.{LineSlots}
use Rattle.otn_base.specs.declared.limits.TheConstants.{NOMINAL}
use Rattle.bench_layers.proofs.source.put_turn.Goals as goal

none_over : (cnd n m k : ℕ) → cnd ≡ 0 → n ≡ m * k → (cnd + n) % m ≡ 0
none_over cnd n m k e f = ap (λ x. x % m) (let g : cnd + n ≡ m * k = omega arith in g) ∙ mul-mod_right m k

pub loop-n-init : goal.loop-n-init
loop-n-init c =
    let turn = c.begin_turn.ensures in
    let source = c.args.source.now in
    record {
      filled = turn.filled;
      begun = turn.begun;
      cnd = turn.cnd ∙ none_over source.cnd (length c.args.bytes.now) (length source.slots.list) NOMINAL c.requires.cnd c.requires.size;
      kind = ap (λ (s : LineSlots). s.kind) turn.slots ∙ c.requires.kind;
      slots = turn.slots;
    }
