-- Two connections of a plan that breaks no rule are the same where they have a client, or in one turn a slot or a
-- tributary port of a line.
use Rattle.std.proofs.Common.{◌≡◌, ◌<◌, ℕ, zero, suc, ◌+◌, pos, Bool, true, false, ◌&&◌, map, Some, slice_get, refl, ap, ◌∙◌, arith}
use Rattle.std.proofs.lemmas.Bool.{or_left, or_right}
use Rattle.std.specs.List.{Contains}
use Rattle.std.specs.Ordering.{int_eq}
use Rattle.otn_base.specs.LineSlots.{LineSlots}
use Rattle.plan_file.specs.declared.error.PlanError.{PlanError}
use Rattle.plan_file.specs.declared.connection.Connection.{Connection}
use Rattle.plan_file.specs.declared.connection.FromEnd.TheVariants as from_end
use Rattle.plan_file.specs.declared.connection.ToEnd.TheVariants as to_end
use Rattle.plan_file.specs.declared.plan.Plan.{Plan}
use Rattle.plan_file.specs.Entry.{from_seen, to_seen, seen, outline}
use Rattle.plan_file.specs.PlanRules.{plan_rules, clashes}
use Rattle.plan_file.specs.Rules.{meet, have_common, share_slot, share_port, share_client, have_one_slot, have_one_port, have_one_client}
use Rattle.plan_file.proofs.Lists.{slice_get_known}
use Rattle.device_model.specs.Entries.{IsActive}
use Rattle.device_model.proofs.Kept.{KeepsAll}
use Rattle.device_model.proofs.SeenNumbers.{same_seen, spans_meet, common_seen}

-- ---- the same index

by_index : (i j : ℕ) → (i < j → ⊥) → (j < i → ⊥) → i ≡ j
by_index zero zero below above = refl
by_index zero (suc j) below above = absurd (below (omega arith))
by_index (suc i) zero below above = absurd (above (omega arith))
by_index (suc i) (suc j) below above = ap suc (by_index i j (λ h. below (omega arith)) (λ h. above (omega arith)))

-- two connections of which each clashes with the other are one
pub one_of_clash : (plan : Plan) (k : ℕ) (rule : PlanError) (i j : ℕ) (x y : Connection) → KeepsAll (outline plan) → slice_get plan_rules k ≡ Some rule
    → slice_get plan.connections i ≡ Some x → slice_get plan.connections j ≡ Some y → clashes rule (seen x) (seen y) ≡ true → clashes rule (seen y) (seen x) ≡ true → i ≡ j
one_of_clash plan k rule i j x y keeps known at_i at_j clash back =
    by_index i j
    (λ less. let kept = keeps.pairs k rule i j (seen x) (seen y) known less seen_i seen_j in cc)
    (λ less. let kept = keeps.pairs k rule j i (seen y) (seen x) known less seen_j seen_i in cc)
  where
    seen_i : slice_get (map seen plan.connections) i ≡ Some (seen x)
    seen_i = slice_get_known seen plan.connections i x at_i

    seen_j : slice_get (map seen plan.connections) j ≡ Some (seen y)
    seen_j = slice_get_known seen plan.connections j y at_j

-- ---- what is shared

pub from_one_client : (n : ℕ) (x y : Connection) → x.from ≡ from_end.Client n → y.from ≡ from_end.Client n → have_one_client (seen x) (seen y) ≡ true
from_one_client n x y e f =
    or_left (share_client (from_seen x.from) (from_seen y.from)) (share_client (to_seen x.to) (to_seen y.to))
    (ap (λ end. share_client (from_seen end) (from_seen y.from)) e ∙ ap (λ end. share_client (from_seen (from_end.Client n)) (from_seen end)) f ∙ same_seen n)

pub to_one_client : (n : ℕ) (x y : Connection) → x.to ≡ to_end.Client n → y.to ≡ to_end.Client n → have_one_client (seen x) (seen y) ≡ true
to_one_client n x y e f =
    or_right (share_client (from_seen x.from) (from_seen y.from)) (share_client (to_seen x.to) (to_seen y.to))
    (ap (λ end. share_client (to_seen end) (to_seen y.to)) e ∙ ap (λ end. share_client (to_seen (to_end.Client n)) (to_seen end)) f ∙ same_seen n)

both : (a b : Bool) → a ≡ true → b ≡ true → (a && b) ≡ true
both true b h k = k
both false b h k = cc

meet_in : (past : ℕ) (x y : Connection) → IsActive x past → IsActive y past → meet (seen x) (seen y) ≡ true
meet_in past x y one other = spans_meet x.start x.stop y.start y.stop (past + 1) one.start one.stop other.start other.stop

pub on_one_slot : (b past port other slot : ℕ) (slots others : LineSlots) (x y : Connection) → x.to ≡ to_end.Line b port slots → y.to ≡ to_end.Line b other others
    → IsActive x past → IsActive y past → Contains slots.list slot → Contains others.list slot → have_one_slot (seen x) (seen y) ≡ true
on_one_slot b past port other slot slots others x y e f one two has has' =
    both (share_slot (to_seen x.to) (to_seen y.to)) (meet (seen x) (seen y))
    (ap (λ end. share_slot (to_seen end) (to_seen y.to)) e ∙ ap (λ end. share_slot (to_seen (to_end.Line b port slots)) (to_seen end)) f
    ∙ both (int_eq (pos b) (pos b)) (have_common (map pos slots.list) (map pos others.list)) (same_seen b) (common_seen slots.list others.list slot has has'))
    (meet_in past x y one two)

pub on_one_port : (b past port : ℕ) (slots others : LineSlots) (x y : Connection) → x.to ≡ to_end.Line b port slots → y.to ≡ to_end.Line b port others
    → IsActive x past → IsActive y past → have_one_port (seen x) (seen y) ≡ true
on_one_port b past port slots others x y e f one two =
    both (share_port (to_seen x.to) (to_seen y.to)) (meet (seen x) (seen y))
    (ap (λ end. share_port (to_seen end) (to_seen y.to)) e ∙ ap (λ end. share_port (to_seen (to_end.Line b port slots)) (to_seen end)) f
    ∙ both (int_eq (pos b) (pos b)) (int_eq (pos port) (pos port)) (same_seen b) (same_seen port))
    (meet_in past x y one two)
