-- The connections of a node that give to an output line are those of the plan that send on it.
use Rattle.std.proofs.Common.{◌≡◌, ◌⊎◌, inl, inr, ◌<◌, ◌+◌, ℕ, zero, suc, Bool, true, false, ◌&&◌, ◌==◌, List, [], ◌∷◌, Some, length, slice_get, nat_le, refl, sym, ap, subst, ◌∙◌, arith}
use Rattle.std.proofs.lemmas.Bool.Decides.{nat_tests}
use Rattle.std.proofs.lemmas.Bool.{leb-true, le-leb, eq-eqb}
use Rattle.std.proofs.lemmas.Option.{slice_get_within, slice_get_read, get_or_from_slice_get}
use Rattle.otn_base.specs.LineSlots.{LineSlots}
use Rattle.otn_base.specs.declared.kind.PortName.TheVariants as port_name
use Rattle.plan_file.specs.declared.connection.Connection.{Connection}
use Rattle.plan_file.specs.declared.connection.ToEnd.{ToEnd}
use Rattle.plan_file.specs.declared.connection.ToEnd.TheVariants as to_end
use Rattle.plan_file.specs.declared.plan.Plan.{Plan}
use Rattle.device_model.specs.Entries.{IsActive, IsSentOn, is_to_line}
use Rattle.device_model.specs.SoundPlans.{IsSender}
use Rattle.node_links.specs.Links.{IsLinkOf, takes_part}
use Rattle.node_links.specs.declared.link.Link.{Link}
use Rattle.node_links.proofs.LinkLaws.{both_left, both_right}

pub either : (v : Bool) → (v ≡ true) ⊎ (v ≡ false)
either true = inl refl
either false = inr refl

both : (a b : Bool) → a ≡ true → b ≡ true → (a && b) ≡ true
both true b h k = k
both false b h k = cc

one_number : (a b : ℕ) → (a == b) ≡ true → a ≡ b
one_number a b h = grind (arith, nat_tests)

-- an active connection to the line gives to it
on_line : (x : Connection) (b past : ℕ) → IsActive x past → is_to_line b x.to ≡ true → ((nat_le x.start (past + 1) && nat_le (past + 1) x.stop) && is_to_line b x.to) ≡ true
on_line x b past active to =
    let start = active.start in
    let stop = active.stop in
    both (nat_le x.start (past + 1) && nat_le (past + 1) x.stop) (is_to_line b x.to)
    (both (nat_le x.start (past + 1)) (nat_le (past + 1) x.stop) (le-leb x.start (past + 1) start) (le-leb (past + 1) x.stop stop)) to

pub sender_gives : (x : Connection) (b past port : ℕ) (slots : LineSlots) (link : Link) → IsLinkOf x link → x.to ≡ to_end.Line b port slots → IsActive x past
    → takes_part past (port_name.LineOut b) link ≡ true
sender_gives x b past port slots link is to active =
    subst (λ (y : Connection). ((nat_le y.start (past + 1) && nat_le (past + 1) y.stop) && is_to_line b y.to) ≡ true) (sym is.entry)
    (on_line x b past active (ap (is_to_line b) to ∙ eq-eqb b b refl))

-- and one that gives is an active connection to the line
pub record Sending (x : Connection) (b past : ℕ) : Type 0 where
  pub port : ℕ
  pub slots : LineSlots
  pub to : x.to ≡ to_end.Line b port slots
  pub active : IsActive x past

sends_to : (x : Connection) (b past : ℕ) (to : ToEnd) → x.to ≡ to → IsActive x past → is_to_line b to ≡ true → Sending x b past
sends_to x b past (to_end.Line line port slots) is active gives = record {
  port = port;
  slots = slots;
  to = is ∙ ap (λ n. to_end.Line n port slots) (one_number line b gives);
  active = active;
}
sends_to x b past (to_end.Client n) is active gives = cc

sending : (x : Connection) (b past : ℕ) → ((nat_le x.start (past + 1) && nat_le (past + 1) x.stop) && is_to_line b x.to) ≡ true → Sending x b past
sending x b past gives =
    let on = both_left (nat_le x.start (past + 1) && nat_le (past + 1) x.stop) (is_to_line b x.to) gives in
    sends_to x b past x.to refl
    (record {
      start = leb-true x.start (past + 1) (both_left (nat_le x.start (past + 1)) (nat_le (past + 1) x.stop) on);
      stop = leb-true (past + 1) x.stop (both_right (nat_le x.start (past + 1)) (nat_le (past + 1) x.stop) on);
    })
    (both_right (nat_le x.start (past + 1) && nat_le (past + 1) x.stop) (is_to_line b x.to) gives)

pub giver_sends : (x : Connection) (b past : ℕ) (link : Link) → IsLinkOf x link → takes_part past (port_name.LineOut b) link ≡ true → Sending x b past
giver_sends x b past link is gives = subst (λ y. Sending y b past) is.entry (sending link.entry b past gives)

-- a connection of the plan is known by its place there
pub sender_of : (plan : Plan) (b past : ℕ) (x : Connection) (port : ℕ) (slots : LineSlots) → (s : IsSentOn plan b past x port slots) → slice_get plan.connections s.is_of.0 ≡ Some x
sender_of plan b past x port slots s = slice_get_read plan.connections (length plan.connections) s.is_of.0 x refl s.is_of.1 (sym s.is_of.2)

pub sends_on : (plan : Plan) (b past i port : ℕ) (slots : LineSlots) (s : IsSender plan b past i port slots) → IsSentOn plan b past s.x port slots
sends_on plan b past i port slots s = record {
  is_of = (i, slice_get_within plan.connections i s.x s.known, get_or_from_slice_get plan.connections i s.x s.x s.known);
  to = s.to;
  active = s.active;
}

-- a list that is long enough has an element there
pub element_at : {A : Type 0} (xs : List A) (k : ℕ) → k < length xs → (x : A) × (slice_get xs k ≡ Some x)
element_at [] k less = absurd (omega arith)
element_at (x ∷ xs) zero less = (x, refl)
element_at (x ∷ xs) (suc k) less = element_at xs k (omega arith)
