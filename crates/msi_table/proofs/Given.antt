-- Slots of a line that were given to a port, where ports are kept for more slots than the line has.
use Rattle.std.proofs.Common.{◌≡◌, ℕ, ◌-◌, ◌≤◌, List, length, take, get_or, inl, inr, sym, ◌∙◌, arith}
use Rattle.std.specs.Prelude.{Contains}
use Rattle.std.proofs.lemmas.List.{get_or-take, get_or_past, length-take, length-take-le}
use Rattle.std.proofs.lemmas.Bool.Decides.{leb_tells}
use Rattle.otn_base.specs.LineSlots.{slots_of}
use Rattle.otn_base.specs.TrailTrace.{zeros}
use Rattle.otn_base.specs.declared.line_kind.LineKind.{LineKind}
use Rattle.otn_base.specs.declared.line_kind.LineKind.TheVariants.{Otu2, Otu3}
use Rattle.otn_base.proofs.Zeros.{get_or-zeros}
use Rattle.msi_table.specs.Psi.{IsGiven}

-- there are as many ports as slots
pub ports_length : (kind : LineKind) (ports : List ℕ) → length ports ≡ 32 → length (take (slots_of kind) ports) ≡ slots_of kind
ports_length Otu2 ports size = length-take-le 8 ports (omega (arith, size))
ports_length Otu3 ports size = length-take-le 32 ports (omega (arith, size))

past : (most k : ℕ) (ports : List ℕ) → most ≤ k → get_or (take most ports) k 0 ≡ 0
past most k ports h = get_or_past (take most ports) k 0 (omega (arith, length-take most ports, h))

-- every slot is free
pub none_given : (most n k : ℕ) → get_or (take most (zeros n)) k 0 ≡ 0
none_given most n k = elim (leb_tells most k) [
  | inl beyond ↦ past most k (zeros n) beyond.1
  | inr below ↦ get_or-take most (zeros n) k 0 below.1 ∙ get_or-zeros n k
]

-- what was given among all ports that are kept was given among those of the line
pub given_of : (most port : ℕ) (slots old new : List ℕ) → ((slot : ℕ) → Contains slots slot → (1 ≤ slot) × (slot ≤ most))
    → IsGiven slots port old new → IsGiven slots port (take most old) (take most new)
given_of most port slots old new within is = record {
  given = λ slot has.
      let (low, high) = within slot has in
      get_or-take most new (slot - 1) 0 (omega (arith, low, high)) ∙ is.given slot has;
  others = λ slot low never. elim (leb_tells most (slot - 1)) [
    | inl beyond ↦ past most (slot - 1) new beyond.1 ∙ sym (past most (slot - 1) old beyond.1)
    | inr below ↦ get_or-take most new (slot - 1) 0 below.1 ∙ is.others slot low never ∙ sym (get_or-take most old (slot - 1) 0 below.1)
  ];
}
