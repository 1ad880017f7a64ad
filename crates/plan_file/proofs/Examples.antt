-- Worked examples, which the definitions compute.
use Rattle.std.proofs.Common.{◌≡◌, ℕ, ◌+◌, ℤ, pos, negsuc, true, false, List, [], ◌∷◌, Some, None, refl}
use Rattle.std.specs.Prelude.{codes}
use Rattle.otn_base.specs.declared.kind.Kind.TheVariants.{Odu0}
use Rattle.otn_base.specs.declared.line_kind.LineKind.TheVariants.{Otu2}
use Rattle.toml.specs.Data.{Data, string, integer, array, table, no_items, item, Members, no_members, member}
use Rattle.plan_file.specs.declared.error.PlanError.TheVariants.{UnknownKey, MissingKey, WrongKind, Turns, SlotTwice, BadPace}
use Rattle.plan_file.specs.Refusal.{fault_of, table_refusal}
use Rattle.plan_file.specs.Entry.{at_line, at_client, Entry, Outline}

-- ---- outlines

-- an odu0 from a client to slot 4 and port 1 of line 0
abbrev entry : ℕ → ℤ → ℤ → ℤ → Entry
entry client pace start stop = record {
  name = (97 + client) ∷ [];
  kind = Odu0;
  from = at_client (pos client);
  to = at_line (pos 0) (pos 1) Otu2 (pos 4 ∷ []);
  pace = pace ∷ [];
  fcs = true;
  trace = [];
  start = start;
  stop = stop;
  retire = false;
}

abbrev plan : ℤ → List Entry → Outline
plan turns entries = record { top = record { turns = turns; otu3_in = []; otu3_out = []; scrambled_in = []; scrambled_out = [] }; entries = entries }

no_turns : fault_of (plan (pos 0) []) ≡ Some (Turns, 0)
no_turns = refl

too_many_turns : fault_of (plan (pos 16385) []) ≡ Some (Turns, 0)
too_many_turns = refl

slot_in_one_turn : fault_of (plan (pos 8) (entry 0 (pos 15168) (pos 1) (pos 5) ∷ entry 1 (pos 15168) (pos 5) (pos 8) ∷ [])) ≡ Some (SlotTwice, 2)
slot_in_one_turn = refl

slot_in_turn_after_turn : fault_of (plan (pos 8) (entry 0 (pos 15168) (pos 1) (pos 4) ∷ entry 1 (pos 15168) (pos 5) (pos 8) ∷ [])) ≡ None
slot_in_turn_after_turn = refl

pace_too_great : fault_of (plan (pos 8) (entry 0 (pos 15170) (pos 1) (pos 8) ∷ [])) ≡ Some (BadPace, 1)
pace_too_great = refl

-- spans that meet decide before spans that are none
spans_below_the_first_turn : fault_of (plan (pos 8) (entry 0 (pos 15168) (negsuc 4) (negsuc 4) ∷ entry 1 (pos 15168) (negsuc 4) (pos 8) ∷ [])) ≡ Some (SlotTwice, 2)
spans_below_the_first_turn = refl

-- ---- tables

abbrev with_turns : Data → Members
with_turns connections = member (codes "turns") (integer (pos 8)) (member (codes "connection") connections no_members)

abbrev end : Members
end = member (codes "client") (integer (pos 0)) no_members

-- a connection without `kind`
no_kind : table_refusal (with_turns (array (item (table (member (codes "name") (string (codes "a")) (member (codes "from") (table end) (member (codes "to") (table end) no_members)))) no_items))) ≡ Some (MissingKey, 1)
no_kind = refl

-- a list with a number in place of a connection
no_table : table_refusal (with_turns (array (item (integer (pos 5)) no_items))) ≡ Some (WrongKind, 0)
no_table = refl

-- a key that is not known counts before a value that is no table
unknown_key : table_refusal (with_turns (array (item (integer (pos 5)) (item (table (member (codes "retired") (integer (pos 1)) no_members)) no_items)))) ≡ Some (UnknownKey, 2)
unknown_key = refl
