-- The ends of a connection that breaks no rule: each is in range, and they have as many slots.
use Rattle.std.proofs.Common.{◌≡◌, ◌<◌, ◌≤◌, ℕ, ◌-◌, pos, true, ◌&&◌, ◌||◌, List, length, map, inl, inr, refl, ap, sym, ◌∙◌, arith}
use Rattle.std.proofs.lemmas.Bool.{and_parts}
use Rattle.std.specs.Prelude.{◌⊎◌}
use Rattle.otn_base.specs.LineSlots.{LineSlots, slots_of}
use Rattle.otn_base.specs.SlotList.{IsSlotList}
use Rattle.otn_base.specs.declared.kind.Kind.{Kind}
use Rattle.otn_base.specs.declared.line_kind.LineKind.{LineKind}
use Rattle.otn_base.specs.declared.line_kind.LineKind.TheVariants.{Otu2, Otu3}
use Rattle.otn_base.specs.declared.limits.TheConstants.{CLIENTS, LINES, MOST_SLOTS}
use Rattle.otn_base.proofs.RisingSlots.{few_slots}
use Rattle.plan_file.specs.declared.connection.FromEnd.{FromEnd}
use Rattle.plan_file.specs.declared.connection.FromEnd.TheVariants as from_end
use Rattle.plan_file.specs.declared.connection.ToEnd.{ToEnd}
use Rattle.plan_file.specs.declared.connection.ToEnd.TheVariants as to_end
use Rattle.plan_file.specs.Entry.{at_line, is_line, is_client, slots_between as slots_seen_between, from_seen, to_seen}
use Rattle.plan_file.specs.Lines.{line_kind, line_slots}
use Rattle.plan_file.specs.Rules.{is_within, is_placed, is_slot_list, is_same_kind, suits, has_slots, has_equal_counts}
use Rattle.plan_file.proofs.SlotNumbers.{few_of}
use Rattle.device_model.specs.Entries.{slots_between}
use Rattle.device_model.specs.SoundPlans.{IsSoundLineEnd}
use Rattle.device_model.proofs.SeenNumbers.{within_least, within_most, slots_seen, count_seen, counts_seen, kind_seen}

-- ---- an end at a line

same_kind : (one other : LineKind) → is_same_kind one other ≡ true → one ≡ other
same_kind Otu2 Otu2 h = refl
same_kind Otu2 Otu3 h = cc
same_kind Otu3 Otu2 h = cc
same_kind Otu3 Otu3 h = refl

-- of which kind the slots are, and what list they are
record LineSlotsParts (otu3 : List ℕ) (a : ℕ) (slots : LineSlots) : Type 0 where
  kind : slots.kind ≡ line_kind (map pos otu3) (pos a)
  list : IsSlotList (slots_of slots.kind) slots.list

line_slots_parts : (otu3 : List ℕ) (kind : Kind) (a port : ℕ) (slots : LineSlots) → has_slots (map pos otu3) kind (at_line (pos a) (pos port) slots.kind (map pos slots.list)) ≡ true → LineSlotsParts otu3 a slots
line_slots_parts otu3 kind a port slots h =
    let by = line_kind (map pos otu3) (pos a) in
    let numbers = map pos slots.list in
    let front = (and_parts (is_same_kind slots.kind by && is_slot_list (line_slots (map pos otu3) (pos a)) numbers) (suits kind (length numbers)) h).0 in
    let (same, list) = and_parts (is_same_kind slots.kind by) (is_slot_list (line_slots (map pos otu3) (pos a)) numbers) front in
    let is = same_kind slots.kind by same in
    record { kind = is; list = slots_seen (slots_of slots.kind) slots.list (ap (λ k. is_slot_list (slots_of k) numbers) is ∙ list) }

pub line_end : (otu3 : List ℕ) (kind : Kind) (count a port : ℕ) (slots : LineSlots) → is_placed (map pos otu3) (at_line (pos a) (pos port) slots.kind (map pos slots.list)) ≡ true
    → has_slots (map pos otu3) kind (at_line (pos a) (pos port) slots.kind (map pos slots.list)) ≡ true → length slots.list ≡ count → IsSoundLineEnd otu3 count a port slots
line_end otu3 kind count a port slots placed listed many =
    let most = line_slots (map pos otu3) (pos a) in
    let (l, p) = and_parts (is_within 0 (LINES - 1) (pos a)) (is_within 1 most (pos port)) placed in
    let parts = line_slots_parts otu3 kind a port slots listed in
    let line : a ≤ LINES - 1 = within_most 0 (LINES - 1) a l in
    record {
      line = omega arith;
      kind = parts.kind ∙ kind_seen otu3 a;
      list = parts.list;
      many = many;
      port_least = within_least 1 most port p;
      port_most = rw parts.kind (within_most 1 most port p);
    }

-- ---- an end at a client

pub client_end : (n : ℕ) → is_within 0 (CLIENTS - 1) (pos n) ≡ true → n < CLIENTS
client_end n h = let most : n ≤ CLIENTS - 1 = within_most 0 (CLIENTS - 1) n h in omega arith

-- ---- the number of slots

-- from one slot on, to as many as a line can have
pub record IsCount (count : ℕ) : Type 0 where
  pub least : 1 ≤ count
  pub most : count ≤ MOST_SLOTS

line_count : (otu3 : List ℕ) (kind : Kind) (a port : ℕ) (slots : LineSlots) → has_slots (map pos otu3) kind (at_line (pos a) (pos port) slots.kind (map pos slots.list)) ≡ true → IsCount (length slots.list)
line_count otu3 kind a port slots h =
    let parts = line_slots_parts otu3 kind a port slots h in
    let some = parts.list.taken in
    let short = few_slots (slots_of slots.kind) slots.list parts.list in
    let few = few_of slots.kind in
    record { least = omega arith; most = omega arith }

pub count_between : (otu3_in otu3_out : List ℕ) (kind : Kind) (from : FromEnd) (to : ToEnd) → has_slots (map pos otu3_in) kind (from_seen from) ≡ true → has_slots (map pos otu3_out) kind (to_seen to) ≡ true
    → (is_line (from_seen from) || is_line (to_seen to)) ≡ true → IsCount (slots_between from to)
count_between otu3_in otu3_out kind (from_end.Line a port slots) to from_listed to_listed lined = line_count otu3_in kind a port slots from_listed
count_between otu3_in otu3_out kind (from_end.Client n) (to_end.Line b port slots) from_listed to_listed lined = line_count otu3_out kind b port slots to_listed
count_between otu3_in otu3_out kind (from_end.Client n) (to_end.Client m) from_listed to_listed lined = cc
count_between otu3_in otu3_out kind (from_end.Signal signal) (to_end.Line b port slots) from_listed to_listed lined = line_count otu3_out kind b port slots to_listed
count_between otu3_in otu3_out kind (from_end.Signal signal) (to_end.Client m) from_listed to_listed lined = cc

-- the to end has as many
pub to_count : (from : FromEnd) (b port : ℕ) (slots : LineSlots) → has_equal_counts (from_seen from) (at_line (pos b) (pos port) slots.kind (map pos slots.list)) ≡ true
    → length slots.list ≡ slots_between from (to_end.Line b port slots)
to_count (from_end.Line a other others) b port slots h = sym (counts_seen others.list slots.list h)
to_count (from_end.Client n) b port slots h = refl
to_count (from_end.Signal signal) b port slots h = refl

-- the outline has as many
pub same_between : (from : FromEnd) (to : ToEnd) → slots_seen_between (from_seen from) (to_seen to) ≡ slots_between from to
same_between (from_end.Line a port slots) to = count_seen slots.list
same_between (from_end.Client n) (to_end.Line b port slots) = count_seen slots.list
same_between (from_end.Client n) (to_end.Client m) = refl
same_between (from_end.Signal signal) (to_end.Line b port slots) = count_seen slots.list
same_between (from_end.Signal signal) (to_end.Client m) = refl

-- ---- a client

-- one end is a client
pub client_of : (from : FromEnd) (to : ToEnd) → (is_client (from_seen from) || is_client (to_seen to)) ≡ true → (n : ℕ) × ((from ≡ from_end.Client n) ⊎ (to ≡ to_end.Client n))
client_of (from_end.Client n) to h = (n, inl refl)
client_of (from_end.Line a port slots) (to_end.Client n) h = (n, inr refl)
client_of (from_end.Signal signal) (to_end.Client n) h = (n, inr refl)
client_of (from_end.Line a port slots) (to_end.Line b other others) h = cc
client_of (from_end.Signal signal) (to_end.Line b other others) h = cc
