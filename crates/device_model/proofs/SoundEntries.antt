-- A connection that breaks no rule is sound.
use Rattle.std.proofs.Common.{rules, ◌≡◌, ◌<◌, ◌≤◌, ℕ, ◌*◌, ◌-◌, ◌+◌, pos, Bool, true, false, ◌&&◌, ◌||◌, not, List, length, map, nat_le, Some, slice_get, ap, sym, ◌∙◌, arith}
use Rattle.std.proofs.lemmas.Bool.{and_parts, not-false}
use Rattle.std.specs.List.{list_all}
use Rattle.std.specs.Prelude.{◌⊎◌, int_le}
use Rattle.otn_base.specs.LineSlots.{LineSlots}
use Rattle.otn_base.specs.declared.kind.Kind.{Kind}
use Rattle.otn_base.specs.declared.kind.Kind.TheVariants.{Odu0, Flex}
use Rattle.otn_base.specs.declared.limits.TheConstants.{CLIENTS, GROUPS, MOST_PACES, NOMINAL}
use Rattle.plan_file.specs.declared.connection.Connection.{Connection}
use Rattle.plan_file.specs.declared.connection.FromEnd.TheVariants as from_end
use Rattle.plan_file.specs.declared.connection.ToEnd.TheVariants as to_end
use Rattle.plan_file.specs.declared.plan.Plan.{Plan}
use Rattle.plan_file.specs.Entry.{is_line, is_client, slots_between as slots_seen_between, from_seen, to_seen, seen, top_seen}
use Rattle.plan_file.specs.Rules.{is_within, is_placed, has_slots, has_equal_counts, least_pace, most_pace, is_span, can_retire, breaks_place, breaks_slots, breaks_pace, breaks_span}
use Rattle.device_model.specs.Entries.{slot_count, slots_between}
use Rattle.device_model.specs.SoundPlans.{IsSoundLineEnd, IsSoundEntry}
use Rattle.device_model.proofs.SeenNumbers.{within_least, within_most, le_seen, le_of_seen, all_seen, count_seen}
use Rattle.device_model.proofs.SoundEnds.{IsCount, line_end, client_end, count_between, to_count, same_between, client_of}

-- ---- paces

-- what is said of a pace by the number of slots
record IsPaceOf (count pace : ℕ) : Type 0 where
  least : count ≤ pace
  most : pace ≤ count * GROUPS

odu0_pace : (count pace : ℕ) → IsCount count → NOMINAL - 1 ≤ pace → pace ≤ NOMINAL + 1 → IsPaceOf count pace
odu0_pace count pace is low high =
    let least = is.least in
    let most = is.most in record { least = omega arith; most = omega arith }

pace_of_kind : (kind : Kind) (count pace : ℕ) → IsCount count → least_pace kind count ≤ pace → pace ≤ most_pace kind count → IsPaceOf count pace
pace_of_kind Odu0 count pace is low high = odu0_pace count pace is low high
pace_of_kind Flex count pace is low high = record { least = low; most = high }

-- the parts of a list of paces
record PaceParts (count : ℕ) (paces : List ℕ) : Type 0 where
  least : 1 ≤ length paces
  most : length paces ≤ MOST_PACES
  each : (i pace : ℕ) → slice_get paces i ≡ Some pace → IsPaceOf count pace

pace_parts : (x : Connection) → IsCount (slot_count x) → breaks_pace (seen x) ≡ false → PaceParts (slot_count x) x.pace
pace_parts x is h =
    let m = slots_seen_between (from_seen x.from) (to_seen x.to) in
    let same = same_between x.from x.to in
    let n = length (map pos x.pace) in
    let all = list_all (is_within (least_pace x.kind m) (most_pace x.kind m)) (map pos x.pace) in
    let (front, each) = and_parts (nat_le 1 n && nat_le n MOST_PACES) all (not-false _ h) in
    let (some, few) = and_parts (nat_le 1 n) (nat_le n MOST_PACES) front in
    let many = count_seen x.pace in
    record {
      least = rw many at (le_of_seen 1 n some);
      most = rw many at (le_of_seen n MOST_PACES few);
      each = λ i pace known.
          let within = all_seen (least_pace x.kind m) (most_pace x.kind m) x.pace i pace each known in
          pace_of_kind x.kind (slot_count x) pace is
          (rw same at (within_least (least_pace x.kind m) (most_pace x.kind m) pace within))
          (rw same at (within_most (least_pace x.kind m) (most_pace x.kind m) pace within));
    }

-- ---- turns

record SpanParts (turns : ℕ) (x : Connection) : Type 0 where
  start : 1 ≤ x.start
  span : x.start ≤ x.stop
  stop : x.stop ≤ turns
  retires : x.retire ≡ true → (n : ℕ) × ((x.from ≡ from_end.Client n) ⊎ (x.to ≡ to_end.Client n))

retired_client : (retire client : Bool) → (not retire || client) ≡ true → retire ≡ true → client ≡ true
retired_client true client h e = h
retired_client false client h e = cc

span_parts : (turns : ℕ) (x : Connection) → breaks_span (pos turns) (seen x) ≡ false → SpanParts turns x
span_parts turns x h =
    let (spans, retire) = and_parts (is_span (pos turns) (seen x)) (can_retire (seen x)) (not-false _ h) in
    let (front, stop) = and_parts (int_le (pos 1) (pos x.start) && int_le (pos x.start) (pos x.stop)) (int_le (pos x.stop) (pos turns)) spans in
    let (start, span) = and_parts (int_le (pos 1) (pos x.start)) (int_le (pos x.start) (pos x.stop)) front in
    record {
      start = le_seen 1 x.start start;
      span = le_seen x.start x.stop span;
      stop = le_seen x.stop turns stop;
      retires = λ e. client_of x.from x.to (retired_client x.retire (is_client (from_seen x.from) || is_client (to_seen x.to)) retire e);
    }

-- ---- ends

-- what the rules of places and of slots say of both ends
record EndParts (plan : Plan) (x : Connection) : Type 0 where
  from_placed : is_placed (map pos plan.otu3_in) (from_seen x.from) ≡ true
  to_placed : is_placed (map pos plan.otu3_out) (to_seen x.to) ≡ true
  lined : (is_line (from_seen x.from) || is_line (to_seen x.to)) ≡ true
  from_listed : has_slots (map pos plan.otu3_in) x.kind (from_seen x.from) ≡ true
  to_listed : has_slots (map pos plan.otu3_out) x.kind (to_seen x.to) ≡ true
  equal : has_equal_counts (from_seen x.from) (to_seen x.to) ≡ true

end_parts : (plan : Plan) (x : Connection) → breaks_place (top_seen plan) (seen x) ≡ false → breaks_slots (top_seen plan) (seen x) ≡ false → EndParts plan x
end_parts plan x place slots =
    let from = from_seen x.from in
    let to = to_seen x.to in
    let ins = map pos plan.otu3_in in
    let outs = map pos plan.otu3_out in
    let (ends, lined) = and_parts (is_placed ins from && is_placed outs to) (is_line from || is_line to) (not-false _ place) in
    let (from_placed, to_placed) = and_parts (is_placed ins from) (is_placed outs to) ends in
    let (lists, equal) = and_parts (has_slots ins x.kind from && has_slots outs x.kind to) (has_equal_counts from to) (not-false _ slots) in
    let (from_listed, to_listed) = and_parts (has_slots ins x.kind from) (has_slots outs x.kind to) lists in
    record { from_placed = from_placed; to_placed = to_placed; lined = lined; from_listed = from_listed; to_listed = to_listed; equal = equal }

-- ---- the connection

from_line_end : (plan : Plan) (x : Connection) (a port : ℕ) (slots : LineSlots) → EndParts plan x → x.from ≡ from_end.Line a port slots → IsSoundLineEnd plan.otu3_in (slot_count x) a port slots
from_line_end plan x a port slots ends e =
    line_end plan.otu3_in x.kind (slot_count x) a port slots
    (sym (ap (λ end. is_placed (map pos plan.otu3_in) (from_seen end)) e) ∙ ends.from_placed)
    (sym (ap (λ end. has_slots (map pos plan.otu3_in) x.kind (from_seen end)) e) ∙ ends.from_listed)
    (sym (ap (λ end. slots_between end x.to) e))

to_line_end : (plan : Plan) (x : Connection) (b port : ℕ) (slots : LineSlots) → EndParts plan x → x.to ≡ to_end.Line b port slots → IsSoundLineEnd plan.otu3_out (slot_count x) b port slots
to_line_end plan x b port slots ends e =
    line_end plan.otu3_out x.kind (slot_count x) b port slots
    (sym (ap (λ end. is_placed (map pos plan.otu3_out) (to_seen end)) e) ∙ ends.to_placed)
    (sym (ap (λ end. has_slots (map pos plan.otu3_out) x.kind (to_seen end)) e) ∙ ends.to_listed)
    (to_count x.from b port slots (sym (ap (λ end. has_equal_counts (from_seen x.from) (to_seen end)) e) ∙ ends.equal) ∙ sym (ap (slots_between x.from) e))

from_client_end : (plan : Plan) (x : Connection) (n : ℕ) → EndParts plan x → x.from ≡ from_end.Client n → n < CLIENTS
from_client_end plan x n ends e = client_end n (sym (ap (λ end. is_placed (map pos plan.otu3_in) (from_seen end)) e) ∙ ends.from_placed)

to_client_end : (plan : Plan) (x : Connection) (n : ℕ) → EndParts plan x → x.to ≡ to_end.Client n → n < CLIENTS
to_client_end plan x n ends e = client_end n (sym (ap (λ end. is_placed (map pos plan.otu3_out) (to_seen end)) e) ∙ ends.to_placed)

pub sound_entry : (plan : Plan) (x : Connection) → breaks_place (top_seen plan) (seen x) ≡ false → breaks_slots (top_seen plan) (seen x) ≡ false → breaks_pace (seen x) ≡ false → breaks_span (pos plan.turns) (seen x) ≡ false
    → IsSoundEntry plan x
sound_entry plan x place slots pace span =
    let ends = end_parts plan x place slots in
    let turns = span_parts plan.turns x span in
    let count = count_between plan.otu3_in plan.otu3_out x.kind x.from x.to ends.from_listed ends.to_listed ends.lined in
    let paces = pace_parts x count pace in
    record {
      start = search rules;
      span = search rules;
      stop = search rules;
      from_line = λ a port list e. search (rules, from_line_end);
      from_client = λ n e. search (rules, from_client_end);
      to_line = λ b port list e. search (rules, to_line_end);
      to_client = λ n e. search (rules, to_client_end);
      slots_least = search rules;
      slots_most = search rules;
      paces_least = search rules;
      paces_most = search rules;
      pace_least = λ i pace known. let of = paces.each i pace known in search rules;
      pace_most = λ i pace known. let of = paces.each i pace known in search rules;
      retires = λ e. turns.retires e;
    }
