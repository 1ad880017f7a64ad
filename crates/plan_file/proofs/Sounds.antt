-- An outline without a fault is one that a plan can have, and comes back from its plan.
use Rattle.std.proofs.Common.{◌≡◌, ℕ, ◌+◌, ◌≤◌, ℤ, pos, negsuc, Bool, true, false, ◌&&◌, ◌||◌, cond, List, [], ◌∷◌, ◌++◌, length, map, Option, Some, None, option_map, slice_get, refl, ap, sym, ◌∙◌, arith, zero, suc}
use Rattle.std.proofs.lemmas.Bool.{and_parts, not-false}
use Rattle.std.proofs.lemmas.Bool.Decides.{nat_tests}
use Rattle.std.proofs.lemmas.Int.{ints}
use Rattle.std.proofs.lemmas.Option.{slice_get-map}
use Rattle.std.specs.List.{list_all}
use Rattle.std.specs.Option.{option_or}
use Rattle.std.specs.Prelude.{codes, int_le, nat_le, ◌≢◌, Result, Ok, Err, IfOk}
use Rattle.std.proofs.lemmas.Simd.{map-map}
use Rattle.otn_base.specs.LineSlots.{slots_of}
use Rattle.otn_base.specs.declared.kind.Kind.{Kind}
use Rattle.otn_base.specs.declared.kind.Kind.TheVariants.{Odu0, Flex}
use Rattle.otn_base.specs.declared.line_kind.LineKind.{LineKind}
use Rattle.otn_base.specs.declared.line_kind.LineKind.TheVariants.{Otu2, Otu3}
use Rattle.toml.specs.Data.{Data, Members, get}
use Rattle.toml.specs.View.{view}
use Rattle.toml.specs.declared.value.Value.{Value}
use Rattle.plan_file.specs.declared.error.PlanError.{PlanError}
use Rattle.plan_file.specs.declared.error.PlanError.TheVariants.{Turns, BadName, BadPlace, BadSlots, BadPace, BadSpan}
use Rattle.plan_file.specs.declared.error.NoPlan.{NoPlan}
use Rattle.plan_file.specs.declared.error.NoPlan.TheVariants.{Memory}
use Rattle.plan_file.specs.declared.plan.Plan.{Plan}
use Rattle.plan_file.specs.Answer.{accepted_or, fault_in, plan_of_text}
use Rattle.plan_file.specs.Meaning.{table_of_text, meaning_in}
use Rattle.plan_file.specs.Refusal.{fault_of, refusal_in, table_refusal}
use Rattle.plan_file.specs.PlanRules.{plan_places, plan_rules, breaks_whole, breaks_alone, clashes}
use Rattle.plan_file.specs.TableRules.{table_places, table_rules}
use Rattle.plan_file.specs.Entry.{End, at_line, at_client, of_signal, is_line, slot_count, slots_between, Entry, Top, Outline, natural, from_seen, to_seen, seen, outline, from_of, to_of, connection_of, plan_of}
use Rattle.plan_table.specs.declared.ends.Form.TheVariants.{Client, Line}
use Rattle.plan_table.specs.declared.ends.Side.TheVariants.{To}
use Rattle.plan_table.specs.Ends.{has, form_of}
use Rattle.plan_file.specs.Places.{broken_or, first_broken, places, places_from, later_places, top_place}
use Rattle.plan_file.specs.Rules.{is_within, is_name, is_sapi, rises, is_line_list, is_placed, is_slot_list, is_same_kind, has_slots, has_equal_counts, suits, least_pace, most_pace, is_span, can_retire, breaks_name, breaks_place, breaks_slots, breaks_pace, breaks_span}
use Rattle.plan_file.specs.Steps.Sound.{is_sound, is_no_signal, IsSoundTop, IsSound, AreSound, IsSoundOutline}
use Rattle.plan_file.specs.Table.{entry_at, end_of, form_at, top_at, connections_at, outline_at}
use Rattle.plan_table.specs.Lines.{line_kind, line_slots}
use Rattle.plan_file.proofs.Fitting.{within, is_within-wider, list_all-wider, pos-natural}
use Rattle.plan_file.proofs.Places.{both_none, top_none}
use Rattle.plan_file.proofs.Texts.{answer_of}
use Rattle.plan_file.proofs.SlotNumbers.{slot_parts, few_of, few_slots}

-- ---- no rule is broken

broken_or_none : (rule : PlanError) (broken : List ℕ) (later : Option (PlanError × ℕ)) → broken_or rule broken later ≡ None → (broken ≡ []) × (later ≡ None)
broken_or_none rule [] later e = (refl, e)
broken_or_none rule (place ∷ more) later e = cc

none_at : (broken : PlanError → List ℕ) (rules : List PlanError) (i : ℕ) (rule : PlanError) → first_broken broken rules ≡ None → slice_get rules i ≡ Some rule → broken rule ≡ []
none_at broken [] i rule e known = cc
none_at broken (r ∷ rules) zero rule e known =
    let here = (broken_or_none r (broken r) (first_broken broken rules) e).0 in
    let same : r ≡ rule = cc in rw same at here
none_at broken (r ∷ rules) (suc i) rule e known = none_at broken rules i rule (broken_or_none r (broken r) (first_broken broken rules) e).1 known

place_none : (b : Bool) (place : ℕ) (after without : List ℕ) → cond b (place ∷ after) without ≡ [] → (b ≡ false) × (without ≡ [])
place_none true place after without e = cc
place_none false place after without e = (refl, e)

places_none : {A : Type 0} (test : A → Bool) (place : ℕ) (xs : List A) (i : ℕ) (x : A) → places_from place test xs ≡ [] → slice_get xs i ≡ Some x → test x ≡ false
places_none test place [] i x e known = cc
places_none test place (y ∷ ys) zero x e known =
    let fails = (place_none (test y) place (places_from (place + 1) test ys) (places_from (place + 1) test ys) e).0 in
    let same : y ≡ x = cc in rw same at fails
places_none test place (y ∷ ys) (suc i) x e known =
    places_none test (place + 1) ys i x (place_none (test y) place (places_from (place + 1) test ys) (places_from (place + 1) test ys) e).1 known

-- ---- a connection that breaks no rule

same_kind : (one other : LineKind) → is_same_kind one other ≡ true → one ≡ other
same_kind Otu2 Otu2 h = refl
same_kind Otu2 Otu3 h = cc
same_kind Otu3 Otu2 h = cc
same_kind Otu3 Otu3 h = refl

sound_end : (otu3 : List ℤ) (kind : Kind) (end : End) → is_placed otu3 end ≡ true → has_slots otu3 kind end ≡ true → is_sound end ≡ true
sound_end otu3 kind (at_line line port made_for slots) placed listed =
    let most = line_slots otu3 line in
    let (l, p) = and_parts (is_within 0 3 line) (is_within 1 most port) placed in
    let (front, suit) = and_parts (is_same_kind made_for (line_kind otu3 line) && is_slot_list most slots) (suits kind (length slots)) listed in
    let (same, list) = and_parts (is_same_kind made_for (line_kind otu3 line)) (is_slot_list most slots) front in
    let port' : is_within 1 32 port ≡ true = is_within-wider 1 most 1 32 port p (omega arith) (few_of (line_kind otu3 line)) in
    let list' : is_slot_list (slots_of made_for) slots ≡ true = rw (same_kind made_for (line_kind otu3 line) same) list in
    rw (l, port') list'
sound_end otu3 kind (at_client client) placed listed = placed
sound_end otu3 kind (of_signal signal) placed listed = refl

count_short : (end : End) → is_sound end ≡ true → slot_count end ≤ 32
count_short (at_line line port kind slots) h =
    few_slots kind slots (and_parts (is_within 0 3 line && is_within 1 32 port) (is_slot_list (slots_of kind) slots) h).1
count_short (at_client client) h = omega arith
count_short (of_signal signal) h = omega arith

either_short : (b : Bool) (m n : ℕ) → m ≤ 32 → n ≤ 32 → cond b m n ≤ 32
either_short true m n one other = one
either_short false m n one other = other

most_fits : (kind : Kind) (m : ℕ) → m ≤ 32 → most_pace kind m ≤ 4294967295
most_fits Odu0 m h = omega arith
most_fits Flex m h = omega arith

int_le_trans : (x y z : ℤ) → int_le x y ≡ true → int_le y z ≡ true → int_le x z ≡ true
int_le_trans x y z h k = grind (arith, ints)

span_within : (z turns : ℤ) → int_le (pos 1) z ≡ true → int_le z turns ≡ true → is_within 1 16384 turns ≡ true → is_within 1 16384 z ≡ true
span_within (pos n) (pos t) low high in_range = grind (arith, nat_tests)
span_within (pos n) (negsuc t) low high in_range = cc
span_within (negsuc n) turns low high in_range = cc

sound_of : (top : Top) (e : Entry) → is_within 1 16384 top.turns ≡ true → breaks_name e ≡ false → breaks_place top e ≡ false → breaks_slots top e ≡ false → breaks_pace e ≡ false → breaks_span top.turns e ≡ false
    → is_no_signal e.to ≡ true → IsSound e
sound_of top e in_range name place slots pace span no_signal =
    let names = and_parts (is_name e.name) (is_sapi e.trace) (not-false (is_name e.name && is_sapi e.trace) name) in
    let ends = and_parts (is_placed top.otu3_in e.from && is_placed top.otu3_out e.to) (is_line e.from || is_line e.to) (not-false _ place) in
    let placed = and_parts (is_placed top.otu3_in e.from) (is_placed top.otu3_out e.to) ends.0 in
    let lists = and_parts (has_slots top.otu3_in e.kind e.from && has_slots top.otu3_out e.kind e.to) (has_equal_counts e.from e.to) (not-false _ slots) in
    let listed = and_parts (has_slots top.otu3_in e.kind e.from) (has_slots top.otu3_out e.kind e.to) lists.0 in
    let from = sound_end top.otu3_in e.kind e.from placed.0 listed.0 in
    let to = sound_end top.otu3_out e.kind e.to placed.1 listed.1 in
    let m = slots_between e.from e.to in
    let few : m ≤ 32 = either_short (is_line e.from) (slot_count e.from) (slot_count e.to) (count_short e.from from) (count_short e.to to) in
    let paces = and_parts (nat_le 1 (length e.pace) && nat_le (length e.pace) 64) (list_all (is_within (least_pace e.kind m) (most_pace e.kind m)) e.pace) (not-false _ pace) in
    let spans = and_parts (is_span top.turns e) (can_retire e) (not-false _ span) in
    let steps = and_parts (int_le (pos 1) e.start && int_le e.start e.stop) (int_le e.stop top.turns) spans.0 in
    let start = and_parts (int_le (pos 1) e.start) (int_le e.start e.stop) steps.0 in
    record {
      sapi = names.1;
      from = from;
      to = to;
      no_signal = no_signal;
      pace = list_all-wider (least_pace e.kind m) (most_pace e.kind m) 0 4294967295 e.pace paces.1 (omega arith) (most_fits e.kind m few);
      few = few;
      start = span_within e.start top.turns start.0 (int_le_trans e.start e.stop top.turns start.1 steps.1) in_range;
      stop = span_within e.stop top.turns (int_le_trans (pos 1) e.start e.stop start.0 start.1) steps.1 in_range;
    }

-- ---- the connections of a table

-- only a client or a line is in `to`
no_signal_of : (otu3 : List ℤ) (is_client : Bool) (value : Data) → is_no_signal (form_at otu3 (cond is_client Client Line) value) ≡ true
no_signal_of otu3 true value = refl
no_signal_of otu3 false value = refl

no_signal_at : (otu3 : List ℤ) (to : Option Data) → is_no_signal (end_of otu3 (option_map (λ value. record { form = form_of To value; value = value }) to)) ≡ true
no_signal_at otu3 None = refl
no_signal_at otu3 (Some to) = no_signal_of otu3 (has (codes "client") to) to

mapped_at : {A B : Type 0} (f : A → B) (o : Option A) (y : B) → option_map f o ≡ Some y → (x : A) × (y ≡ f x)
mapped_at f None y e = cc
mapped_at f (Some x) y e = (x, cc)

no_signal_in : (top : Top) (connections : List Data) (i : ℕ) (e : Entry) → slice_get (map (entry_at top) connections) i ≡ Some e → is_no_signal e.to ≡ true
no_signal_in top connections i e known =
    let (connection, is) = mapped_at (entry_at top) (slice_get connections i) e (sym (slice_get-map (entry_at top) connections i) ∙ known) in
    rw is (no_signal_at top.otu3_out (get (codes "to") connection))

-- no rule is broken in the whole, and none at a connection
whole_kept : (o : Outline) (i : ℕ) (rule : PlanError) → fault_of o ≡ None → slice_get plan_rules i ≡ Some rule → breaks_whole rule o ≡ false
whole_kept o i rule none known =
    top_none (breaks_whole rule o) (both_none (top_place (breaks_whole rule o)) (places (breaks_alone rule o.top) o.entries ++ later_places (clashes rule) o.entries) (none_at (plan_places o) plan_rules i rule none known)).0

alone_kept : (o : Outline) (i : ℕ) (rule : PlanError) (k : ℕ) (e : Entry) → fault_of o ≡ None → slice_get plan_rules i ≡ Some rule → slice_get o.entries k ≡ Some e → breaks_alone rule o.top e ≡ false
alone_kept o i rule k e none known at_k =
    let alone = places (breaks_alone rule o.top) o.entries in
    let clashing = later_places (clashes rule) o.entries in
    let rest = (both_none (top_place (breaks_whole rule o)) (alone ++ clashing) (none_at (plan_places o) plan_rules i rule none known)).1 in
    places_none (breaks_alone rule o.top) 1 o.entries k e (both_none alone clashing rest).0 at_k

turns_within : (o : Outline) → fault_of o ≡ None → is_within 1 16384 o.top.turns ≡ true
turns_within o none = not-false _ (whole_kept o 0 Turns none refl)

lines_within : (lines : List ℤ) → is_line_list lines ≡ true → list_all (is_within 0 3) lines ≡ true
lines_within lines h = (and_parts (list_all (is_within 0 3) lines) (rises lines) h).0

top_sound : (o : Outline) → fault_of o ≡ None → IsSoundTop o.top
top_sound o none =
    let top = o.top in
    let lists = and_parts (is_line_list top.otu3_in && is_line_list top.otu3_out) (is_line_list top.scrambled_in && is_line_list top.scrambled_out) (not-false _ (whole_kept o 4 BadPlace none refl)) in
    let otu3 = and_parts (is_line_list top.otu3_in) (is_line_list top.otu3_out) lists.0 in
    let scrambled = and_parts (is_line_list top.scrambled_in) (is_line_list top.scrambled_out) lists.1 in
    record {
      turns = turns_within o none;
      otu3_in = lines_within top.otu3_in otu3.0;
      otu3_out = lines_within top.otu3_out otu3.1;
      scrambled_in = lines_within top.scrambled_in scrambled.0;
      scrambled_out = lines_within top.scrambled_out scrambled.1;
    }

are_sound : (top : Top) (connections : List Data) → fault_of (record { top = top; entries = map (entry_at top) connections }) ≡ None → AreSound (map (entry_at top) connections)
are_sound top connections none = record {
  each = λ i e known.
      let o : Outline = record { top = top; entries = map (entry_at top) connections } in
      sound_of top e (turns_within o none)
      (alone_kept o 2 BadName i e none refl known)
      (alone_kept o 4 BadPlace i e none refl known)
      (alone_kept o 5 BadSlots i e none refl known)
      (alone_kept o 9 BadPace i e none refl known)
      (alone_kept o 10 BadSpan i e none refl known)
      (no_signal_in top connections i e known);
}

pub outline_sound : (table : Members) → fault_of (outline_at table) ≡ None → IsSoundOutline (outline_at table)
outline_sound table none = record { top = top_sound (outline_at table) none; entries = are_sound (top_at table) (connections_at table) none }

-- ---- back from the plan

slots_back : (kind : LineKind) (slots : List ℤ) → is_slot_list (slots_of kind) slots ≡ true → map pos (map natural slots) ≡ slots
slots_back kind slots h = pos-natural 1 (slots_of kind) slots (slot_parts (slots_of kind) slots h).all

-- the parts of an end at a line
record LineParts (line port : ℤ) (kind : LineKind) (slots : List ℤ) : Type 0 where
  same_line : pos (natural line) ≡ line
  same_port : pos (natural port) ≡ port
  same_slots : map pos (map natural slots) ≡ slots

line_parts : (line port : ℤ) (kind : LineKind) (slots : List ℤ) → is_sound (at_line line port kind slots) ≡ true → LineParts line port kind slots
line_parts line port kind slots sound =
    let (placed, list) = and_parts (is_within 0 3 line && is_within 1 32 port) (is_slot_list (slots_of kind) slots) sound in
    let (l, p) = and_parts (is_within 0 3 line) (is_within 1 32 port) placed in
    record { same_line = (within 0 3 line l).same; same_port = (within 1 32 port p).same; same_slots = slots_back kind slots list }

from_back : (end : End) → is_sound end ≡ true → from_seen (from_of end) ≡ end
from_back (at_line line port kind slots) sound =
    let parts = line_parts line port kind slots sound in
    rw (parts.same_line, parts.same_port, parts.same_slots)
from_back (at_client client) sound = rw (within 0 15 client sound).same
from_back (of_signal signal) sound = refl

to_back : (end : End) → is_sound end ≡ true → is_no_signal end ≡ true → to_seen (to_of end) ≡ end
to_back (at_line line port kind slots) sound no_signal =
    let parts = line_parts line port kind slots sound in
    rw (parts.same_line, parts.same_port, parts.same_slots)
to_back (at_client client) sound no_signal = rw (within 0 15 client sound).same
to_back (of_signal signal) sound no_signal = cc

entry_back : (e : Entry) → IsSound e → seen (connection_of e) ≡ e
entry_back e sound =
    rw (from_back e.from sound.from, to_back e.to sound.to sound.no_signal, pos-natural 0 4294967295 e.pace sound.pace, (within 1 16384 e.start sound.start).same, (within 1 16384 e.stop sound.stop).same)

tail_sound : (e : Entry) (es : List Entry) → AreSound (e ∷ es) → AreSound es
tail_sound e es sound = record { each = λ i f known. sound.each (suc i) f known }

entries_back : (es : List Entry) → AreSound es → map seen (map connection_of es) ≡ es
entries_back [] sound = refl
entries_back (e ∷ es) sound = rw (entry_back e (sound.each 0 e refl), entries_back es (tail_sound e es sound))

lines_back : (lines : List ℤ) → list_all (is_within 0 3) lines ≡ true → map pos (map natural lines) ≡ lines
lines_back lines h = pos-natural 0 3 lines h

outline_back : (o : Outline) → IsSoundOutline o → outline (plan_of o) ≡ o
outline_back o sound =
    let top = sound.top in
    rw ((within 1 16384 o.top.turns top.turns).same, lines_back o.top.otu3_in top.otu3_in, lines_back o.top.otu3_out top.otu3_out, lines_back o.top.scrambled_in top.scrambled_in, lines_back o.top.scrambled_out top.scrambled_out, entries_back o.entries sound.entries)

-- ---- the outline of a table

entries_seen : (top : Top) (connections : List Data) (values : List Value) → map view values ≡ connections → map (λ value. entry_at top (view value)) values ≡ map (entry_at top) connections
entries_seen top connections values same = sym (map-map (entry_at top) view values) ∙ ap (map (entry_at top)) same

-- what the code sees of a table
pub table_seen : (table : Members) (top : Top) (values : List Value) → top ≡ top_at table → map view values ≡ connections_at table
    → ◌≡◌ {A = Outline} (record { top = top; entries = map (λ value. entry_at top (view value)) values }) (outline_at table)
table_seen table top values same same' = rw (entries_seen top (connections_at table) values same', same)

-- ---- an accepted plan

accepted_none : (plan accepted : Plan) (broken : Option (PlanError × ℕ)) → Ok plan ≡ accepted_or accepted broken → (broken ≡ None) × (plan ≡ accepted)
accepted_none plan accepted None e = (refl, cc)
accepted_none plan accepted (Some broken) e = cc

later_none : (one other : Option (PlanError × ℕ)) → option_or one other ≡ None → other ≡ None
later_none None other e = e
later_none (Some broken) other e = cc

back_without_fault : (top : Members) → fault_of (outline_at top) ≡ None → fault_in (plan_of (outline_at top)) ≡ None
unfolding fault_in
back_without_fault top none =
    ap fault_of (outline_back (outline_at top) (outline_sound top none)) ∙ none

pub accepted_without_fault : (top : Members) (answer : Result Plan NoPlan) → (answer ≢ Err Memory → answer ≡ accepted_or (plan_of (outline_at top)) (table_refusal top)) → IfOk answer (λ plan. fault_in plan ≡ None)
accepted_without_fault top (Ok plan) h =
    let (none, same) = accepted_none plan (plan_of (outline_at top)) (table_refusal top) (h (λ bad. cc)) in
    rw same (back_without_fault top (later_none (first_broken (table_places top) table_rules) (fault_of (outline_at top)) none))
accepted_without_fault top (Err refused) h = tt

-- so of what a text may have as its table
in_table : (table : Option Members) (plan : Plan) → accepted_or (meaning_in table) (refusal_in table) ≡ Ok plan → fault_in plan ≡ None
in_table None plan e = cc
in_table (Some top) plan e =
    let (none, same) = accepted_none plan (plan_of (outline_at top)) (table_refusal top) (sym e) in
    rw same (back_without_fault top (later_none (first_broken (table_places top) table_rules) (fault_of (outline_at top)) none))

pub accepted_text : (text : List ℕ) (plan : Plan) → plan_of_text text ≡ Ok plan → fault_in plan ≡ None
accepted_text text plan e = in_table (table_of_text text) plan (answer_of text (table_of_text text) refl ∙ e)
