-- Believed: the rules of a plan's values: of the number of turns, of each connection, and of two connections.
use Rattle.std.specs.Prelude.{ℕ, ℤ, pos, int_le, ◌==◌, List, length, Bool, true, false, not, ◌&&◌, ◌||◌}
use Rattle.std.specs.Int.{int_max, int_min}
use Rattle.std.specs.Ordering.{int_eq}
use Rattle.std.specs.Str.{bytes_eq}
use Rattle.otn_base.specs.declared.kind.Kind.{Kind}
use Rattle.otn_base.specs.declared.kind.Kind.TheVariants.{Odu0, Flex}
use Rattle.otn_base.specs.declared.line_kind.LineKind.{LineKind}
use Rattle.otn_base.specs.declared.line_kind.LineKind.TheVariants.{Otu2, Otu3}
use Rattle.plan_file.specs.Entry.{End, at_line, at_client, of_signal, is_line, is_client, slots_between, Entry, Top}
use Rattle.plan_table.specs.Lines.{line_kind, line_slots}
pub use Rattle.plan_table.specs.NumberTests.{is_within, is_name_byte, is_name, is_sapi, rises, is_line_list, is_slot_list, have_common, least_pace, most_pace, is_pace}

-- ---- names

-- the connection's name is not a name, or its trace not a SAPI
abbrev pub breaks_name : Entry → Bool
breaks_name e = not (is_name e.name && is_sapi e.trace)

-- ---- places

-- one of the four lists of the top is not a list of lines
abbrev pub breaks_lines : Top → Bool
breaks_lines top = not ((is_line_list top.otu3_in && is_line_list top.otu3_out)
    && (is_line_list top.scrambled_in && is_line_list top.scrambled_out))

-- where these lines of the end's side are OTU3
abbrev pub is_placed : List ℤ → End → Bool
is_placed otu3 (at_line line port kind slots) = is_within 0 3 line && is_within 1 (line_slots otu3 line) port
is_placed otu3 (at_client client) = is_within 0 15 client
is_placed otu3 (of_signal signal) = true

-- an end's line, tributary port or client is out of range, or neither end is at a line
abbrev pub breaks_place : Top → Entry → Bool
breaks_place top e = not ((is_placed top.otu3_in e.from && is_placed top.otu3_out e.to)
    && (is_line e.from || is_line e.to))

-- ---- slots

-- one kind of lines
abbrev pub is_same_kind : LineKind → LineKind → Bool
is_same_kind Otu2 Otu2 = true
is_same_kind Otu3 Otu3 = true
is_same_kind _ _ = false

-- an odu0 has exactly one slot
abbrev pub suits : Kind → ℕ → Bool
suits Odu0 count = count == 1
suits Flex count = true

-- where these lines of the end's side are OTU3: the slots are slots of the line, and suit the connection's kind
abbrev pub has_slots : List ℤ → Kind → End → Bool
has_slots otu3 kind (at_line line port made_for slots) =
    (is_same_kind made_for (line_kind otu3 line) && is_slot_list (line_slots otu3 line) slots)
    && suits kind (length slots)
has_slots otu3 kind _ = true

-- where both ends are at lines, they have as many slots
abbrev pub has_equal_counts : End → End → Bool
has_equal_counts (at_line line port kind slots) (at_line number other made_for others) = length slots == length others
has_equal_counts _ _ = true

-- an end has not the slots that it may have, or two ends at lines have not as many
abbrev pub breaks_slots : Top → Entry → Bool
breaks_slots top e = not ((has_slots top.otu3_in e.kind e.from && has_slots top.otu3_out e.kind e.to)
    && has_equal_counts e.from e.to)

-- ---- the pace

-- the pace does not suit the connection's kind and its slots
abbrev pub breaks_pace : Entry → Bool
breaks_pace e = not (is_pace e.kind (slots_between e.from e.to) e.pace)

-- ---- the span

-- the start is at least 1, the stop not before it, and not behind the plan's last turn
abbrev pub is_span : ℤ → Entry → Bool
is_span turns e = (int_le (pos 1) e.start && int_le e.start e.stop) && int_le e.stop turns

-- only a client can be retired
abbrev pub can_retire : Entry → Bool
can_retire e = not e.retire || (is_client e.from || is_client e.to)

-- the span is not within the plan's turns, or what retires has no client
abbrev pub breaks_span : ℤ → Entry → Bool
breaks_span turns e = not (is_span turns e && can_retire e)

-- ---- two connections, the earlier one first

-- both have one name
abbrev pub have_one_name : Entry → Entry → Bool
have_one_name e f = bytes_eq e.name f.name

-- the greater start is at most the lesser stop
abbrev pub meet : Entry → Entry → Bool
meet e f = int_le (int_max e.start f.start) (int_min e.stop f.stop)

-- at one line, with a slot of both
abbrev pub share_slot : End → End → Bool
share_slot (at_line line port kind slots) (at_line number other made_for others) = int_eq line number
    && have_common slots others
share_slot _ _ = false

-- at one line, with one tributary port
abbrev pub share_port : End → End → Bool
share_port (at_line line port kind slots) (at_line number other made_for others) = int_eq line number
    && int_eq port other
share_port _ _ = false

-- at one client
abbrev pub share_client : End → End → Bool
share_client (at_client client) (at_client other) = int_eq client other
share_client _ _ = false

-- both go to a slot of one line while their spans meet
abbrev pub have_one_slot : Entry → Entry → Bool
have_one_slot e f = share_slot e.to f.to && meet e f

-- both go to a tributary port of one line while their spans meet
abbrev pub have_one_port : Entry → Entry → Bool
have_one_port e f = share_port e.to f.to && meet e f

-- from one client, or to one client
abbrev pub have_one_client : Entry → Entry → Bool
have_one_client e f = share_client e.from f.from || share_client e.to f.to
