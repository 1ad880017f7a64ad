-- Believed: tests of numbers, of lists of numbers, of paces, and of names and traces.
use Rattle.std.specs.Prelude.{ℕ, ◌*◌, ◌+◌, ◌-◌, ℤ, pos, negsuc, int_lt, nat_le, ◌==◌, List, [], ◌∷◌, length, Bool, true, false, ◌&&◌, ◌||◌}
use Rattle.std.specs.Int.{is_in_range}
use Rattle.std.specs.List.{list_all, list_any}
use Rattle.std.specs.Ordering.{int_eq}
use Rattle.otn_base.specs.declared.limits.TheConstants.{NOMINAL, GROUPS, MOST_PACES}
use Rattle.otn_base.specs.declared.kind.Kind.{Kind}
use Rattle.otn_base.specs.declared.kind.Kind.TheVariants.{Odu0, Flex}

-- ---- numbers, and lists of them

-- the number is from the one bound to the other
abbrev pub is_within : ℕ → ℕ → ℤ → Bool
is_within least most (pos n) = nat_le least n && nat_le n most
is_within least most (negsuc n) = false

-- each number is greater than the one before it
abbrev pub rises : List ℤ → Bool
rises [] = true
rises (first ∷ []) = true
rises (first ∷ second ∷ rest) = int_lt first second && rises (second ∷ rest)

-- a list of lines, which may be empty
abbrev pub is_line_list : List ℤ → Bool
is_line_list lines = list_all (is_within 0 3) lines && rises lines

-- a list of slots of a line of so many
abbrev pub is_slot_list : ℕ → List ℤ → Bool
is_slot_list most slots = (nat_le 1 (length slots) && list_all (is_within 1 most) slots) && rises slots

-- a number of both lists
abbrev pub have_common : List ℤ → List ℤ → Bool
have_common numbers others = list_any (λ number. list_any (int_eq number) others) numbers

-- ---- paces

-- the least number of bytes in a turn, on M slots
abbrev pub least_pace : Kind → ℕ → ℕ
least_pace Odu0 m = NOMINAL - 1
least_pace Flex m = m

-- the greatest number of bytes in a turn, on M slots
abbrev pub most_pace : Kind → ℕ → ℕ
most_pace Odu0 m = NOMINAL + 1
most_pace Flex m = m * GROUPS

-- a pace: a list of such numbers, not empty and not too long
abbrev pub is_pace : Kind → ℕ → List ℤ → Bool
is_pace kind m pace = (nat_le 1 (length pace) && nat_le (length pace) MOST_PACES)
    && list_all (is_within (least_pace kind m) (most_pace kind m)) pace

-- ---- names and traces

-- a to z, 0 to 9 and -
abbrev pub is_name_byte : ℕ → Bool
is_name_byte byte = (is_in_range 97 122 byte || is_in_range 48 57 byte) || byte == 45

-- a name: 1 to 32 of these bytes
abbrev pub is_name : List ℕ → Bool
is_name name = (nat_le 1 (length name) && nat_le (length name) 32) && list_all is_name_byte name

-- a SAPI
abbrev pub is_sapi : List ℕ → Bool
is_sapi bytes = nat_le (length bytes) 15 && list_all (is_in_range 0x20 0x7E) bytes
