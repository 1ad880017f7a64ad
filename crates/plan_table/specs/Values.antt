-- Believed: what a value of a plan's table says, or what stands for it where the key is not there.
use Rattle.std.specs.Prelude.{ℕ, ◌*◌, ℤ, pos, List, [], ◌∷◌, map, Bool, if◌then◌else◌, Option, Some, unwrap_or, codes}
use Rattle.std.specs.Option.{option_and_then, option_map_or}
use Rattle.std.specs.Str.{bytes_eq}
use Rattle.maintenance_signals.specs.declared.signal.Signal.{Signal}
use Rattle.maintenance_signals.specs.declared.signal.Signal.TheVariants.{Oci, Lck}
use Rattle.otn_base.specs.declared.limits.TheConstants.{NOMINAL}
use Rattle.otn_base.specs.declared.kind.Kind.{Kind}
use Rattle.otn_base.specs.declared.kind.Kind.TheVariants.{Odu0, Flex}
use Rattle.toml.specs.Data.{Data, Items, no_items, item, Members, get_member, as_str, as_integer, as_bool, as_array}

-- ---- values by their kind

-- the number, or else this one
abbrev pub number_or : ℤ → Option Data → ℤ
number_or otherwise value = unwrap_or (option_and_then as_integer value) otherwise

-- the truth value, or else this one
abbrev pub truth_or : Bool → Option Data → Bool
truth_or otherwise value = unwrap_or (option_and_then as_bool value) otherwise

-- the text, or the empty one
abbrev pub text_of : Option Data → List ℕ
text_of value = unwrap_or (option_and_then as_str value) []

-- the items as a list
abbrev pub listed : Items → List Data
listed no_items = []
listed (item value rest) = value ∷ listed rest

-- the list, or the empty one
abbrev pub list_of : Option Data → List Data
list_of value = option_map_or listed (option_and_then as_array value) []

-- the numbers of a list, with 0 for what is none
abbrev pub numbers : List Data → List ℤ
numbers values = map (λ value. number_or (pos 0) (Some value)) values

-- ---- values of some keys

-- the maintenance signal that the text names: `oci` is OCI, all else LCK
abbrev pub signal_of : Option Data → Signal
signal_of value = if bytes_eq (text_of value) (codes "oci") then Oci else Lck

-- the kind that the text names: `odu0`, or else `flex`
abbrev pub kind_of : Option Data → Kind
kind_of value = if bytes_eq (text_of value) (codes "odu0") then Odu0 else Flex

-- the nominal pace of M slots
abbrev pub nominal : ℕ → List ℤ
nominal m = pos (NOMINAL * m) ∷ []

-- the pace, or the nominal one of M slots
abbrev pub pace_at : ℕ → Option Data → List ℤ
pace_at m value = option_map_or (λ pace. numbers (list_of (Some pace))) value (nominal m)

-- the numbers that the table has at the key
abbrev pub numbers_at : List ℕ → Members → List ℤ
numbers_at key top = numbers (list_of (get_member key top))

-- the values of its connections
abbrev pub connections_at : Members → List Data
connections_at top = list_of (get_member (codes "connection") top)
