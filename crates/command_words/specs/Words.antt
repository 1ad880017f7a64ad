-- Believed: the words of the commands.
use Rattle.std.specs.Prelude.{◌≡◌, ◌+◌, ◌<◌, ◌≤◌, ◌^◌, ℕ, List, [], ◌∷◌, length, map, codes, string_bytes, String}
use Rattle.std.specs.Str.Parse.{IsNumeral, digits_value}
use Rattle.std.specs.declared.alloc.Global.{Global}
use Rattle.otn_base.specs.SlotList.{IsSlotList}
use Rattle.otn_base.specs.declared.limits.TheConstants.{MOST_TURNS, OTU2_SLOTS}
use Rattle.otn_base.specs.declared.line_kind.LineKind.TheVariants.{Otu2}
use Rattle.client_list.specs.ClientLists.{IsClientList, clients_text}
use Rattle.command_words.specs.declared.words.TheConstants.{NUMBER_DIGITS, TURN_DIGITS}
use Rattle.command_words.specs.declared.words.Command.{Command}
use Rattle.command_words.specs.declared.words.Command.TheVariants.{Slot, Pull, Check, Run, RunOrdered, RunCaptures, Trial, Protect, Bundle, Unbundle}

-- the bytes of each word
abbrev pub texts : List (String Global) → List (List ℕ)
texts words = map string_bytes words

-- the text of a number of one digit; 48 is the character 0
abbrev pub digit : ℕ → List ℕ
digit n = (48 + n) ∷ []

-- the text of a list of slots: their digits, with commas between them; 44 is the comma
abbrev pub slots_text : List ℕ → List ℕ
slots_text [] = []
slots_text (slot ∷ []) = digit slot
slots_text (slot ∷ next ∷ slots) = (48 + slot) ∷ 44 ∷ slots_text (next ∷ slots)

-- the text of a number: its value in decimal digits, of which there are 1 to 20, with zeros in front allowed; it has 64
-- bits at most
abbrev pub IsNumberText : List ℕ → ℕ → Type 0
IsNumberText text number = IsNumeral 10 text × (length text ≤ NUMBER_DIGITS) × (digits_value 10 text ≡ number)
    × (number < 2 ^ 64)

-- the text of a number of turns to wait: its value in decimal digits, of which there are 1 to 5, with zeros in front
-- allowed; 16,384 at most
abbrev pub IsWaitText : List ℕ → ℕ → Type 0
IsWaitText text number = IsNumeral 10 text × (length text ≤ TURN_DIGITS) × (digits_value 10 text ≡ number)
    × (number ≤ MOST_TURNS)

-- the text of a number of turns, likewise, of which there is one at least
abbrev pub IsTurnsText : List ℕ → ℕ → Type 0
IsTurnsText text number = IsWaitText text number × (1 ≤ number)

-- the form of the words of each command; lines are OTU2 lines
abbrev pub IsForm : List (List ℕ) → Command → Type 0
IsForm words (Slot slot) = (words ≡ codes "slot" ∷ digit slot ∷ []) × (1 ≤ slot) × (slot ≤ OTU2_SLOTS)
IsForm words (Pull port slots) =
    (words ≡ codes "pull" ∷ digit port ∷ slots_text slots.list ∷ []) × (1 ≤ port) × (port ≤ OTU2_SLOTS)
    × (slots.kind ≡ Otu2) × IsSlotList OTU2_SLOTS slots.list
IsForm words Check = words ≡ codes "check" ∷ []
IsForm words Run = words ≡ codes "run" ∷ []
IsForm words (RunOrdered number) = (text : List ℕ) × (words ≡ codes "run" ∷ codes "--order" ∷ text ∷ [])
    × IsNumberText text number
IsForm words RunCaptures = words ≡ codes "run" ∷ codes "--pcap" ∷ []
IsForm words (Trial number) = (text : List ℕ) × (words ≡ codes "trial" ∷ text ∷ []) × IsNumberText text number
IsForm words (Protect port slots turns wait) =
    (turns_text : List ℕ) × (wait_text : List ℕ)
    × (words ≡ codes "protect" ∷ digit port ∷ slots_text slots.list ∷ turns_text ∷ wait_text ∷ [])
    × (1 ≤ port) × (port ≤ OTU2_SLOTS) × (slots.kind ≡ Otu2) × IsSlotList OTU2_SLOTS slots.list
    × IsTurnsText turns_text turns × IsWaitText wait_text wait
IsForm words (Bundle clients turns) = (text : List ℕ) × (words ≡ codes "bundle" ∷ clients_text clients ∷ text ∷ [])
    × IsClientList clients × IsTurnsText text turns
IsForm words (Unbundle turns) = (text : List ℕ) × (words ≡ codes "unbundle" ∷ text ∷ []) × IsTurnsText text turns

-- words that are the form of no command
abbrev pub IsNoForm : List (List ℕ) → Type 0
IsNoForm words = (command : Command) → IsForm words command → ⊥
