-- Words are the form of one command: by the first word, and then by the others.
use Rattle.std.proofs.Common.{◌≡◌, ◌+◌, ◌-◌, ◌∙◌, ◌&&◌, ℕ, Bool, true, false, nat_eq, if◌then◌else◌, List, [], ◌∷◌, Option, Some, None, codes, refl, sym, ap, arith}
use Rattle.std.specs.Str.Parse.{digits_value}
use Rattle.otn_base.specs.LineSlots.{LineSlots}
use Rattle.otn_base.specs.declared.line_kind.LineKind.{LineKind}
use Rattle.otn_base.specs.declared.line_kind.LineKind.TheVariants.{Otu2}
use Rattle.client_list.proofs.ClientLists.{clients_back, numbers_in}
use Rattle.command_words.specs.Words.{IsForm, digit, slots_text}
use Rattle.command_words.specs.declared.words.Command.{Command}
use Rattle.command_words.specs.declared.words.Command.TheVariants.{Slot, Pull, Check, Run, RunOrdered, RunCaptures, Trial, Protect, Bundle, Unbundle}

abbrev is_word : List ℕ → List ℕ → Bool
is_word [] [] = true
is_word [] (y ∷ ys) = false
is_word (x ∷ xs) [] = false
is_word (x ∷ xs) (y ∷ ys) = nat_eq x y && is_word xs ys

-- ---- what words say, where they are a form

-- a number of one digit
abbrev digit_in : List ℕ → ℕ
digit_in [] = 0
digit_in (c ∷ rest) = c - 48

-- the slots of a list of digits with commas between them
abbrev list_in : List ℕ → List ℕ
list_in [] = []
list_in (c ∷ []) = (c - 48) ∷ []
list_in (c ∷ comma ∷ rest) = (c - 48) ∷ list_in rest

abbrev line_slots : List ℕ → LineSlots
line_slots slots = record { kind = Otu2; list = slots }

-- the command of these words behind its first word
abbrev slot_in : List (List ℕ) → Option Command
slot_in [] = None
slot_in (slot ∷ rest) = Some (Slot (digit_in slot))

abbrev pull_in : List (List ℕ) → Option Command
pull_in [] = None
pull_in (port ∷ []) = None
pull_in (port ∷ slots ∷ rest) = Some (Pull (digit_in port) (line_slots (list_in slots)))

abbrev run_in : List (List ℕ) → Option Command
run_in [] = Some Run
run_in (option ∷ []) = Some RunCaptures
run_in (option ∷ number ∷ rest) = Some (RunOrdered (digits_value 10 number))

abbrev trial_in : List (List ℕ) → Option Command
trial_in [] = None
trial_in (number ∷ rest) = Some (Trial (digits_value 10 number))

abbrev protect_in : List (List ℕ) → Option Command
protect_in [] = None
protect_in (port ∷ []) = None
protect_in (port ∷ slots ∷ []) = None
protect_in (port ∷ slots ∷ turns ∷ []) = None
protect_in (port ∷ slots ∷ turns ∷ wait ∷ rest) = Some (Protect (digit_in port) (line_slots (list_in slots)) (digits_value 10 turns) (digits_value 10 wait))

abbrev bundle_in : List (List ℕ) → Option Command
bundle_in [] = None
bundle_in (clients ∷ []) = None
bundle_in (clients ∷ turns ∷ rest) = Some (Bundle (numbers_in clients) (digits_value 10 turns))

abbrev unbundle_in : List (List ℕ) → Option Command
unbundle_in [] = None
unbundle_in (turns ∷ rest) = Some (Unbundle (digits_value 10 turns))

-- the command that words say
abbrev command_in : List (List ℕ) → Option Command
command_in [] = None
command_in (name ∷ rest) =
    if is_word name (codes "slot") then slot_in rest
    else if is_word name (codes "pull") then pull_in rest
    else if is_word name (codes "check") then Some Check
    else if is_word name (codes "run") then run_in rest
    else if is_word name (codes "trial") then trial_in rest
    else if is_word name (codes "protect") then protect_in rest
    else if is_word name (codes "bundle") then bundle_in rest
    else if is_word name (codes "unbundle") then unbundle_in rest
    else None

-- ---- they say the command whose form they are

digit_back : (n : ℕ) → digit_in (digit n) ≡ n
digit_back n = let e : (48 + n) - 48 ≡ n = omega arith in e

list_back : (slots : List ℕ) → list_in (slots_text slots) ≡ slots
list_back [] = refl
list_back (slot ∷ []) = ap (λ n. n ∷ []) (digit_back slot)
list_back (slot ∷ next ∷ slots) = ap (λ n. n ∷ list_in (slots_text (next ∷ slots))) (digit_back slot) ∙ ap (λ rest. slot ∷ rest) (list_back (next ∷ slots))

slots_back : (slots : LineSlots) → slots.kind ≡ Otu2 → line_slots (list_in (slots_text slots.list)) ≡ slots
slots_back slots kind = ap line_slots (list_back slots.list) ∙ ap (λ k. made k slots.list) (sym kind)
  where
    made : LineKind → List ℕ → LineSlots
    made k l = record { kind = k; list = l }

says : (words : List (List ℕ)) (command : Command) → IsForm words command → command_in words ≡ Some command
says words (Slot slot) h = ap command_in h.0 ∙ ap (λ n. Some (Slot n)) (digit_back slot)
says words (Pull port slots) h =
    ap command_in h.0 ∙ ap (λ n. Some (Pull n (line_slots (list_in (slots_text slots.list))))) (digit_back port) ∙ ap (λ s. Some (Pull port s)) (slots_back slots h.3)
says words Check h = ap command_in h
says words Run h = ap command_in h
says words (RunOrdered number) h = ap command_in h.1 ∙ ap (λ n. Some (RunOrdered n)) h.2.2
says words RunCaptures h = ap command_in h
says words (Trial number) h = ap command_in h.1 ∙ ap (λ n. Some (Trial n)) h.2.2
says words (Protect port slots turns wait) h =
    ap command_in h.2
    ∙ ap (λ n. Some (Protect n (line_slots (list_in (slots_text slots.list))) (digits_value 10 h.0) (digits_value 10 h.1))) (digit_back port)
    ∙ ap (λ s. Some (Protect port s (digits_value 10 h.0) (digits_value 10 h.1))) (slots_back slots h.5)
    ∙ ap (λ n. Some (Protect port slots n (digits_value 10 h.1))) h.7.0.2
    ∙ ap (λ n. Some (Protect port slots turns n)) h.8.2
says words (Bundle clients turns) h = ap command_in h.1 ∙ ap (λ ns. Some (Bundle ns (digits_value 10 h.0))) (clients_back clients h.2) ∙ ap (λ n. Some (Bundle clients n)) h.3.0.2
says words (Unbundle turns) h = ap command_in h.1 ∙ ap (λ n. Some (Unbundle n)) h.2.0.2

pub one_form : (words : List (List ℕ)) (a b : Command) → IsForm words a → IsForm words b → a ≡ b
one_form words a b h k = let e : Some a ≡ Some b = sym (says words a h) ∙ says words b k in cc
