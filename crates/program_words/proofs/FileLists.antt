-- The files of the first places are files of places that there are.
use Rattle.std.proofs.Common.{◌≤◌, ◌++◌, ℕ, zero, suc, Bool, [], ◌∷◌, All, rules, filter, arith}
use Rattle.std.proofs.lemmas.List.Elements.{All-append, All-filter, All-nil}
use Rattle.otn_base.specs.declared.limits.TheConstants.{LINES, CLIENTS}
use Rattle.program_words.specs.Files.{IsInput, IsOutput, first_lines_in, first_clients_in, first_lines_out, first_clients_out}
use Rattle.program_words.specs.declared.files.InputFile.{InputFile}
use Rattle.program_words.specs.declared.files.InputFile.TheVariants.{Line as line-in, Text as text-in, Capture as capture-in}
use Rattle.program_words.specs.declared.files.OutputFile.{OutputFile}
use Rattle.program_words.specs.declared.files.OutputFile.TheVariants.{Line as line-out, Text as text-out, Capture as capture-out}

-- the files of the first places are files of places that there are
lines_are_inputs : (n : ℕ) → n ≤ LINES → All IsInput (first_lines_in n)
lines_are_inputs zero h = All-nil IsInput
lines_are_inputs (suc n) h = All-append IsInput (first_lines_in n) (line-in n ∷ []) (lines_are_inputs n (omega arith)) (search rules)

clients_are_inputs : (n : ℕ) → n ≤ CLIENTS → All IsInput (first_clients_in n)
clients_are_inputs zero h = All-nil IsInput
clients_are_inputs (suc n) h =
    All-append IsInput (first_clients_in n) (text-in n ∷ capture-in n ∷ []) (clients_are_inputs n (omega arith)) (search rules)

lines_are_outputs : (n : ℕ) → n ≤ LINES → All IsOutput (first_lines_out n)
lines_are_outputs zero h = All-nil IsOutput
lines_are_outputs (suc n) h = All-append IsOutput (first_lines_out n) (line-out n ∷ []) (lines_are_outputs n (omega arith)) (search rules)

clients_are_outputs : (n : ℕ) → n ≤ CLIENTS → All IsOutput (first_clients_out n)
clients_are_outputs zero h = All-nil IsOutput
clients_are_outputs (suc n) h =
    All-append IsOutput (first_clients_out n) (text-out n ∷ capture-out n ∷ []) (clients_are_outputs n (omega arith)) (search rules)

pub inputs_are_places : (p : InputFile → Bool) (n : ℕ) → n ≤ CLIENTS → All IsInput (filter p (first_lines_in LINES ++ first_clients_in n))
inputs_are_places p n h =
    All-filter p IsInput (first_lines_in LINES ++ first_clients_in n)
    (All-append IsInput (first_lines_in LINES) (first_clients_in n) (lines_are_inputs LINES (omega arith)) (clients_are_inputs n h))

pub outputs_are_places : (p : OutputFile → Bool) (n : ℕ) → n ≤ CLIENTS → All IsOutput (filter p (first_lines_out LINES ++ first_clients_out n))
outputs_are_places p n h =
    All-filter p IsOutput (first_lines_out LINES ++ first_clients_out n)
    (All-append IsOutput (first_lines_out LINES) (first_clients_out n) (lines_are_outputs LINES (omega arith)) (clients_are_outputs n h))
