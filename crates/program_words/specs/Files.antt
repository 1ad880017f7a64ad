-- API: the files of the current folder, and which of them each command reads and writes.
use Rattle.std.specs.Prelude.{◌≡◌, ◌++◌, ◌⊎◌, ◌<◌, ◌/◌, ◌%◌, nat_lt, ◌==◌, ℕ, zero, suc, Bool, true, false, List, [], ◌∷◌, codes, filter}
use Rattle.std.specs.Fmt.{decimal}
use Rattle.std.specs.List.{list_any}
use Rattle.otn_base.specs.declared.limits.TheConstants.{LINES, CLIENTS}
use Rattle.command_words.specs.Words.{IsForm, IsNoForm}
use Rattle.command_words.specs.declared.words.Command.{Command}
use Rattle.command_words.specs.declared.words.Command.TheVariants.{Slot, Pull, Check, Run, RunOrdered, RunCaptures, Trial, Protect, Bundle, Unbundle}
use Rattle.program_words.specs.declared.files.InputFile.{InputFile}
use Rattle.program_words.specs.declared.files.InputFile.TheVariants.{Line as line-in, Text as text-in, Capture as capture-in}
use Rattle.program_words.specs.declared.files.OutputFile.{OutputFile}
use Rattle.program_words.specs.declared.files.OutputFile.TheVariants.{Line as line-out, Text as text-out, Capture as capture-out}

-- the name of a file of client n: its number in two digits, and an ending
abbrev pub client_name : ℕ → List ℕ → List ℕ
client_name n ending = codes "client-" ++ (decimal (n / 10) ++ (decimal (n % 10) ++ ending))

-- the name of each file of an input
abbrev pub input_name : InputFile → List ℕ
input_name (line-in n) = codes "line-" ++ (decimal n ++ codes ".in")
input_name (text-in n) = client_name n (codes ".in")
input_name (capture-in n) = client_name n (codes ".pcap")

-- the name of each file of an output
abbrev pub output_name : OutputFile → List ℕ
output_name (line-out n) = codes "line-" ++ (decimal n ++ codes ".out")
output_name (text-out n) = client_name n (codes ".out")
output_name (capture-out n) = client_name n (codes ".pcap.out")

-- it is the file of a place that there is
abbrev pub IsInput : InputFile → Type 0
IsInput (line-in n) = n < LINES
IsInput (text-in n) = n < CLIENTS
IsInput (capture-in n) = n < CLIENTS

abbrev pub IsOutput : OutputFile → Type 0
IsOutput (line-out n) = n < LINES
IsOutput (text-out n) = n < CLIENTS
IsOutput (capture-out n) = n < CLIENTS

-- the files of the first inputs, so many lines and so many clients: of a client its packet text comes before its
-- capture
abbrev pub first_lines_in : ℕ → List InputFile
first_lines_in zero = []
first_lines_in (suc n) = first_lines_in n ++ line-in n ∷ []

abbrev pub first_clients_in : ℕ → List InputFile
first_clients_in zero = []
first_clients_in (suc n) = first_clients_in n ++ text-in n ∷ capture-in n ∷ []

-- the files of the first outputs, likewise
abbrev pub first_lines_out : ℕ → List OutputFile
first_lines_out zero = []
first_lines_out (suc n) = first_lines_out n ++ line-out n ∷ []

abbrev pub first_clients_out : ℕ → List OutputFile
first_clients_out zero = []
first_clients_out (suc n) = first_clients_out n ++ text-out n ∷ capture-out n ∷ []

-- whether it is the file of one of the first lines, of so many
abbrev pub is_line_below : ℕ → InputFile → Bool
is_line_below count (line-in n) = nat_lt n count
is_line_below count (text-in n) = false
is_line_below count (capture-in n) = false

-- whether it is the packet text of one of these clients
abbrev pub is_text_of : List ℕ → InputFile → Bool
is_text_of clients (line-in n) = false
is_text_of clients (text-in n) = list_any (λ client. client == n) clients
is_text_of clients (capture-in n) = false

-- whether it is the file of a line or a packet text
abbrev pub is_plain_in : InputFile → Bool
is_plain_in (line-in n) = true
is_plain_in (text-in n) = true
is_plain_in (capture-in n) = false

-- whether it is the file of a line or a packet text
abbrev pub is_plain_out : OutputFile → Bool
is_plain_out (line-out n) = true
is_plain_out (text-out n) = true
is_plain_out (capture-out n) = false

-- whether it is the file of a line or a capture
abbrev pub is_captured_out : OutputFile → Bool
is_captured_out (line-out n) = true
is_captured_out (text-out n) = false
is_captured_out (capture-out n) = true

-- whether it is the file of a packet text
abbrev pub is_text_out : OutputFile → Bool
is_text_out (line-out n) = false
is_text_out (text-out n) = true
is_text_out (capture-out n) = false

-- whether it is the file of line output 0
abbrev pub is_first_line_out : OutputFile → Bool
is_first_line_out (line-out n) = n == 0
is_first_line_out (text-out n) = false
is_first_line_out (capture-out n) = false

-- whether a command reads this file: `slot`, `pull` and `unbundle` line input 0, `protect` line inputs 0 and 1,
-- `bundle` the packet texts of its clients, a run all inputs, and all others none
abbrev pub is_read : Command → InputFile → Bool
is_read (Slot slot) file = is_line_below 1 file
is_read (Pull port slots) file = is_line_below 1 file
is_read Check file = false
is_read Run file = is_plain_in file
is_read (RunOrdered number) file = is_plain_in file
is_read RunCaptures file = true
is_read (Trial number) file = false
is_read (Protect port slots turns wait) file = is_line_below 2 file
is_read (Bundle clients turns) file = is_text_of clients file
is_read (Unbundle turns) file = is_line_below 1 file

-- whether a command writes this file: a run all outputs, `protect` and `bundle` line output 0, `unbundle` the packet
-- texts, and all others none
abbrev pub is_written : Command → OutputFile → Bool
is_written (Slot slot) file = false
is_written (Pull port slots) file = false
is_written Check file = false
is_written Run file = is_plain_out file
is_written (RunOrdered number) file = is_plain_out file
is_written RunCaptures file = is_captured_out file
is_written (Trial number) file = false
is_written (Protect port slots turns wait) file = is_first_line_out file
is_written (Bundle clients turns) file = is_first_line_out file
is_written (Unbundle turns) file = is_text_out file

-- the commands that read the plan
abbrev pub IsOfPlan : Command → Type 0
IsOfPlan (Slot slot) = ⊥
IsOfPlan (Pull port slots) = ⊥
IsOfPlan Check = Unit {0}
IsOfPlan Run = Unit {0}
IsOfPlan (RunOrdered number) = Unit {0}
IsOfPlan RunCaptures = Unit {0}
IsOfPlan (Trial number) = ⊥
IsOfPlan (Protect port slots turns wait) = ⊥
IsOfPlan (Bundle clients turns) = ⊥
IsOfPlan (Unbundle turns) = ⊥

-- the files that a command reads, in the order in which they are opened, and those that it writes
abbrev pub files_read : Command → List InputFile
files_read command = filter (is_read command) (first_lines_in LINES ++ first_clients_in CLIENTS)

abbrev pub files_written : Command → List OutputFile
files_written command = filter (is_written command) (first_lines_out LINES ++ first_clients_out CLIENTS)

-- these are the files that the command of these words reads, or writes; words that are no command have none
abbrev pub AreRead : List (List ℕ) → List InputFile → Type 0
AreRead words files = ((command : Command) × IsForm words command × (files ≡ files_read command))
    ⊎ (IsNoForm words × (files ≡ []))

abbrev pub AreWritten : List (List ℕ) → List OutputFile → Type 0
AreWritten words files = ((command : Command) × IsForm words command × (files ≡ files_written command))
    ⊎ (IsNoForm words × (files ≡ []))

-- these words are a command that reads the plan
abbrev pub ReadsPlan : List (List ℕ) → Type 0
ReadsPlan words = (command : Command) × IsForm words command × IsOfPlan command
