-- Believed: the report of the trial.
use Rattle.std.specs.Prelude.{ℕ, zero, suc, ◌+◌, List, [], ◌∷◌, ◌++◌, length, sum, map, codes}
use Rattle.std.specs.Fmt.{decimal}
use Rattle.std.specs.List.{concat}
use Rattle.crc_small.specs.LongDivision.{crc32_of}
use Rattle.gfp_frames.specs.CoreHeader.{four_bytes}
use Rattle.hex.specs.Hex.{encode_lower}
use Rattle.trial_plans.specs.TrialPlans.{trial_clients}

-- the check of a line file: its CRC-32 in eight hex digits, the most significant first
abbrev pub check_digits : (file : List ℕ) → List ℕ
check_digits file = encode_lower (four_bytes (crc32_of file))

-- `line L check H`, of the file of a line
unfoldable pub check_line : (line : ℕ) → (file : List ℕ) → List ℕ
check_line line file = codes "line " ++ (decimal line ++ (codes " check " ++ (check_digits file ++ 10 ∷ [])))

-- `client C sent 16 got G bytes B`
unfoldable pub client_line : (c packets bytes : ℕ) → List ℕ
client_line c packets bytes = codes "client "
    ++ (decimal c ++ (codes " sent 16 got " ++ (decimal packets ++ (codes " bytes " ++ (decimal bytes ++ 10 ∷ [])))))

-- ---- what came at a client, by its text

-- the sum of the lengths of packets
abbrev pub bytes_of : List (List ℕ) → ℕ
bytes_of packets = sum (map length packets)

-- the lines of the first n clients, to whom these packets came
unfoldable pub client_lines : (packets : (c : ℕ) → List (List ℕ)) → (n : ℕ) → List ℕ
client_lines packets zero = []
client_lines packets (suc n) = client_lines packets n ++ client_line n (length (packets n)) (bytes_of (packets n))

-- the report of runs that wrote these files, and brought these packets to the clients
unfoldable pub trial_report : (frames : (run : ℕ) → List (List ℕ)) → (packets : (c : ℕ) → List (List ℕ)) → List ℕ
trial_report frames packets =
    check_line 0 (concat (frames 0)) ++ (check_line 1 (concat (frames 1))
    ++ (check_line 2 (concat (frames 2)) ++ client_lines packets trial_clients))
