-- Steps of `write_lines`, `gather` and others: lines whose records leave together.
use Rattle.std.specs.Prelude.{ℕ, ◌≡◌, ◌<◌, ◌+◌, ◌&&◌, nat_le, Bool, true, List, [], ◌∷◌, ◌++◌, length, take, drop, Option}
use Rattle.port_base.specs.Bytes.{after}
use Rattle.port_base.specs.declared.drain.Written.{Written}
use Rattle.port_base.specs.declared.drain.Written.TheVariants.{Whole, Lost}
use Rattle.pcap_packets.specs.Written.{all_lower, is_line, packet_of, record_of}

-- the digits of a line that gives a record: of lower case, some, of even count, as many as a line may have at most
abbrev pub is_whole_line : List ℕ → Bool
is_whole_line digits = all_lower digits && (is_line digits && nat_le (length digits) 131062)

-- those of lines
unfoldable pub are_lines : List (List ℕ) → Bool
are_lines [] = true
are_lines (digits ∷ lines) = is_whole_line digits && are_lines lines

-- the text of lines, each of which has these digits and LF
unfoldable pub lines_text : List (List ℕ) → List ℕ
lines_text [] = []
lines_text (digits ∷ lines) = digits ++ (10 ∷ lines_text lines)

-- the records of their packets
unfoldable pub lines_records : List (List ℕ) → List ℕ
lines_records [] = []
lines_records (digits ∷ lines) = record_of (packet_of digits) ++ lines_records lines

-- a text is that of lines
pub record AreLines (lines : List (List ℕ)) (text : List ℕ) : Type 0 where
  pub good : are_lines lines ≡ true
  pub is : text ≡ lines_text lines

-- a text has lines alone, and these are their records
pub record Gathered (text records : List ℕ) : Type 0 where
  pub lines : List (List ℕ)
  pub are : AreLines lines text
  pub all : records ≡ lines_records lines

-- one line's record stands behind others
pub record OneMore (text old new : List ℕ) : Type 0 where
  pub digits : List ℕ
  pub good : is_whole_line digits ≡ true
  pub is : text ≡ digits ++ 10 ∷ []
  pub more : new ≡ old ++ record_of (packet_of digits)

-- a text has these lines, and their records have more bytes than so many
pub record IsCut (lines : List (List ℕ)) (text : List ℕ) (written : ℕ) : Type 0 where
  pub are : AreLines lines text
  pub less : written < length (lines_records lines)

pub record HasCut (text : List ℕ) (written : ℕ) : Type 0 where
  pub lines : List (List ℕ)
  pub cut : IsCut lines text written

-- So many bytes of lines' records end at the line that begins there in the text: the lines before it are within with
-- their whole records, and of its own so many bytes.
pub record StopsAt (all : List (List ℕ)) (text : List ℕ) (written done left : ℕ) : Type 0 where
  pub lines : List (List ℕ)
  pub digits : List ℕ
  pub later : List (List ℕ)
  pub are : all ≡ lines ++ digits ∷ later
  pub good : are_lines lines ≡ true
  pub line : is_whole_line digits ≡ true
  pub before : take done text ≡ lines_text lines
  pub behind : drop done text ≡ lines_text (digits ∷ later)
  pub size : written ≡ length (lines_records lines) + left
  pub less : left < length (record_of (packet_of digits))

-- What went ends in the record of the line with these digits, of which this rest is left; the text is that of the lines
-- before and these digits.
pub record PartWent (text written digits rest : List ℕ) : Type 0 where
  pub lines : List (List ℕ)
  pub good : are_lines lines ≡ true
  pub line : is_whole_line digits ≡ true
  pub is : text ≡ lines_text lines ++ digits
  pub part : List ℕ
  pub parts : written ≡ lines_records lines ++ part
  pub cut : part ++ rest ≡ record_of (packet_of digits)

-- what went of a text by its records: of lines alone, all; else the lines in front, and a part of the record of the
-- line that is in hand
abbrev pub LinesLeft : Written → (text written digits rest : List ℕ) → Type 0
LinesLeft Whole text written digits rest = Gathered text written × (digits ≡ []) × (rest ≡ [])
LinesLeft Lost text written digits rest = PartWent text written digits rest

-- records of lines went to a sink
pub record WentLines (answer : Written) (text : List ℕ) (first : Option (List ℕ)) (digits rest : List ℕ)
    (now : Option (List ℕ)) : Type 0 where
  pub written : List ℕ
  pub got : now ≡ after first written
  pub left : LinesLeft answer text written digits rest
