-- Believed: the bytes JC1 to JC3 of a message (G.709 Annex D): how the number Cm is said after the former one, and
-- heard. The inversion patterns and the meaning of the indicators II and DI are this project's reading of the annex.
use Rattle.std.specs.Prelude.{ℕ, ◌+◌, ◌*◌, ◌/◌, ◌%◌, ◌^◌, ◌-◌, List, [], ◌∷◌, length, ◌==◌, ◌&&◌, nat_le, Bool, true, false, if◌then◌else◌, Option, Some, None, codes}
use Rattle.crc_small.specs.LongDivision.{crc8_of, low_bits}
use Rattle.jc_codec.specs.declared.listener.Heard.{Heard}
use Rattle.jc_codec.specs.declared.listener.Heard.TheVariants.{Accepted, Damaged, BaseLost}
use Rattle.otn_base.specs.declared.limits.TheConstants.{GROUPS}

-- a row of the table of changes: what the next number is more and less than the former one by, the letters I
-- (inverted) and U (unchanged) of the former number's bits C1 to C14, and the indicators II and DI
pub record Row : Type 0 where
  pub more : ℕ
  pub less : ℕ
  pub letters : List ℕ
  pub ii : ℕ
  pub di : ℕ

-- the letters of the changes by 0, +1, -1, +2 and -2, from bit C1 to bit C14
unfoldable pub same : List ℕ
same = codes "UUUUUUUUUUUUUU"

unfoldable pub one_more : List ℕ
one_more = codes "IUIUIUIUIUIUIU"

unfoldable pub one_less : List ℕ
one_less = codes "UIUIUIUIUIUIUI"

unfoldable pub two_more : List ℕ
two_more = codes "UIIUUIIUUIIUUI"

unfoldable pub two_less : List ℕ
two_less = codes "IUUIIUUIIUUIIU"

-- the table of changes: by 0, +1, -1, +2 and -2
abbrev pub table : List Row
table =
    record { more = 0; less = 0; letters = same; ii = 0; di = 0 }
    ∷ record { more = 1; less = 0; letters = one_more; ii = 1; di = 0 }
    ∷ record { more = 0; less = 1; letters = one_less; ii = 0; di = 1 }
    ∷ record { more = 2; less = 0; letters = two_more; ii = 1; di = 0 }
    ∷ record { more = 0; less = 2; letters = two_less; ii = 0; di = 1 }
    ∷ []

-- a number's bits C1 to C14, the most significant first, inverted where the letter is I, and as a number again
unfoldable pub inverted_at : (letters bits : List ℕ) → List ℕ
inverted_at [] bits = bits
inverted_at (letter ∷ letters) [] = []
inverted_at (letter ∷ letters) (bit ∷ bits) = (if letter == 73 then 1 - bit else bit) ∷ inverted_at letters bits

unfoldable pub number_of : List ℕ → ℕ
number_of [] = 0
number_of (bit ∷ bits) = bit * 2 ^ length bits + number_of bits

unfoldable pub turned : List ℕ → ℕ → ℕ
turned letters cm = number_of (inverted_at letters (low_bits 14 cm))

-- what JC1 and JC2 hold: the bits C1 to C14, as a number, and II and DI; and all sixteen bits as a number
pub record Word : Type 0 where
  pub bits : ℕ
  pub ii : ℕ
  pub di : ℕ

abbrev pub word_value : Word → ℕ
word_value word = 4 * word.bits + 2 * word.ii + word.di

-- whether a row is of the change from the former number to the next one
abbrev pub is_change : (former next : ℕ) → Row → Bool
is_change former next row = next + row.less == former + row.more

-- What JC1 and JC2 hold to say the next number. A change by a row of the table: the former number's bits inverted by
-- that row's pattern. Any other change, or no former number: the next number's own bits, and II and DI are 1.
abbrev pub word_in : List Row → (former next : ℕ) → Word
word_in [] former next = record { bits = next; ii = 1; di = 1 }
word_in (row ∷ rows) former next = if is_change former next row
    then record { bits = turned row.letters former; ii = row.ii; di = row.di } else word_in rows former next

abbrev pub word_said : Option ℕ → ℕ → Word
word_said None next = record { bits = next; ii = 1; di = 1 }
word_said (Some former) next = word_in table former next

-- the bytes JC1 to JC3 that say the next number after the former one
unfoldable pub says : Option ℕ → ℕ → List ℕ
says former next = let word = word_value (word_said former next) in
    word / 256 ∷ word % 256 ∷ crc8_of (word / 256 ∷ word % 256 ∷ []) ∷ []

-- a number heard, and a change: damaged where the number is past the groups of a multiframe, or would be below 0
abbrev pub in_range : ℕ → Bool → Heard
in_range cm equal = if nat_le cm GROUPS then Accepted cm equal else Damaged

abbrev pub moved : (former more less : ℕ) → Heard
moved former more less = if nat_le less (former + more) then in_range (former + more - less) false else Damaged

-- whether a row has these indicators, and its pattern turns the former number's bits into these
abbrev pub fits : (former bits ii di : ℕ) → Row → Bool
fits former bits ii di row = row.ii == ii && row.di == di && turned row.letters former == bits

-- the change by the row that fits; where none does, the base is lost
abbrev pub heard_in : List Row → (former bits ii di : ℕ) → Heard
heard_in [] former bits ii di = BaseLost
heard_in (row ∷ rows) former bits ii di =
    if fits former bits ii di row then moved former row.more row.less else heard_in rows former bits ii di

-- with unequal indicators it is a change, lost without a former number; with equal ones the number is the 14 bits
abbrev pub hears_change : (former : Option ℕ) (bits ii di : ℕ) → Heard
hears_change None bits ii di = BaseLost
hears_change (Some former) bits ii di = heard_in table former bits ii di

abbrev pub hears_word : Option ℕ → ℕ → Heard
hears_word former word = if word / 2 % 2 == word % 2 then in_range (word / 4) true
    else hears_change former (word / 4) (word / 2 % 2) (word % 2)

-- what a listener that keeps this former number hears: damaged where the CRC-8 is wrong
unfoldable pub hears : Option ℕ → (jc1 jc2 jc3 : ℕ) → Heard
hears former jc1 jc2 jc3 = if jc3 == crc8_of (jc1 ∷ jc2 ∷ []) then hears_word former (jc1 * 256 + jc2) else Damaged

-- what it keeps then
abbrev pub keeps : Option ℕ → Heard → Option ℕ
keeps former (Accepted cm equal) = Some cm
keeps former Damaged = former
keeps former BaseLost = None
