-- Lines whose records leave together.
use Rattle.std.proofs.Common.{◌≡◌, ◌≢◌, ◌<◌, ◌≤◌, ◌+◌, ◌-◌, ◌/◌, ◌%◌, ◌==◌, ◌&&◌, not, nat_le, ℕ, zero, suc, Bool, true, false, List, [], ◌∷◌, ◌++◌, length, take, drop, slice_index, add-one, arith, refl, sym, ap, ◌∙◌, length-drop, length-append, append_assoc, append-nil}
use Rattle.std.proofs.lemmas.Bool.{and_parts, and_from, eqb-true}
use Rattle.std.proofs.lemmas.Bool.Decides.{nat_tests}
use Rattle.std.proofs.lemmas.List.{take_all, take_at, drop_at, drop-drop, take-append-drop, take-append-le}
use Rattle.std.proofs.Math.Seq.{take-add, take-append-add}
use Rattle.packet_text.specs.PacketText.{is_nothing}
use Rattle.pcap_packets.specs.Written.{is_lower_digit, all_lower, digits_in_front, is_line, packet_of, record_of}
use Rattle.pcap_packets.specs.Steps.Gathering.{is_whole_line, are_lines, lines_text, lines_records, Gathered, OneMore, IsCut, StopsAt, PartWent}
use Rattle.pcap_packets.proofs.Digits.{all_lower-append, length-packet_of}
use Rattle.pcap_packets.proofs.Writings.{length-record_of}

-- a part up to the end
pub rest_all : (d : ℕ) (xs : List ℕ) → take (length xs - d) (drop d xs) ≡ drop d xs
rest_all d xs = let size = length-drop d xs in take_all (length xs - d) (drop d xs) (omega arith)

-- ---- digits

and_true : (b : Bool) → (b && true) ≡ b
and_true true = refl
and_true false = refl

and_assoc : (a b c : Bool) → (a && (b && c)) ≡ ((a && b) && c)
and_assoc true b c = refl
and_assoc false b c = refl

lower_suc : (bytes : List ℕ) (n : ℕ) → n < length bytes → all_lower (take (suc n) bytes) ≡ (all_lower (take n bytes) && is_lower_digit (slice_index bytes n))
unfolding all_lower
lower_suc [] n less = absurd (omega arith)
lower_suc (x ∷ xs) zero less = and_true (is_lower_digit x)
lower_suc (x ∷ xs) (suc n) less = ap (λ b. is_lower_digit x && b) (lower_suc xs n (omega arith)) ∙ and_assoc (is_lower_digit x) (all_lower (take n xs)) (is_lower_digit (slice_index xs n))

-- one digit more, or none
pub lower_next : (bytes : List ℕ) (n : ℕ) → n < length bytes → all_lower (take (n + 1) bytes) ≡ (all_lower (take n bytes) && is_lower_digit (slice_index bytes n))
lower_next bytes n less = rw add-one (lower_suc bytes n less)

-- a block of digits more
pub lower_block : (bytes : List ℕ) (n m : ℕ) → all_lower (take n bytes) ≡ true → all_lower (take m (drop n bytes)) ≡ true → all_lower (take (n + m) bytes) ≡ true
lower_block bytes n m h k = ap all_lower (take-add n m bytes) ∙ all_lower-append (take n bytes) (take m (drop n bytes)) h k

lower_lf : (more : List ℕ) → digits_in_front (10 ∷ more) ≡ 0
unfolding digits_in_front
lower_lf more = refl

-- a line's digits are those in front of it
pub line_digits : (digits more : List ℕ) → all_lower digits ≡ true → digits_in_front (digits ++ (10 ∷ more)) ≡ length digits
unfolding all_lower digits_in_front
line_digits [] more h = lower_lf more
line_digits (x ∷ xs) more h =
    let parts = and_parts (is_lower_digit x) (all_lower xs) h in
    rw parts.0 (ap suc (line_digits xs more parts.1))

-- ---- a line

pub record WholeLine (digits : List ℕ) : Type 0 where
  pub lower : all_lower digits ≡ true
  pub line : is_line digits ≡ true
  pub even : length digits % 2 ≡ 0
  pub few : length digits ≤ 131062
  pub some : 0 < length digits

some_bytes : (digits : List ℕ) → not (is_nothing digits) ≡ true → 0 < length digits
some_bytes [] h = absurd (cc)
some_bytes (x ∷ xs) h = omega arith

is_some_bytes : (digits : List ℕ) → 0 < length digits → not (is_nothing digits) ≡ true
is_some_bytes [] h = absurd (omega arith)
is_some_bytes (x ∷ xs) h = refl

pub whole_line-is : (digits : List ℕ) → is_whole_line digits ≡ true → WholeLine digits
whole_line-is digits h =
    let a = and_parts (all_lower digits) (is_line digits && nat_le (length digits) 131062) h in
    let b = and_parts (is_line digits) (nat_le (length digits) 131062) a.1 in
    let l = and_parts (not (is_nothing digits)) (length digits % 2 == 0) b.0 in
    record { lower = a.0; line = b.0; even = eqb-true _ _ l.1; few = grind (arith, nat_tests, b.1); some = some_bytes digits l.0 }

pub is_whole : (digits : List ℕ) → all_lower digits ≡ true → 0 < length digits → length digits % 2 ≡ 0 → length digits ≤ 131062 → is_whole_line digits ≡ true
is_whole digits lower some even few =
    let two : (length digits % 2 == 0) ≡ true = grind (arith, nat_tests) in
    let size : nat_le (length digits) 131062 ≡ true = grind (arith, nat_tests) in
    let line : is_line digits ≡ true = and_from (not (is_nothing digits)) (length digits % 2 == 0) (is_some_bytes digits some) two in
    and_from (all_lower digits) (is_line digits && nat_le (length digits) 131062) lower (and_from (is_line digits) (nat_le (length digits) 131062) line size)

pub length-line_record : (digits : List ℕ) → is_whole_line digits ≡ true → length (record_of (packet_of digits)) ≡ 16 + length digits / 2
length-line_record digits h =
    let w = whole_line-is digits h in
    let two = length-packet_of digits w.lower w.even in
    let size = length-record_of (packet_of digits) in
    omega (arith, two, size)

-- ---- lines

pub text-append : (a b : List (List ℕ)) → lines_text (a ++ b) ≡ lines_text a ++ lines_text b
unfolding lines_text
text-append [] b = refl
text-append (d ∷ ds) b = ap (λ l. d ++ (10 ∷ l)) (text-append ds b) ∙ sym (append_assoc d (10 ∷ lines_text ds) (lines_text b))

pub records-append : (a b : List (List ℕ)) → lines_records (a ++ b) ≡ lines_records a ++ lines_records b
unfolding lines_records
records-append [] b = refl
records-append (d ∷ ds) b = ap (λ l. record_of (packet_of d) ++ l) (records-append ds b) ∙ sym (append_assoc (record_of (packet_of d)) (lines_records ds) (lines_records b))

pub lines-append : (a b : List (List ℕ)) → are_lines a ≡ true → are_lines b ≡ true → are_lines (a ++ b) ≡ true
unfolding are_lines
lines-append [] b h k = k
lines-append (d ∷ ds) b h k =
    let parts = and_parts (is_whole_line d) (are_lines ds) h in
    and_from (is_whole_line d) (are_lines (ds ++ b)) parts.0 (lines-append ds b parts.1 k)

one_text : (d : List ℕ) → lines_text (d ∷ []) ≡ d ++ 10 ∷ []
unfolding lines_text
one_text d = refl

one_record : (d : List ℕ) → lines_records (d ∷ []) ≡ record_of (packet_of d)
unfolding lines_records
one_record d = append-nil (record_of (packet_of d))

one_line : (d : List ℕ) → is_whole_line d ≡ true → are_lines (d ∷ []) ≡ true
unfolding are_lines
one_line d h = and_from (is_whole_line d) true h refl

pub text_first : (d : List ℕ) (ds : List (List ℕ)) → lines_text (d ∷ ds) ≡ d ++ (10 ∷ lines_text ds)
unfolding lines_text
text_first d ds = refl

pub record_first : (d : List ℕ) (ds : List (List ℕ)) → lines_records (d ∷ ds) ≡ record_of (packet_of d) ++ lines_records ds
unfolding lines_records
record_first d ds = refl

pub lines_first : (d : List ℕ) (ds : List (List ℕ)) → are_lines (d ∷ ds) ≡ (is_whole_line d && are_lines ds)
unfolding are_lines
lines_first d ds = refl

pub no_text : lines_text [] ≡ []
unfolding lines_text
no_text = refl

pub no_records : lines_records [] ≡ []
unfolding lines_records
no_records = refl

no_lines : are_lines [] ≡ true
unfolding are_lines
no_lines = refl

-- ---- gathering

pub gathered_none : (text records : List ℕ) → text ≡ [] → records ≡ [] → Gathered text records
gathered_none text records t r = record { lines = []; are = record { good = no_lines; is = t ∙ sym no_text }; all = r ∙ sym no_records }

pub gathered_same : (text old new : List ℕ) → Gathered text old → new ≡ old → Gathered text new
gathered_same text old new g same = rw same g

pub gathered_more : (bytes old new : List ℕ) (done more : ℕ) → Gathered (take done bytes) old → OneMore (take more (drop done bytes)) old new → Gathered (take (done + more) bytes) new
gathered_more bytes old new done more g m = record {
  lines = g.lines ++ m.digits ∷ [];
  are = record {
    good = lines-append g.lines (m.digits ∷ []) g.are.good (one_line m.digits m.good);
    is = take-add done more bytes ∙ ap (λ l. l ++ take more (drop done bytes)) g.are.is ∙ ap (λ l. lines_text g.lines ++ l) (m.is ∙ sym (one_text m.digits)) ∙ sym (text-append g.lines (m.digits ∷ []));
  };
  all = m.more ∙ ap (λ l. l ++ record_of (packet_of m.digits)) g.all ∙ ap (λ l. lines_records g.lines ++ l) (sym (one_record m.digits)) ∙ sym (records-append g.lines (m.digits ∷ []));
}

pub gathered_next : (bytes old new : List ℕ) (done more : ℕ) → Gathered (take done bytes) old → (more ≡ 0 → new ≡ old) → (0 < more → OneMore (take more (drop done bytes)) old new) → Gathered (take (done + more) bytes) new
gathered_next bytes old new done zero g none some = let same : done + 0 ≡ done = omega arith in rw same (gathered_same (take done bytes) old new g (none refl))
gathered_next bytes old new done (suc n) g none some = gathered_more bytes old new done (suc n) g (some (omega arith))

-- ---- where a part of the records ends

pub record Within (all : List (List ℕ)) (text : List ℕ) (written done left : ℕ) : Type 0 where
  pub lines : List (List ℕ)
  pub later : List (List ℕ)
  pub are : all ≡ lines ++ later
  pub before : take done text ≡ lines_text lines
  pub behind : drop done text ≡ lines_text later
  pub good : are_lines lines ≡ true
  pub rest : are_lines later ≡ true
  pub size : written ≡ length (lines_records lines) + left
  pub less : left < length (lines_records later)

pub within_start : (all : List (List ℕ)) (text : List ℕ) (written : ℕ) → IsCut all text written → Within all text written 0 written
within_start all text written c = record {
  lines = [];
  later = all;
  are = refl;
  before = sym no_text;
  behind = c.are.is;
  good = no_lines;
  rest = c.are.good;
  size = (let none = ap length no_records in omega (arith, none));
  less = c.less;
}

-- the line that comes next
pub record NextLine (later : List (List ℕ)) (text : List ℕ) : Type 0 where
  pub digits : List ℕ
  pub more : List (List ℕ)
  pub are : later ≡ digits ∷ more
  pub whole : is_whole_line digits ≡ true
  pub good : are_lines more ≡ true
  pub is : text ≡ digits ++ (10 ∷ lines_text more)
  pub front : digits_in_front text ≡ length digits

pub next_line : (later : List (List ℕ)) (text : List ℕ) (left : ℕ) → left < length (lines_records later) → are_lines later ≡ true → text ≡ lines_text later → NextLine later text
next_line [] text left less good is = absurd (let none = ap length no_records in omega (arith, less, none))
next_line (d ∷ ds) text left less good is =
    let parts = and_parts (is_whole_line d) (are_lines ds) (sym (lines_first d ds) ∙ good) in
    let same : text ≡ d ++ (10 ∷ lines_text ds) = is ∙ text_first d ds in
    record {
      digits = d;
      more = ds;
      are = refl;
      whole = parts.0;
      good = parts.1;
      is = same;
      front = ap digits_in_front same ∙ line_digits d (lines_text ds) (whole_line-is d parts.0).lower;
    }

next_of : (all : List (List ℕ)) (text : List ℕ) (written done left : ℕ) (w : Within all text written done left) → NextLine w.later (drop done text)
next_of all text written done left w = next_line w.later (drop done text) left w.less w.rest w.behind

-- there is room for it in the text
pub next_room : (all : List (List ℕ)) (text : List ℕ) (written done left digits : ℕ) → Within all text written done left → digits ≡ digits_in_front (drop done text) → (0 < digits) × (done + (digits + 1) ≤ length text)
next_room all text written done left digits w is =
    let n = next_of all text written done left w in
    let size = ap length n.is ∙ length-append n.digits (10 ∷ lines_text n.more) in
    let count : digits ≡ length n.digits = is ∙ n.front in
    let some = (whole_line-is n.digits n.whole).some in
    let behind = length-drop done text in
    (omega (arith, some, count), omega (arith, size, count, behind))

pub walk_on : (all : List (List ℕ)) (text : List ℕ) (written done left digits : ℕ) → Within all text written done left → digits ≡ digits_in_front (drop done text) → 16 + digits / 2 ≤ left
    → Within all text written (done + (digits + 1)) (left - (16 + digits / 2))
walk_on all text written done left digits w is enough =
    let n = next_of all text written done left w in
    let d = n.digits in
    let count : digits ≡ length d = is ∙ n.front in
    let one : d ++ 10 ∷ lines_text n.more ≡ (d ++ 10 ∷ []) ++ lines_text n.more = sym (append_assoc d (10 ∷ []) (lines_text n.more)) in
    let size : length (d ++ 10 ∷ []) ≡ digits + 1 = length-append d (10 ∷ []) ∙ ap (λ k. k + 1) (sym count) in
    let text_is : drop done text ≡ (d ++ 10 ∷ []) ++ lines_text n.more = n.is ∙ one in
    let first : take (digits + 1) (drop done text) ≡ d ++ 10 ∷ [] = ap (take (digits + 1)) text_is ∙ take_at (d ++ 10 ∷ []) (lines_text n.more) (digits + 1) size in
    let behind : drop (digits + 1) (drop done text) ≡ lines_text n.more = ap (drop (digits + 1)) text_is ∙ drop_at (d ++ 10 ∷ []) (lines_text n.more) (digits + 1) size in
    let record_size = length-line_record d n.whole in
    let half : digits / 2 ≡ length d / 2 = ap (λ k. k / 2) count in
    let lines' = w.lines ++ d ∷ [] in
    let all_records : lines_records lines' ≡ lines_records w.lines ++ record_of (packet_of d) = records-append w.lines (d ∷ []) ∙ ap (λ l. lines_records w.lines ++ l) (one_record d) in
    let all_size = ap length all_records ∙ length-append (lines_records w.lines) (record_of (packet_of d)) in
    let later_size = ap (λ l. length (lines_records l)) n.are ∙ ap length (record_first d n.more) ∙ length-append (record_of (packet_of d)) (lines_records n.more) in
    let old_size = w.size in
    let old_less = w.less in
    record {
      lines = lines';
      later = n.more;
      are = w.are ∙ ap (λ l. w.lines ++ l) n.are ∙ sym (append_assoc w.lines (d ∷ []) n.more);
      before = take-add done (digits + 1) text ∙ ap (λ l. l ++ take (digits + 1) (drop done text)) w.before ∙ ap (λ l. lines_text w.lines ++ l) (first ∙ sym (one_text d)) ∙ sym (text-append w.lines (d ∷ []));
      behind = sym (drop-drop (digits + 1) done text) ∙ behind;
      good = lines-append w.lines (d ∷ []) w.good (one_line d n.whole);
      rest = n.good;
      size = omega (arith, old_size, all_size, record_size, half, enough);
      less = omega (arith, old_less, later_size, record_size, half, enough);
    }

pub walk_end : (all : List (List ℕ)) (text : List ℕ) (written done left digits : ℕ) → Within all text written done left → digits ≡ digits_in_front (drop done text) → left < 16 + digits / 2 → StopsAt all text written done left
walk_end all text written done left digits w is less =
    let n = next_of all text written done left w in
    let count : digits ≡ length n.digits = is ∙ n.front in
    let half : digits / 2 ≡ length n.digits / 2 = ap (λ k. k / 2) count in
    let size = length-line_record n.digits n.whole in
    record {
      lines = w.lines;
      digits = n.digits;
      later = n.more;
      are = w.are ∙ ap (λ l. w.lines ++ l) n.are;
      good = w.good;
      line = n.whole;
      before = w.before;
      behind = w.behind ∙ ap lines_text n.are;
      size = w.size;
      less = omega (arith, less, half, size);
    }

-- ---- the line in hand

pub record InHand (text digits : List ℕ) (done count : ℕ) : Type 0 where
  pub is : take count (drop done text) ≡ digits
  pub front : count ≡ length digits
  pub whole : is_whole_line digits ≡ true
  pub some : 0 < count
  pub room : done + (count + 1) ≤ length text

pub in_hand : (all : List (List ℕ)) (text : List ℕ) (written done left count : ℕ) (s : StopsAt all text written done left) → count ≡ digits_in_front (drop done text) → InHand text s.digits done count
in_hand all text written done left count s is =
    let d = s.digits in
    let w = whole_line-is d s.line in
    let parts : drop done text ≡ d ++ (10 ∷ lines_text s.later) = s.behind ∙ text_first d s.later in
    let front : count ≡ length d = is ∙ ap digits_in_front parts ∙ line_digits d (lines_text s.later) w.lower in
    let size = ap length parts ∙ length-append d (10 ∷ lines_text s.later) in
    let behind = length-drop done text in
    let some = w.some in
    record {
      is = ap (take count) parts ∙ take_at d (10 ∷ lines_text s.later) count (sym front);
      front = front;
      whole = s.line;
      some = omega (arith, some, front);
      room = omega (arith, size, behind, front);
    }

pub part_went : (all : List (List ℕ)) (text line rest : List ℕ) (written done left count : ℕ) (s : StopsAt all text written done left) → count ≡ digits_in_front (drop done text) → line ≡ take count (drop done text)
    → rest ≡ drop left (record_of (packet_of line)) → PartWent (take (done + count) text) (take written (lines_records all)) line rest
part_went all text line rest written done left count s is is_line rest_is =
    let h = in_hand all text written done left count s is in
    let d = s.digits in
    let same : line ≡ d = is_line ∙ h.is in
    let whole = record_of (packet_of d) in
    let records : lines_records all ≡ lines_records s.lines ++ (whole ++ lines_records s.later) =
    ap lines_records s.are ∙ records-append s.lines (d ∷ s.later) ∙ ap (λ l. lines_records s.lines ++ l) (record_first d s.later) in
    let few = s.less in
    let front : take left (whole ++ lines_records s.later) ≡ take left whole = take-append-le left whole (lines_records s.later) (omega (arith, few)) in
    record {
      lines = s.lines;
      good = s.good;
      line = rw same s.line;
      is = take-add done count text ∙ ap (λ l. l ++ take count (drop done text)) s.before ∙ ap (λ l. lines_text s.lines ++ l) (sym is_line);
      part = take left whole;
      parts = ap (λ l. take written l) records ∙ ap (λ n. take n (lines_records s.lines ++ (whole ++ lines_records s.later))) s.size ∙ take-append-add (lines_records s.lines) (whole ++ lines_records s.later) left
          ∙ ap (λ l. lines_records s.lines ++ l) front;
      cut = ap (λ l. take left whole ++ l) (rest_is ∙ ap (λ l. drop left (record_of (packet_of l))) same) ∙ take-append-drop left whole ∙ ap (λ l. record_of (packet_of l)) (sym same);
    }

-- what is left of a record is some of it
pub rest_some : (all : List (List ℕ)) (text line rest : List ℕ) (written done left : ℕ) (s : StopsAt all text written done left) → line ≡ s.digits → rest ≡ drop left (record_of (packet_of line)) → rest ≢ []
rest_some all text line rest written done left s same is none =
    let few = s.less in
    let size : length rest ≡ length (record_of (packet_of s.digits)) - left = ap length is ∙ length-drop left (record_of (packet_of line)) ∙ ap (λ l. length (record_of (packet_of l)) - left) same in
    let zero = ap length none in
    omega (arith, few, size, zero)
