-- A reader that goes on to a packet.
use Rattle.std.proofs.Common.{◌≡◌, ℕ, ◌+◌, ◌-◌, ◌≤◌, List, [], ◌∷◌, ◌++◌, Bool, true, false, Option, Some, None, length, take, drop, refl, ap, ◌∙◌, sym, subst, arith, inl, inr, append_assoc, length-take, length-drop}
use Rattle.std.specs.Prelude.{option_to_list, option_map}
use Rattle.std.specs.Option.{is_some}
use Rattle.std.proofs.Math.Seq.{take-add}
use Rattle.std.proofs.lemmas.List.{append-nil, append_cancel_left, take-append-le, take-append-drop, take_rest}
use Rattle.std.proofs.lemmas.Bool.{cases_lt, false≢true}
use Rattle.gfp_frames.specs.Area.{packet_in}
use Rattle.gfp_frames.specs.Delivered.{packets_in, areas_in, delivered}
use Rattle.gfp_frames.specs.Reader.{ReaderState, to_come, HasRead, news}
use Rattle.gfp_frames.specs.Steps.Reader.{Goes, GoesOver, GoesTo, NoneBefore}
use Rattle.gfp_frames.proofs.Reading.{delivered_is, packets-append, found_on, reads_on}

-- nothing comes of itself
pub rests : (read : List ℕ) (s : ReaderState) → HasRead read s → to_come s [] ≡ []
rests read s has = append_cancel_left (areas_in read) (to_come s []) []
    (sym (has.whole []) ∙ ap areas_in (append-nil read) ∙ sym (append-nil (areas_in read)))

-- ---- one after another

-- the packet in an area that ended
pub some_news : (new : ReaderState) (packet : Option (List ℕ)) → packet_in new.area ≡ packet → packets_in (news true new) ≡ option_to_list packet
some_news new packet is = append-nil (option_to_list (packet_in new.area)) ∙ ap option_to_list is

pub to_start : (s : ReaderState) (bytes : List ℕ) → bytes ≡ [] → GoesTo s bytes None s
to_start s bytes e =
    let P : List ℕ → Type 0 = λ y. GoesTo s y None s in
    let start : GoesTo s [] None s = record { areas = []; each = λ more. refl; none = λ h. h; packets = refl } in
    subst P (sym e) start

pub to_byte : (old new : ReaderState) (byte : ℕ) (found : Bool) (packet : Option (List ℕ)) → Goes old byte found new → packets_in (news found new) ≡ option_to_list packet → GoesTo old (byte ∷ []) packet new
to_byte old new byte found packet goes is = record { areas = news found new; each = λ more. goes.each more; none = λ h. goes.none; packets = is }

to_more : (old mid new : ReaderState) (xs ys : List ℕ) (found : Bool) (packet : Option (List ℕ)) → GoesTo old xs None mid → GoesOver mid ys found new → packets_in (news found new) ≡ option_to_list packet → GoesTo old (xs ++ ys) packet new
to_more old mid new xs ys found packet first second is = record {
  areas = first.areas ++ news found new;
  each = λ more.
      ap (to_come old) (append_assoc xs ys more) ∙ first.each (ys ++ more) ∙ ap (λ y. first.areas ++ y) (second.each more)
      ∙ sym (append_assoc first.areas (news found new) (to_come new more));
  none = λ h. second.none;
  packets = packets-append first.areas (news found new) ∙ ap (λ y. y ++ packets_in (news found new)) first.packets ∙ is;
}

-- ---- places in a list of bytes

pub to_part : (old mid new : ReaderState) (bytes : List ℕ) (at n : ℕ) (found : Bool) (packet : Option (List ℕ)) → GoesTo old (take at bytes) None mid
    → GoesOver mid (take n (take (length bytes - at) (drop at bytes))) found new → packets_in (news found new) ≡ option_to_list packet
    → GoesTo old (take (at + n) bytes) packet new
to_part old mid new bytes at n found packet first second is =
    let P : List ℕ → Type 0 = λ y. GoesTo old y packet new in
    let rest : take (length bytes - at) (drop at bytes) ≡ drop at bytes = take_rest bytes at in
    let whole : take at bytes ++ take n (take (length bytes - at) (drop at bytes)) ≡ take (at + n) bytes =
    ap (λ y. take at bytes ++ take n y) rest ∙ sym (take-add at n bytes) in
    subst P whole (to_more old mid new (take at bytes) (take n (take (length bytes - at) (drop at bytes))) found packet first second is)

front_of : (j n : ℕ) (xs : List ℕ) → j ≤ length (take n xs) → take j xs ≡ take j (take n xs)
front_of j n xs h = ap (take j) (sym (take-append-drop n xs)) ∙ take-append-le j (take n xs) (drop n xs) h

pub before_part : (old mid new : ReaderState) (bytes : List ℕ) (at n : ℕ) (found : Bool) → n ≤ length (take (length bytes - at) (drop at bytes)) → GoesTo old (take at bytes) None mid
    → GoesOver mid (take n (take (length bytes - at) (drop at bytes))) found new → NoneBefore old bytes at → NoneBefore old bytes (at + n)
before_part old mid new bytes at n found within first second early = λ k h. elim (cases_lt k at) [
  | inl front ↦ early k front
  | inr late ↦
      let rest = take (length bytes - at) (drop at bytes) in
      let size : length (take n rest) ≡ n = (let l = length-take n rest in omega arith) in
      let sum : k ≡ at + (k - at) = omega arith in
      let few : k - at ≤ length (take n rest) = omega arith in
      let part : take k bytes ≡ take at bytes ++ take (k - at) (take n rest) =
      ap (λ i. take i bytes) sum ∙ take-add at (k - at) bytes
      ∙ ap (λ y. take at bytes ++ take (k - at) y) (sym (take_rest bytes at))
      ∙ ap (λ y. take at bytes ++ y) (front_of (k - at) n rest few) in
      ap (λ y. packets_in (to_come old y)) part
      ∙ ap packets_in (first.each (take (k - at) (take n rest)))
      ∙ packets-append first.areas (to_come mid (take (k - at) (take n rest)))
      ∙ ap (λ y. y ++ packets_in (to_come mid (take (k - at) (take n rest)))) first.packets
      ∙ ap packets_in (second.before (k - at) (omega arith))
]

pub part_within : (bytes : List ℕ) (at n : ℕ) → at ≤ length bytes → n ≤ length (take (length bytes - at) (drop at bytes)) → at + n ≤ length bytes
part_within bytes at n within few = let e = take_rest bytes at in let l = length-drop at bytes in omega (arith, ap length e)

-- no size of a packet, no packet
pub none_there : (size : Option ℕ) (area : List ℕ) → is_some size ≡ false → packet_in area ≡ option_map (λ n. take n (drop 4 area)) size → packet_in area ≡ None
none_there None area e is = is
none_there (Some n) area e is = absurd (false≢true (sym e))

-- the packet that is lent
pub packet_lent : (area got : List ℕ) (found : Option ℕ) (size : ℕ) → found ≡ Some size → got ≡ area → option_to_list (option_map (λ n. take n (drop 4 area)) found) ≡ take (4 + size - 4) (drop 4 got) ∷ []
packet_lent area got found size is same =
    ap (λ o. option_to_list (option_map (λ n. take n (drop 4 area)) o)) is
    ∙ ap (λ a. take size (drop 4 a) ∷ []) (sym same)
    ∙ ap (λ n. take n (drop 4 got) ∷ []) (let e : size ≡ 4 + size - 4 = omega arith in e)

pub none_lent : (area : List ℕ) (found : Option ℕ) → found ≡ None → option_to_list (option_map (λ n. take n (drop 4 area)) found) ≡ []
none_lent area found is = ap (λ o. option_to_list (option_map (λ n. take n (drop 4 area)) o)) is

pub lent_size : (area got : List ℕ) (size most : ℕ) → got ≡ area → 1 ≤ size → size ≤ most → size + 4 ≤ length area → (1 ≤ length (take (4 + size - 4) (drop 4 got))) × (length (take (4 + size - 4) (drop 4 got)) ≤ most)
lent_size area got size most same some few within =
    let l = length-take (4 + size - 4) (drop 4 got) in
    let d = length-drop 4 got in
    let e = ap length same in
    (omega arith, omega arith)

-- ---- histories

pub delivered_on : (read bytes : List ℕ) (old new : ReaderState) (packet : Option (List ℕ)) → HasRead read old → GoesTo old bytes packet new → delivered (read ++ bytes) ≡ delivered read ++ option_to_list packet
delivered_on read bytes old new packet has goes =
    delivered_is (read ++ bytes)
    ∙ ap packets_in (found_on read bytes old new goes.areas has goes.each (goes.none (rests read old has)))
    ∙ packets-append (areas_in read) goes.areas
    ∙ ap (λ y. packets_in (areas_in read) ++ y) goes.packets
    ∙ ap (λ y. y ++ option_to_list packet) (sym (delivered_is read))

pub has_read_on : (read bytes : List ℕ) (old new : ReaderState) (packet : Option (List ℕ)) → HasRead read old → GoesTo old bytes packet new → HasRead (read ++ bytes) new
has_read_on read bytes old new packet has goes = reads_on read bytes old new goes.areas has goes.each (goes.none (rests read old has))

pub none_delivered : (read bytes : List ℕ) (old : ReaderState) → HasRead read old → packets_in (to_come old bytes) ≡ [] → delivered (read ++ bytes) ≡ delivered read
none_delivered read bytes old has none =
    delivered_is (read ++ bytes)
    ∙ ap packets_in (has.whole bytes)
    ∙ packets-append (areas_in read) (to_come old bytes)
    ∙ ap (λ y. packets_in (areas_in read) ++ y) none
    ∙ append-nil (packets_in (areas_in read))
    ∙ sym (delivered_is read)
