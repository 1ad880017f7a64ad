-- What arrives as a reader takes bytes.
use Rattle.std.proofs.Common.{◌≡◌, ℕ, ◌+◌, ◌-◌, ◌<◌, ◌≤◌, List, [], ◌∷◌, ◌++◌, Bool, true, false, Option, Some, None, length, take, drop, refl, ap, ◌∙◌, sym, subst, cond, arith, inl, inr, append_assoc, length-take, length-drop}
use Rattle.std.specs.Prelude.{option_to_list, option_map, IfSome, nat_lt, ◌==◌, ◌&&◌}
use Rattle.std.specs.Option.{is_some}
use Rattle.std.proofs.Math.Seq.{take-add}
use Rattle.std.proofs.lemmas.List.{append-nil, take_rest}
use Rattle.std.proofs.lemmas.Grind.{flat_map-append}
use Rattle.std.proofs.lemmas.Bool.{cases_lt, ltb-true, false≢true}
use Rattle.gfp_frames.specs.Area.{pti, pfi}
use Rattle.gfp_frames.specs.Delivered.{areas_in}
use Rattle.gfp_frames.specs.Reader.{ReaderState, HasRead, news}
use Rattle.gfp_linear.specs.ChannelArrivals.{ChannelArrival, PacketOn, LossOn, is_linear, cid_of, payload_size, payload_of, fcs_is_right, has_packet, has_loss, arrival_in, arrivals_in, channel_arrivals, IsSized}

pub arrivals_are : (bytes : List ℕ) → channel_arrivals bytes ≡ arrivals_in (areas_in bytes)
unfolding channel_arrivals
arrivals_are bytes = refl

pub arrivals-append : (xs ys : List (List ℕ)) → arrivals_in (xs ++ ys) ≡ arrivals_in xs ++ arrivals_in ys
arrivals-append xs ys = flat_map-append (λ area. option_to_list (arrival_in area)) xs ys

-- bytes in which these areas are found
pub arrived_on : (read whole : List ℕ) (areas : List (List ℕ)) → areas_in whole ≡ areas_in read ++ areas → channel_arrivals whole ≡ channel_arrivals read ++ arrivals_in areas
arrived_on read whole areas e =
    arrivals_are whole ∙ ap arrivals_in e ∙ arrivals-append (areas_in read) areas ∙ ap (λ y. y ++ arrivals_in areas) (sym (arrivals_are read))

pub none_arrived : (read whole : List ℕ) → areas_in whole ≡ areas_in read → channel_arrivals whole ≡ channel_arrivals read
none_arrived read whole e = arrivals_are whole ∙ ap arrivals_in e ∙ sym (arrivals_are read)

-- what arrives with an area that was found
pub one_news : (new : ReaderState) → arrivals_in (news true new) ≡ option_to_list (arrival_in new.area)
one_news new = append-nil (option_to_list (arrival_in new.area))

pub no_arrival : (o : Option ChannelArrival) → is_some o ≡ false → option_to_list o ≡ []
no_arrival None e = refl
no_arrival (Some x) e = absurd (false≢true (sym e))

-- ---- over several areas

-- Over the first bytes of these the reader went on, and nothing arrived.
pub record Passed (bytes : List ℕ) (old : ReaderState) (at : ℕ) (new : ReaderState) : Type 0 where
  pub has_read : (read : List ℕ) → HasRead read old → HasRead (read ++ take at bytes) new
  pub none : (read : List ℕ) → HasRead read old → channel_arrivals (read ++ take at bytes) ≡ channel_arrivals read
  pub before : (read : List ℕ) (k : ℕ) → HasRead read old → k < at → channel_arrivals (read ++ take k bytes) ≡ channel_arrivals read

-- what the search for an area says of the bytes from a place on
pub record Searched (rest : List ℕ) (old : ReaderState) (n : ℕ) (areas : List (List ℕ)) (new : ReaderState) : Type 0 where
  pub has_read : (read : List ℕ) → HasRead read old → HasRead (read ++ take n rest) new
  pub areas_are : (read : List ℕ) → HasRead read old → areas_in (read ++ take n rest) ≡ areas_in read ++ areas
  pub before : (read : List ℕ) (k : ℕ) → HasRead read old → k < n → areas_in (read ++ take k rest) ≡ areas_in read
  pub within : n ≤ length rest

abbrev pub rest_from : List ℕ → ℕ → List ℕ
rest_from bytes at = take (length bytes - at) (drop at bytes)

pub passed_none : (bytes : List ℕ) (old : ReaderState) (at : ℕ) → at ≡ 0 → Passed bytes old at old
passed_none bytes old at e =
    let P : ℕ → Type 0 = λ n. Passed bytes old n old in
    let start : Passed bytes old 0 old = record {
      has_read = λ read has. subst (λ y. HasRead y old) (sym (append-nil read)) has;
      none = λ read has. ap channel_arrivals (append-nil read);
      before = λ read k has h. absurd (omega arith);
    } in
    subst P (sym e) start

joins : (read bytes : List ℕ) (at n : ℕ) → (read ++ take at bytes) ++ take n (rest_from bytes at) ≡ read ++ take (at + n) bytes
joins read bytes at n =
    append_assoc read (take at bytes) (take n (rest_from bytes at))
    ∙ ap (λ y. read ++ y) (ap (λ y. take at bytes ++ take n y) (take_rest bytes at) ∙ sym (take-add at n bytes))

pub arrives_with : (bytes : List ℕ) (old mid new : ReaderState) (at n : ℕ) (areas : List (List ℕ)) → Passed bytes old at mid → Searched (rest_from bytes at) mid n areas new
    → (read : List ℕ) → HasRead read old → channel_arrivals (read ++ take (at + n) bytes) ≡ channel_arrivals read ++ arrivals_in areas
arrives_with bytes old mid new at n areas first second read has =
    let early = read ++ take at bytes in
    ap channel_arrivals (sym (joins read bytes at n))
    ∙ arrived_on early (early ++ take n (rest_from bytes at)) areas (second.areas_are early (first.has_read read has))
    ∙ ap (λ y. y ++ arrivals_in areas) (first.none read has)

pub reads_with : (bytes : List ℕ) (old mid new : ReaderState) (at n : ℕ) (areas : List (List ℕ)) → Passed bytes old at mid → Searched (rest_from bytes at) mid n areas new
    → (read : List ℕ) → HasRead read old → HasRead (read ++ take (at + n) bytes) new
reads_with bytes old mid new at n areas first second read has =
    subst (λ y. HasRead y new) (joins read bytes at n) (second.has_read (read ++ take at bytes) (first.has_read read has))

pub before_with : (bytes : List ℕ) (old mid new : ReaderState) (at n : ℕ) (areas : List (List ℕ)) → Passed bytes old at mid → Searched (rest_from bytes at) mid n areas new
    → (read : List ℕ) (k : ℕ) → HasRead read old → k < at + n → channel_arrivals (read ++ take k bytes) ≡ channel_arrivals read
before_with bytes old mid new at n areas first second read k has h = elim (cases_lt k at) [
  | inl front ↦ first.before read k has front
  | inr late ↦
      let early = read ++ take at bytes in
      let j = k - at in
      let sum : k ≡ at + j = omega arith in
      ap (λ i. channel_arrivals (read ++ take i bytes)) sum
      ∙ ap channel_arrivals (sym (joins read bytes at j))
      ∙ none_arrived early (early ++ take j (rest_from bytes at)) (second.before early j (first.has_read read has) (omega arith))
      ∙ first.none read has
]

pub passed_more : (bytes : List ℕ) (old mid new : ReaderState) (at n : ℕ) (areas : List (List ℕ)) → Passed bytes old at mid → Searched (rest_from bytes at) mid n areas new → arrivals_in areas ≡ []
    → Passed bytes old (at + n) new
passed_more bytes old mid new at n areas first second none = record {
  has_read = reads_with bytes old mid new at n areas first second;
  none = λ read has. arrives_with bytes old mid new at n areas first second read has ∙ ap (λ y. channel_arrivals read ++ y) none ∙ append-nil (channel_arrivals read);
  before = before_with bytes old mid new at n areas first second;
}

pub part_within : (bytes : List ℕ) (at n : ℕ) → at ≤ length bytes → n ≤ length (rest_from bytes at) → at + n ≤ length bytes
part_within bytes at n within few = let e = take_rest bytes at in let l = length-drop at bytes in omega (arith, ap length e)

-- ---- one byte

pub searched_one : (byte n : ℕ) (inner new : ReaderState) (areas : List (List ℕ)) → Searched (byte ∷ []) inner n areas new → 1 ≤ n → n ≡ 1
searched_one byte n inner new areas h some = let few = h.within in omega arith

pub reads_one : (byte n : ℕ) (old inner new : ReaderState) (areas : List (List ℕ)) → inner ≡ old → Searched (byte ∷ []) inner n areas new → 1 ≤ n → (read : List ℕ) → HasRead read old → HasRead (read ++ byte ∷ []) new
reads_one byte n old inner new areas same h some read has =
    let one = searched_one byte n inner new areas h some in
    let P : ℕ → Type 0 = λ i. HasRead (read ++ take i (byte ∷ [])) new in
    let Q : ReaderState → Type 0 = λ s. HasRead read s in
    subst P one (h.has_read read (subst Q (sym same) has))

pub arrives_one : (byte n : ℕ) (old inner new : ReaderState) (areas : List (List ℕ)) → inner ≡ old → Searched (byte ∷ []) inner n areas new → 1 ≤ n → (read : List ℕ) → HasRead read old
    → channel_arrivals (read ++ byte ∷ []) ≡ channel_arrivals read ++ arrivals_in areas
arrives_one byte n old inner new areas same h some read has =
    let one = searched_one byte n inner new areas h some in
    let P : ℕ → Type 0 = λ i. areas_in (read ++ take i (byte ∷ [])) ≡ areas_in read ++ areas in
    let Q : ReaderState → Type 0 = λ s. HasRead read s in
    arrived_on read (read ++ byte ∷ []) areas (subst P one (h.areas_are read (subst Q (sym same) has)))

-- the arrival in an area that was found, as it is lent
pub lent_one : (found : Bool) (new : ReaderState) (area : List ℕ) (arrival : Option ChannelArrival) → found ≡ true → area ≡ new.area → arrival ≡ arrival_in area → arrivals_in (news found new) ≡ option_to_list arrival
lent_one found new area arrival there same is =
    ap (λ b. arrivals_in (news b new)) there ∙ one_news new ∙ ap (λ a. option_to_list (arrival_in a)) (sym same) ∙ ap option_to_list (sym is)

pub lent_none : (found : Bool) (new : ReaderState) → found ≡ false → arrivals_in (news found new) ≡ []
lent_none found new absent = ap (λ b. arrivals_in (news b new)) absent

-- what is seen of something is something
pub some_seen : {X Y : Type 0} (f : X → Y) (o : Option X) (y : Option Y) → option_map f o ≡ y → is_some y ≡ true → is_some o ≡ false → ⊥
some_seen f None y e some none = false≢true (ap is_some e ∙ some)
some_seen f (Some x) y e some none = false≢true (sym none)

-- ---- sizes

if_some_under : {X Y : Type 0} (f : X → Y) (P : Y → Type 0) (o : Option X) (y : Option Y) → option_map f o ≡ y → IfSome y P → IfSome o (λ x. P (f x))
if_some_under f P None y e h = tt
if_some_under f P (Some x) y e h = subst (λ z. IfSome z P) (sym e) h

both_true : (a b : Bool) → (a && b) ≡ true → (a ≡ true) × (b ≡ true)
both_true true b e = (refl, e)
both_true false b e = absurd (false≢true e)

size_of : (size : ℕ) (area : List ℕ) → size ≤ length area - 8 → 0 < size → length area ≤ 65535 → (1 ≤ length (take size (drop 8 area))) × (length (take size (drop 8 area)) ≤ 65527)
size_of size area within some few = let t = length-take size (drop 8 area) in let d = length-drop 8 area in (omega arith, omega arith)

payload_within : (area : List ℕ) → payload_size area ≤ length area - 8
payload_within area = by_fcs (pfi area == 1)
  where
    by_fcs : (b : Bool) → length area - 8 - cond b 4 0 ≤ length area - 8
    by_fcs true = omega arith
    by_fcs false = omega arith

has_some : (area : List ℕ) → has_packet area ≡ true → nat_lt 0 (payload_size area) ≡ true
has_some area e = (both_true (pti area == 0) (nat_lt 0 (payload_size area)) (both_true (pti area == 0 && nat_lt 0 (payload_size area)) (fcs_is_right area) e).0).1

packet_sized : (area : List ℕ) → has_packet area ≡ true → length area ≤ 65535 → (1 ≤ length (payload_of area)) × (length (payload_of area) ≤ 65527)
packet_sized area e few =
    let some : 0 < payload_size area = ltb-true 0 (payload_size area) (has_some area e) in
    size_of (payload_size area) area (payload_within area) some few

arrival_sized : (area : List ℕ) → length area ≤ 65535 → IfSome (arrival_in area) IsSized
unfolding arrival_in
arrival_sized area few = by_linear (is_linear area)
  where
    by_loss : (loss : Bool) → IfSome (cond loss (Some (LossOn (cid_of area))) None) IsSized
    by_loss true = tt
    by_loss false = tt

    by_packet : (packet : Bool) → has_packet area ≡ packet → IfSome (cond packet (Some (PacketOn (cid_of area) (payload_of area))) (cond (has_loss area) (Some (LossOn (cid_of area))) None)) IsSized
    by_packet true e = packet_sized area e few
    by_packet false e = by_loss (has_loss area)

    by_linear : (linear : Bool) → IfSome (cond linear (cond (has_packet area) (Some (PacketOn (cid_of area) (payload_of area))) (cond (has_loss area) (Some (LossOn (cid_of area))) None)) None) IsSized
    by_linear true = by_packet (has_packet area) refl
    by_linear false = tt

pub sized : {X : Type 0} (see : X → ChannelArrival) (arrival : Option X) (area : List ℕ) → option_map see arrival ≡ arrival_in area → length area ≤ 65535 → IfSome arrival (λ x. IsSized (see x))
sized see arrival area e few = if_some_under see IsSized arrival (arrival_in area) e (arrival_sized area few)
