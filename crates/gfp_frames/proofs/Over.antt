-- A reader that goes over several bytes.
use Rattle.std.proofs.Common.{◌≡◌, ℕ, zero, suc, ◌+◌, ◌-◌, ◌*◌, ◌/◌, ◌%◌, ◌^◌, ◌<◌, ◌≤◌, List, [], ◌∷◌, ◌++◌, Bool, true, false, Some, None, length, take, drop, get_or, refl, ap, ◌∙◌, sym, subst, arith, inl, inr, append_assoc, length-append, length-take}
use Rattle.std.proofs.lemmas.List.{take-append-le, length-take-le, take_rest, take_more, nil_from_length}
use Rattle.std.proofs.lemmas.Bool.{cases_lt}
use Rattle.std.proofs.Math.Seq.{take-append-add, take-add, drop-append_seam}
use Rattle.gfp_scrambler.specs.Register.{last_bits}
use Rattle.std.specs.Prelude.{min, bit_xor}
use Rattle.std.specs.Option.{option_map_or}
use Rattle.crc_small.specs.LongDivision.{crc16_of, check_of, remainder_from, bits_of, low_bits}
use Rattle.gfp_frames.specs.CoreHeader.{core_header, header_in, number_of_four, pattern, near_pli, right_pli}
use Rattle.gfp_frames.specs.Maker.{idle_bytes}
use Rattle.gfp_frames.specs.Delineation.{from_sync}
use Rattle.gfp_frames.specs.Reader.{ReaderState, may_want, areas_from, to_come}
use Rattle.gfp_frames.specs.Steps.Reader.{kept_some, three_bytes, hunts_after, slid, sync_after, whole_area_after, Goes, GoesOver}
use Rattle.gfp_frames.specs.declared.phase.Phase.{Phase}
use Rattle.gfp_frames.specs.declared.phase.Phase.TheVariants.{Hunt, SyncArea, Sync}
use Rattle.gfp_frames.proofs.Texts.{header_size}
use Rattle.gfp_frames.proofs.Delineating.{sync_goes}
use Rattle.gfp_frames.proofs.Reading.{four_wanted, waits, waits_more, none_to_come, same_to_come, sync_short, area_whole, big_in_area, plain_areas-cons, goes_in_hunt, goes_in_sync}

-- ---- one after another

-- nothing comes of itself
pub nothing_comes : (s : ReaderState) → may_want s.phase s.wanted ≡ true → length s.held < s.wanted → to_come s [] ≡ []
nothing_comes s may short = none_to_come s.register (areas_from s.phase s.wanted (s.held ++ [])) (waits_more s.phase s.wanted s.held (four_wanted s.phase s.wanted may) short)

-- over no bytes
pub over_none : (s : ReaderState) (bytes : List ℕ) → bytes ≡ [] → to_come s [] ≡ [] → GoesOver s bytes false s
over_none s bytes e none =
    let P : List ℕ → Type 0 = λ y. GoesOver s y false s in
    let over : GoesOver s [] false s = record { each = λ more. refl; none = none; before = λ k h. absurd (omega arith) } in
    subst P (sym e) over

-- over one byte
pub over_one : (old : ReaderState) (byte : ℕ) (found : Bool) (new : ReaderState) → to_come old [] ≡ [] → Goes old byte found new → GoesOver old (byte ∷ []) found new
over_one old byte found new nothing goes = record {
  each = λ more. goes.each more;
  none = goes.none;
  before = λ k h. (let e : k ≡ 0 = omega arith in ap (λ n. to_come old (take n (byte ∷ []))) e ∙ nothing);
}

-- over some bytes and then over others
pub over_both : (old mid new : ReaderState) (xs ys : List ℕ) (found : Bool) → GoesOver old xs false mid → GoesOver mid ys found new → GoesOver old (xs ++ ys) found new
over_both old mid new xs ys found first second = record {
  each = λ more. ap (to_come old) (append_assoc xs ys more) ∙ first.each (ys ++ more) ∙ second.each more;
  none = second.none;
  before = λ k h. elim (cases_lt k (length xs)) [
    | inl front ↦ ap (to_come old) (take-append-le k xs ys (omega arith)) ∙ first.before k front
    | inr end ↦
        let sum : k ≡ length xs + (k - length xs) = omega arith in
        let size = length-append xs ys in
        ap (λ n. to_come old (take n (xs ++ ys))) sum
        ∙ ap (to_come old) (take-append-add xs ys (k - length xs))
        ∙ first.each (take (k - length xs) ys)
        ∙ second.before (k - length xs) (omega arith)
  ];
}

-- ---- bytes that are kept

pub over_kept : (old : ReaderState) (bytes : List ℕ) → may_want old.phase old.wanted ≡ true → length old.held + length bytes < old.wanted → GoesOver old bytes false (kept_some old bytes)
over_kept old bytes may short =
    let four = four_wanted old.phase old.wanted may in
    record {
      each = λ more.
          same_to_come old.register (areas_from old.phase old.wanted (old.held ++ (bytes ++ more))) (areas_from old.phase old.wanted ((old.held ++ bytes) ++ more))
          (ap (areas_from old.phase old.wanted) (sym (append_assoc old.held bytes more)));
      none = nothing_comes (kept_some old bytes) may (let e = length-append old.held bytes in omega arith);
      before = λ k h.
          let part = take k bytes in
          none_to_come old.register (areas_from old.phase old.wanted (old.held ++ part))
          (waits old.phase old.wanted (old.held ++ part) four (let e = length-append old.held part in let l = length-take-le k bytes (omega arith) in omega arith));
    }

-- ---- an area in sync that came at once

pub over_whole_area : (old new : ReaderState) (bytes : List ℕ) → old.phase ≡ SyncArea → length old.held ≡ 0 → may_want old.phase old.wanted ≡ true → length bytes ≡ old.wanted
    → new ≡ whole_area_after old bytes → GoesOver old bytes true new
over_whole_area old new bytes phase empty may size is =
    let r = old.register in
    let none : old.held ≡ [] = nil_from_length old.held empty in
    let all : (more : List ℕ) → areas_from old.phase old.wanted (old.held ++ (bytes ++ more)) ≡ bytes ∷ from_sync more = λ more.
    ap (λ h. areas_from old.phase old.wanted (h ++ (bytes ++ more))) none
    ∙ ap (λ p. areas_from p old.wanted (bytes ++ more)) phase
    ∙ ap (λ y. y ++ from_sync (drop old.wanted (bytes ++ more))) (area_whole old.wanted bytes more size (big_in_area old.phase old.wanted phase may))
    ∙ ap (λ y. bytes ∷ from_sync y) (ap (λ n. drop n (bytes ++ more)) (sym size) ∙ drop-append_seam bytes more) in
    let P : ReaderState → Type 0 = λ s. GoesOver old bytes true s in
    let over : GoesOver old bytes true (whole_area_after old bytes) = record {
      each = λ more. same_to_come r (areas_from old.phase old.wanted (old.held ++ (bytes ++ more))) (bytes ∷ from_sync more) (all more) ∙ plain_areas-cons r bytes (from_sync more);
      none = none_to_come (last_bits r bytes) (from_sync []) (sync_short [] (omega arith));
      before = λ k h.
          let part = take k bytes in
          none_to_come r (areas_from old.phase old.wanted (old.held ++ part))
          (waits old.phase old.wanted (old.held ++ part) (four_wanted old.phase old.wanted may)
          (let e = length-append old.held part in let l = length-take-le k bytes (omega arith) in omega arith));
    } in
    subst P (sym is) over

-- ---- idle frames in sync

idle_header : near_pli (header_in (core_header 0)) ≡ Some 0
unfolding core_header near_pli right_pli crc16_of check_of remainder_from bits_of low_bits
idle_header = refl

sync_idle : (more : List ℕ) → from_sync (core_header 0 ++ more) ≡ from_sync more
sync_idle more = sync_goes (core_header 0) more 0 (header_size 0) idle_header

sync_idles : (n : ℕ) (more : List ℕ) → from_sync (idle_bytes n ++ more) ≡ from_sync more
sync_idles zero more = refl
sync_idles (suc n) more = ap from_sync (append_assoc (core_header 0) (idle_bytes n) more) ∙ sync_idle (idle_bytes n ++ more) ∙ sync_idles n more

-- part of them
sync_idle_part : (n k : ℕ) → from_sync (take k (idle_bytes n)) ≡ []
sync_idle_part zero k = let none : List ℕ = [] in sync_short (take k none) (let e = length-take k none in omega arith)
sync_idle_part (suc n) k = elim (cases_lt k 4) [
  | inl few ↦ sync_short (take k (idle_bytes (suc n))) (let e = length-take k (idle_bytes (suc n)) in omega arith)
  | inr more ↦
      let four = header_size 0 in
      let sum : k ≡ length (core_header 0) + (k - 4) = omega arith in
      ap (λ m. from_sync (take m (core_header 0 ++ idle_bytes n))) sum
      ∙ ap from_sync (take-append-add (core_header 0) (idle_bytes n) (k - 4))
      ∙ sync_idle (take (k - 4) (idle_bytes n))
      ∙ sync_idle_part n (k - 4)
]

in_sync_at : (s : ReaderState) (bytes : List ℕ) → s.phase ≡ Sync → s.held ≡ [] → areas_from s.phase s.wanted (s.held ++ bytes) ≡ from_sync bytes
in_sync_at s bytes phase none = ap (λ h. areas_from s.phase s.wanted (h ++ bytes)) none ∙ ap (λ p. areas_from p s.wanted bytes) phase

pub over_idles : (old new : ReaderState) (n : ℕ) (bytes : List ℕ) → old.phase ≡ Sync → old.held ≡ [] → new ≡ record old { area = [] } → bytes ≡ idle_bytes n → GoesOver old bytes false new
over_idles old new n bytes phase none is all =
    let quiet : ReaderState = record old { area = [] } in
    let Q : ReaderState → Type 0 = λ s. GoesOver old bytes false s in
    let P : List ℕ → Type 0 = λ y. GoesOver old y false quiet in
    let over : GoesOver old (idle_bytes n) false quiet = record {
      each = λ more.
          same_to_come old.register (areas_from old.phase old.wanted (old.held ++ (idle_bytes n ++ more))) (areas_from old.phase old.wanted (old.held ++ more))
          (in_sync_at old (idle_bytes n ++ more) phase none ∙ sync_idles n more ∙ sym (in_sync_at old more phase none));
      none = none_to_come old.register (areas_from old.phase old.wanted (old.held ++ [])) (in_sync_at old [] phase none ∙ sync_short [] (omega arith));
      before = λ k h.
          none_to_come old.register (areas_from old.phase old.wanted (old.held ++ take k (idle_bytes n)))
          (in_sync_at old (take k (idle_bytes n)) phase none ∙ sync_idle_part n k);
    } in
    subst Q (sym is) (subst P (sym all) over)

-- ---- places in a list of bytes

pub over_part : (old mid new : ReaderState) (bytes : List ℕ) (at n : ℕ) (found : Bool) → GoesOver old (take at bytes) false mid → GoesOver mid (take n (take (length bytes - at) (drop at bytes))) found new
    → GoesOver old (take (at + n) bytes) found new
over_part old mid new bytes at n found first second =
    let P : List ℕ → Type 0 = λ y. GoesOver old y found new in
    let rest : take (length bytes - at) (drop at bytes) ≡ drop at bytes = take_rest bytes at in
    let whole : take at bytes ++ take n (take (length bytes - at) (drop at bytes)) ≡ take (at + n) bytes =
    ap (λ y. take at bytes ++ take n y) rest ∙ sym (take-add at n bytes) in
    subst P whole (over_both old mid new (take at bytes) (take n (take (length bytes - at) (drop at bytes))) found first second)

pub over_byte : (old mid new : ReaderState) (bytes : List ℕ) (at : ℕ) (found : Bool) → at < length bytes → GoesOver old (take at bytes) false mid → Goes mid (get_or bytes at 0) found new
    → GoesOver old (take (at + 1) bytes) found new
over_byte old mid new bytes at found within first goes =
    let P : List ℕ → Type 0 = λ y. GoesOver old y found new in
    subst P (sym (take_more bytes at 0 within))
    (over_both old mid new (take at bytes) (get_or bytes at 0 ∷ []) found first (over_one mid (get_or bytes at 0) found new first.none goes))

-- what is kept of the bytes from a place on
pub over_kept_part : (old mid new : ReaderState) (bytes : List ℕ) (at n : ℕ) → GoesOver old (take at bytes) false mid → may_want mid.phase mid.wanted ≡ true → length mid.held < mid.wanted
    → n ≡ min (mid.wanted - length mid.held - 1) (length (take (length bytes - at) (drop at bytes))) → new ≡ kept_some mid (take n (take (length bytes - at) (drop at bytes)))
    → GoesOver old (take (at + n) bytes) false new
over_kept_part old mid new bytes at n first may short count is =
    let rest = take (length bytes - at) (drop at bytes) in
    let Q : ReaderState → Type 0 = λ s. GoesOver mid (take n rest) false s in
    let few : length (take n rest) ≡ n = length-take-le n rest (omega arith) in
    over_part old mid new bytes at n false first (subst Q (sym is) (over_kept mid (take n rest) may (omega arith)))

-- ---- a header in sync

-- one that stands whole at the front, where it is awaited
pub over_header : (old mid new : ReaderState) (bytes : List ℕ) → old.phase ≡ Sync → old.wanted ≡ 4 → length old.held ≡ 0 → 4 ≤ length bytes → mid ≡ kept_some old (take 3 bytes)
    → new ≡ option_map_or (sync_after mid) (near_pli (header_in (mid.held ++ get_or bytes 3 0 ∷ []))) (slid mid (get_or bytes 3 0))
    → GoesOver old (take 4 bytes) false new
over_header old mid new bytes phase wanted none long three header =
    let byte = get_or bytes 3 0 in
    let size : length (take 3 bytes) ≡ 3 = length-take-le 3 bytes (omega arith) in
    let may : may_want old.phase old.wanted ≡ true = ap (λ p. may_want p old.wanted) phase ∙ ap (may_want Sync) wanted in
    let Mid : ReaderState → Type 0 = λ s. GoesOver old (take 3 bytes) false s in
    let New : ReaderState → Type 0 = λ s. Goes mid byte false s in
    let held : length mid.held ≡ 3 = ap (λ (s : ReaderState). length s.held) three ∙ length-append old.held (take 3 bytes) ∙ omega arith in
    let four : length (mid.held ++ byte ∷ []) ≡ 4 = length-append mid.held (byte ∷ []) ∙ omega arith in
    let goes = goes_in_sync mid byte (near_pli (header_in (mid.held ++ byte ∷ []))) (ap (λ (s : ReaderState). s.phase) three ∙ phase) four refl in
    over_byte old mid new bytes 3 false (omega arith) (subst Mid (sym three) (over_kept old (take 3 bytes) may (omega arith))) (subst New (sym header) goes)

-- ---- a hunt

-- what is to come is told by all but the area
pub record SameView (s t : ReaderState) : Type 0 where
  pub phase : s.phase ≡ t.phase
  pub wanted : s.wanted ≡ t.wanted
  pub held : s.held ≡ t.held
  pub register : s.register ≡ t.register

same_comes : (s t : ReaderState) → SameView s t → (more : List ℕ) → to_come s more ≡ to_come t more
same_comes s t same more =
    let state : Phase → ℕ → List ℕ → ℕ → ReaderState = λ p w h r. record { phase = p; wanted = w; held = h; register = r; area = [] } in
    ap (λ p. to_come (state p s.wanted s.held s.register) more) same.phase
    ∙ ap (λ w. to_come (state t.phase w s.held s.register) more) same.wanted
    ∙ ap (λ h. to_come (state t.phase t.wanted h s.register) more) same.held
    ∙ ap (λ r. to_come (state t.phase t.wanted t.held r) more) same.register

over_same : (s s' t t' : ReaderState) (bytes : List ℕ) → SameView s s' → SameView t t' → GoesOver s bytes false t → GoesOver s' bytes false t'
over_same s s' t t' bytes one other over = record {
  each = λ more. sym (same_comes s s' one (bytes ++ more)) ∙ over.each more ∙ same_comes t t' other more;
  none = sym (same_comes t t' other []) ∙ over.none;
  before = λ k h. sym (same_comes s s' one (take k bytes)) ∙ over.before k h;
}

pub over_hunted : (old new : ReaderState) (three last : ℕ) (bytes : List ℕ) → old.phase ≡ Hunt → old.wanted ≡ 4 → three_bytes three ≡ old.held → new ≡ record old { held = three_bytes last; area = [] }
    → ((register : ℕ) → GoesOver (hunts_after three register) bytes false (hunts_after last register)) → GoesOver old bytes false new
over_hunted old new three last bytes phase four held is over =
    over_same (hunts_after three old.register) old (hunts_after last old.register) new bytes
    (record { phase = sym phase; wanted = sym four; held = held; register = refl })
    (record {
      phase = sym (ap (λ (s : ReaderState). s.phase) is ∙ phase);
      wanted = sym (ap (λ (s : ReaderState). s.wanted) is ∙ four);
      held = sym (ap (λ (s : ReaderState). s.held) is);
      register = sym (ap (λ (s : ReaderState). s.register) is);
    })
    (over old.register)

pub hunt_begins : (three register : ℕ) → GoesOver (hunts_after three register) [] false (hunts_after three register)
hunt_begins three register = over_none (hunts_after three register) [] refl (nothing_comes (hunts_after three register) refl (let h : 3 < 4 = omega arith in h))

-- a byte that ends no right header
pub hunt_next : (three first byte register : ℕ) (bytes : List ℕ) (i : ℕ) → first < 2 ^ 24 → byte < 256 → i < length bytes → get_or bytes i 0 ≡ byte
    → right_pli (bit_xor (first * 256 + byte) pattern) ≡ None
    → GoesOver (hunts_after three register) (take i bytes) false (hunts_after first register)
    → GoesOver (hunts_after three register) (take (i + 1) bytes) false (hunts_after ((first * 256 + byte) % 2 ^ 24) register)
hunt_next three first byte register bytes i small few within is none over =
    let mid = hunts_after first register in
    let header : number_of_four (first / 2 ^ 16) (first / 2 ^ 8 % 2 ^ 8) (first % 2 ^ 8) byte ≡ first * 256 + byte = omega arith in
    let no_header : right_pli (header_in (mid.held ++ byte ∷ [])) ≡ None = ap (λ n. right_pli (bit_xor n pattern)) header ∙ none in
    let goes : Goes mid byte false (slid mid byte) = goes_in_hunt mid byte None refl refl no_header in
    let next = (first * 256 + byte) % 2 ^ 24 in
    let e0 : first / 2 ^ 8 % 2 ^ 8 ≡ next / 2 ^ 16 = omega arith in
    let e1 : first % 2 ^ 8 ≡ next / 2 ^ 8 % 2 ^ 8 = omega arith in
    let e2 : byte ≡ next % 2 ^ 8 = omega arith in
    let state : ℕ → ℕ → ℕ → ReaderState = λ a b c. record { phase = Hunt; wanted = 4; held = a ∷ b ∷ c ∷ []; register = register; area = [] } in
    let same : slid mid byte ≡ hunts_after next register =
    ap (λ a. state a (first % 2 ^ 8) byte) e0 ∙ ap (λ b. state (next / 2 ^ 16) b byte) e1 ∙ ap (state (next / 2 ^ 16) (next / 2 ^ 8 % 2 ^ 8)) e2 in
    let P : ReaderState → Type 0 = λ s. GoesOver (hunts_after three register) (take (i + 1) bytes) false s in
    let Q : ℕ → Type 0 = λ b. Goes mid b false (slid mid byte) in
    subst P same (over_byte (hunts_after three register) mid (slid mid byte) bytes i false within over (subst Q (sym is) goes))
