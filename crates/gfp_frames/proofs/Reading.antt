-- The steps of a reader, at whatever comes after them.
use Rattle.std.proofs.Common.{◌≡◌, ℕ, suc, ◌+◌, ◌<◌, ◌≤◌, ◌^◌, ◌/◌, List, [], ◌∷◌, ◌++◌, Bool, true, false, cond, Option, Some, None, length, take, drop, refl, ap, ◌∙◌, sym, subst, arith, append_assoc, length-append, length-drop, length-take}
use Rattle.std.specs.Prelude.{nat_lt, ◌==◌, ◌||◌, bit_xor, option_to_list}
use Rattle.std.specs.Option.{option_map_or}
use Rattle.std.proofs.Math.Seq.{take-append_seam, drop-append_seam}
use Rattle.std.proofs.lemmas.List.{append-nil}
use Rattle.std.proofs.lemmas.Grind.{flat_map-append}
use Rattle.std.proofs.lemmas.Bool.{lt-ltb, le-ltb, ltb-false, cond_both}
use Rattle.std.proofs.lemmas.Bool.Decides.{nat_tests}
use Rattle.gfp_scrambler.specs.Register.{shifted, last_bits, descrambled}
use Rattle.gfp_frames.specs.CoreHeader.{area_size, header_in, right_pli, near_pli, right_at, near_at}
use Rattle.gfp_frames.specs.Area.{packet_in}
use Rattle.gfp_frames.specs.Delineation.{whole_area, from_hunt, from_presync, from_sync, sync_areas}
use Rattle.gfp_frames.specs.Delivered.{joined, cut_as, plain_areas, packets_in, areas_in, delivered}
use Rattle.gfp_frames.specs.Reader.{ReaderState, may_want, areas_from, to_come, HasRead}
use Rattle.gfp_frames.specs.Steps.Reader.{hunts, kept, slid, presync_after, sync_after, area_after, Goes}
use Rattle.gfp_frames.specs.declared.phase.Phase.{Phase}
use Rattle.gfp_frames.specs.declared.phase.Phase.TheVariants.{Hunt, PresyncArea, Presync, SyncArea, Sync}
use Rattle.gfp_frames.proofs.Lists.{all_dropped}
use Rattle.gfp_frames.proofs.Delineating.{nothing_hunted, nothing_after, nothing_in_sync, hunt_missed, presync_missed, sync_missed, hunt_goes, hunt_slides, presync_goes, presync_slides, sync_goes, sync_slides}

-- ---- fewer bytes than a header

right_short : (bytes : List ℕ) → length bytes < 4 → right_at bytes ≡ None
unfolding right_at
right_short bytes h = ap (λ b. cond b None (right_pli (header_in bytes))) (lt-ltb (length bytes) 4 h)

near_short : (bytes : List ℕ) → length bytes < 4 → near_at bytes ≡ None
unfolding near_at
near_short bytes h = ap (λ b. cond b None (near_pli (header_in bytes))) (lt-ltb (length bytes) 4 h)

pub hunt_short : (bytes : List ℕ) → length bytes < 4 → from_hunt bytes ≡ []
hunt_short [] h = nothing_hunted 0
hunt_short (x ∷ xs) h = hunt_missed x xs (right_short (x ∷ xs) h) ∙ hunt_short xs (omega arith)

pub presync_short : (bytes : List ℕ) → length bytes < 4 → from_presync bytes ≡ []
presync_short [] h = nothing_after 0
presync_short (x ∷ xs) h = presync_missed x xs (right_short (x ∷ xs) h) ∙ hunt_short xs (omega arith)

pub sync_short : (bytes : List ℕ) → length bytes < 4 → from_sync bytes ≡ []
sync_short [] h = nothing_in_sync 0
sync_short (x ∷ xs) h = sync_missed x xs (near_short (x ∷ xs) h) ∙ hunt_short xs (omega arith)

-- ---- areas

either_way : (a b : Bool) → b ≡ true → (a || b) ≡ true
either_way true b e = refl
either_way false b e = e

pub area_short : (pli : ℕ) (bytes : List ℕ) → length bytes < pli → whole_area pli bytes ≡ []
area_short pli bytes h = ap (λ b. cond b [] (take pli bytes ∷ [])) (either_way (nat_lt pli 4) (nat_lt (length bytes) pli) (lt-ltb (length bytes) pli h))

pub area_whole : (pli : ℕ) (w more : List ℕ) → length w ≡ pli → 4 ≤ pli → whole_area pli (w ++ more) ≡ w ∷ []
area_whole pli w more size big =
    let not_control : nat_lt pli 4 ≡ false = le-ltb pli 4 big in
    let not_short : nat_lt (length (w ++ more)) pli ≡ false = le-ltb (length (w ++ more)) pli (let e = length-append w more in omega arith) in
    ap (λ b. cond (b || nat_lt (length (w ++ more)) pli) [] (take pli (w ++ more) ∷ [])) not_control
    ∙ ap (λ b. cond b [] (take pli (w ++ more) ∷ [])) not_short
    ∙ ap (λ y. y ∷ []) (ap (λ n. take n (w ++ more)) (sym size) ∙ take-append_seam w more)

no_area : (pli : ℕ) (bytes : List ℕ) → whole_area pli bytes ≡ cond (nat_lt pli 4) [] (whole_area pli bytes)
no_area pli bytes = elim (nat_lt pli 4) as (λ b. cond (b || nat_lt (length bytes) pli) [] (take pli bytes ∷ []) ≡ cond b [] (cond (b || nat_lt (length bytes) pli) [] (take pli bytes ∷ []))) [ true ↦ refl | false ↦ refl ]

-- the areas that come after a header that was found
presync_state : (pli : ℕ) (more : List ℕ) → areas_from (cond (nat_lt pli 4) Presync PresyncArea) (cond (nat_lt pli 4) 4 pli) more ≡ from_presync (drop (area_size pli) more)
presync_state pli more = elim (nat_lt pli 4) as (λ b. areas_from (cond b Presync PresyncArea) (cond b 4 pli) more ≡ from_presync (drop (cond b 0 pli) more)) [ true ↦ refl | false ↦ refl ]

sync_state : (pli : ℕ) (more : List ℕ) → areas_from (cond (nat_lt pli 4) Sync SyncArea) (cond (nat_lt pli 4) 4 pli) more ≡ whole_area pli more ++ from_sync (drop (area_size pli) more)
sync_state pli more = by_size (nat_lt pli 4) ∙ ap (λ y. y ++ from_sync (drop (area_size pli) more)) (sym (no_area pli more))
  where
    by_size : (b : Bool) → areas_from (cond b Sync SyncArea) (cond b 4 pli) more ≡ cond b [] (whole_area pli more) ++ from_sync (drop (cond b 0 pli) more)
    by_size true = refl
    by_size false = refl

-- ---- descrambling

pub length-descrambled : (r : ℕ) (got : List ℕ) → length (descrambled r got) ≡ length got
unfolding descrambled
length-descrambled r [] = refl
length-descrambled r (g ∷ got) = ap suc (length-descrambled (shifted r g) got)

descrambled-append : (r : ℕ) (xs ys : List ℕ) → descrambled r (xs ++ ys) ≡ descrambled r xs ++ descrambled (last_bits r xs) ys
unfolding descrambled last_bits
descrambled-append r [] ys = refl
descrambled-append r (x ∷ xs) ys = ap (λ rest. bit_xor x (r / 2 ^ 35) ∷ rest) (descrambled-append (shifted r x) xs ys)

pub plain_areas-none : (r : ℕ) → plain_areas r [] ≡ []
unfolding plain_areas
plain_areas-none r = refl

pub plain_areas-cons : (r : ℕ) (area : List ℕ) (areas : List (List ℕ)) → plain_areas r (area ∷ areas) ≡ descrambled r area ∷ plain_areas (last_bits r area) areas
unfolding plain_areas
plain_areas-cons r area areas =
    let plain = descrambled r area in
    let rest = descrambled (last_bits r area) (joined areas) in
    let all : descrambled r (area ++ joined areas) ≡ plain ++ rest = descrambled-append r area (joined areas) in
    let size : length area ≡ length plain = sym (length-descrambled r area) in
    ap (λ y. take (length area) y ∷ cut_as areas (drop (length area) y)) all
    ∙ ap (λ n. take n (plain ++ rest) ∷ cut_as areas (drop n (plain ++ rest))) size
    ∙ ap (λ y. y ∷ cut_as areas (drop (length plain) (plain ++ rest))) (take-append_seam plain rest)
    ∙ ap (λ y. plain ∷ cut_as areas y) (drop-append_seam plain rest)

-- ---- steps

-- what comes is told by the areas alone
pub same_to_come : (register : ℕ) (areas others : List (List ℕ)) → areas ≡ others → plain_areas register areas ≡ plain_areas register others
same_to_come register areas others e = ap (plain_areas register) e

pub none_to_come : (register : ℕ) (areas : List (List ℕ)) → areas ≡ [] → plain_areas register areas ≡ []
none_to_come register areas e = same_to_come register areas [] e ∙ plain_areas-none register

-- a step that finds no area
quiet : (old new : ReaderState) (byte : ℕ) → new.register ≡ old.register
    → ((more : List ℕ) → areas_from old.phase old.wanted ((old.held ++ byte ∷ []) ++ more) ≡ areas_from new.phase new.wanted (new.held ++ more))
    → areas_from new.phase new.wanted (new.held ++ []) ≡ []
    → Goes old byte false new
quiet old new byte same each none = record {
  each = λ more.
      same_to_come old.register (areas_from old.phase old.wanted (old.held ++ byte ∷ more)) (areas_from new.phase new.wanted (new.held ++ more))
      (ap (areas_from old.phase old.wanted) (sym (append_assoc old.held (byte ∷ []) more)) ∙ each more)
      ∙ ap (λ r. plain_areas r (areas_from new.phase new.wanted (new.held ++ more))) (sym same);
  none = none_to_come new.register (areas_from new.phase new.wanted (new.held ++ [])) none;
}

-- what the phases still wait for gives nothing yet
is_four : (n : ℕ) → (n == 4) ≡ true → n ≡ 4
is_four n e = grind (arith, nat_tests)

-- a phase that waits for a header waits for four bytes
abbrev pub four_if : Phase → ℕ → Bool
four_if Hunt n = n == 4
four_if PresyncArea n = true
four_if Presync n = n == 4
four_if SyncArea n = true
four_if Sync n = n == 4

pub four_wanted : (phase : Phase) (n : ℕ) → may_want phase n ≡ true → four_if phase n ≡ true
four_wanted Hunt n e = e
four_wanted PresyncArea n e = refl
four_wanted Presync n e = e
four_wanted SyncArea n e = refl
four_wanted Sync n e = e

pub waits : (phase : Phase) (wanted : ℕ) (held : List ℕ) → four_if phase wanted ≡ true → length held < wanted → areas_from phase wanted held ≡ []
waits Hunt wanted held four short = hunt_short held (let e = is_four wanted four in omega arith)
waits PresyncArea wanted held four short = ap from_presync (all_dropped held wanted (omega arith)) ∙ nothing_after 0
waits Presync wanted held four short = presync_short held (let e = is_four wanted four in omega arith)
waits SyncArea wanted held four short =
    ap (λ y. y ++ from_sync (drop wanted held)) (area_short wanted held short) ∙ ap from_sync (all_dropped held wanted (omega arith)) ∙ nothing_in_sync 0
waits Sync wanted held four short = sync_short held (let e = is_four wanted four in omega arith)

pub waits_more : (phase : Phase) (wanted : ℕ) (held : List ℕ) → four_if phase wanted ≡ true → length held < wanted → areas_from phase wanted (held ++ []) ≡ []
waits_more phase wanted held four short = ap (areas_from phase wanted) (append-nil held) ∙ waits phase wanted held four short

pub goes_kept : (old : ReaderState) (byte : ℕ) → may_want old.phase old.wanted ≡ true → length old.held + 1 < old.wanted → Goes old byte false (kept old byte)
goes_kept old byte may short =
    quiet old (kept old byte) byte refl (λ more. refl)
    (waits_more old.phase old.wanted (old.held ++ byte ∷ []) (four_wanted old.phase old.wanted may) (let e = length-append old.held (byte ∷ []) in omega arith))

-- after a header that was found nothing has come yet
four_presync : (pli : ℕ) → four_if (cond (nat_lt pli 4) Presync PresyncArea) (cond (nat_lt pli 4) 4 pli) ≡ true
four_presync pli = elim (nat_lt pli 4) as (λ b. four_if (cond b Presync PresyncArea) (cond b 4 pli) ≡ true) [ true ↦ refl | false ↦ refl ]

four_sync : (pli : ℕ) → four_if (cond (nat_lt pli 4) Sync SyncArea) (cond (nat_lt pli 4) 4 pli) ≡ true
four_sync pli = elim (nat_lt pli 4) as (λ b. four_if (cond b Sync SyncArea) (cond b 4 pli) ≡ true) [ true ↦ refl | false ↦ refl ]

wants_some : (pli : ℕ) → 0 < cond (nat_lt pli 4) 4 pli
wants_some pli = cond_both (nat_lt pli 4) 4 pli (λ x. 0 < x) (λ e. omega arith) (λ e. omega (arith, ltb-false pli 4 e))

-- the old phase's areas, where the bytes held and this one are a header
abbrev AtHeader : ReaderState → ℕ → (after : List ℕ → List (List ℕ)) → Type 0
AtHeader old byte after = (more : List ℕ) → areas_from old.phase old.wanted ((old.held ++ byte ∷ []) ++ more) ≡ after more

goes_presync : (old : ReaderState) (byte pli : ℕ) → AtHeader old byte (λ more. from_presync (drop (area_size pli) more)) → Goes old byte false (presync_after old pli)
goes_presync old byte pli at =
    quiet old (presync_after old pli) byte refl (λ more. at more ∙ sym (presync_state pli more))
    (waits (presync_after old pli).phase (presync_after old pli).wanted [] (four_presync pli) (wants_some pli))

goes_sync : (old : ReaderState) (byte pli : ℕ) → AtHeader old byte (λ more. whole_area pli more ++ from_sync (drop (area_size pli) more)) → Goes old byte false (sync_after old pli)
goes_sync old byte pli at =
    quiet old (sync_after old pli) byte refl (λ more. at more ∙ sym (sync_state pli more))
    (waits (sync_after old pli).phase (sync_after old pli).wanted [] (four_sync pli) (wants_some pli))

goes_slid : (old : ReaderState) (byte : ℕ) → length (old.held ++ byte ∷ []) ≡ 4 → AtHeader old byte (λ more. from_hunt (drop 1 (old.held ++ byte ∷ []) ++ more)) → Goes old byte false (slid old byte)
goes_slid old byte four at =
    quiet old (slid old byte) byte refl at
    (waits_more Hunt 4 (drop 1 (old.held ++ byte ∷ [])) refl (let e = length-drop 1 (old.held ++ byte ∷ []) in omega arith))

phase_is : (old : ReaderState) (phase : Phase) (byte : ℕ) (after : List ℕ → List (List ℕ)) → old.phase ≡ phase
    → ((more : List ℕ) → areas_from phase old.wanted ((old.held ++ byte ∷ []) ++ more) ≡ after more) → AtHeader old byte after
phase_is old phase byte after e at = λ more. ap (λ p. areas_from p old.wanted ((old.held ++ byte ∷ []) ++ more)) e ∙ at more

-- what a header says in HUNT, after a PRESYNC frame, and in SYNC
pub goes_in_hunt : (old : ReaderState) (byte : ℕ) (found : Option ℕ) → old.phase ≡ Hunt → length (old.held ++ byte ∷ []) ≡ 4 → right_pli (header_in (old.held ++ byte ∷ [])) ≡ found
    → Goes old byte false (option_map_or (presync_after old) found (slid old byte))
goes_in_hunt old byte (Some pli) e four is = goes_presync old byte pli
    (phase_is old Hunt byte (λ more. from_presync (drop (area_size pli) more)) e (λ more. hunt_goes (old.held ++ byte ∷ []) more pli four is))
goes_in_hunt old byte None e four is = goes_slid old byte four
    (phase_is old Hunt byte (λ more. from_hunt (drop 1 (old.held ++ byte ∷ []) ++ more)) e (λ more. hunt_slides (old.held ++ byte ∷ []) more four is))

pub goes_in_presync : (old : ReaderState) (byte : ℕ) (found : Option ℕ) → old.phase ≡ Presync → length (old.held ++ byte ∷ []) ≡ 4 → right_pli (header_in (old.held ++ byte ∷ [])) ≡ found
    → Goes old byte false (option_map_or (sync_after old) found (slid old byte))
goes_in_presync old byte (Some pli) e four is = goes_sync old byte pli
    (phase_is old Presync byte (λ more. whole_area pli more ++ from_sync (drop (area_size pli) more)) e (λ more. presync_goes (old.held ++ byte ∷ []) more pli four is))
goes_in_presync old byte None e four is = goes_slid old byte four
    (phase_is old Presync byte (λ more. from_hunt (drop 1 (old.held ++ byte ∷ []) ++ more)) e (λ more. presync_slides (old.held ++ byte ∷ []) more four is))

pub goes_in_sync : (old : ReaderState) (byte : ℕ) (found : Option ℕ) → old.phase ≡ Sync → length (old.held ++ byte ∷ []) ≡ 4 → near_pli (header_in (old.held ++ byte ∷ [])) ≡ found
    → Goes old byte false (option_map_or (sync_after old) found (slid old byte))
goes_in_sync old byte (Some pli) e four is = goes_sync old byte pli
    (phase_is old Sync byte (λ more. whole_area pli more ++ from_sync (drop (area_size pli) more)) e (λ more. sync_goes (old.held ++ byte ∷ []) more pli four is))
goes_in_sync old byte None e four is = goes_slid old byte four
    (phase_is old Sync byte (λ more. from_hunt (drop 1 (old.held ++ byte ∷ []) ++ more)) e (λ more. sync_slides (old.held ++ byte ∷ []) more four is))

-- the PRESYNC frame's area is over
pub goes_past_presync : (old : ReaderState) (byte : ℕ) → old.phase ≡ PresyncArea → length (old.held ++ byte ∷ []) ≡ old.wanted
    → Goes old byte false (record { phase = Presync; wanted = 4; held = []; register = old.register; area = [] })
goes_past_presync old byte e size =
    let w = old.held ++ byte ∷ [] in
    let next : ReaderState = record { phase = Presync; wanted = 4; held = []; register = old.register; area = [] } in
    quiet old next byte refl
    (phase_is old PresyncArea byte from_presync e (λ more. ap from_presync (ap (λ n. drop n (w ++ more)) (sym size) ∙ drop-append_seam w more)))
    (waits Presync 4 [] refl (omega arith))

-- an area in sync is whole
pub goes_past_area : (old : ReaderState) (byte : ℕ) → old.phase ≡ SyncArea → length (old.held ++ byte ∷ []) ≡ old.wanted → 4 ≤ old.wanted
    → Goes old byte true (area_after old byte)
goes_past_area old byte e size big =
    let w = old.held ++ byte ∷ [] in
    let r = old.register in
    record {
      each = λ more.
          let areas : areas_from old.phase old.wanted (old.held ++ byte ∷ more) ≡ w ∷ from_sync more =
          ap (areas_from old.phase old.wanted) (sym (append_assoc old.held (byte ∷ []) more))
          ∙ ap (λ p. areas_from p old.wanted (w ++ more)) e
          ∙ ap (λ y. y ++ from_sync (drop old.wanted (w ++ more))) (area_whole old.wanted w more size big)
          ∙ ap (λ y. w ∷ from_sync y) (ap (λ n. drop n (w ++ more)) (sym size) ∙ drop-append_seam w more) in
          same_to_come r (areas_from old.phase old.wanted (old.held ++ byte ∷ more)) (w ∷ from_sync more) areas
          ∙ plain_areas-cons r w (from_sync more);
      none = none_to_come (last_bits r w) (from_sync []) (nothing_in_sync 0);
    }

-- ---- histories

no_areas : areas_in [] ≡ []
unfolding sync_areas
no_areas = none_to_come 0 (from_hunt []) (nothing_hunted 0)

begins_with : (more : List ℕ) → areas_in more ≡ to_come hunts more
unfolding sync_areas
begins_with more = refl

pub begins : HasRead [] hunts
begins = record { whole = λ more. begins_with more ∙ ap (λ y. y ++ to_come hunts more) (sym no_areas) }

pub delivered_is : (bytes : List ℕ) → delivered bytes ≡ packets_in (areas_in bytes)
unfolding delivered
delivered_is bytes = refl

pub nothing_delivered : delivered [] ≡ []
nothing_delivered = delivered_is [] ∙ ap packets_in no_areas

pub packets-append : (xs ys : List (List ℕ)) → packets_in (xs ++ ys) ≡ packets_in xs ++ packets_in ys
packets-append xs ys = flat_map-append (λ area. option_to_list (packet_in area)) xs ys

-- bytes in which these areas are found
pub found_on : (read bytes : List ℕ) (old new : ReaderState) (areas : List (List ℕ)) → HasRead read old → ((more : List ℕ) → to_come old (bytes ++ more) ≡ areas ++ to_come new more) → to_come new [] ≡ []
    → areas_in (read ++ bytes) ≡ areas_in read ++ areas
found_on read bytes old new areas has each none =
    has.whole bytes ∙ ap (λ y. areas_in read ++ y) (ap (to_come old) (sym (append-nil bytes)) ∙ each [] ∙ ap (λ y. areas ++ y) none ∙ append-nil areas)

pub reads_on : (read bytes : List ℕ) (old new : ReaderState) (areas : List (List ℕ)) → HasRead read old → ((more : List ℕ) → to_come old (bytes ++ more) ≡ areas ++ to_come new more) → to_come new [] ≡ []
    → HasRead (read ++ bytes) new
reads_on read bytes old new areas has each none = record {
  whole = λ more.
      ap areas_in (append_assoc read bytes more) ∙ has.whole (bytes ++ more) ∙ ap (λ y. areas_in read ++ y) (each more)
      ∙ sym (append_assoc (areas_in read) areas (to_come new more)) ∙ ap (λ y. y ++ to_come new more) (sym (found_on read bytes old new areas has each none));
}

pub begins_at : (reader : ReaderState) (register : ℕ) → reader ≡ record { phase = Hunt; wanted = 4; held = []; register = register; area = [] } → register ≡ 0 → HasRead [] reader
begins_at reader register e none =
    let state : ℕ → ReaderState = λ r. record { phase = Hunt; wanted = 4; held = []; register = r; area = [] } in
    let P : ReaderState → Type 0 = λ s. HasRead [] s in
    subst P (sym (e ∙ ap state none)) begins

-- ---- sizes

pub at_most : (phase : Phase) (n : ℕ) → may_want phase n ≡ true → n ≤ 65535
at_most Hunt n e = (let four = is_four n e in omega arith)
at_most PresyncArea n e = grind (arith, nat_tests)
at_most Presync n e = (let four = is_four n e in omega arith)
at_most SyncArea n e = grind (arith, nat_tests)
at_most Sync n e = (let four = is_four n e in omega arith)

-- a plain area is as long as it was waited for
pub area_length : (old new : ReaderState) (byte wanted : ℕ) → new ≡ area_after old byte → length (old.held ++ byte ∷ []) ≡ wanted → 4 ≤ wanted → wanted ≤ 65535
    → (4 ≤ length new.area) × (length new.area ≤ 65535)
area_length old new byte wanted is size big most =
    let same : length new.area ≡ wanted = ap (λ (s : ReaderState). length s.area) is ∙ length-descrambled old.register (old.held ++ byte ∷ []) ∙ size in
    (omega arith, omega arith)

pub four_in_hunt : (phase : Phase) (n : ℕ) → phase ≡ Hunt → may_want phase n ≡ true → n ≡ 4
four_in_hunt phase n e may = is_four n (sym (ap (λ p. may_want p n) e) ∙ may)

pub four_in_presync : (phase : Phase) (n : ℕ) → phase ≡ Presync → may_want phase n ≡ true → n ≡ 4
four_in_presync phase n e may = is_four n (sym (ap (λ p. may_want p n) e) ∙ may)

pub four_in_sync : (phase : Phase) (n : ℕ) → phase ≡ Sync → may_want phase n ≡ true → n ≡ 4
four_in_sync phase n e may = is_four n (sym (ap (λ p. may_want p n) e) ∙ may)

big_area : (n : ℕ) → may_want SyncArea n ≡ true → 4 ≤ n
big_area n e = grind (arith, nat_tests)

pub big_in_area : (phase : Phase) (n : ℕ) → phase ≡ SyncArea → may_want phase n ≡ true → 4 ≤ n
big_in_area phase n e may = big_area n (sym (ap (λ p. may_want p n) e) ∙ may)

-- how much is held, as the buffer has it
pub held_size : (phase : Phase) (held wanted : ℕ) (items now : List ℕ) → may_want phase wanted ≡ true → take held items ≡ now → held < wanted → length items ≡ 65535 → length now ≡ held
held_size phase held wanted items now may e short size =
    let most = at_most phase wanted may in sym (ap length e) ∙ (let l = length-take held items in omega arith)

pub full_size : (byte held wanted : ℕ) (now : List ℕ) → length now ≡ held → held < wanted → wanted ≤ held + 1 → length (now ++ byte ∷ []) ≡ wanted
full_size byte held wanted now size short full = (let l = length-append now (byte ∷ []) in omega arith)
