-- A frame more of an output line.
use Rattle.std.proofs.Common.{◌≡◌, ◌≢◌, ◌+◌, ◌-◌, ◌*◌, ◌^◌, ◌%◌, min, ℕ, Bool, true, false, List, [], ◌∷◌, ◌++◌, length, refl, sym, ap, ◌∙◌, arith, inl, inr, append-nil, append_assoc, length-append, subst}
use Rattle.std.specs.List.{concat}
use Rattle.std.proofs.lemmas.List.{length-set, get_or-set_same, get_or-set_other}
use Rattle.std.proofs.Math.Dec.{eqb}
use Rattle.std.proofs.lemmas.Bool.Decides.{eqb_tells}
use Rattle.port_base.specs.Views.{State, Empty, Live, Dead, OutView}
use Rattle.port_base.specs.Given.{Gained}
use Rattle.port_base.specs.Sent.{IsSent}
use Rattle.port_base.proofs.GivenLaws.{gained_none, gained_twice}
use Rattle.line_side.proofs.Giving.{dead_not_live, empty_not_live}
use Rattle.otn_base.specs.Counts.{saturated}
use Rattle.std.specs.Prelude.{slice_set, ◌&&◌}
use Rattle.std.proofs.Common.{get_or, cond}
use Rattle.frame_geometry.specs.PayloadParity.{payload_parity_of, same_payload_parity}
use Rattle.frame_geometry.specs.Places.{place_of, same_place}
use Rattle.frame_overhead.specs.Parity.{parity_of}
use Rattle.frame_overhead.specs.Runs.{IsPlace}
use Rattle.frame_overhead.specs.TwoBefore.{HasSent, parity_due, or_zero}
use Rattle.frame_overhead.proofs.Sent.{sent_as}
use Rattle.msi_table.specs.Psi.{psi_of}
use Rattle.odu_path.specs.Path.{path_byte, IsOduFrame}
use Rattle.otu_overhead.specs.Section.{otu_byte, IsOtuFrame}
use Rattle.line_side.specs.LineForm.{LineForm, masked_from, through_mask}
use Rattle.otn_base.specs.declared.line_kind.LineKind.{LineKind}
use Rattle.line_side.specs.LineOutput.{FramePut, IsLineFrame, AreLineFrames, line_sapi, line_tti, psi_byte_at, LineOutView, LineMade, counted_frames, counted_now}
use Rattle.line_side.specs.Steps.LineOutput.{Joins}
use Rattle.line_side.proofs.Masks.{length_through, through_append}

dead_not_empty : Dead ≢ Empty
dead_not_empty e = cc

concat_more : (made : List (List ℕ)) (frame : List ℕ) → concat (made ++ frame ∷ []) ≡ concat made ++ frame
concat_more [] frame = append-nil frame
concat_more (first ∷ made) frame = ap (λ xs. first ++ xs) (concat_more made frame) ∙ sym (append_assoc first (concat made) frame)

-- ---- the frames of a line

pub file_more : (scrambled : Bool) (made : List (List ℕ)) (frame : List ℕ) → length (concat made) ≡ 16320 * length made
    → through_mask scrambled (concat (made ++ frame ∷ [])) ≡ through_mask scrambled (concat made) ++ through_mask scrambled frame
file_more scrambled made frame size = ap (through_mask scrambled) (concat_more made frame) ∙ through_append scrambled (concat made) frame (length made) size

pub frames_size : (n : ℕ) (before : List (List ℕ)) (puts : List FramePut) (made : List (List ℕ)) → AreLineFrames n before puts made → length (concat made) ≡ 16320 * length made
frames_size n before [] [] h = refl
frames_size n before (put ∷ puts) (frame ∷ made) h =
    let rest = frames_size n (before ++ frame ∷ []) puts made h.1 in
    omega (arith, length-append frame (concat made), h.0.size, rest)
frames_size n before (put ∷ puts) [] h = absurd h
frames_size n before [] (frame ∷ made) h = absurd h

pub frames_more : (n : ℕ) (before : List (List ℕ)) (puts : List FramePut) (made : List (List ℕ)) (put : FramePut) (frame : List ℕ) → AreLineFrames n before puts made
    → IsLineFrame n (or_zero (parity_due 4080 (before ++ made))) put frame → AreLineFrames n before (puts ++ put ∷ []) (made ++ frame ∷ [])
frames_more n before [] [] put frame h here = (let P : List (List ℕ) → Type 0 = λ b. IsLineFrame n (or_zero (parity_due 4080 b)) put frame in subst P (append-nil before) here, tt)
frames_more n before (p ∷ puts) (f ∷ made) put frame h here = (
  h.0,
  frames_more n (before ++ f ∷ []) puts made put frame h.1
      (let P : List (List ℕ) → Type 0 = λ b. IsLineFrame n (or_zero (parity_due 4080 b)) put frame in subst P (sym (append_assoc before (f ∷ []) made)) here),
)
frames_more n before (p ∷ puts) [] put frame h here = absurd h
frames_more n before [] (f ∷ made) put frame h here = absurd h

-- ---- what went out

still_live : (was is : OutView) (more : List ℕ) → Gained was more is → is.state ≡ Live → was.state ≡ Live
still_live was is more gained live = elim gained.state [
  | inl same ↦ sym same.0 ∙ live
  | inr died ↦ absurd (dead_not_live (sym died.1 ∙ live))
]

-- what of the bytes that were due, and of those that are due then, is gone
pub record SentMore (due sent more out : List ℕ) (is : OutView) : Type 0 where
  pub rest : List ℕ
  pub parts : (sent ++ more) ++ rest ≡ due ++ out
  pub whole : is.state ≡ Live → rest ≡ []

parts_more : (was is : OutView) (due sent rest out : List ℕ) (k : IsSent was out is) → (was.state ≡ Live → rest ≡ []) → sent ++ rest ≡ due → SentMore due sent k.written out is
parts_more was is due sent rest out k whole parts = by_state was.state refl
  where
    all : was.state ≡ Live → sent ≡ due
    all live = sym (append-nil sent) ∙ ap (λ r. sent ++ r) (sym (whole live)) ∙ parts

    idle : was.state ≢ Live → SentMore due sent k.written out is
    idle rests = record {
      rest = rest ++ out;
      parts = ap (λ xs. (sent ++ xs) ++ (rest ++ out)) (k.gained.idle rests).1 ∙ ap (λ xs. xs ++ (rest ++ out)) (append-nil sent) ∙ sym (append_assoc sent rest out) ∙ ap (λ xs. xs ++ out) parts;
      whole = λ live. absurd (rests (still_live was is k.written k.gained live));
    }

    by_state : (s : State) → was.state ≡ s → SentMore due sent k.written out is
    by_state Empty d = idle (λ l. empty_not_live (sym d ∙ l))
    by_state Dead d = idle (λ l. dead_not_live (sym d ∙ l))
    by_state Live d = record {
      rest = k.rest;
      parts = append_assoc sent k.written k.rest ∙ ap (λ xs. sent ++ xs) k.parts ∙ ap (λ xs. xs ++ out) (all d);
      whole = k.whole;
    }

-- how many count
counts_more : (first was is : OutView) (made : List (List ℕ)) (m : ℕ) (due sent out one_more : List ℕ) (k : IsSent was out is) → Gained first sent was
    → length due ≡ 16320 * m → (was.state ≡ Live → sent ≡ due)
    → counted_frames first.state (made ++ one_more ∷ []) (sent ++ k.written) ≡ counted_frames first.state made sent + counted_now was.state k.written
counts_more first was is made m due sent out one_more k gained size whole = by_state first.state was.state refl refl
  where
    Counts : Type 0
    Counts = counted_frames first.state (made ++ one_more ∷ []) (sent ++ k.written) ≡ counted_frames first.state made sent + counted_now was.state k.written

    all : length (sent ++ k.written) ≡ length sent + length k.written
    all = length-append sent k.written

    idle : (s : State) → first.state ≡ s → s ≢ Empty → was.state ≡ Dead → Counts
    idle Empty e other d = absurd (other refl)
    idle Live e other d = let n = ap length (k.gained.idle (λ l. dead_not_live (sym d ∙ l))).1 in
        rw (e, d) (omega (arith, all, n))
    idle Dead e other d = let n = ap length (k.gained.idle (λ l. dead_not_live (sym d ∙ l))).1 in
        rw (e, d) (omega (arith, all, n))

    by_state : (s t : State) → first.state ≡ s → was.state ≡ t → Counts
    by_state Empty Empty e d = rw (e, d) (length-append made (one_more ∷ []))
    by_state Live Empty e d = absurd (elim gained.state [ inl same ↦ empty_not_live (sym d ∙ same.0 ∙ e) | inr died ↦ dead_not_empty (sym died.1 ∙ d) ])
    by_state Dead Empty e d = absurd (elim gained.state [ inl same ↦ dead_not_empty (sym e ∙ sym same.0 ∙ d) | inr died ↦ dead_not_empty (sym died.1 ∙ d) ])
    by_state Empty Dead e d = absurd (elim gained.state [ inl same ↦ dead_not_empty (sym d ∙ same.0 ∙ e) | inr died ↦ empty_not_live (sym e ∙ died.0) ])
    by_state Live Dead e d = idle Live e (λ x. empty_not_live (sym x)) d
    by_state Dead Dead e d = idle Dead e dead_not_empty d
    by_state Empty Live e d = absurd (elim gained.state [ inl same ↦ empty_not_live (sym e ∙ sym same.0 ∙ d) | inr died ↦ dead_not_live (sym died.1 ∙ d) ])
    by_state Dead Live e d = absurd (elim gained.state [ inl same ↦ dead_not_live (sym e ∙ sym same.0 ∙ d) | inr died ↦ dead_not_live (sym died.1 ∙ d) ])
    by_state Live Live e d =
        let n = ap length (whole d) in
        rw (e, d) (omega (arith, all, n, size))

stopped_more : (a b : ℕ) → min (min a (2 ^ 64 - 1) + b) (2 ^ 64 - 1) ≡ min (a + b) (2 ^ 64 - 1)
stopped_more a b = omega arith

set_psi : (ports frame : List ℕ) (mfas row col : ℕ) → length frame ≡ 16320 → IsPlace 4080 row col
    → get_or (slice_set frame (place_of 4080 4 15) (psi_of ports mfas)) (place_of 4080 row col) 0 ≡ psi_byte_at ports mfas row col (get_or frame (place_of 4080 row col) 0)
set_psi ports frame mfas row col size place =
    let v = psi_of ports mfas in
    let put = get_or frame (place_of 4080 row col) 0 in
    let apart : (row ≡ 4 → col ≡ 15 → ⊥) → get_or (slice_set frame (place_of 4080 4 15) v) (place_of 4080 row col) 0 ≡ put =
    λ never. get_or-set_other frame (place_of 4080 4 15) (place_of 4080 row col) v 0
    (λ here. let (r, c) = same_place 4080 row col 4 15 place.row_low (omega arith) place.col_low place.col_high (omega arith) (omega arith) here in never r c) in
    elim (eqb_tells row 4) [
      | inl r ↦ elim (eqb_tells col 15) [
        | inl c ↦
            ap (λ n. get_or (slice_set frame (place_of 4080 4 15) v) (place_of 4080 n col) 0) r.1
            ∙ ap (λ n. get_or (slice_set frame (place_of 4080 4 15) v) (place_of 4080 4 n) 0) c.1
            ∙ get_or-set_same frame (place_of 4080 4 15) v 0 (omega (arith, size))
            ∙ sym (ap (λ b. cond (b && eqb col 15) v put) r.0 ∙ ap (λ b. cond b v put) c.0)
        | inr c ↦ apart (λ _ k. absurd (c.1 k)) ∙ sym (ap (λ b. cond (b && eqb col 15) v put) r.0 ∙ ap (λ b. cond b v put) c.0)
      ]
      | inr r ↦ apart (λ k _. absurd (r.1 k)) ∙ sym (ap (λ b. cond (b && eqb col 15) v put) r.0)
    ]

-- so many frames are due, where all but those that wait are
due_frames : (made over : ℕ) (due waiting all : List ℕ) → due ++ waiting ≡ all → length all ≡ 16320 * made → length waiting ≡ 16320 * over → length due ≡ 16320 * (made - over)
due_frames made over due waiting all parts size few =
    let whole = sym (length-append due waiting) ∙ ap length parts in
    omega (arith, whole, size, few)

-- what `finish` has made
pub made_more : (n : ℕ) (form : LineForm) (put : FramePut) (first was is : OutView) (puts : List FramePut) (old new : LineOutView) (set pathed frame sent : List ℕ) (counts : ℕ)
    → put.bytes ≡ old.frame → set ≡ slice_set old.frame (place_of 4080 4 15) (psi_of put.ports put.mfas)
    → ((made : List (List ℕ)) → HasSent 4080 made old.path → IsOduFrame 4080 old.sapi put.mfas (or_zero (parity_due 4080 made)) set pathed)
    → ((made : List (List ℕ)) → HasSent 4080 made old.path → HasSent 4080 (made ++ pathed ∷ []) new.path)
    → ((made : List (List ℕ)) → HasSent 4080 made old.section → IsOtuFrame old.sapi put.mfas (or_zero (parity_due 4080 made)) pathed frame)
    → ((made : List (List ℕ)) → HasSent 4080 made old.section → HasSent 4080 (made ++ frame ∷ []) new.section)
    → parity_of 4080 pathed ≡ parity_of 4080 frame → sent ≡ through_mask old.form.scrambled frame → length sent ≡ 16320
    → Joins old.waiting was sent new.waiting is counts → new.frames ≡ saturated (old.frames + counts) → new.sapi ≡ old.sapi → new.form ≡ old.form
    → LineMade n form first was puts old → LineMade n form first is (puts ++ put ∷ []) new
made_more n form put first was is puts old new set pathed frame sent counts here set_is path path_sent section section_sent same masked sized j frames sapi kept h =
    let pm = rw h.sapi at (path h.made h.path) in
    let sm = rw h.sapi at (section h.made h.section) in
    let wide : length frame ≡ 16320 = sym (length_through old.form.scrambled frame) ∙ sym (ap length masked) ∙ sized in
    let size : length old.frame ≡ 16320 = sym (length-set old.frame (place_of 4080 4 15) (psi_of put.ports put.mfas)) ∙ sym (ap length set_is) ∙ sym pm.size ∙ sym sm.size ∙ wide in
    let scrambled : sent ≡ through_mask form.scrambled frame = masked ∙ ap (λ (f : LineForm). through_mask f.scrambled frame) h.is_form in
    let file = through_mask form.scrambled (concat h.made) in
    let count = frames_size n [] puts h.made h.are_frames in
    let long : length file ≡ 16320 * length h.made = length_through form.scrambled (concat h.made) ∙ count in
    let due = due_frames (length h.made) (length puts % 8) h.due old.waiting file h.parts long h.over in
    let gone = j.leaves.sent in
    let more = parts_more was is h.due h.sent.written h.sent.rest j.due gone h.sent.whole h.sent.parts in
    let all : was.state ≡ Live → h.sent.written ≡ h.due = λ live. sym (append-nil h.sent.written) ∙ ap (λ r. h.sent.written ++ r) (sym (h.sent.whole live)) ∙ h.sent.parts in
    record {
      is_form = kept ∙ h.is_form;
      made = h.made ++ frame ∷ [];
      are_frames = frames_more n [] puts h.made put frame h.are_frames (record {
        size = wide;
        byte = λ row col place. sm.byte row col place
            ∙ ap (otu_byte put.mfas (line_tti n put.mfas) (or_zero (parity_due 4080 h.made)) row col)
            (pm.byte row col place
            ∙ ap (path_byte (line_tti n put.mfas) (or_zero (parity_due 4080 h.made)) row col)
            (ap (λ frame. get_or frame (place_of 4080 row col) 0) set_is ∙ set_psi put.ports old.frame put.mfas row col size place
            ∙ ap (λ bytes. psi_byte_at put.ports put.mfas row col (get_or bytes (place_of 4080 row col) 0)) (sym here)));
      });
      due = h.due ++ j.due;
      parts = append_assoc h.due j.due new.waiting ∙ ap (λ xs. h.due ++ xs) j.parts ∙ sym (append_assoc h.due old.waiting sent) ∙ ap (λ xs. xs ++ sent) h.parts
          ∙ ap (λ xs. file ++ xs) scrambled ∙ sym (file_more form.scrambled h.made frame count);
      over = j.over (length puts) h.over ∙ ap (λ k. 16320 * (k % 8)) (sym (length-append puts (put ∷ [])));
      sent = record {
        written = h.sent.written ++ gone.written;
        rest = more.rest;
        parts = more.parts;
        gained = gained_twice first was is h.sent.written gone.written h.sent.gained gone.gained;
        whole = more.whole;
      };
      frames = frames ∙ ap (λ k. saturated (k + counts)) h.frames ∙ stopped_more (counted_frames first.state h.made h.sent.written) counts
          ∙ ap (λ k. saturated (counted_frames first.state h.made h.sent.written + k)) j.leaves.counted
          ∙ sym (ap saturated (counts_more first was is h.made (length h.made - length puts % 8) h.due h.sent.written j.due frame gone h.sent.gained due all));
      sapi = sapi ∙ h.sapi;
      section = section_sent h.made h.section;
      path = sent_as 4080 h.made pathed frame new.path same (path_sent h.made h.path);
    }

pub none_count : (s : State) → 0 ≡ saturated (counted_frames s [] [])
none_count Empty = refl
none_count Live = refl
none_count Dead = refl

nothing : (scrambled : Bool) → [] ≡ through_mask scrambled []
unfolding masked_from
nothing true = refl
nothing false = refl

-- a line that has made no frame
pub new_made : (n : ℕ) (kind : LineKind) (scrambled : Bool) (mask : Bool) (first : OutView) (line : LineOutView) → line.form ≡ record { kind = kind; scrambled = mask } → mask ≡ scrambled → line.sapi ≡ line_sapi n
    → HasSent 4080 [] line.section → HasSent 4080 [] line.path → line.waiting ≡ [] → line.frames ≡ 0 → LineMade n (record { kind = kind; scrambled = scrambled }) first first [] line
new_made n kind scrambled mask first line form same sapi section path waiting frames = record {
  is_form = form ∙ (let of_mask : Bool → LineForm = λ s. record { kind = kind; scrambled = s } in ap of_mask same);
  made = [];
  are_frames = tt;
  due = [];
  parts = waiting ∙ nothing scrambled;
  over = ap length waiting;
  sent = record { written = []; rest = []; parts = refl; gained = gained_none first; whole = λ _. refl };
  frames = frames ∙ none_count first.state;
  sapi = sapi;
  section = section;
  path = path;
}

no_length : (xs : List ℕ) → length xs ≡ 0 → xs ≡ []
no_length [] e = refl
no_length (x ∷ xs) e = cc

-- behind frames of which none is over, the whole file was due
pub all_due : (n : ℕ) (form : LineForm) (first now : OutView) (puts : List FramePut) (line : LineOutView) → (h : LineMade n form first now puts line) → length puts % 8 ≡ 0
    → h.due ≡ through_mask form.scrambled (concat h.made)
all_due n form first now puts line h none =
    let nothing_waits : line.waiting ≡ [] = no_length line.waiting (h.over ∙ ap (λ k. 16320 * k) none) in
    sym (append-nil h.due) ∙ ap (λ xs. h.due ++ xs) (sym nothing_waits) ∙ h.parts

-- the PSI byte is no byte of the payload
pub psi_beside_payload : (frame set : List ℕ) (byte : ℕ) → set ≡ slice_set frame (place_of 4080 4 15) byte → length set ≡ 16320 → payload_parity_of 4080 set ≡ payload_parity_of 4080 frame
psi_beside_payload frame set byte is size =
    same_payload_parity 4080 frame set (omega arith) (sym (length-set frame (place_of 4080 4 15) byte) ∙ sym (ap length is) ∙ size) size (λ row x low high below.
    ap (λ bytes. get_or bytes (place_of 4080 row (17 + x)) 0) is
    ∙ get_or-set_other frame (place_of 4080 4 15) (place_of 4080 row (17 + x)) byte 0 (λ here.
    let (r, c) = same_place 4080 row (17 + x) 4 15 low (omega arith) (omega arith) (omega arith) (omega arith) (omega arith) here in omega (arith, c)))
