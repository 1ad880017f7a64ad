-- The bytes of a client's frame, row by row.
use Rattle.std.proofs.Common.{◌≡◌, ◌≢◌, ◌<◌, ◌≤◌, ◌+◌, ◌-◌, ◌*◌, ◌/◌, ◌%◌, ◌⊎◌, inl, inr, ℕ, Bool, true, false, ◌==◌, nat_le, ◌&&◌, if◌then◌else◌, List, [], ◌∷◌, ◌++◌, length, slice_index, get_or, arith, refl, sym, ap, subst, ◌∙◌}
use Rattle.std.specs.Prelude.{map}
use Rattle.std.specs.List.{range_with_len}
use Rattle.std.proofs.lemmas.List.{get_or-take, ext_get_or}
use Rattle.std.proofs.lemmas.List.FromFn.{get_or-map-range_with_len, length-map-range_with_len}
use Rattle.std.proofs.lemmas.Bool.Decides.{nat_tests}
use Rattle.std.proofs.lemmas.Bool.{cases_lt}
use Rattle.otn_base.specs.TrailTrace.{trail_trace}
use Rattle.frame_geometry.specs.Places.{place_of, payload_row_of}
use Rattle.frame_geometry.specs.PayloadParity.{same_payload_row}
use Rattle.frame_overhead.specs.Runs.{IsPlace, byte_of, IsPut}
use Rattle.odu_path.specs.Path.{path_row, path_byte, HasPath}
use Rattle.odu_client.specs.ClientFrames.{alignment_row, client_psi, opu_byte, odu_byte, client_byte, client_frame}
use Rattle.odu_client.specs.AlignedRuns.{payload_of}
use Rattle.odu_client.specs.Steps.FramePuts.{FrameWasPut}
use Rattle.odu_client.proofs.PayloadRows.{small_row, payload_byte}

yes_le : (a b : ℕ) → a ≤ b → nat_le a b ≡ true
yes_le a b h = grind (arith, nat_tests)

no_le : (a b : ℕ) → b < a → nat_le a b ≡ false
no_le a b h = grind (arith, nat_tests)

no_eq : (a b : ℕ) → a ≢ b → (a == b) ≡ false
no_eq a b h = grind (arith, nat_tests)

yes_eq : (a b : ℕ) → a ≡ b → (a == b) ≡ true
yes_eq a b h = grind (arith, nat_tests)

-- the payload of a frame
record PayloadIs (payload frame : List ℕ) : Type 0 where
  at : (row col : ℕ) → IsPlace 3824 row col → 17 ≤ col → byte_of 3824 row col frame ≡ slice_index payload (3808 * (row - 1) + (col - 17))

payload_is : (frame : List ℕ) → length frame ≡ 15296 → PayloadIs (payload_of frame) frame
payload_is frame size = record { at = λ row col place back. payload_byte frame row col place size back }

payload_stays : (row : ℕ) (overhead payload old new : List ℕ) → length overhead ≡ 16 → IsPut 3824 row 1 overhead old new → PayloadIs payload old → PayloadIs payload new
payload_stays row overhead payload old new size h is = record {
  at = λ r col place back. h.others r col place (inr (inr (omega arith))) ∙ is.at r col place back;
}

-- the overhead of a row of a frame
record FrontIs (row : ℕ) (overhead frame : List ℕ) : Type 0 where
  at : (col : ℕ) → 1 ≤ col → col ≤ 16 → byte_of 3824 row col frame ≡ slice_index overhead (col - 1)

front_put : (row : ℕ) (overhead old new : List ℕ) → length overhead ≡ 16 → IsPut 3824 row 1 overhead old new → FrontIs row overhead new
front_put row overhead old new size h = record {
  at = λ col low high. (let k : 1 + (col - 1) ≡ col = omega arith in
      sym (ap (λ c. byte_of 3824 row c new) k) ∙ h.run (col - 1) (omega arith));
}

front_stays : (row other : ℕ) (overhead bytes old new : List ℕ) → 1 ≤ row → row ≤ 4 → row ≢ other → IsPut 3824 other 1 bytes old new → FrontIs row overhead old → FrontIs row overhead new
front_stays row other overhead bytes old new low high differs h is = record {
  at = λ col least most. h.others row col (record { row_low = low; row_high = high; col_low = least; col_high = omega arith }) (inl differs) ∙ is.at col least most;
}

unfoldable pub none16 : List ℕ
none16 = 0 ∷ 0 ∷ 0 ∷ 0 ∷ 0 ∷ 0 ∷ 0 ∷ 0 ∷ 0 ∷ 0 ∷ 0 ∷ 0 ∷ 0 ∷ 0 ∷ 0 ∷ 0 ∷ []

unfoldable pub first16 : ℕ → List ℕ
first16 mfas = 0xF6 ∷ 0xF6 ∷ 0xF6 ∷ 0x28 ∷ 0x28 ∷ 0x28 ∷ mfas ∷ 0 ∷ 0 ∷ 0 ∷ 0 ∷ 0 ∷ 0 ∷ 0 ∷ 0 ∷ 0 ∷ []

unfoldable pub last16 : ℕ → List ℕ
last16 psi = 0 ∷ 0 ∷ 0 ∷ 0 ∷ 0 ∷ 0 ∷ 0 ∷ 0 ∷ 0 ∷ 0 ∷ 0 ∷ 0 ∷ 0 ∷ 0 ∷ psi ∷ 0 ∷ []

two_columns : (col : ℕ) → 15 ≤ col → col ≤ 16 → (col ≡ 15) ⊎ (col ≡ 16)
two_columns col low high = elim (cases_lt col 16) [
  | inl a ↦ inl (omega arith)
  | inr a ↦ inr (omega arith)
]

-- columns 15 and 16 of a row whose overhead is 0 there
opu_none : (row mfas : ℕ) (overhead frame : List ℕ) → (row == 4) ≡ false → slice_index overhead 14 ≡ 0 → slice_index overhead 15 ≡ 0 → FrontIs row overhead frame
    → (col : ℕ) → 15 ≤ col → col ≤ 16 → byte_of 3824 row col frame ≡ opu_byte mfas row col
opu_none row mfas overhead frame other a b h col low high =
    let none : opu_byte mfas row col ≡ 0 = ap (λ (t : Bool). if t && (col == 15) then client_psi mfas else 0) other in
    h.at col (omega arith) high ∙ elim (two_columns col low high) [
      | inl e ↦ ap (λ c. slice_index overhead (c - 1)) e ∙ a
      | inr e ↦ ap (λ c. slice_index overhead (c - 1)) e ∙ b
    ] ∙ sym none

opu_last : (mfas psi : ℕ) (frame : List ℕ) → psi ≡ client_psi mfas → FrontIs 4 (last16 psi) frame
    → (col : ℕ) → 15 ≤ col → col ≤ 16 → byte_of 3824 4 col frame ≡ opu_byte mfas 4 col
unfolding last16
opu_last mfas psi frame is h col low high =
    h.at col (omega arith) high ∙ elim (two_columns col low high) [
      | inl e ↦ ap (λ c. slice_index (last16 psi) (c - 1)) e ∙ is ∙ sym (ap (opu_byte mfas 4) e)
      | inr e ↦ ap (λ c. slice_index (last16 psi) (c - 1)) e ∙ sym (ap (opu_byte mfas 4) e)
    ]

alignment_front : (mfas col : ℕ) → 1 ≤ col → col ≤ 14 → slice_index (first16 mfas) (col - 1) ≡ slice_index (alignment_row mfas) (col - 1)
unfolding first16
alignment_front mfas col low high = sym (get_or-take 14 (first16 mfas) (col - 1) 0 (omega arith))

-- the overhead of all four rows was put
pub frame_put : (mfas psi : ℕ) (old a b c new : List ℕ) → length old ≡ 15296 → psi ≡ client_psi mfas
    → IsPut 3824 1 1 (first16 mfas) old a → IsPut 3824 2 1 none16 a b → IsPut 3824 3 1 none16 b c → IsPut 3824 4 1 (last16 psi) c new → FrameWasPut mfas (payload_of old) new
unfolding none16 first16 last16
frame_put mfas psi old a b c new size is h1 h2 h3 h4 = record {
  size = h4.size ∙ h3.size ∙ h2.size ∙ h1.size ∙ size;
  payload_at = payload.at;
  opu_at = λ row col place low high. elim (small_row row place.row_low place.row_high) [
    | inl e ↦ opu_row row 1 e col (opu_none 1 mfas (first16 mfas) new refl refl refl r1 col low high)
    | inr (inl e) ↦ opu_row row 2 e col (opu_none 2 mfas none16 new refl refl refl r2 col low high)
    | inr (inr (inl e)) ↦ opu_row row 3 e col (opu_none 3 mfas none16 new refl refl refl r3 col low high)
    | inr (inr (inr e)) ↦ opu_row row 4 e col (opu_last mfas psi new is r4 col low high)
  ];
  alignment_at = λ col low high. r1.at col low (omega arith) ∙ alignment_front mfas col low high;
}
  where
    payload : PayloadIs (payload_of old) new
    payload = payload_stays 4 (last16 psi) (payload_of old) c new refl h4 (payload_stays 3 none16 (payload_of old) b c refl h3
        (payload_stays 2 none16 (payload_of old) a b refl h2 (payload_stays 1 (first16 mfas) (payload_of old) old a refl h1 (payload_is old size))))

    r1 : FrontIs 1 (first16 mfas) new
    r1 = front_stays 1 4 (first16 mfas) (last16 psi) c new (omega arith) (omega arith) (λ x. omega arith) h4
        (front_stays 1 3 (first16 mfas) none16 b c (omega arith) (omega arith) (λ x. omega arith) h3
        (front_stays 1 2 (first16 mfas) none16 a b (omega arith) (omega arith) (λ x. omega arith) h2 (front_put 1 (first16 mfas) old a refl h1)))

    r2 : FrontIs 2 none16 new
    r2 = front_stays 2 4 none16 (last16 psi) c new (omega arith) (omega arith) (λ x. omega arith) h4
        (front_stays 2 3 none16 none16 b c (omega arith) (omega arith) (λ x. omega arith) h3 (front_put 2 none16 a b refl h2))

    r3 : FrontIs 3 none16 new
    r3 = front_stays 3 4 none16 (last16 psi) c new (omega arith) (omega arith) (λ x. omega arith) h4 (front_put 3 none16 b c refl h3)

    r4 : FrontIs 4 (last16 psi) new
    r4 = front_put 4 (last16 psi) c new refl h4

    opu_row : (row r : ℕ) → row ≡ r → (col : ℕ) → byte_of 3824 r col new ≡ opu_byte mfas r col → byte_of 3824 row col new ≡ opu_byte mfas row col
    opu_row row r e col h = let P : ℕ → Type 0 = λ x. byte_of 3824 x col new ≡ opu_byte mfas x col in subst P (sym e) h

pub client_payload : (sapi : List ℕ) (mfas bip : ℕ) (payload : List ℕ) (row col : ℕ) → 17 ≤ col → client_byte sapi mfas bip payload row col ≡ slice_index payload (3808 * (row - 1) + (col - 17))
client_payload sapi mfas bip payload row col back =
    ap (λ (t : Bool). if t then slice_index payload (3808 * (row - 1) + (col - 17)) else if nat_le 15 col then opu_byte mfas row col else odu_byte mfas (slice_index (trail_trace sapi) (mfas % 64)) bip row col) (yes_le 17 col back)

client_opu : (sapi : List ℕ) (mfas bip : ℕ) (payload : List ℕ) (row col : ℕ) → 15 ≤ col → col < 17 → client_byte sapi mfas bip payload row col ≡ opu_byte mfas row col
client_opu sapi mfas bip payload row col back front =
    ap (λ (t : Bool). if t then slice_index payload (3808 * (row - 1) + (col - 17)) else if nat_le 15 col then opu_byte mfas row col else odu_byte mfas (slice_index (trail_trace sapi) (mfas % 64)) bip row col) (no_le 17 col front)
    ∙ ap (λ (t : Bool). if t then opu_byte mfas row col else odu_byte mfas (slice_index (trail_trace sapi) (mfas % 64)) bip row col) (yes_le 15 col back)

client_odu : (sapi : List ℕ) (mfas bip : ℕ) (payload : List ℕ) (row col : ℕ) → col < 15 → client_byte sapi mfas bip payload row col ≡ odu_byte mfas (slice_index (trail_trace sapi) (mfas % 64)) bip row col
client_odu sapi mfas bip payload row col front =
    ap (λ (t : Bool). if t then slice_index payload (3808 * (row - 1) + (col - 17)) else if nat_le 15 col then opu_byte mfas row col else odu_byte mfas (slice_index (trail_trace sapi) (mfas % 64)) bip row col) (no_le 17 col (omega arith))
    ∙ ap (λ (t : Bool). if t then opu_byte mfas row col else odu_byte mfas (slice_index (trail_trace sapi) (mfas % 64)) bip row col) (no_le 15 col front)

none_and : (b : Bool) → (b && false) ≡ false
none_and true = refl
none_and false = refl

path_back : (tti bip row col put : ℕ) → 14 < col → path_byte tti bip row col put ≡ put
path_back tti bip row col put back =
    ap (λ (t : Bool). if t then (if row == 3 then slice_index (path_row tti bip) (col - 1) else 0) else put) (ap (λ (t : Bool). nat_le 2 row && t) (no_le col 14 back) ∙ none_and (nat_le 2 row))

path_first : (tti bip col put : ℕ) → path_byte tti bip 1 col put ≡ put
path_first tti bip col put = refl

path_front : (tti bip row col put : ℕ) → 2 ≤ row → col ≤ 14 → path_byte tti bip row col put ≡ (if row == 3 then slice_index (path_row tti bip) (col - 1) else 0)
path_front tti bip row col put some front =
    ap (λ (t : Bool). if t && nat_le col 14 then (if row == 3 then slice_index (path_row tti bip) (col - 1) else 0) else put) (yes_le 2 row some)
    ∙ ap (λ (t : Bool). if t then (if row == 3 then slice_index (path_row tti bip) (col - 1) else 0) else put) (yes_le col 14 front)

odu_first : (mfas tti bip col : ℕ) → odu_byte mfas tti bip 1 col ≡ slice_index (alignment_row mfas) (col - 1)
odu_first mfas tti bip col = refl

odu_later : (mfas tti bip row col : ℕ) → 2 ≤ row → odu_byte mfas tti bip row col ≡ (if row == 3 then slice_index (path_row tti bip) (col - 1) else 0)
odu_later mfas tti bip row col some =
    ap (λ (t : Bool). if t then slice_index (alignment_row mfas) (col - 1) else if row == 3 then slice_index (path_row tti bip) (col - 1) else 0) (no_eq row 1 (λ e. omega arith))

-- the byte of the frame once the path was written
odu_bytes : (sapi : List ℕ) (mfas bip : ℕ) (payload put frame : List ℕ) → FrameWasPut mfas payload put → HasPath 3824 (slice_index (trail_trace sapi) (mfas % 64)) bip put frame
    → (row col : ℕ) → IsPlace 3824 row col → byte_of 3824 row col frame ≡ client_byte sapi mfas bip payload row col
odu_bytes sapi mfas bip payload put frame h path row col place = path.byte row col place ∙ elim (cases_lt col 17) [
  | inr back ↦ path_back tti bip row col (byte_of 3824 row col put) (omega arith) ∙ h.payload_at row col place back ∙ sym (client_payload sapi mfas bip payload row col back)
  | inl front ↦ elim (cases_lt col 15) [
    | inr opu ↦ path_back tti bip row col (byte_of 3824 row col put) (omega arith) ∙ h.opu_at row col place opu (omega arith) ∙ sym (client_opu sapi mfas bip payload row col opu front)
    | inl odu ↦ by_row odu ∙ sym (client_odu sapi mfas bip payload row col odu)
  ]
]
  where
    tti : ℕ
    tti = slice_index (trail_trace sapi) (mfas % 64)

    first : row ≡ 1 → col < 15 → path_byte tti bip row col (byte_of 3824 row col put) ≡ odu_byte mfas tti bip row col
    first e odu = let P : ℕ → Type 0 = λ r. path_byte tti bip r col (byte_of 3824 r col put) ≡ odu_byte mfas tti bip r col in
        subst P (sym e) (path_first tti bip col (byte_of 3824 1 col put) ∙ h.alignment_at col place.col_low (omega arith) ∙ sym (odu_first mfas tti bip col))

    by_row : col < 15 → path_byte tti bip row col (byte_of 3824 row col put) ≡ odu_byte mfas tti bip row col
    by_row odu = elim (cases_lt row 2) [
      | inl one ↦ first (let low = place.row_low in omega arith) odu
      | inr more ↦ path_front tti bip row col (byte_of 3824 row col put) more (omega arith) ∙ sym (odu_later mfas tti bip row col more)
    ]

-- every byte by its place
pub by_places : (f : ℕ → ℕ → ℕ) (frame : List ℕ) → length frame ≡ 15296 → ((row col : ℕ) → IsPlace 3824 row col → byte_of 3824 row col frame ≡ f row col)
    → frame ≡ map (λ place. f (place / 3824 + 1) (place % 3824 + 1)) (range_with_len 0 15296)
by_places f frame size h = ext_get_or 0 frame (map g (range_with_len 0 15296)) (size ∙ sym (length-map-range_with_len g 0 15296))
    (λ i less. at i (omega arith) ∙ sym (get_or-map-range_with_len g 0 15296 i i 0 (omega arith) (let e : 0 + i ≡ i = omega arith in e)))
  where
    g : ℕ → ℕ
    g place = f (place / 3824 + 1) (place % 3824 + 1)

    at : (i : ℕ) → i < 15296 → get_or frame i 0 ≡ g i
    at i less =
        let row : IsPlace 3824 (i / 3824 + 1) (i % 3824 + 1) = record { row_low = omega arith; row_high = omega arith; col_low = omega arith; col_high = omega arith } in
        let place : place_of 3824 (i / 3824 + 1) (i % 3824 + 1) ≡ i = omega arith in
        ap (λ k. get_or frame k 0) (sym place) ∙ h (i / 3824 + 1) (i % 3824 + 1) row

-- so it is the client's frame
pub is_client_frame : (sapi : List ℕ) (mfas bip : ℕ) (payload put frame : List ℕ) → FrameWasPut mfas payload put → HasPath 3824 (slice_index (trail_trace sapi) (mfas % 64)) bip put frame
    → frame ≡ client_frame sapi mfas bip payload
unfolding client_frame
is_client_frame sapi mfas bip payload put frame h path = by_places (client_byte sapi mfas bip payload) frame (path.size ∙ h.size) (odu_bytes sapi mfas bip payload put frame h path)

pub client_frame-size : (sapi : List ℕ) (mfas bip : ℕ) (payload : List ℕ) → length (client_frame sapi mfas bip payload) ≡ 15296
unfolding client_frame
client_frame-size sapi mfas bip payload = length-map-range_with_len (λ place. client_byte sapi mfas bip payload (place / 3824 + 1) (place % 3824 + 1)) 0 15296

-- ---- the payload stays

-- as what stands beside it is put
pub payload_put : (mfas : ℕ) (old put : List ℕ) → length old ≡ 15296 → FrameWasPut mfas (payload_of old) put
    → (row x : ℕ) → 1 ≤ row → row ≤ 4 → x < 3808 → slice_index put (place_of 3824 row (17 + x)) ≡ slice_index old (place_of 3824 row (17 + x))
payload_put mfas old put size h row x low high small =
    let place : IsPlace 3824 row (17 + x) = record { row_low = low; row_high = high; col_low = omega arith; col_high = omega arith } in
    h.payload_at row (17 + x) place (omega arith) ∙ sym ((payload_is old size).at row (17 + x) place (omega arith))

-- and then the path
pub payload_kept : (mfas tti bip : ℕ) (old put new : List ℕ) → length old ≡ 15296 → FrameWasPut mfas (payload_of old) put → HasPath 3824 tti bip put new
    → (row x : ℕ) → 1 ≤ row → row ≤ 4 → x < 3808 → slice_index new (place_of 3824 row (17 + x)) ≡ slice_index old (place_of 3824 row (17 + x))
payload_kept mfas tti bip old put new size h path row x low high small =
    let place : IsPlace 3824 row (17 + x) = record { row_low = low; row_high = high; col_low = omega arith; col_high = omega arith } in
    path.byte row (17 + x) place ∙ path_back tti bip row (17 + x) (byte_of 3824 row (17 + x) put) (omega arith)
    ∙ payload_put mfas old put size h row x low high small

pub payload_same : (old new : List ℕ) → length old ≡ 15296 → length new ≡ 15296
    → ((row x : ℕ) → 1 ≤ row → row ≤ 4 → x < 3808 → slice_index new (place_of 3824 row (17 + x)) ≡ slice_index old (place_of 3824 row (17 + x)))
    → payload_of new ≡ payload_of old
payload_same old new sized size same =
    let now = λ (r : ℕ). payload_row_of 3824 r new in
    let was = λ (r : ℕ). payload_row_of 3824 r old in
    let row : (r : ℕ) → 1 ≤ r → r ≤ 4 → now r ≡ was r = λ r low high. same_payload_row 3824 r old new (omega arith) sized size low high (λ x h. same r x low high h) in
    ap (λ a. a ++ now 2 ++ now 3 ++ now 4) (row 1 (omega arith) (omega arith))
    ∙ ap (λ a. was 1 ++ a ++ now 3 ++ now 4) (row 2 (omega arith) (omega arith))
    ∙ ap (λ a. was 1 ++ was 2 ++ a ++ now 4) (row 3 (omega arith) (omega arith))
    ∙ ap (λ a. was 1 ++ was 2 ++ was 3 ++ a) (row 4 (omega arith) (omega arith))
