-- What the frames of the file of one tributary show of it.
use Rattle.std.proofs.Common.{◌≡◌, ◌<◌, ◌≤◌, ◌+◌, ◌-◌, ◌*◌, ◌/◌, ◌%◌, ℕ, suc, cond, refl, List, [], Option, Some, None, length, take, drop, get_or, sym, ap, ◌∙◌, subst, arith}
use Rattle.std.specs.Prelude.{nat_lt, option_map}
use Rattle.std.specs.List.{concat}
use Rattle.std.proofs.lemmas.Bool.{lt-ltb}
use Rattle.std.proofs.lemmas.Option.{slice_get-get_or}
use Rattle.std.proofs.Math.Nat.{mod-eq_of_lt, div-eq_of_lt, mul-add-div, mul-add-mod_self_left, div-add-mod}
use Rattle.line_side.specs.LineFile.{frame_at, mfas_of, whole_frames}
use Rattle.line_side.specs.LineOutput.{FramePut, IsLineFrame}
use Rattle.line_side.proofs.LineFiles.{frame_of}
use Rattle.line_side.proofs.Made.{frames_size}
use Rattle.line_side.proofs.Mfas.{index_mfas, length_mfas}
use Rattle.msi_table.specs.Marks.{msi_byte}
use Rattle.multiframe.specs.LineTurns.{Lock, LineState, Hunting, Locked, Ended, Outcome, CutShort, Lost, Whole, after_hunt, after_outcome, after_turn, kept_if, line_state, lock_of, multiframe, multiframe_at, outcome_of, wrong_count}
use Rattle.tributary_model.specs.Carries.{cm_in}
use Rattle.tributary_model.specs.Laws.{IsTributary}
use Rattle.tributary_model.specs.Places.{Tributary, Taken, byte_at, turn_view, IsOwnMsi}
use Rattle.tributary_model.specs.Puts.{IsPut, lengths_of}
use Rattle.tributary_model.specs.Sending.{IsSent, ShowsTurn, Sends}
use Rattle.tributary_model.proofs.PutApart.{stays_where_kept}
use Rattle.tributary_model.proofs.PutOn.{carries_all_that_is_put}
use Rattle.tributary_model.proofs.Views.{slot_low, slot_high}
use Rattle.device_model.specs.LineViews.{view_at, frames_of}
use Rattle.device_model.proofs.MadeFrames.{many_frames, frame_in_file}
use Rattle.device_model.proofs.MadeShows.{kept_place, psi_at, member_is, frames_many}
use Rattle.device_model.proofs.MadeTurns.{GoOn, has_multiframe, lock_at, next_turn}
use Rattle.tributary_line.specs.Laws.{CarriesItsTurns}
use Rattle.tributary_line.specs.TributaryFile.{IsTributaryFrame, IsTributaryFile}

-- ---- the frames, one by one

-- frame n of turn t has what is put into it
record PutIn (b : ℕ) (own : Tributary) (turns : List (List ℕ)) (t n : ℕ) (bytes : List ℕ) : Type 0 where
  pub put : FramePut
  pub is : IsTributaryFrame own turns t n put
  pub bip : ℕ
  pub frame : IsLineFrame b bip put bytes

no_put : FramePut
no_put = record { mfas = 0; ports = []; bytes = [] }

put_at : (b : ℕ) (own : Tributary) (turns : List (List ℕ)) (count : ℕ) (frames : List (List ℕ)) (i : ℕ) → IsTributaryFile b own turns count frames → i < count
    → PutIn b own turns (i / own.line_slots) (i % own.line_slots) (frame_at (concat frames) i)
put_at b own turns count frames i file l =
    let all = many_frames b [] file.puts frames file.are_frames in
    let many = file.are_put.many in
    let put = get_or file.puts i no_put in
    let frame = get_or frames i [] in
    let known = slice_get-get_or file.puts i no_put (omega arith) in
    let there = slice_get-get_or frames i [] (omega arith) in
    record {
      put = put;
      is = file.are_put.each i put known;
      bip = _;
      frame = subst (IsLineFrame b _ put) (sym (frame_in_file b [] file.puts frames i file.are_frames (omega arith))) (frame_of b file.puts frames i put frame file.are_frames known there);
    }

put_whole : (b : ℕ) (own : Tributary) (turns : List (List ℕ)) (count : ℕ) (frames : List (List ℕ)) → IsTributaryFile b own turns count frames → whole_frames (concat frames) ≡ count
put_whole b own turns count frames file =
    let all = many_frames b [] file.puts frames file.are_frames in
    let many = file.are_put.many in
    let size = frames_size b [] file.puts frames file.are_frames in
    omega arith

-- by its turn
put_in_turn : (b : ℕ) (own : Tributary) (turns : List (List ℕ)) (count : ℕ) (frames : List (List ℕ)) (t n : ℕ) → IsTributaryFile b own turns count frames → n < own.line_slots → own.line_slots * t + n < count
    → PutIn b own turns t n (frame_at (concat frames) (own.line_slots * t + n))
put_in_turn b own turns count frames t n file l few =
    let size = own.line_slots in
    let some : 0 < size = omega arith in
    let small : n / size ≡ 0 = div-eq_of_lt l in
    let turn : (size * t + n) / size ≡ t = mul-add-div some t n ∙ (let e : t + n / size ≡ t = omega arith in e) in
    let place : (size * t + n) % size ≡ n = mul-add-mod_self_left size t n ∙ mod-eq_of_lt l in
    subst (λ k. PutIn b own turns k n (frame_at (concat frames) (size * t + n))) turn
    (subst (λ k. PutIn b own turns ((size * t + n) / size) k (frame_at (concat frames) (size * t + n))) place (put_at b own turns count frames (size * t + n) file few))

-- ---- the multiframes

file_goes_on : (b : ℕ) (own : Tributary) (turns : List (List ℕ)) (count : ℕ) (frames : List (List ℕ)) → IsTributaryFile b own turns count frames → GoOn (mfas_of (concat frames))
file_goes_on b own turns count frames file = record {
  each = λ i l.
      let whole = put_whole b own turns count frames file in
      let all = length_mfas (concat frames) in
      let made = put_at b own turns count frames i file (omega arith) in
      index_mfas (concat frames) i (omega arith)
      ∙ made.frame.byte 1 7 (record { row_low = omega arith; row_high = omega arith; col_low = omega arith; col_high = omega arith })
      ∙ made.is.mfas
      ∙ ap (λ n. n % 256) (div-add-mod i own.line_slots);
}

file_has : (b : ℕ) (own : Tributary) (turns : List (List ℕ)) (count t : ℕ) (frames : List (List ℕ)) → 2 ≤ own.line_slots → IsTributaryFile b own turns count frames → own.line_slots * (t + 1) ≤ count
    → multiframe own.line_slots (mfas_of (concat frames)) t ≡ Some (lock_at own.line_slots t)
file_has b own turns count t frames low file few =
    let next = next_turn own.line_slots t in
    let all = length_mfas (concat frames) in
    let many = put_whole b own turns count frames file in
    has_multiframe own.line_slots (mfas_of (concat frames)) t low (omega arith) (file_goes_on b own turns count frames file)

-- ---- behind the last one

-- a turn behind a whole multiframe is cut short where too few frames are left
cut_behind : (size : ℕ) (ms : List ℕ) (t : ℕ) (lock : Lock) → multiframe size ms t ≡ Some lock → length ms < lock.frame + size + size → multiframe size ms (suc t) ≡ None
unfolding line_state
cut_behind size ms t lock has few = go (line_state size ms t) has
  where
    short : (l : Lock) → l.frame ≡ lock.frame + size → multiframe_at size ms (Some l) ≡ None
    short l at = ap (λ b. kept_if (cond b CutShort (cond (nat_lt (size / 2) (wrong_count l.expected (take size (drop l.frame ms)))) Lost Whole)) l) (lt-ltb (length ms) (l.frame + size) (omega (arith, few, at)))

    by_outcome : (l : Lock) (o : Outcome) → kept_if o l ≡ Some lock → multiframe_at size ms (lock_of size ms (after_outcome size l o)) ≡ None
    by_outcome l CutShort kept = absurd (cc)
    by_outcome l Lost kept = absurd (cc)
    by_outcome l Whole kept =
        let same : l ≡ lock = cc in
        short (record { frame = l.frame + size; expected = (l.expected + size) % 256 }) (ap (λ (x : Lock). x.frame + size) same)

    hunted : (i : ℕ) (o : Option Lock) → multiframe_at size ms o ≡ Some lock → multiframe_at size ms (lock_of size ms (after_hunt size ms i o)) ≡ None
    hunted i None kept = absurd (cc)
    hunted i (Some l) kept = by_outcome l (outcome_of size ms l) kept

    go : (was : LineState) → multiframe_at size ms (lock_of size ms was) ≡ Some lock → multiframe_at size ms (lock_of size ms (after_turn size ms was)) ≡ None
    go (Hunting i) kept = hunted i (lock_of size ms (Hunting i)) kept
    go (Locked l) kept = by_outcome l (outcome_of size ms l) kept
    go Ended kept = absurd (cc)

-- so the turn behind the last of the file shows nothing
pub shows_nothing_behind : (b : ℕ) (own : Tributary) (turns frames : List (List ℕ)) (u : ℕ) → 2 ≤ own.line_slots → IsTributaryFile b own turns (own.line_slots * (u + 1)) frames → view_at own (concat frames) (suc u) ≡ None
unfolding view_at
shows_nothing_behind b own turns frames u low file =
    let size = own.line_slots in
    let ms = mfas_of (concat frames) in
    let next = next_turn size u in
    let all = length_mfas (concat frames) in
    let many = put_whole b own turns (size * (u + 1)) frames file in
    let has = file_has b own turns (size * (u + 1)) u frames low file (omega arith) in
    ap (λ o. turn_view own (option_map (frames_of size (concat frames)) o)) (cut_behind size ms u (lock_at size u) has (omega (arith, next, all, many, low)))

-- ---- the MSI byte

msi_of_file : (b : ℕ) (own : Tributary) (turns : List (List ℕ)) (t n : ℕ) (frame : List ℕ) (expected row column : ℕ) → IsTributary own → 1 ≤ own.port → PutIn b own turns t n frame
    → expected ≡ (own.line_slots * t + n) % 256 → IsOwnMsi own expected row column → byte_at frame row column ≡ msi_byte own.port
msi_of_file b own turns t n frame expected row column trib some made e has =
    let k = has.slot.0 in
    let mine = has.slot.1.0 in
    let many = made.is.ports.many in
    let low = slot_low own.line_slots own.slots k trib.slots mine in
    let high = slot_high own.line_slots own.slots k trib.slots mine in
    let number : made.put.mfas ≡ 1 + k = made.is.mfas ∙ sym e ∙ has.slot.1.1 in
    ap (λ r. byte_at frame r column) has.place.0
    ∙ ap (byte_at frame 4) has.place.1
    ∙ made.frame.byte 4 15 (record { row_low = omega arith; row_high = omega arith; col_low = omega arith; col_high = omega arith })
    ∙ psi_at made.put.ports made.put.mfas k own.port number low (omega arith) (made.is.ports.used k mine) some

-- ---- a turn

file_shows : (b : ℕ) (own : Tributary) (turns : List (List ℕ)) (count t : ℕ) (frames : List (List ℕ)) → IsTributary own → 1 ≤ own.port → IsTributaryFile b own turns count frames → own.line_slots * (t + 1) ≤ count
    → ShowsTurn own (take (t + 1) turns) t (frames_of own.line_slots (concat frames) (lock_at own.line_slots t))
file_shows b own turns count t frames trib some file few =
    let size = own.line_slots in
    let available = concat frames in
    let next = next_turn size t in
    let made : (n : ℕ) → n < size → PutIn b own turns t n (frame_at available (size * t + n))
    = λ n l. put_in_turn b own turns count frames t n file l (omega arith) in
    record {
      many = frames_many size available (lock_at size t);
      put = λ n f e.
          let is = member_is size available (lock_at size t) n f e in
          let m = made n is.0 in
          subst (λ (g : Taken). IsPut own (take (t + 1) turns) t n g.frame) (sym is.1)
          (stays_where_kept own (take (t + 1) turns) t n m.put.bytes (frame_at available (size * t + n)) m.is.own_bytes
          (λ row column o. kept_place own n b m.bip m.put (frame_at available (size * t + n)) row column m.frame o));
      msi = λ n f e.
          let is = member_is size available (lock_at size t) n f e in
          subst (λ (g : Taken). (row column : ℕ) → IsOwnMsi own g.expected row column → byte_at g.frame row column ≡ msi_byte own.port) (sym is.1)
          (λ row column o. msi_of_file b own turns t n (frame_at available (size * t + n)) ((size * t % 256 + n) % 256) row column trib some (made n is.0) (omega arith) o);
    }

-- ---- all turns

file_sends : (b : ℕ) (own : Tributary) (turns frames : List (List ℕ)) (u : ℕ) → IsSent own → own.line_slots ≡ 8 → 1 ≤ own.port → IsTributaryFile b own turns (8 * (u + 1)) frames → u + 1 ≤ length turns
    → ((i : ℕ) → i ≤ u → cm_in (length own.slots) (lengths_of turns) i ≤ 15232)
    → Sends own turns (λ t. option_map (frames_of own.line_slots (concat frames)) (multiframe own.line_slots (mfas_of (concat frames)) t)) 0 u
file_sends b own turns frames u sent size some file enough fits = record {
  own_is = sent;
  enough = omega arith;
  fits = λ i h. fits i (omega arith);
  each = λ t low high.
      let few : own.line_slots * (t + 1) ≤ 8 * (u + 1) = subst (λ m. m * (t + 1) ≤ 8 * (u + 1)) (sym size) (omega arith) in
      let lock = lock_at own.line_slots t in
      let shows = file_shows b own turns (8 * (u + 1)) t frames sent.tributary some file few in
      let n_is : t + 1 ≡ t + 1 - 0 = omega arith in
      let t_is : t ≡ t - 0 = omega arith in (
        frames_of own.line_slots (concat frames) lock,
        (
          ap (option_map (frames_of own.line_slots (concat frames))) (file_has b own turns (8 * (u + 1)) t frames (omega arith) file few),
          subst (λ k. ShowsTurn own (take (t + 1 - 0) turns) k (frames_of own.line_slots (concat frames) lock)) t_is
              (subst (λ k. ShowsTurn own (take k turns) t (frames_of own.line_slots (concat frames) lock)) n_is shows),
        ),
      );
}

pub carries_its_turns : CarriesItsTurns
unfolding view_at
carries_its_turns b own turns frames u sent size some file enough fits =
    carries_all_that_is_put own turns (λ t. option_map (frames_of own.line_slots (concat frames)) (multiframe own.line_slots (mfas_of (concat frames)) t)) 0 u (file_sends b own turns frames u sent size some file enough fits)
