-- Runs of payload bytes, as frames and breaks arrive, and what they deliver.
use Rattle.std.proofs.Common.{◌≡◌, ℕ, ◌+◌, ◌-◌, ◌<◌, ◌≤◌, List, [], ◌∷◌, ◌++◌, length, take, drop, arith, refl, sym, ap, subst, ◌∙◌, append_assoc, append-nil, length-drop}
use Rattle.std.specs.Prelude.{flat_map}
use Rattle.std.proofs.lemmas.Grind.{flat_map-append}
use Rattle.std.proofs.lemmas.List.{take_rest}
use Rattle.std.proofs.Math.Seq.{take-add, take-length}
use Rattle.frame_geometry.specs.Places.{payload_row_of}
use Rattle.gfp_frames.specs.Delivered.{plain_areas, delivered}
use Rattle.gfp_frames.specs.Delineation.{sync_areas, hunting}
use Rattle.gfp_frames.specs.Reader.{ReaderState, HasRead}
use Rattle.odu_client.proofs.PuttingOut.{handed_behind, broken_behind, frames_go_on}
use Rattle.odu_client.specs.AlignedRuns.{Arrival, Handed, Broken, searching, arrivals, payload_of, with_payload, runs_of}
use Rattle.odu_client.specs.Aligner.{AlignerState, HasAligned, news, AlignsBy}
use Rattle.odu_client.specs.ClientOutput.{arriving_packets, arriving_text, arriving_frames, handed_count}
use Rattle.odu_client.specs.OutputSteps.{OutputState, OutputStep}
use Rattle.odu_client.specs.View.{frames_after}
use Rattle.odu_client.specs.declared.aligned.Aligned.{Aligned}
use Rattle.port_base.specs.Views.{State, Empty, Live, Dead, OutView}
use Rattle.port_base.proofs.GivenLaws.{gained_none}
use Rattle.otn_base.specs.Counts.{saturated}
use Rattle.packet_text.specs.PacketText.{hex_text}
use Rattle.device_model.specs.Numbers.{counted_packets}
use Rattle.cross_matrix.specs.Receiving.{ReceiverView, last_run, ReceiverStands, HeldView, NoneHeld}
use Rattle.cross_matrix.specs.Steps.Receiving.{LinesSent, LinesHeld, RunRead, AllRead, HoldsAfter}
use Rattle.cross_matrix.proofs.LineCounts.{none_held}

-- all runs but the last
abbrev pub front_runs : List (List ℕ) → List (List ℕ)
front_runs [] = []
front_runs (run ∷ []) = []
front_runs (run ∷ next ∷ runs) = run ∷ front_runs (next ∷ runs)

-- there is a run always
record SomeRun (runs : List (List ℕ)) : Type 0 where
  first : List ℕ
  rest : List (List ℕ)
  parts : runs ≡ first ∷ rest

some_run : (xs : List Arrival) → SomeRun (runs_of xs)
unfolding runs_of
some_run [] = record { first = []; rest = []; parts = refl }
some_run (Handed frame ∷ xs) = let s = some_run xs in record { first = payload_of frame ++ s.first; rest = s.rest; parts = ap (with_payload (payload_of frame)) s.parts }
some_run (Broken ∷ xs) = record { first = []; rest = runs_of xs; parts = refl }

with_last : (run : List ℕ) (runs : List (List ℕ)) → run ∷ runs ≡ front_runs (run ∷ runs) ++ last_run (run ∷ runs) ∷ []
with_last run [] = refl
with_last run (next ∷ runs) = ap (λ rs. run ∷ rs) (with_last next runs)

-- the runs before the open one, and the open one
abbrev pub before : List Arrival → List (List ℕ)
before xs = front_runs (runs_of xs)

abbrev pub open_run : List Arrival → List ℕ
open_run xs = last_run (runs_of xs)

runs-same : (xs : List Arrival) → runs_of xs ≡ before xs ++ open_run xs ∷ []
runs-same xs = let s = some_run xs in rw s.parts (with_last s.first s.rest)

runs-handed : (xs : List Arrival) (frame : List ℕ) → runs_of (xs ++ Handed frame ∷ []) ≡ before xs ++ (open_run xs ++ payload_of frame) ∷ []
runs-handed xs frame = handed_behind xs frame (before xs) (open_run xs) (runs-same xs)

runs-broken : (xs : List Arrival) → runs_of (xs ++ Broken ∷ []) ≡ (before xs ++ open_run xs ∷ []) ++ [] ∷ []
runs-broken xs = broken_behind xs (before xs) (open_run xs) (runs-same xs)

last-append : (runs : List (List ℕ)) (run : List ℕ) → last_run (runs ++ run ∷ []) ≡ run
last-append [] run = refl
last-append (r ∷ []) run = refl
last-append (r ∷ s ∷ runs) run = last-append (s ∷ runs) run

-- no bytes deliver nothing
delivered-none : delivered [] ≡ []
unfolding delivered plain_areas sync_areas hunting
delivered-none = refl

delivered-runs : (runs : List (List ℕ)) (run : List ℕ) → flat_map delivered (runs ++ run ∷ []) ≡ flat_map delivered runs ++ delivered run
delivered-runs runs run = flat_map-append delivered runs (run ∷ []) ∙ ap (λ ps. flat_map delivered runs ++ ps) (append-nil (delivered run))

delivered-same : (xs : List Arrival) → flat_map delivered (runs_of xs) ≡ flat_map delivered (before xs) ++ delivered (open_run xs)
delivered-same xs = ap (flat_map delivered) (runs-same xs) ∙ delivered-runs (before xs) (open_run xs)

delivered-handed : (xs : List Arrival) (frame : List ℕ) → flat_map delivered (runs_of (xs ++ Handed frame ∷ [])) ≡ flat_map delivered (before xs) ++ delivered (open_run xs ++ payload_of frame)
delivered-handed xs frame = ap (flat_map delivered) (runs-handed xs frame) ∙ delivered-runs (before xs) (open_run xs ++ payload_of frame)

delivered-broken : (xs : List Arrival) → flat_map delivered (runs_of (xs ++ Broken ∷ [])) ≡ flat_map delivered (runs_of xs)
delivered-broken xs =
    let runs = before xs ++ open_run xs ∷ [] in
    ap (flat_map delivered) (runs-broken xs) ∙ delivered-runs runs [] ∙ ap (λ ps. flat_map delivered runs ++ ps) delivered-none ∙ append-nil (flat_map delivered runs) ∙ ap (flat_map delivered) (sym (runs-same xs))

-- ---- steps

same_lines : (first now : OutView) (ps qs : List (List ℕ)) (held : HeldView) → ps ≡ qs → LinesHeld first now ps held → LinesHeld first now qs held
same_lines first now ps qs held e h = let P : List (List ℕ) → Type 0 = λ x. LinesHeld first now x held in subst P e h

same_read : (xs ys : List ℕ) (reader : ReaderState) → xs ≡ ys → HasRead xs reader → HasRead ys reader
same_read xs ys reader e h = let P : List ℕ → Type 0 = λ x. HasRead x reader in subst P e h

-- the run that is open is read on
pub goes_on : (first now : OutView) (arrived : List Arrival) (reader : ReaderState) (held : HeldView) → AllRead first now arrived reader held → RunRead first now (flat_map delivered (before arrived)) (open_run arrived) reader held
goes_on first now arrived reader held h = record { has_read = h.read; lines = same_lines first now (flat_map delivered (runs_of arrived)) (flat_map delivered (before arrived) ++ delivered (open_run arrived)) held (delivered-same arrived) h.lines }

pub whole_read : (first now : OutView) (arrived : List Arrival) (frame : List ℕ) (reader : ReaderState) (held : HeldView)
    → RunRead first now (flat_map delivered (before arrived)) (open_run arrived ++ payload_of frame) reader held → AllRead first now (arrived ++ Handed frame ∷ []) reader held
whole_read first now arrived frame reader held h = record {
  read = same_read (open_run arrived ++ payload_of frame) (last_run (runs_of (arrived ++ Handed frame ∷ []))) reader (sym (ap last_run (runs-handed arrived frame) ∙ last-append (before arrived) (open_run arrived ++ payload_of frame))) h.has_read;
  lines = same_lines first now (flat_map delivered (before arrived) ++ delivered (open_run arrived ++ payload_of frame)) (flat_map delivered (runs_of (arrived ++ Handed frame ∷ []))) held (sym (delivered-handed arrived frame)) h.lines;
}

-- a break begins a run
pub break_read : (first now : OutView) (arrived : List Arrival) (old new : ReaderState) (held : HeldView) → HasRead [] new → AllRead first now arrived old held → AllRead first now (arrived ++ Broken ∷ []) new held
break_read first now arrived old new held fresh h = record {
  read =
      same_read [] (last_run (runs_of (arrived ++ Broken ∷ []))) new
      (sym (ap last_run (runs-broken arrived) ∙ last-append (before arrived ++ open_run arrived ∷ []) [])) fresh;
  lines = same_lines first now (flat_map delivered (runs_of arrived)) (flat_map delivered (runs_of (arrived ++ Broken ∷ []))) held (sym (delivered-broken arrived)) h.lines;
}

pub none_more : (first now : OutView) (packets : List (List ℕ)) (held : HeldView) → LinesHeld first now packets held → LinesHeld first now (packets ++ []) held
none_more first now packets held = same_lines first now packets (packets ++ []) held (sym (append-nil packets))

-- some bytes more of a run, which deliver these packets
pub run_more : (first old new : OutView) (earlier : List (List ℕ)) (read more : List ℕ) (packets : List (List ℕ)) (was is : ReaderState) (held kept : HeldView) → delivered (read ++ more) ≡ delivered read ++ packets → HasRead (read ++ more) is
    → (LinesHeld first old (earlier ++ delivered read) held → LinesHeld first new ((earlier ++ delivered read) ++ packets) kept) → RunRead first old earlier read was held → RunRead first new earlier (read ++ more) is kept
run_more first old new earlier read more packets was is held kept e has goes h = record {
  has_read = has;
  lines = same_lines first new ((earlier ++ delivered read) ++ packets) (earlier ++ delivered (read ++ more)) kept (append_assoc earlier (delivered read) packets ∙ ap (λ ps. earlier ++ ps) (sym e)) (goes h.lines);
}

pub run_same : (first now : OutView) (earlier : List (List ℕ)) (read others : List ℕ) (reader : ReaderState) (held : HeldView) → read ≡ others → RunRead first now earlier read reader held → RunRead first now earlier others reader held
run_same first now earlier read others reader held e h = let P : List ℕ → Type 0 = λ x. RunRead first now earlier x reader held in subst P e h

-- ---- pieces of bytes, and rows of a frame

pub more_taken : (front bytes : List ℕ) (done k : ℕ) → (front ++ take done bytes) ++ take k (take (length bytes - done) (drop done bytes)) ≡ front ++ take (done + k) bytes
more_taken front bytes done k =
    append_assoc front (take done bytes) (take k (take (length bytes - done) (drop done bytes)))
    ∙ ap (λ bs. front ++ bs) (ap (λ rest. take done bytes ++ take k rest) (take_rest bytes done) ∙ sym (take-add done k bytes))

pub all_taken : (front bytes : List ℕ) (done : ℕ) → done ≤ length bytes → ¬ (done < length bytes) → front ++ take done bytes ≡ front ++ bytes
all_taken front bytes done within over = let e : done ≡ length bytes = omega arith in ap (λ bs. front ++ bs) (ap (λ n. take n bytes) e ∙ take-length bytes)

-- a piece of what is left was read, and not more
pub piece_within : (bytes : List ℕ) (done k : ℕ) → done ≤ length bytes → k ≤ length (take (length bytes - done) (drop done bytes)) → done + k ≤ length bytes
piece_within bytes done k within h = let e = ap length (take_rest bytes done) in let f = length-drop done bytes in omega arith

four_rows : (read a b c d : List ℕ) → read ++ a ++ b ++ c ++ d ≡ read ++ (a ++ b ++ c ++ d)
four_rows read a b c d = ap (λ x. x ++ d) (ap (λ x. x ++ c) (append_assoc read a b) ∙ append_assoc read (a ++ b) c) ∙ append_assoc read (a ++ b ++ c) d

pub frame_read : (first now : OutView) (earlier : List (List ℕ)) (read frame a b c d : List ℕ) (reader : ReaderState) (held : HeldView) → a ≡ payload_row_of 3824 1 frame → b ≡ payload_row_of 3824 2 frame
    → c ≡ payload_row_of 3824 3 frame → d ≡ payload_row_of 3824 4 frame → RunRead first now earlier (read ++ a ++ b ++ c ++ d) reader held → RunRead first now earlier (read ++ payload_of frame) reader held
frame_read first now earlier read frame a b c d reader held ea eb ec ed h =
    run_same first now earlier (read ++ a ++ b ++ c ++ d) (read ++ payload_of frame) reader held (four_rows read a b c d ∙ rw (ea, eb, ec, ed) refl) h

-- ---- the receiver

-- nothing has arrived
arrivals-none : arrivals [] ≡ []
unfolding arrivals searching
arrivals-none = refl

packets-none : arriving_packets [] ≡ []
unfolding arriving_packets runs_of
packets-none = ap (λ xs. flat_map delivered (runs_of xs)) arrivals-none ∙ append-nil (delivered []) ∙ delivered-none

text-none : arriving_text [] ≡ []
unfolding arriving_text hex_text
text-none = ap hex_text packets-none

frames-none : arriving_frames [] ≡ 0
unfolding handed_count
frames-none = ap handed_count arrivals-none

run-none : last_run (runs_of (arrivals [])) ≡ []
unfolding runs_of
run-none = ap (λ xs. last_run (runs_of xs)) arrivals-none

none_counted : (s : State) → counted_packets s [] [] ≡ 0
none_counted Empty = refl
none_counted Live = refl
none_counted Dead = refl

pub stands_none : (first : OutView) (aligner : AlignerState) (reader : ReaderState) (frames packets : ℕ) → HasAligned [] aligner → HasRead [] reader → frames ≡ 0 → packets ≡ 0
    → ReceiverStands first first [] (record { aligner = aligner; reader = reader; frames = frames; packets = packets })
stands_none first aligner reader frames packets aligned read e none = record {
  aligned = aligned;
  read = same_read [] (last_run (runs_of (arrivals []))) reader (sym run-none) read;
  sent = record { written = []; rest = []; parts = sym text-none; gained = gained_none first; whole = λ _. refl };
  frames = e ∙ ap saturated (sym frames-none);
  packets = none ∙ sym (ap (λ ps. saturated (counted_packets first.state ps [])) packets-none ∙ ap saturated (none_counted first.state));
}

-- where no line is held: a receiver before some bytes, and after them
pub holds_first : (first now : OutView) (arrived : List ℕ) (receiver : ReceiverView) (held : HeldView) → NoneHeld held → held.packets ≡ receiver.packets → ReceiverStands first now arrived receiver
    → HoldsAfter first now arrived receiver.aligner receiver.frames receiver.reader held
unfolding arriving_text
holds_first first now arrived receiver held none same h = record {
  aligned = h.aligned;
  whole = h.frames;
  read = h.read;
  lines = none_held first now (arriving_packets arrived) held none (record { sent = h.sent; counted = same ∙ h.packets });
}

pub stands_last : (first old new : OutView) (arrived : List ℕ) (held : HeldView) (receiver : ReceiverView) → (LinesHeld first old (arriving_packets arrived) held → LinesSent first new (arriving_packets arrived) receiver.packets)
    → HoldsAfter first old arrived receiver.aligner receiver.frames receiver.reader held → ReceiverStands first new arrived receiver
unfolding arriving_text
stands_last first old new arrived held receiver goes h = record {
  aligned = h.aligned;
  read = h.read;
  sent = (goes h.lines).sent;
  frames = h.whole;
  packets = (goes h.lines).counted;
}

-- what is held after some bytes, without the aligner
pub all_read : (first now : OutView) (arrived : List ℕ) (aligner : AlignerState) (frames : ℕ) (reader : ReaderState) (held : HeldView) → HoldsAfter first now arrived aligner frames reader held → AllRead first now (arrivals arrived) reader held
unfolding arriving_packets
all_read first now arrived aligner frames reader held h = record { read = h.read; lines = h.lines }

-- more bytes, and what arrived with them was read
pub holds_more : (first old now : OutView) (arrived more frame : List ℕ) (r : Aligned) (was is : AlignerState) (before after : ℕ) (reader next : ReaderState) (held kept : HeldView) → AlignsBy arrived more r frame is → after ≡ frames_after before r
    → AllRead first now (arrivals arrived ++ news r frame) next kept → HoldsAfter first old arrived was before reader held → HoldsAfter first now (arrived ++ more) is after next kept
unfolding arriving_packets
holds_more first old now arrived more frame r was is before after reader next held kept aligns frames all h =
    let P : List Arrival → Type 0 = λ xs. AllRead first now xs next kept in
    let read = subst P (sym aligns.arrived) all in
    let output : OutputState = record { arrived = arrived; packets = []; aligner = was; reader = reader } in
    let step : OutputStep = record { bytes = more; answer = r; frame = frame; packets = []; aligner = is; reader = next } in
    record {
      aligned = aligns.aligned;
      whole = frames ∙ frames_go_on output step before aligns h.whole;
      read = read.read;
      lines = read.lines;
    }

pub holds_same : (first now : OutView) (arrived others : List ℕ) (aligner : AlignerState) (frames : ℕ) (reader : ReaderState) (held : HeldView) → arrived ≡ others → HoldsAfter first now arrived aligner frames reader held
    → HoldsAfter first now others aligner frames reader held
holds_same first now arrived others aligner frames reader held e h = let P : List ℕ → Type 0 = λ x. HoldsAfter first now x aligner frames reader held in subst P e h
