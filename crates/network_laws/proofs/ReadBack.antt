-- What is read of a line that a run wrote, of as much of it as came.
use Rattle.std.proofs.Common.{◌≡◌, ◌<◌, ◌≤◌, ◌+◌, ◌*◌, ◌%◌, ℕ, Bool, true, false, List, [], ◌∷◌, ◌++◌, Some, length, length-append, get_or, refl, sym, ap, ◌∙◌, arith, append_assoc}
use Rattle.std.specs.Prelude.{bit_xor}
use Rattle.std.specs.List.{concat}
use Rattle.otn_base.specs.LineSlots.{slots_of}
use Rattle.otn_base.specs.declared.line_kind.LineKind.{LineKind}
use Rattle.otn_base.specs.declared.line_kind.LineKind.TheVariants.{Otu2, Otu3}
use Rattle.otu_overhead.specs.Mask.{mask_byte}
use Rattle.line_side.specs.LineFile.{frame_at, mfas_of, whole_frames}
use Rattle.line_side.specs.LineForm.{masked_from, through_mask}
use Rattle.line_side.proofs.LineFiles.{twice}
use Rattle.line_side.proofs.Mfas.{index_mfas, length_mfas}
use Rattle.multiframe.specs.LineTurns.{multiframe}
use Rattle.plan_file.specs.declared.plan.Plan.{Plan}
use Rattle.device_model.specs.LineFiles.{IsLineFile}
use Rattle.device_model.specs.Through.{Inputs}
use Rattle.device_model.proofs.MadeTurns.{GoOn, goes_on, has_multiframe, lock_at, next_turn}
use Rattle.run_laws.proofs.RunsAlike.{byte_in}

-- ---- through the mask

masked_front : (place : ℕ) (xs ys : List ℕ) → (rest : List ℕ) × (masked_from place (xs ++ ys) ≡ masked_from place xs ++ rest)
unfolding masked_from
masked_front place [] ys = (masked_from place ys, refl)
masked_front place (x ∷ xs) ys =
    let r = masked_front (place + 1) xs ys in
    (r.0, ap (λ l. bit_xor x (mask_byte (place % 16320)) ∷ l) r.1)

-- a part from the front, through the mask, is one of all
pub through_front : (scrambled : Bool) (xs ys : List ℕ) → (rest : List ℕ) × (through_mask scrambled (xs ++ ys) ≡ through_mask scrambled xs ++ rest)
through_front false xs ys = (ys, refl)
through_front true xs ys = masked_front 0 xs ys

-- what came of a file is read as a part of the frames that were made
pub read_front : (scrambled : Bool) (brought cut written rest all : List ℕ) → brought ++ cut ≡ written → written ++ rest ≡ through_mask scrambled all
    → (behind : List ℕ) × (through_mask scrambled brought ++ behind ≡ all)
read_front scrambled brought cut written rest all came went =
    let r = through_front scrambled brought (cut ++ rest) in
    let whole : brought ++ (cut ++ rest) ≡ through_mask scrambled all = sym (append_assoc brought cut rest) ∙ ap (λ l. l ++ rest) came ∙ went in
    (r.0, sym r.1 ∙ ap (through_mask scrambled) whole ∙ twice scrambled all)

-- ---- its multiframes

two_slots : (kind : LineKind) → 2 ≤ slots_of kind
two_slots Otu2 = omega arith
two_slots Otu3 = omega arith

-- the MFAS bytes of a part from the front go on as those of the file
front_goes_on : (plan : Plan) (inputs : Inputs) (b count : ℕ) (frames : List (List ℕ)) (line behind : List ℕ) → IsLineFile plan inputs b count frames
    → line ++ behind ≡ concat frames → GoOn (mfas_of line)
front_goes_on plan inputs b count frames line behind file e = record {
  each = λ i l.
      let many = length_mfas line in
      let here : i < whole_frames line = omega arith in
      let sizes : length line + length behind ≡ length (concat frames) = sym (length-append line behind) ∙ ap length e in
      let less : 16320 * i + 6 < length line = omega arith in
      let there : i < whole_frames (concat frames) = omega arith in
      let known : i < length (mfas_of (concat frames)) = (let all = length_mfas (concat frames) in omega arith) in
      index_mfas line i here ∙ byte_in i 6 line behind less ∙ ap (λ bytes. get_or (frame_at bytes i) 6 0) e
      ∙ sym (index_mfas (concat frames) i there) ∙ (goes_on plan inputs b count frames file).each i known;
}

pub front_multiframe : (plan : Plan) (inputs : Inputs) (b count past : ℕ) (kind : LineKind) (frames : List (List ℕ)) (line behind : List ℕ)
    → IsLineFile plan inputs b count frames → line ++ behind ≡ concat frames
    → 16320 * (slots_of kind * (past + 1)) ≤ length line → multiframe (slots_of kind) (mfas_of line) past ≡ Some (lock_at (slots_of kind) past)
front_multiframe plan inputs b count past kind frames line behind file e enough =
    let next = next_turn (slots_of kind) past in
    let all = length_mfas line in
    has_multiframe (slots_of kind) (mfas_of line) past (two_slots kind) (omega arith) (front_goes_on plan inputs b count frames line behind file e)
