-- The frames of a line file, one by one.
use Rattle.std.proofs.Common.{◌≡◌, ◌<◌, ◌+◌, ◌*◌, ◌/◌, ◌%◌, ℕ, zero, suc, List, [], ◌∷◌, ◌++◌, length, take, drop, get_or, refl, sym, ap, ◌∙◌, subst, arith}
use Rattle.std.specs.List.{concat}
use Rattle.std.proofs.lemmas.Option.{slice_get-get_or}
use Rattle.std.proofs.Math.Seq.{take-append_seam, drop-append-add}
use Rattle.line_side.specs.LineFile.{frame_at, whole_frames}
use Rattle.line_side.specs.LineForm.{size_of}
use Rattle.line_side.specs.LineOutput.{FramePut, IsLineFrame, AreLineFrames}
use Rattle.line_side.proofs.LineFiles.{frame_of}
use Rattle.line_side.proofs.Made.{frames_size}
use Rattle.plan_file.specs.declared.plan.Plan.{Plan}
use Rattle.device_model.specs.Entries.{form_out}
use Rattle.device_model.specs.LineFiles.{IsFrameOf, IsLineFile}
use Rattle.device_model.specs.Through.{Inputs}

-- as many frames as were put
pub many_frames : (n : ℕ) (before : List (List ℕ)) (puts : List FramePut) (frames : List (List ℕ)) → AreLineFrames n before puts frames → length frames ≡ length puts
many_frames n before [] [] h = refl
many_frames n before (put ∷ puts) (frame ∷ frames) h = ap (λ k. suc k) (many_frames n (before ++ frame ∷ []) puts frames h.1)
many_frames n before (put ∷ puts) [] h = absurd h
many_frames n before [] (frame ∷ frames) h = absurd h

-- a frame of the bytes of all
pub frame_in_file : (n : ℕ) (before : List (List ℕ)) (puts : List FramePut) (frames : List (List ℕ)) (i : ℕ) → AreLineFrames n before puts frames → i < length frames
    → frame_at (concat frames) i ≡ get_or frames i []
unfolding frame_at
frame_in_file n before [] [] i h l = absurd (omega arith)
frame_in_file n before (put ∷ puts) (x ∷ frames) zero h l =
    ap (λ k. take k (x ++ concat frames)) (sym h.0.size) ∙ take-append_seam x (concat frames)
frame_in_file n before (put ∷ puts) (x ∷ frames) (suc i) h l =
    let size = h.0.size in
    ap (λ k. take 16320 (drop k (x ++ concat frames))) (let e : 16320 * suc i ≡ length x + 16320 * i = omega arith in e)
    ∙ ap (take 16320) (drop-append-add x (concat frames) (16320 * i))
    ∙ frame_in_file n (before ++ x ∷ []) puts frames i h.1 (omega arith)
frame_in_file n before (put ∷ puts) [] i h l = absurd h
frame_in_file n before [] (x ∷ frames) i h l = absurd h

-- Frame i, from 0, of the bytes of a line file has what is put into it.
pub record MadeAt (plan : Plan) (inputs : Inputs) (b i : ℕ) (available : List ℕ) : Type 0 where
  pub put : FramePut
  pub is : IsFrameOf plan inputs b (i / size_of (form_out plan b)) (i % size_of (form_out plan b)) put
  pub bip : ℕ
  pub frame : IsLineFrame b bip put (frame_at available i)

no_put : FramePut
no_put = record { mfas = 0; ports = []; bytes = [] }

pub made_at : (plan : Plan) (inputs : Inputs) (b count : ℕ) (frames : List (List ℕ)) (i : ℕ) → IsLineFile plan inputs b count frames → i < count → MadeAt plan inputs b i (concat frames)
made_at plan inputs b count frames i file l =
    let all = many_frames b [] file.puts frames file.are_frames in
    let many = file.are_put.many in
    let put = get_or file.puts i no_put in
    let frame = get_or frames i [] in
    let known = slice_get-get_or file.puts i no_put (omega arith) in
    let there = slice_get-get_or frames i [] (omega arith) in
    record {
      put = put;
      is = file.are_put.each i put known;
      bip = _;
      frame = subst (IsLineFrame b _ put) (sym (frame_in_file b [] file.puts frames i file.are_frames (omega arith))) (frame_of b file.puts frames i put frame file.are_frames known there);
    }

-- its bytes are so many whole frames
pub made_whole : (plan : Plan) (inputs : Inputs) (b count : ℕ) (frames : List (List ℕ)) → IsLineFile plan inputs b count frames → whole_frames (concat frames) ≡ count
made_whole plan inputs b count frames file =
    let all = many_frames b [] file.puts frames file.are_frames in
    let many = file.are_put.many in
    let size = frames_size b [] file.puts frames file.are_frames in
    omega arith
