-- The MFAS bytes of the whole frames.
use Rattle.std.proofs.Common.{◌≡◌, ◌<◌, ◌≤◌, ℕ, zero, suc, List, [], ◌∷◌, ◌++◌, length, arith, refl, sym, ap, ◌∙◌, length-append, ◌⊎◌, inl, inr}
use Rattle.std.specs.Prelude.{slice_index}
use Rattle.std.proofs.lemmas.Bool.{cases_lt}
use Rattle.std.proofs.Math.ListN.{get_or-append}
use Rattle.std.proofs.Math.Seq.{get_or-append_seam}
use Rattle.line_side.specs.LineFile.{frame_at, frame_mfas, first_mfas, mfas_of, whole_frames}

pub length_first : (bytes : List ℕ) (n : ℕ) → length (first_mfas bytes n) ≡ n
unfolding first_mfas
length_first bytes zero = refl
length_first bytes (suc n) = let e = length_first bytes n in let f = length-append (first_mfas bytes n) (frame_mfas (frame_at bytes n) ∷ []) in omega arith

pub length_mfas : (bytes : List ℕ) → length (mfas_of bytes) ≡ whole_frames bytes
length_mfas bytes = length_first bytes (whole_frames bytes)

pub index_first : (bytes : List ℕ) (n f : ℕ) → f < n → slice_index (first_mfas bytes n) f ≡ frame_mfas (frame_at bytes f)
unfolding first_mfas
index_first bytes zero f h = absurd (omega arith)
index_first bytes (suc n) f h = go (cases_lt f n) (index_first bytes n f)
  where
    go : (f < n) ⊎ (n ≤ f) → (f < n → slice_index (first_mfas bytes n) f ≡ frame_mfas (frame_at bytes f)) → slice_index (first_mfas bytes n ++ frame_mfas (frame_at bytes n) ∷ []) f ≡ frame_mfas (frame_at bytes f)
    go (inr k) before =
        let e : f ≡ n = omega arith in
        ap (slice_index (first_mfas bytes n ++ frame_mfas (frame_at bytes n) ∷ [])) (e ∙ sym (length_first bytes n))
        ∙ get_or-append_seam (first_mfas bytes n) (frame_mfas (frame_at bytes n)) [] 0
        ∙ ap (λ m. frame_mfas (frame_at bytes m)) (sym e)
    go (inl l) before = let len : f < length (first_mfas bytes n) = (let e = length_first bytes n in omega arith) in get_or-append (first_mfas bytes n) (frame_mfas (frame_at bytes n) ∷ []) 0 f len ∙ before l

pub index_mfas : (bytes : List ℕ) (f : ℕ) → f < whole_frames bytes → slice_index (mfas_of bytes) f ≡ frame_mfas (frame_at bytes f)
index_mfas bytes f h = index_first bytes (whole_frames bytes) f h
