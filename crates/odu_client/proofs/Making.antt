-- A client's frames, one after another.
use Rattle.std.proofs.Common.{◌≡◌, ◌+◌, ◌-◌, ◌%◌, ℕ, List, [], ◌∷◌, ◌++◌, length, take, drop, refl, sym, ap, subst, ◌∙◌, arith, length-append}
use Rattle.std.proofs.Math.Seq.{take-add, take-length}
use Rattle.frame_overhead.specs.TwoBefore.{HasSent, parity_due, or_zero}
use Rattle.odu_client.specs.ClientFrames.{client_frame, client_frames}
use Rattle.odu_client.specs.ClientOverhead.{OverheadState, HasMadeFrames, MakesFrame}
use Rattle.odu_client.proofs.FrameLists.{frames_next}

pub none_made : (sapi : List ℕ) (kept : OverheadState) → HasSent 3824 [] kept.path → kept.mfas ≡ 0 → HasMadeFrames sapi 0 [] kept
unfolding client_frames
none_made sapi kept sent mfas = record { sent = sent; mfas = mfas; size = refl }

pub one_made : (sapi : List ℕ) (count : ℕ) (emitted payload frame : List ℕ) (old new : OverheadState) → HasMadeFrames sapi count emitted old → length payload ≡ 15232
    → ((fs : List (List ℕ)) → HasSent 3824 fs old.path → frame ≡ client_frame sapi old.mfas (or_zero (parity_due 3824 fs)) payload)
    → ((fs : List (List ℕ)) → HasSent 3824 fs old.path → HasSent 3824 (fs ++ frame ∷ []) new.path)
    → new.mfas ≡ (old.mfas + 1) % 256 → MakesFrame sapi count emitted payload frame new
one_made sapi count emitted payload frame old new made size is sent mfas =
    let before = client_frames sapi count emitted in
    let all : client_frames sapi (count + 1) (emitted ++ payload) ≡ before ++ frame ∷ [] =
    frames_next sapi count emitted payload made.size size
    ∙ ap (λ f. before ++ f ∷ []) (ap (λ m. client_frame sapi m (or_zero (parity_due 3824 before)) payload) (sym made.mfas) ∙ sym (is before made.sent)) in
    let P : List (List ℕ) → Type 0 = λ fs. HasSent 3824 fs new.path in
    record {
      frames = all;
      made = record {
        sent = subst P (sym all) (sent before made.sent);
        mfas = mfas ∙ (let e = made.mfas in omega arith);
        size = (let a = length-append emitted payload in let b = made.size in omega arith);
      };
    }

-- a payload is its four rows
pub four_rows : (payload : List ℕ) → length payload ≡ 15232
    → ((take 3808 payload ++ take 3808 (drop 3808 payload)) ++ take 3808 (drop 7616 payload)) ++ take 3808 (drop 11424 payload) ≡ payload
four_rows payload size =
    ap (λ y. (y ++ take 3808 (drop 7616 payload)) ++ take 3808 (drop 11424 payload)) (sym (take-add 3808 3808 payload))
    ∙ ap (λ y. y ++ take 3808 (drop 11424 payload)) (sym (take-add 7616 3808 payload))
    ∙ sym (take-add 11424 3808 payload)
    ∙ ap (λ n. take n payload) (sym size) ∙ take-length payload

pub rows_are : (payload p1 p2 p3 p4 : List ℕ) → length payload ≡ 15232 → p1 ≡ take 3808 payload → p2 ≡ take 3808 (drop 3808 payload) → p3 ≡ take 3808 (drop 7616 payload)
    → p4 ≡ take (length payload - 11424) (drop 11424 payload) → ((p1 ++ p2) ++ p3) ++ p4 ≡ payload
rows_are payload p1 p2 p3 p4 size e1 e2 e3 e4 =
    ap (λ y. ((y ++ p2) ++ p3) ++ p4) e1
    ∙ ap (λ y. ((take 3808 payload ++ y) ++ p3) ++ p4) e2
    ∙ ap (λ y. ((take 3808 payload ++ take 3808 (drop 3808 payload)) ++ y) ++ p4) e3
    ∙ ap (λ y. ((take 3808 payload ++ take 3808 (drop 3808 payload)) ++ take 3808 (drop 7616 payload)) ++ y)
    (e4 ∙ ap (λ n. take n (drop 11424 payload)) (let e : length payload - 11424 ≡ 3808 = omega arith in e))
    ∙ four_rows payload size
