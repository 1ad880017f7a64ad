-- Believed: where the justification bytes of an ODTU stand.
use Rattle.std.specs.Prelude.{ℕ, List, [], ◌∷◌, ◌++◌, map, slice_index}
use Rattle.frame_geometry.specs.Places.{place_of}
use Rattle.otn_base.specs.declared.limits.TheConstants.{LINE_COLUMNS}

-- G.709 clause 19.4: rows 1 to 3 have JC1, JC2 and JC3 in column 16, and JC4, JC5 and JC6 in column 15.
abbrev pub message_of : List ℕ → List ℕ
message_of frame =
    map (λ row. slice_index frame (place_of LINE_COLUMNS row 16)) (1 ∷ 2 ∷ 3 ∷ [])
    ++ map (λ row. slice_index frame (place_of LINE_COLUMNS row 15)) (1 ∷ 2 ∷ 3 ∷ [])
