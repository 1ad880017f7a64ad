-- Believed: what a sink emits in each turn, by totals over its stretch. A stretch lists its turns with the last first;
-- turn a is its first. C and D are the pair of a turn, Cm and CnD, and M (m) is how many slots the tributary has. A
-- total counts bytes from the start of a stretch. Read from the end: emission, emits, emits_in and emits_at_end.
use Rattle.std.specs.Prelude.{ℕ, suc, ◌+◌, ◌*◌, max, min, List, [], ◌∷◌, ◌++◌, if◌then◌else◌, Option, length, map, ◌-◌}
use Rattle.std.specs.List.{flat_map, enumerate_from, range_with_len, slice_range}
use Rattle.otn_base.specs.declared.limits.TheConstants.{NOMINAL}
use Rattle.gmp_rule.specs.DataRule.{is_data_at}
use Rattle.tributary_model.specs.Places.{Tributary, View}
use Rattle.tributary_model.specs.Stretches.{Member, Part, WaitingTurn, DownTurn, StretchTurn, EndingTurn, any_marked, next_part, course}

-- the bytes of the data groups, at the number c (G.709 Annex D)
unfoldable pub data_bytes : (c : ℕ) → List (List ℕ) → List ℕ
data_bytes c groups = flat_map (λ p. if is_data_at c (p.0) then p.1 else []) (enumerate_from 1 groups)

-- Ext: the bytes of the data groups of each turn after the first, by the number of the turn before it, in order
unfoldable pub extracted : List Member → List ℕ
extracted (turn ∷ before ∷ earlier) = extracted (before ∷ earlier) ++ data_bytes before.cm turn.groups
extracted other = []

-- C(a) + .. + C(t)
abbrev pub cm_sum : List Member → ℕ
cm_sum [] = 0
cm_sum (turn ∷ earlier) = cm_sum earlier + turn.cm

-- X(t) = M * (C(a) + .. + C(t - 1)): how many bytes are extracted up to the end of the last turn, t
abbrev pub extracted_total : (m : ℕ) → List Member → ℕ
extracted_total m [] = 0
extracted_total m (turn ∷ earlier) = m * cm_sum earlier

-- Due(t) = M * (C(a) + .. + C(t - 2)) + D(t - 2) from t = a + 2 on, else 0: how many bytes the messages make due
abbrev pub due_total : (m : ℕ) → List Member → ℕ
due_total m (turn ∷ before ∷ two_before ∷ earlier) = m * cm_sum (two_before ∷ earlier) + two_before.cnd
due_total m other = 0

-- E(t) = max (E(t - 1), min (X(t), Due(t))), and 0 at the first turn: how many bytes are emitted up to the end of the
-- last turn
unfoldable pub emitted_total : (m : ℕ) → List Member → ℕ
emitted_total m (turn ∷ before ∷ earlier) = max (emitted_total m (before ∷ earlier))
    (min (extracted_total m (turn ∷ before ∷ earlier)) (due_total m (turn ∷ before ∷ earlier)))
emitted_total m other = 0

-- a turn of a stretch emits Ext from E(t - 1) to E(t), its first one nothing, its ending one from E(t - 1) to X(t - 1)
abbrev pub emits_in : (m : ℕ) → List Member → List ℕ
emits_in m [] = []
emits_in m (turn ∷ earlier) = slice_range (extracted (turn ∷ earlier)) (emitted_total m earlier)
    (emitted_total m (turn ∷ earlier))

abbrev pub emits_at_end : (m : ℕ) → List Member → List ℕ
emits_at_end m stretch = slice_range (extracted stretch) (emitted_total m stretch) (extracted_total m stretch)

-- how many Down turns without a break these turns end with
abbrev pub down_run : List Part → ℕ
down_run (DownTurn ∷ parts) = suc (down_run parts)
down_run other = 0

-- n bytes of a stream from a place on
unfoldable pub stream_bytes : (ℕ → ℕ) → (place n : ℕ) → List ℕ
stream_bytes stream place n = map stream (range_with_len place n)

-- what a turn emits after these, where a Down turn emits the next bytes of a stream: the d-th of a run of them those
-- from (d - 1) * M * NOMINAL on, M * NOMINAL in number
abbrev pub emits : (m : ℕ) → (ais : ℕ → ℕ) → List Part → Part → List ℕ
emits m ais parts WaitingTurn = []
emits m ais parts DownTurn = stream_bytes ais (down_run parts * (m * NOMINAL)) (m * NOMINAL)
emits m ais parts (StretchTurn stretch) = emits_in m stretch
emits m ais parts (EndingTurn stretch) = emits_at_end m stretch

-- The emission of the turn with this view after these, where AIS is this stream.
abbrev pub emission : Tributary → (ais : ℕ → ℕ) → List (Option View) → Option View → List ℕ
emission own ais past view = let parts = course own past in
    emits (length own.slots) ais parts (next_part own (any_marked own (view ∷ past)) view parts)

-- how many bytes a turn emits, by the totals alone
abbrev pub amount_of : (m : ℕ) → Part → ℕ
amount_of m WaitingTurn = 0
amount_of m DownTurn = m * NOMINAL
amount_of m (StretchTurn []) = 0
amount_of m (StretchTurn (turn ∷ earlier)) = emitted_total m (turn ∷ earlier) - emitted_total m earlier
amount_of m (EndingTurn stretch) = extracted_total m stretch - emitted_total m stretch

-- how many bytes these turns emit in all
unfoldable pub emitted_so_far : Tributary → (ais : ℕ → ℕ) → List (Option View) → ℕ
emitted_so_far own ais [] = 0
emitted_so_far own ais (view ∷ past) = emitted_so_far own ais past + length (emission own ais past view)
