-- Believed: isolation along a way: where two networks have a way by the same entries, and its first node is given the
-- same, the same leaves at its end, whatever all else in both networks is.
use Rattle.std.specs.Prelude.{◌≡◌, ◌≤◌, ◌+◌, ◌-◌, min, ℕ, List}
use Rattle.plan_file.specs.declared.connection.Connection.{Connection}
use Rattle.plan_file.specs.declared.connection.ToEnd.TheVariants as to_end
use Rattle.device_model.specs.Entries.{first_turn}
use Rattle.run_laws.specs.SeenRuns.{Run, AgreeOnInput, AgreeOnInputUpTo, ClientGot, SameOutputUpTo, SameOutput, SameText}
use Rattle.network_laws.specs.Ways.{Hop, IsWay, IsWholeWay, BringsTurns, last_hop, entries}

-- how many of its own turns a connection has among the first turns, so many
abbrev pub own_turns : (turns : ℕ) → Connection → ℕ
own_turns turns x = min turns x.stop - first_turn x

-- ---- whole ways

-- The runs of the first node agree on what its entry comes from: of a client, its packets and how they end; of a line
-- that no node of the network writes, how many whole frames it has, their MFAS bytes and own places. Of the lines
-- between the nodes nothing is asked, not even their MFAS bytes. Then what left on the last entry is the same in both.
abbrev pub WaysAreIsolated : Type 0
WaysAreIsolated = (hop other : Hop) (hops others : List Hop) (way : IsWay hop hops) (second : IsWay other others)
    → entries hop hops ≡ entries other others
    → IsWholeWay hop hops way → IsWholeWay other others second → AgreeOnInput hop.x.from hop.run other.run
    → SameOutput (last_hop hop hops).run (last_hop other others).run (last_hop hop hops).x

-- ---- up to a turn

-- What left on a connection of two runs is the same by the first turns, so many: its own places on its line in the
-- frames of these turns and of one more; and the text of its client, where its last turn is one of these or the next.
pub record SameUpTo (turns : ℕ) (one other : Run) (x : Connection) : Type 0 where
  pub client : (n : ℕ) (written others : List ℕ) → x.to ≡ to_end.Client n → ClientGot one n written
      → ClientGot other n others → x.stop ≤ turns + 1
      → SameText one other n written others
  pub line : SameOutputUpTo (own_turns turns x) one other x

-- So it is where the fibres of the way brought these turns in both, and the runs of the first node agree so far on what
-- its entry comes from: whatever came later, and however the fibres were cut behind these turns.
abbrev pub WaysAreIsolatedUpTo : Type 0
WaysAreIsolatedUpTo = (turns : ℕ) (hop other : Hop) (hops others : List Hop) (way : IsWay hop hops)
    (second : IsWay other others) → entries hop hops ≡ entries other others
    → BringsTurns turns hop hops way → BringsTurns turns other others second
    → AgreeOnInputUpTo hop.x.from hop.x (own_turns turns hop.x) hop.run other.run
    → SameUpTo turns (last_hop hop hops).run (last_hop other others).run (last_hop hop hops).x
