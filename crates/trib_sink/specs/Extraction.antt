-- API: what a sink extracted and did not emit, and what it emitted last.
use Rattle.std.specs.Prelude.{◌≡◌, ℕ, ◌+◌, ◌*◌, ◌≤◌, List}
use Rattle.otn_base.specs.declared.limits.TheConstants.{GROUPS, MOST_SLOTS}

-- for so many slots: the number by which a turn's groups are data, how many groups of the turn were asked, the bytes
-- that earlier turns left, those that this turn extracted, and, until its first frame is taken, those that the last
-- turn emitted
pub record Extraction : Type 0 where
  pub slots : ℕ
  pub cm : ℕ
  pub asked : ℕ
  pub pending : List ℕ
  pub fresh : List ℕ
  pub emitted : List ℕ

-- The pending bytes stand in one buffer between two places, those of this turn at the front of another one, up to an
-- end; there too those that the last turn emitted, between two places. Each buffer has room for a multiframe of them,
-- and a group more.
pub record HasRoom (slots cm asked first last kept end from past fresh : ℕ) : Type 0 where
  pub few : slots ≤ MOST_SLOTS
  pub cm_high : cm ≤ GROUPS
  pub asked_high : asked ≤ GROUPS
  pub in_order : first ≤ last
  pub last_high : last ≤ slots * GROUPS
  pub kept_is : kept ≡ slots * (GROUPS + 1)
  pub end_high : end ≤ slots * asked
  pub emitted_in_order : from ≤ past
  pub past_high : past ≤ slots * (GROUPS + 1)
  pub fresh_is : fresh ≡ slots * (GROUPS + 1)
