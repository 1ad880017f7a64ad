-- Steps of `advance`, `advance_over` and others: what private contracts alone cite, beside the definitions of `Reader`.
use Rattle.std.specs.Prelude.{◌≡◌, ℕ, ◌/◌, ◌%◌, ◌^◌, ◌<◌, nat_lt, Bool, if◌then◌else◌, List, [], ◌∷◌, ◌++◌, Option, length, take, drop, option_to_list}
use Rattle.gfp_scrambler.specs.Register.{last_bits, descrambled}
use Rattle.gfp_frames.specs.Delivered.{packets_in}
use Rattle.gfp_frames.specs.declared.phase.Phase.{Phase}
use Rattle.gfp_frames.specs.declared.phase.Phase.TheVariants.{Hunt, PresyncArea, Presync, SyncArea, Sync}
use Rattle.gfp_frames.specs.Reader.{ReaderState, to_come, news}

-- a reader after its start
abbrev pub hunts : ReaderState
hunts = record { phase = Hunt; wanted = 4; held = []; register = 0; area = [] }

-- one byte more, and no more news
abbrev pub kept : ReaderState → ℕ → ReaderState
kept reader byte = record reader { held = reader.held ++ byte ∷ []; area = [] }

-- some bytes more, and no more news
abbrev pub kept_some : ReaderState → List ℕ → ReaderState
kept_some reader bytes = record reader { held = reader.held ++ bytes; area = [] }

-- no header here: the hunt goes on one byte further
abbrev pub slid : ReaderState → ℕ → ReaderState
slid reader byte = record {
  phase = Hunt;
  wanted = 4;
  held = drop 1 (reader.held ++ byte ∷ []);
  register = reader.register;
  area = [];
}

-- a number of 24 bits as bytes, the most significant first
abbrev pub three_bytes : ℕ → List ℕ
three_bytes n = n / 2 ^ 16 ∷ n / 2 ^ 8 % 2 ^ 8 ∷ n % 2 ^ 8 ∷ []

-- a hunt in which these three bytes came last
abbrev pub hunts_after : (three register : ℕ) → ReaderState
hunts_after three register = record {
  phase = Hunt;
  wanted = 4;
  held = three_bytes three;
  register = register;
  area = [];
}

-- a header was found: its area comes, or where it has none the next header
abbrev pub after_header : ReaderState → (pli : ℕ) → (next area : Phase) → ReaderState
after_header reader pli next area = record {
  phase = if nat_lt pli 4 then next else area;
  wanted = if nat_lt pli 4 then 4 else pli;
  held = [];
  register = reader.register;
  area = [];
}

-- a hunt found the header of a PRESYNC frame
abbrev pub presync_after : ReaderState → (pli : ℕ) → ReaderState
presync_after reader pli = after_header reader pli Presync PresyncArea

-- the header of a frame in sync was found
abbrev pub sync_after : ReaderState → (pli : ℕ) → ReaderState
sync_after reader pli = after_header reader pli Sync SyncArea

-- a whole area came
abbrev pub area_after : ReaderState → ℕ → ReaderState
area_after reader byte = record {
  phase = Sync;
  wanted = 4;
  held = [];
  register = last_bits reader.register (reader.held ++ byte ∷ []);
  area = descrambled reader.register (reader.held ++ byte ∷ []);
}

-- an area of which nothing is held came at once
abbrev pub whole_area_after : ReaderState → List ℕ → ReaderState
whole_area_after reader bytes = record {
  phase = Sync;
  wanted = 4;
  held = [];
  register = last_bits reader.register bytes;
  area = descrambled reader.register bytes;
}

-- what was to come with this byte came, or is to come still; and nothing comes of itself
pub record Goes (old : ReaderState) (byte : ℕ) (found : Bool) (new : ReaderState) : Type 0 where
  pub each : (more : List ℕ) → to_come old (byte ∷ more) ≡ news found new ++ to_come new more
  pub none : to_come new [] ≡ []

-- the same of several bytes, of which no one before the last gives an area
pub record GoesOver (old : ReaderState) (bytes : List ℕ) (found : Bool) (new : ReaderState) : Type 0 where
  pub each : (more : List ℕ) → to_come old (bytes ++ more) ≡ news found new ++ to_come new more
  pub none : to_come new [] ≡ []
  pub before : (k : ℕ) → k < length bytes → to_come old (take k bytes) ≡ []

-- the same of several bytes, by the packet in the areas that they give, if any
pub record GoesTo (old : ReaderState) (bytes : List ℕ) (packet : Option (List ℕ)) (new : ReaderState) : Type 0 where
  pub areas : List (List ℕ)
  pub each : (more : List ℕ) → to_come old (bytes ++ more) ≡ areas ++ to_come new more
  pub none : to_come old [] ≡ [] → to_come new [] ≡ []
  pub packets : packets_in areas ≡ option_to_list packet

-- no packet comes before the last of the first n bytes
abbrev pub NoneBefore : ReaderState → List ℕ → ℕ → Type 0
NoneBefore old bytes n = (k : ℕ) → k < n → packets_in (to_come old (take k bytes)) ≡ []
