-- API: the ends of fibres at the places of a node.
use Rattle.std.specs.Prelude.{◌≡◌, ◌≢◌, ◌<◌, ◌==◌, ◌&&◌, ℕ, Bool, List, []}
use Rattle.std.specs.List.{Contains}
use Rattle.port_base.specs.Views.{BaysView, line_in_at, line_out_at}
use Rattle.live_laws.specs.Live.{holding, telling}
use Rattle.network_laws.specs.Networks.{FibreEnds}

-- the fibre leads to this line input of the node with this index, or begins at this line output of it
abbrev pub ends_at : (node c : ℕ) → FibreEnds → Bool
ends_at node c f = (f.there == node) && (f.into == c)

abbrev pub begins_at : (node b : ℕ) → FibreEnds → Bool
begins_at node b f = (f.here == node) && (f.out == b)

-- ---- far ends

-- Where a fibre leads to line input c of the node, its place holds what is handed over, which is nothing yet. Where
-- none does, it is as it was, and so are all other places.
pub record FarEnd (fibres : List FibreEnds) (node c : ℕ) (old new : BaysView) : Type 0 where
  pub led : (f : FibreEnds) → Contains fibres f → f.there ≡ node → f.into ≡ c → line_in_at new c ≡ holding []
  pub edge : ((f : FibreEnds) → Contains fibres f → f.there ≡ node → f.into ≢ c) → line_in_at new c ≡ line_in_at old c
  pub others : (d : ℕ) → d ≢ c → line_in_at new d ≡ line_in_at old d
  pub line_out : new.line_out ≡ old.line_out
  pub client_in : new.client_in ≡ old.client_in
  pub client_out : new.client_out ≡ old.client_out

-- the same of the first n line inputs
pub record FarEnds (fibres : List FibreEnds) (node n : ℕ) (old new : BaysView) : Type 0 where
  pub led : (f : FibreEnds) → Contains fibres f → f.there ≡ node → f.into < n → line_in_at new f.into ≡ holding []
  pub edges : (c : ℕ) → ((f : FibreEnds) → Contains fibres f → f.there ≡ node → f.into ≢ c)
      → line_in_at new c ≡ line_in_at old c
  pub line_out : new.line_out ≡ old.line_out
  pub client_in : new.client_in ≡ old.client_in
  pub client_out : new.client_out ≡ old.client_out

-- ---- near ends

-- Where a fibre begins at line output b of the node, its place tells what it gets, which is nothing yet. Where none
-- does, it is as it was, and so are all other places.
pub record NearEnd (fibres : List FibreEnds) (node b : ℕ) (old new : BaysView) : Type 0 where
  pub begun : (f : FibreEnds) → Contains fibres f → f.here ≡ node → f.out ≡ b → line_out_at new b ≡ telling
  pub edge : ((f : FibreEnds) → Contains fibres f → f.here ≡ node → f.out ≢ b) → line_out_at new b ≡ line_out_at old b
  pub others : (d : ℕ) → d ≢ b → line_out_at new d ≡ line_out_at old d
  pub line_in : new.line_in ≡ old.line_in
  pub client_in : new.client_in ≡ old.client_in
  pub client_out : new.client_out ≡ old.client_out

-- the same of the first n line outputs
pub record NearEnds (fibres : List FibreEnds) (node n : ℕ) (old new : BaysView) : Type 0 where
  pub begun : (f : FibreEnds) → Contains fibres f → f.here ≡ node → f.out < n → line_out_at new f.out ≡ telling
  pub edges : (b : ℕ) → ((f : FibreEnds) → Contains fibres f → f.here ≡ node → f.out ≢ b)
      → line_out_at new b ≡ line_out_at old b
  pub line_in : new.line_in ≡ old.line_in
  pub client_in : new.client_in ≡ old.client_in
  pub client_out : new.client_out ≡ old.client_out
