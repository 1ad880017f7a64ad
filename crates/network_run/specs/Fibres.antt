-- API: the near ends of fibres, and how a fibre is filled.
use Rattle.std.specs.Prelude.{◌≡◌, ◌⊎◌, ℕ, false, List, ◌++◌, drop, set, length, Some, slice_get}
use Rattle.port_base.specs.Views.{OutView, line_in_at, line_out_at}
use Rattle.port_base.specs.declared.sink.Sink as sink
use Rattle.port_base.specs.declared.source.Source as source
use Rattle.live_laws.specs.HandedIn.{LineGrew}
use Rattle.network_run.specs.FibreSinks.{fibre_got}
use Rattle.network_run.specs.Sites.{EachOne, SiteStill, site_view}
use Rattle.network_run.specs.declared.fibres.Filling.{Filling}
use Rattle.network_run.specs.declared.fibres.Span.{Span}
use Rattle.network_run.specs.declared.site.Site.{Site}

-- ---- what waits for a fibre

-- Of what a near end got these bytes came after the first so many, which were handed over before; so many came in all.
pub record WaitsIn (got : List ℕ) (mark : ℕ) (bytes : List ℕ) (total : ℕ) : Type 0 where
  pub bytes_are : bytes ≡ drop mark got
  pub count : total ≡ length got

-- the same of a place that tells what it got
pub record WaitsAt (place : OutView) (mark : ℕ) (bytes : List ℕ) (total : ℕ) : Type 0 where
  pub got : List ℕ
  pub told : place.got ≡ Some got
  pub waits : WaitsIn got mark bytes total

-- and of the line output at which the fibre begins
pub record WaitsFor {P K : Type 0} (p : source.Ghosts P) (k : sink.Ghosts K) (sites : List (Site P K)) (span : Span)
    (mark : ℕ) (bytes : List ℕ) (total : ℕ) : Type 0 where
  pub site : Site P K
  pub at : slice_get sites span.here ≡ Some site
  pub waits : WaitsAt (line_out_at (site_view p k site) span.out) mark bytes total

-- ---- how it is handed over

-- line input `into` of a node, which has not answered its end, has these bytes behind all others of it
pub record TookMore {P K : Type 0} (p : source.Ghosts P) (k : sink.Ghosts K) (into : ℕ) (bytes : List ℕ)
    (old new : Site P K) : Type 0 where
  pub node : new.node ≡ old.node
  pub grew : LineGrew into bytes (site_view p k old) (site_view p k new)
  pub going : (line_in_at (site_view p k old) into).ended ≡ false

-- the same of node `there`; nothing has changed of all others
pub record HandedTo {P K : Type 0} (p : source.Ghosts P) (k : sink.Ghosts K) (there into : ℕ) (bytes : List ℕ)
    (olds news : List (Site P K)) : Type 0 where
  pub old : Site P K
  pub new : Site P K
  pub at : slice_get olds there ≡ Some old
  pub is : news ≡ set olds there new
  pub took : TookMore p k into bytes old new

-- All bytes that waited for a fibre were handed over, and its mark stands behind them.
pub record FilledUp {P K : Type 0} (p : source.Ghosts P) (k : sink.Ghosts K) (was is : Filling)
    (olds news : List (Site P K)) : Type 0 where
  pub span : is.span ≡ was.span
  pub whole : is.whole ≡ was.whole
  pub bytes : List ℕ
  pub waits : WaitsFor p k olds was.span was.mark bytes is.mark
  pub handed : HandedTo p k was.span.there was.span.into bytes olds news

-- nothing was handed over, and the fibre is not whole
pub record LeftUnfilled {P K : Type 0} (p : source.Ghosts P) (k : sink.Ghosts K) (was is : Filling)
    (olds news : List (Site P K)) : Type 0 where
  pub span : is.span ≡ was.span
  pub mark : is.mark ≡ was.mark
  pub whole : is.whole ≡ false
  pub still : EachOne (SiteStill p k) olds news

abbrev pub IsFilled : {P K : Type 0} → source.Ghosts P → sink.Ghosts K → Filling → Filling → List (Site P K)
    → List (Site P K) → Type 0
IsFilled p k was is olds news = FilledUp p k was is olds news ⊎ LeftUnfilled p k was is olds news
