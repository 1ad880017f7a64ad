-- API: client places that are emptied, one connection after the other.
use Rattle.std.specs.Prelude.{◌≡◌, ◌+◌, ◌==◌, ◌&&◌, ℕ, Bool, List}
use Rattle.std.specs.List.{list_any}
use Rattle.otn_base.specs.declared.kind.PortName.{PortName}
use Rattle.otn_base.specs.declared.kind.PortName.TheVariants as port
use Rattle.port_base.specs.Views.{BaysView, client_in_at, client_out_at}
use Rattle.device_model.specs.RetiredPlaces.{after_retire, out_after_retire}
use Rattle.node_links.specs.Links.{joins}
use Rattle.node_links.specs.declared.link.Link.{Link}

-- a connection stops in turn past + 1, and retires
abbrev pub ends_here : (past : ℕ) → Link → Bool
ends_here past link = link.entry.retire && (link.entry.stop == past + 1)

-- some connection that does joins the port
abbrev pub retires_at : (past : ℕ) → PortName → List Link → Bool
retires_at past name links = list_any (λ link. ends_here past link && joins name link) links

-- the places of these clients were emptied, where they were live, and all others are as they were
pub record RetiredBy (past : ℕ) (links : List Link) (was is : BaysView) : Type 0 where
  pub line_in : is.line_in ≡ was.line_in
  pub line_out : is.line_out ≡ was.line_out
  pub client_in : (n : ℕ)
      → client_in_at is n ≡ after_retire (retires_at past (port.ClientIn n) links) (client_in_at was n)
  pub client_out : (n : ℕ)
      → client_out_at is n ≡ out_after_retire (retires_at past (port.ClientOut n) links) (client_out_at was n)
