-- API: the meaning of a chooser of either kind is that of the one that it holds.
use Rattle.std.specs.Prelude.{ℕ}
use Rattle.number_order.specs.NumberOrder.{number_chooser_asked}
use Rattle.port_base.specs.Choosing.{first_ready_asked}
use Rattle.otn.specs.declared.serving_order.ServingOrder.{ServingOrder}
use Rattle.otn.specs.declared.serving_order.ServingOrder.TheVariants as order

-- how often it was asked
abbrev pub order_asked : ServingOrder → ℕ
order_asked (order.First chooser) = first_ready_asked chooser
order_asked (order.Drawn chooser) = number_chooser_asked chooser
