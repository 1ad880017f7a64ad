-- API: what is seen of the chooser that always answers 0.
use Rattle.std.specs.Prelude.{ℕ}
use Rattle.port_base.specs.declared.chooser.FirstReady.{FirstReady}

-- how often it was asked
abbrev pub first_ready_asked : FirstReady → ℕ
first_ready_asked chooser = chooser.asked
