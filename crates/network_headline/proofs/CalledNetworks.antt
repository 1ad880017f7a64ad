-- Networks of calls of `run` are runs of networks.
use Rattle.std.proofs.Common.{refl}
use Rattle.run_command.proofs.SeenCalls.{left_by}
use Rattle.network_headline.specs.CalledNetworks.{CallsAreARun}

pub calls_are_a_run : CallsAreARun
calls_are_a_run network called = (
  record {
    run = called.run;
    carries = λ i plan known. (let c = called.calls i plan known in (c.0, left_by (called.run i) c.1));
  },
  refl,
)
