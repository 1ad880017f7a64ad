-- API: the ports of a device by number: lines in, lines out, clients in, clients out.
use Rattle.std.specs.Prelude.{ℕ, ◌+◌, ◌*◌, ◌-◌, if◌then◌else◌, nat_lt}
use Rattle.otn_base.specs.declared.kind.PortName.{PortName}
use Rattle.otn_base.specs.declared.kind.PortName.TheVariants.{LineIn, LineOut, ClientIn, ClientOut}
use Rattle.otn_base.specs.declared.limits.TheConstants.{LINES, CLIENTS}

-- how many there are
abbrev pub port_count : ℕ
port_count = 2 * (LINES + CLIENTS)

-- the numbers of the first line out, the first client in and the first client out
abbrev pub first_line_out : ℕ
first_line_out = LINES

abbrev pub first_client_in : ℕ
first_client_in = 2 * LINES

abbrev pub first_client_out : ℕ
first_client_out = 2 * LINES + CLIENTS

-- the number of a port, from 0, in this order; the number of all ports for a name of no port
abbrev pub index_of : PortName → ℕ
index_of (LineIn n) = if nat_lt n LINES then n else port_count
index_of (LineOut n) = if nat_lt n LINES then first_line_out + n else port_count
index_of (ClientIn n) = if nat_lt n CLIENTS then first_client_in + n else port_count
index_of (ClientOut n) = if nat_lt n CLIENTS then first_client_out + n else port_count

-- the port of a number
abbrev pub port_at : ℕ → PortName
port_at i =
    if nat_lt i first_line_out
    then LineIn i
    else (if nat_lt i first_client_in then LineOut (i - first_line_out)
    else (if nat_lt i first_client_out then ClientIn (i - first_client_in) else ClientOut (i - first_client_out)))
