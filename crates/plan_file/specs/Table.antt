-- Believed: what the table of a plan says: the value of each key, or what stands for it where the key is not there.
use Rattle.std.specs.Prelude.{ℤ, pos, List, [], map, true, false, Option, codes}
use Rattle.std.specs.Option.{option_map_or}
use Rattle.otn_base.specs.declared.line_kind.LineKind.TheVariants.{Otu2}
use Rattle.toml.specs.Data.{Data, Members, get, get_member}
use Rattle.plan_table.specs.declared.ends.Form.{Form}
use Rattle.plan_table.specs.declared.ends.Form.TheVariants as form
use Rattle.plan_table.specs.declared.ends.Side.TheVariants.{From, To}
use Rattle.plan_table.specs.Ends.{TableEnd, end_at}
use Rattle.plan_file.specs.Entry.{End, at_line, at_client, of_signal, Entry, Top, Outline, slots_between}
use Rattle.plan_table.specs.Lines.{line_kind}
pub use Rattle.plan_table.specs.Values.{number_or, truth_or, text_of, listed, list_of, numbers, signal_of, kind_of, nominal, pace_at, numbers_at, connections_at}

-- ---- the ends of a connection

-- an end at a line, where these lines are OTU3
abbrev pub line_at : List ℤ → Data → End
line_at otu3 end =
    let line = number_or (pos 0) (get (codes "line") end) in
    at_line line (number_or (pos 0) (get (codes "port") end)) (line_kind otu3 line)
    (numbers (list_of (get (codes "slots") end)))

-- an end at a client
abbrev pub client_at : Data → End
client_at end = at_client (number_or (pos 0) (get (codes "client") end))

-- an end of the form, where these lines of its side are OTU3
abbrev pub form_at : List ℤ → Form → Data → End
form_at otu3 form.Client end = client_at end
form_at otu3 form.Signal end = of_signal (signal_of (get (codes "signal") end))
form_at otu3 form.Line end = line_at otu3 end

-- no end: each connection that is accepted has both
abbrev pub no_end : End
no_end = at_line (pos 0) (pos 0) Otu2 []

-- an end of a connection, where these lines of its side are OTU3
abbrev pub end_of : List ℤ → Option TableEnd → End
end_of otu3 end = option_map_or (λ (e : TableEnd). form_at otu3 e.form e.value) end no_end

-- ---- a connection

-- a connection of a plan with this top
abbrev pub entry_at : Top → Data → Entry
entry_at top connection =
    let from = end_of top.otu3_in (end_at From connection) in
    let to = end_of top.otu3_out (end_at To connection) in
    record {
      name = text_of (get (codes "name") connection);
      kind = kind_of (get (codes "kind") connection);
      from = from;
      to = to;
      pace = pace_at (slots_between from to) (get (codes "pace") connection);
      fcs = truth_or true (get (codes "fcs") connection);
      trace = text_of (get (codes "trace") connection);
      start = number_or (pos 1) (get (codes "start") connection);
      stop = number_or top.turns (get (codes "stop") connection);
      retire = truth_or false (get (codes "retire") connection);
    }

-- ---- the whole

-- the top of a plan
abbrev pub top_at : Members → Top
top_at top = record {
  turns = number_or (pos 0) (get_member (codes "turns") top);
  otu3_in = numbers_at (codes "otu3-in") top;
  otu3_out = numbers_at (codes "otu3-out") top;
  scrambled_in = numbers_at (codes "scrambled-in") top;
  scrambled_out = numbers_at (codes "scrambled-out") top;
}

-- the outline of a plan
abbrev pub outline_at : Members → Outline
outline_at top = record { top = top_at top; entries = map (entry_at (top_at top)) (connections_at top) }
