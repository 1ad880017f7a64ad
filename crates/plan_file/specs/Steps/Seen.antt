-- Steps of `of_table`, `of_client` and others: what private contracts alone cite, beside the definitions of `Seen`.
use Rattle.std.specs.Prelude.{List, map}
use Rattle.toml.specs.View.{view}
use Rattle.plan_file.specs.declared.outline.top.Top.{Top as TopView}
use Rattle.plan_file.specs.declared.outline.whole.Outline.{Outline as OutlineView}
use Rattle.plan_file.specs.declared.outline.end.End.{End as EndView}
use Rattle.plan_file.specs.declared.outline.end.End.TheVariants as end
use Rattle.plan_file.specs.declared.outline.entry.Entry.{Entry as EntryView}
use Rattle.plan_file.specs.declared.outline.entry.Entry.TheVariants as entry
use Rattle.plan_file.specs.declared.outline.entries.Entries.{Entries}
use Rattle.plan_file.specs.declared.outline.entries.Entries.TheVariants as entries
use Rattle.plan_file.specs.Entry.{End, at_line, at_client, of_signal, Entry, Top, Outline, seen}
use Rattle.plan_file.specs.Table.{entry_at}
use Rattle.plan_table.specs.Seen.{numbers_in}

-- one end
abbrev pub end_in : EndView → End
end_in (end.Line line port kind slots) = at_line line port kind (numbers_in slots)
end_in (end.Client client) = at_client client
end_in (end.Signal signal) = of_signal signal

-- the top
abbrev pub top_in : TopView → Top
top_in top = record {
  turns = top.turns;
  otu3_in = numbers_in top.otu3_in;
  otu3_out = numbers_in top.otu3_out;
  scrambled_in = numbers_in top.scrambled_in;
  scrambled_out = numbers_in top.scrambled_out;
}

-- one connection: of a table, or of a plan
abbrev pub entry_in : EntryView → Entry
entry_in (entry.Read value top) = entry_at (top_in top) (view value.now)
entry_in (entry.Planned connection) = seen connection.now

-- all connections
abbrev pub entries_in : Entries → List Entry
entries_in (entries.Read values top) = map (λ value. entry_at (top_in top) (view value)) values.now
entries_in (entries.Planned connections) = map seen connections.now

-- the whole outline
abbrev pub outline_in : OutlineView → Outline
outline_in o = record { top = top_in o.top; entries = entries_in o.entries }
