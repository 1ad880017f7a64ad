-- API: what the code's views of a table, and of a plan, are in the outline.
pub use Rattle.plan_table.specs.Seen.{table_end_in, numbers_in, pace_in}
