-- Lists, seen through a function.
pub use Rattle.plan_table.proofs.Lists.{slice_get_known}
