pub mod RunReports
