pub mod GivenRuns
pub mod RunsAlike
pub mod FaultlessRuns
pub mod RunsThrough
pub mod SeenRuns
pub mod RunsDamaged
