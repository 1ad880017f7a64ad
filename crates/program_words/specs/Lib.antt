pub mod Files
pub mod Given
pub mod Opened
pub mod Pages
pub mod PlanFile
pub mod Ports
