pub mod OneTask
pub mod OneSimulation
