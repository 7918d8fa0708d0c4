pub mod Graph
pub mod Mark
