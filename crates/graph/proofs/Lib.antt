pub mod Store
pub mod Nonzero
pub mod Arcs
pub mod Test
pub mod Mark
