pub mod Instants
pub mod Metas
