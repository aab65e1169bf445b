pub mod LegalRows
