pub mod DecimalLemmas
pub mod NearestLemmas
pub mod QuantityLemmas
pub mod RefusalLemmas
pub mod LineFacts
pub mod Parsing
