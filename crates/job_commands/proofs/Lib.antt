pub mod CaseLemmas
pub mod OptionLemmas
pub mod CommandLemmas
pub mod LineLemmas
pub mod HelpLemmas
pub mod Told
