pub mod Receivers
pub mod Texts
pub mod Held
pub mod First
pub mod Current
