pub mod Marked
pub mod Framed
pub mod Dealt
pub mod Pieced
