pub mod Bits
pub mod Limbs
pub mod Digits
pub mod Planes
pub mod Equality
pub mod Refuse
