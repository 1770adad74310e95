pub mod Numbers
pub mod Sides
pub mod Words
pub mod Order
pub mod Lists
pub mod Faults
