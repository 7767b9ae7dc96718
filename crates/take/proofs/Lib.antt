pub mod Shades
