pub mod Waysides
