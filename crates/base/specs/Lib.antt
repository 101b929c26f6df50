-- What the contracts of every crate share: words, bytes in slices, and tests over the numbers below a bound.
pub mod Below
pub mod Bytes
pub mod Words
