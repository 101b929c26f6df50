-- What a flag's links are looked for by.
pub mod Named
