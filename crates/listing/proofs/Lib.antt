-- Laws of the records that reading wrote, and listings of texts computed by the definitions.
mod Records
mod Samples
