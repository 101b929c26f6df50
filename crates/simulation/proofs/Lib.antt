-- Laws of simulation, and document 01's samples computed by its definition.
mod Samples
