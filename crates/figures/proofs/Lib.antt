-- The figures that are proved; `src/main.rt` runs the others.
pub mod Table
