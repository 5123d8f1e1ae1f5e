-- A level as closed formulas of the level below.
pub mod Formulas
