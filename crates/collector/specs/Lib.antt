-- What the contracts of product and conjugation say.
pub mod Products
