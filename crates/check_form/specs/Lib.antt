-- What a well-formed table is, as code asks it.
pub mod Form
