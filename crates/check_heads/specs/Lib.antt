-- A walk over the heads of a table's lines, place by place.
pub mod Places
