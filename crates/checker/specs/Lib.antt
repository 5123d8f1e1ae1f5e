-- What judging a table asks and answers.
pub mod Judged
