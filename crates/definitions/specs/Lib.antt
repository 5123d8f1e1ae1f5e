-- What the words of the specification mean, a file for each of its headings, in the order in which they are read.
pub mod Lists
pub mod Text
pub mod Presentation
pub mod Consistency
pub mod Monomial
pub mod Table
pub mod Steps
pub mod Judgement
pub mod Answers
pub mod Programs
