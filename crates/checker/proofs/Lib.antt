-- From the answers of the phases to the judgement.
pub mod Phases
