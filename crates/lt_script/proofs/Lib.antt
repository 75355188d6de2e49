pub mod JobLaws
pub mod LineLaws
pub mod LiteralLaws
pub mod QueryLaws
pub mod ReadLaws
pub mod WordLaws
