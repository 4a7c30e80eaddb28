-- the nearer of two marks, by tests
pub mod NearerLaws
