pub mod FewestLaws
pub mod FirstChoice
pub mod FirstLaws
pub mod WithoutWitness
pub mod VerdictLaws
