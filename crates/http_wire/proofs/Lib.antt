pub mod TextLemmas
pub mod ElementLemmas
pub mod HeaderLemmas
pub mod HeadLemmas
pub mod HeadOutcomeLemmas
pub mod CutterLemmas
