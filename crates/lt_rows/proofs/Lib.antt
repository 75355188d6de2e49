-- Entries by rising key, and what is set in them.
pub mod Entries
pub mod SetLaws
-- The fold of the changes, and the snapshot.
pub mod Views
pub mod MapViews
pub mod PresentLaws
pub mod SnapshotRows
pub mod WholeAnswers
