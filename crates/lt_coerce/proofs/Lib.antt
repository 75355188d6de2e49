pub mod RankLaws
pub mod FieldLaws
