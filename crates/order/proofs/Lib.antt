pub mod TakenLaws
pub mod SetRows
pub mod SpreadLaws
pub mod RoleLaws
pub mod RowLaws
pub mod TreeLaws
