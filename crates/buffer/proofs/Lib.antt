-- What reading the lent buffer rests on.
pub mod BytesLaws
pub mod WordLaws
pub mod PieceReads
pub mod ReadyLaws
pub mod LookLaws
pub mod SetLaws
pub mod OriginLaws
pub mod JoinLaws
pub mod HoldsLaws
