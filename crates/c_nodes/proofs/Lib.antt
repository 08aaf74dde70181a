pub mod DeclaratorNodes
pub mod ExprNodes
pub mod PieceNodes
pub mod SpecifierNodes
