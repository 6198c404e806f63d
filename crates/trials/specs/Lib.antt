pub mod Drawing
pub mod Truth
